-- The lines of a refutation: the clauses of the question, and behind them the clause of each step. Assumes nothing.
use Rattle.std.specs.Prelude.{ℕ, ◌-◌, cond, List, nat_lt}
use Rattle.question.specs.Questions.{clause_count, clause_of}

-- the clause of line k, where step i made the clause `derived i`
abbrev pub line_of : List ℕ → (ℕ → List ℕ) → ℕ → List ℕ
line_of q derived k = cond (nat_lt k (clause_count q)) (clause_of q k) (derived (k - clause_count q))
