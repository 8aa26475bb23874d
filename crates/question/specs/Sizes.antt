-- How many clauses a question has, and how many literals in all, in closed form. Assumes nothing.
use Rattle.std.specs.Prelude.{ℕ, ◌+◌, ◌*◌}
use Rattle.sheet.specs.Sheets.{Sheet}

-- one frame, n formula gates, and two literals that have to be true
abbrev pub state_clause_count : Sheet → ℕ → ℕ
state_clause_count s n = 3 + 3 * (s.gates + n)

abbrev pub state_literal_count : Sheet → ℕ → ℕ
state_literal_count s n = 3 + 7 * (s.gates + n)

-- the first part of a path question with n formula gates
abbrev pub first_clause_count : Sheet → ℕ → ℕ
first_clause_count s n = 2 + 3 * (s.gates + n) + 2 * s.latches

abbrev pub first_literal_count : Sheet → ℕ → ℕ
first_literal_count s n = 2 + 7 * (s.gates + n) + 4 * s.latches

-- its second part, at the bound k
abbrev pub second_clause_count : Sheet → ℕ → ℕ
second_clause_count s k = (k + 1) * (1 + 3 * s.gates) + k * (2 * s.latches) + 1

abbrev pub second_literal_count : Sheet → ℕ → ℕ
second_literal_count s k = (k + 1) * (1 + 7 * s.gates) + k * (4 * s.latches) + (k + 1)
