-- The lists that a check writes, and what it does to them as a whole. Assumes nothing.
use Rattle.std.specs.Prelude.{ℕ, ◌+◌, ◌-◌, ◌*◌, List, ◌++◌, length, take, replicate, slice_index}
use Rattle.lists.specs.Counted.{counted, uncounted}
use Rattle.interpolant.specs.Drawing.{cleared}

-- the formula list, the line value list and the question list
pub record Lists : Type 0 where
  pub formula : List ℕ
  pub values : List ℕ
  pub question : List ℕ

abbrev pub lists : List ℕ → List ℕ → List ℕ → Lists
lists f vs q = record { formula = f; values = vs; question = q }

-- all three hold 0
abbrev pub wiped : Lists → Lists
wiped x = lists (cleared x.formula) (cleared x.values) (cleared x.question)

-- a formula list that keeps its first n gates, with zeros behind them
abbrev pub gates_kept : ℕ → List ℕ → List ℕ
gates_kept n f = take (2 * n) f ++ replicate (length f - 2 * n) 0

abbrev pub restored : ℕ → List ℕ → List ℕ
restored n f = gates_kept n (counted f) ++ uncounted f

-- the used part of a question list: its first n places
abbrev pub used_part : ℕ → List ℕ → List ℕ
used_part n q = take n (counted q)

-- what a refutation says that it is: the number of steps, and three numbers for each
abbrev pub said_part : List ℕ → List ℕ
said_part t = take (1 + 3 * slice_index (counted t) 0) (counted t)
