-- An assignment in a list, a number for each variable, and what is wrong with it. Assumes nothing.
use Rattle.std.specs.Prelude.{◌≡◌, ℕ, zero, suc, ◌+◌, Bool, cond, ◌⊎◌, List, [], ◌∷◌, length, Some, None, Ok, Err, Option, Result, ◌==◌, nat_lt}
use Rattle.std.specs.List.{AllByRecursion}
use Rattle.sheet.specs.Faults.{fault, and_then, demand}
use Rattle.sheet.specs.declared.fault.Cause.{Cause}
use Rattle.sheet.specs.declared.fault.Cause.TheVariants.{WrongCount, NotABit, FalseClause}
use Rattle.sheet.specs.declared.fault.Fault.{Fault}
use Rattle.sheet.specs.declared.fault.Layer.TheVariants.{Assignment}
use Rattle.signal.specs.Truth.{holds, bits_of}
use Rattle.question.specs.Questions.{variable_count, clause_count, clause_of, Satisfies}

-- the first variable, of those from i on that have the numbers, whose number is neither 0 nor 1
abbrev pub first_non_bit : ℕ → List ℕ → Option ℕ
first_non_bit i [] = None
first_non_bit i (x ∷ xs) = cond (nat_lt x 2) (first_non_bit (i + 1) xs) (Some i)

-- the lowest false clause, of n from the clause k on
abbrev pub lowest_false : List ℕ → (ℕ → Bool) → ℕ → ℕ → Option ℕ
lowest_false q α k zero = None
lowest_false q α k (suc n) = cond (holds α (clause_of q k)) (lowest_false q α (k + 1) n) (Some k)

-- a refusal at the place that was found, if one was
abbrev pub unless_found : Cause → Option ℕ → Result (Unit {0}) Fault
unless_found c None = Ok tt
unless_found c (Some place) = Err (fault Assignment c place)

-- the checks of an assignment, in their order
abbrev pub judged : List ℕ → List ℕ → Result (Unit {0}) Fault
judged q numbers =
    demand (length numbers == variable_count q) (fault Assignment WrongCount 0)
    (and_then (unless_found NotABit (first_non_bit 0 numbers)) (λ _. unless_found FalseClause (lowest_false q (bits_of numbers) 0 (clause_count q))))

-- a bit for each variable, and they make every clause true
pub record Satisfying (q numbers : List ℕ) : Type 0 where
  pub whole : length numbers ≡ variable_count q
  pub bits : AllByRecursion (λ x. (x ≡ 0) ⊎ (x ≡ 1)) numbers
  pub clauses : Satisfies (bits_of numbers) q
