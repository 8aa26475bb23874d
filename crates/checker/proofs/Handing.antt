-- What a run list hands over: the frames of the assignment. Assumes nothing.
use Rattle.std.proofs.Common.{◌≡◌, ℕ, zero, suc, ◌+◌, ◌*◌, not, eqb, ◌⊎◌, List, [], ◌∷◌, ◌++◌, map, length, get_or, sym, refl, ap, ◌∙◌, inl, ⊎_elim, arith}
use Rattle.std.specs.List.{range_with_len, AllByRecursion}
use Rattle.std.proofs.lemmas.List.{append-nil}
use Rattle.lists.specs.Stretch.{stretch}
use Rattle.signal.specs.Truth.{bits_of}
use Rattle.sheet.specs.Sheets.{Sheet}
use Rattle.machine.specs.Runs.{Frame}
use Rattle.formula.specs.Formulas.{width}
use Rattle.question.specs.Meaning.{frame_at}
use Rattle.question.proofs.Counts.{stretch_length}
use Rattle.checker.specs.Reports.{bit_number, frame_written, run_written, numbers_from, frame_numbers, run_numbers, run_size}
use Rattle.checker.proofs.Tracing.{length_frame}

-- ---- the numbers of a run are its bits
abbrev IsBit : ℕ → Type 0
IsBit x = (x ≡ 0) ⊎ (x ≡ 1)

bit_at : (xs : List ℕ) → AllByRecursion IsBit xs → (j : ℕ) → IsBit (get_or xs j 0)
bit_at [] all j = inl refl
bit_at (x ∷ xs) all zero = all.0
bit_at (x ∷ xs) all (suc j) = bit_at xs all.1 j

number_is : (x : ℕ) → IsBit x → x ≡ bit_number (not (eqb x 0))
number_is x =
    ⊎_elim
    (λ (e : x ≡ 0). e ∙ sym (ap (λ (n : ℕ). bit_number (not (eqb n 0))) e))
    (λ (e : x ≡ 1). e ∙ sym (ap (λ (n : ℕ). bit_number (not (eqb n 0))) e))

module _ (s : Sheet) (xs : List ℕ) (bits : AllByRecursion (λ x. (x ≡ 0) ⊎ (x ≡ 1)) xs) where
  numbers_are : (n i : ℕ) → numbers_from xs i n ≡ map bit_number (map (bits_of xs) (range_with_len i n))
  numbers_are zero i = refl
  numbers_are (suc n) i = (λ k. number_is (get_or xs i 0) (bit_at xs bits i) k ∷ numbers_are n (i + 1) k)

  abbrev frame : ℕ → Frame s
  frame t = frame_at s (bits_of xs) t

  frame_is : (t : ℕ) → frame_numbers s xs t ≡ frame_written (frame t)
  frame_is t = λ k. numbers_are s.latches (t * width s + 1 + s.inputs) k ++ numbers_are s.inputs (t * width s + 1) k

  run_from : (m t : ℕ) → stretch (frame_numbers s xs) t (suc m) ≡ run_written (frame t) (map frame (range_with_len (t + 1) m))
  run_from zero t = append-nil (frame_numbers s xs t) ∙ frame_is t
  run_from (suc m) t = λ k. frame_is t k ++ run_from m (t + 1) k

  -- the frames 0 to m, one behind the other
  pub run_is_written : (m : ℕ) → run_numbers s xs m ≡ run_written (frame_at s (bits_of xs) 0) (map (frame_at s (bits_of xs)) (range_with_len 1 m))
  run_is_written m = let more : m + 1 ≡ suc m = omega arith in ap (λ (n : ℕ). stretch (frame_numbers s xs) 0 n) more ∙ run_from m 0

-- how many they are, whatever the numbers
pub run_length : (s : Sheet) (xs : List ℕ) (m : ℕ) → length (run_numbers s xs m) ≡ run_size s m
run_length s xs m = stretch_length (frame_numbers s xs) (s.latches + s.inputs) (length_frame s xs) (m + 1) 0
