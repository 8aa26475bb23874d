-- At plain bits a clause is the usual one, and at bits that may be unset it speaks of each assignment that completes them. Assumes nothing.
use Rattle.std.proofs.Common.{◌≡◌, ℕ, zero, suc, ◌/◌, ◌%◌, ◌<◌, Bool, true, false, cond, not, ◌&&◌, eqb, List, [], ◌∷◌, get_or, Decides, sym, refl, ap, ◌∙◌, arith}
use Rattle.std.specs.List.{AllByRecursion}
use Rattle.std.proofs.lemmas.Bool.{not-true, or_parts, or_from}
use Rattle.std.proofs.lemmas.Bool.Decides.{Decides-by_or, Decides-at, Decides-like}
use Rattle.std.proofs.ByRecursion.{Decides-by_and}
use Rattle.signal.specs.Circuit.{disjunction, literal_of, or_all, clause_of}
use Rattle.signal.specs.Covers.{Agrees}
use Rattle.signal.specs.Kinds.{bit_ops, may_bit, tri_ops, may_tri, read_tri, not_tri}
use Rattle.signal.specs.Sets.{exactly}
use Rattle.signal.specs.Truth.{lit, holds, True, Satisfied, bits_of, Completes, False}
use Rattle.signal.specs.declared.kinds.Tri.{Tri}
use Rattle.signal.specs.declared.kinds.Tri.TheVariants.{Zero, One, Unset}
use Rattle.signal.proofs.Cover.{exactly_self}
use denote.Enum.Bare.{sameb}
use Rattle.signal.specs.contracts.kinds.Tri.{the_type}

-- ---- plain bits
pub exactly_same : (a b : Bool) → exactly a b ≡ true → a ≡ b
exactly_same true b h = sym h
exactly_same false b h = sym (not-true b h)

pub bits_agree : (numbers : List ℕ) → Agrees bit_ops may_bit 0 numbers (bits_of numbers)
bits_agree numbers k = exactly_self (bits_of numbers k)

-- an even literal of the bit b, or an odd one
phase_decides : (even b : Bool) → Decides (cond even b (not b)) (b ≡ even)
phase_decides true true = (λ e. e, λ e. e)
phase_decides true false = (λ e. e, λ e. e)
phase_decides false true = (λ e. sym e, λ e. sym e)
phase_decides false false = (λ e. refl, λ e. refl)

pub clause_decides : (α : ℕ → Bool) (ls : List ℕ) → Decides (holds α ls) (Satisfied α ls)
clause_decides α ls =
    Decides-by_or (lit α) (True α) (holds α) (λ l. phase_decides (eqb (l % 2) 0) (α (l / 2))) refl (λ _ _. refl) ls

-- a bit that the remainder p says is one that makes the literal false
false_phase : (p : ℕ) (a : Bool) → p < 2 → ((b : Bool) → p ≡ cond b 1 0 → a ≡ b) → cond (eqb p 0) a (not a) ≡ false
false_phase zero a h same = same false refl
false_phase (suc zero) a h same = rw (same true refl)
false_phase (suc (suc p)) a h same = absurd (omega arith)

-- ---- bits that may be unset
abbrev is_zero : Tri → Bool
is_zero x = not (may_tri x 0 true)

zero_decides : (x : Tri) → Decides (is_zero x) (x ≡ Zero)
zero_decides Zero = (λ _. refl, λ _. refl)
zero_decides One = (λ e. cc, λ e. cc)
zero_decides Unset = (λ e. cc, λ e. cc)

-- what `==` answers
pub equals_zero : (r : Bool) (x : Tri) → r ≡ sameb the_type x Zero → r ≡ is_zero x
equals_zero r Zero e = e
equals_zero r One e = e
equals_zero r Unset e = e

zero_or : (x y : Tri) → is_zero (disjunction tri_ops x y) ≡ (is_zero x && is_zero y)
zero_or Zero Zero = refl
zero_or Zero One = refl
zero_or Zero Unset = refl
zero_or One y = refl
zero_or Unset Zero = refl
zero_or Unset One = refl
zero_or Unset Unset = refl

-- the literal's number is n and its remainder p: then it is false where they are equal
false_at : (n p : ℕ) → p < 2 → Decides (is_zero (cond (eqb p 0) (read_tri n) (not_tri (read_tri n)))) (n ≡ p)
false_at zero zero h = (λ _. refl, λ _. refl)
false_at zero (suc zero) h = (λ e. absurd (grind arith), λ e. absurd (omega arith))
false_at (suc zero) zero h = (λ e. absurd (grind arith), λ e. absurd (omega arith))
false_at (suc zero) (suc zero) h = (λ _. refl, λ _. refl)
false_at (suc (suc n)) zero h = (λ e. absurd (grind arith), λ e. absurd (omega arith))
false_at (suc (suc n)) (suc zero) h = (λ e. absurd (grind arith), λ e. absurd (omega arith))
false_at n (suc (suc p)) h = absurd (omega arith)

-- and so it is where it stays false when an unset variable would make it true
filled_at : (n p : ℕ) → p < 2 →
    let a = cond (eqb n 0) false (cond (eqb n 1) true (eqb p 0)) in
    cond (eqb p 0) a (not a) ≡ false → n ≡ p
filled_at zero zero h e = refl
filled_at zero (suc zero) h e = absurd (grind arith)
filled_at (suc zero) zero h e = absurd (grind arith)
filled_at (suc zero) (suc zero) h e = refl
filled_at (suc (suc n)) zero h e = absurd (grind arith)
filled_at (suc (suc n)) (suc zero) h e = absurd (grind arith)
filled_at n (suc (suc p)) h e = absurd (omega arith)

and_assoc : (a b c : Bool) → ((a && b) && c) ≡ (a && (b && c))
and_assoc true b c = refl
and_assoc false b c = refl

and_true : (a : Bool) → (a && true) ≡ a
and_true true = refl
and_true false = refl

module _ (numbers : List ℕ) where
  abbrev all_zero : List ℕ → Bool
  all_zero [] = true
  all_zero (l ∷ ls) = is_zero (literal_of tri_ops numbers l) && all_zero ls

  zero_or_all : (x : Tri) (ls : List ℕ) → is_zero (or_all tri_ops numbers x ls) ≡ (is_zero x && all_zero ls)
  zero_or_all x [] = sym (and_true (is_zero x))
  zero_or_all x (l ∷ ls) =
      let y = literal_of tri_ops numbers l in
      zero_or_all (disjunction tri_ops x y) ls ∙ ap (λ b. b && all_zero ls) (zero_or x y) ∙ and_assoc (is_zero x) (is_zero y) (all_zero ls)

  pub each_zero : (ls : List ℕ) → Decides (is_zero (clause_of tri_ops numbers ls)) (AllByRecursion (λ l. literal_of tri_ops numbers l ≡ Zero) ls)
  each_zero ls =
      Decides-at _ _ (zero_or_all Zero ls)
      (Decides-by_and (λ l. is_zero (literal_of tri_ops numbers l)) (λ l. literal_of tri_ops numbers l ≡ Zero) all_zero (λ l. zero_decides _) refl (λ _ _. refl) ls)

  false_decides : (l : ℕ) → Decides (is_zero (literal_of tri_ops numbers l)) (False numbers l)
  false_decides l = false_at (get_or numbers (l / 2) 0) (l % 2) (omega arith)

  pub each_false : (ls : List ℕ) → Decides (is_zero (clause_of tri_ops numbers ls)) (AllByRecursion (False numbers) ls)
  each_false ls =
      Decides-at _ _ (zero_or_all Zero ls)
      (Decides-by_and (λ l. is_zero (literal_of tri_ops numbers l)) (False numbers) all_zero false_decides refl (λ _ _. refl) ls)

  -- a literal that is false stays so in each completion
  false_lit : (α : ℕ → Bool) → Completes numbers α → (l : ℕ) → False numbers l → lit α l ≡ false
  false_lit α completes l is = false_phase (l % 2) (α (l / 2)) (omega arith) (λ b same. completes (l / 2) b (is ∙ same))

  false_holds : (α : ℕ → Bool) → Completes numbers α → (ls : List ℕ) → AllByRecursion (False numbers) ls → holds α ls ≡ false
  false_holds α completes [] all = refl
  false_holds α completes (l ∷ ls) all = or_from _ _ (false_lit α completes l all.0) (false_holds α completes ls all.1)

  -- the completion that gives each unset variable the bit b
  abbrev filled : Bool → ℕ → Bool
  filled b k = cond (eqb (get_or numbers k 0) 0) false (cond (eqb (get_or numbers k 0) 1) true b)

  filled_completes : (b : Bool) → Completes numbers (filled b)
  filled_completes b k true is = rw is
  filled_completes b k false is = rw is

  -- a literal that is false where an unset variable would make it true is false already
  filled_false : (l : ℕ) → lit (filled (eqb (l % 2) 0)) l ≡ false → False numbers l
  filled_false l h = filled_at (get_or numbers (l / 2) 0) (l % 2) (omega arith) h

  all_false : (ls : List ℕ) → ((α : ℕ → Bool) → Completes numbers α → holds α ls ≡ false) → AllByRecursion (False numbers) ls
  all_false [] none = tt
  all_false (l ∷ ls) none = (
    filled_false l (or_parts _ _ (none (filled (eqb (l % 2) 0)) (filled_completes _))).0,
    all_false ls (λ α completes. (or_parts _ _ (none α completes)).1),
  )

  pub no_completion : (ls : List ℕ) → Decides (is_zero (clause_of tri_ops numbers ls)) ((α : ℕ → Bool) → Completes numbers α → holds α ls ≡ false)
  no_completion ls = Decides-like _ (λ all α completes. false_holds α completes ls all) (all_false ls) (each_false ls)
