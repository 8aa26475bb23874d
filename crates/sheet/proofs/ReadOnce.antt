-- At most one number has a reason at a line. Assumes nothing.
use Rattle.std.proofs.Common.{◌≡◌, ℕ, suc, ◌+◌, ◌-◌, List, [], ◌∷◌, ◌++◌, get_or, sym, refl, ap, ◌∙◌, subst, inl, inr, ⊎_elim, arith}
use Rattle.sheet.specs.declared.fault.Cause.{Cause}
use Rattle.sheet.specs.Sheets.{latch_count, gate_count}
use Rattle.sheet.specs.Reasons.{after_lines, Kind, contents_line, latch_line, gate_line, bad_line, letter_of, numbers_in, IsLine, HasEnd, Says, Wrong, not_ended, other_letter, no_numbers, out_of_range, out_of_order, Reason, InRange, InOrder}
use Rattle.sheet.proofs.ReadSteps.{Free, Ended, split, first_open}
use Rattle.sheet.proofs.ReadNumbers.{parts, numbers, body, line_text_lem, numbers_given, some_same}
use Rattle.sheet.proofs.ReadWrong.{says_body, not_open}

-- a line that says some numbers has an end
says_end : (k : Kind) (s ns : List ℕ) → Says k s ns → HasEnd s
says_end k s ns h =
    ⊎_elim
    (λ (f : Free s). (letter_of k ∷ body ns, [], sym (first_open 0 s f) ∙ h.line ∙ line_text_lem (letter_of k) ns))
    (λ (d : Ended s). (d.line, d.rest, d.is))
    (split s)

-- the line that it is
says_line : (k : Kind) (s ns : List ℕ) → Says k s ns → (d : Ended s) → d.line ≡ letter_of k ∷ body ns
says_line k s ns h d =
    says_body k d.line d.rest ns d.free (subst (λ (s : List ℕ). Says k s ns) d.is h)

ended_of : (s : List ℕ) → HasEnd s → Ended s
ended_of s h = ⊎_elim (λ (f : Free s). absurd (not_open s f h)) (λ (d : Ended s). d) (split s)

says_letter : (k : Kind) (s ns : List ℕ) → Says k s ns → get_or s 0 0 ≡ letter_of k
says_letter k s ns h =
    let d = ended_of s (says_end k s ns h) in
    ap (λ s. get_or s 0 0) (d.is ∙ ap (λ x. x ++ (10 ∷ d.rest)) (says_line k s ns h d))

-- it says no other numbers
some_numbers : (k : Kind) → (j : ℕ) × (numbers_in k ≡ suc j)
some_numbers contents_line = (2, refl)
some_numbers (latch_line i) = (1, refl)
some_numbers (gate_line g) = (1, refl)
some_numbers bad_line = (0, refl)

says_same : (k : Kind) (s ns ms : List ℕ) → Says k s ns → Says k s ms → ns ≡ ms
says_same k s ns ms h g =
    let d = ended_of s (says_end k s ns h) in
    let j = (some_numbers k).0 in
    let many = (some_numbers k).1 in
    let one = says_line k s ns h d in
    let other = says_line k s ms g d in
    let same : body ns ≡ body ms = cc in
    some_same ns ms
    (sym (numbers_given j ns (h.as_many ∙ many) h.three_digits)
    ∙ ap (λ s. numbers (parts j s)) same
    ∙ numbers_given j ms (g.as_many ∙ many) g.three_digits)

-- one line is not wrong for two reasons
module _ (l : List ℕ) (k : Kind) (s : List ℕ) (n m : Cause) where
  range_same : (ns ms : List ℕ) → Says k s ns → Says k s ms → InRange l k ns → InRange l k ms
  range_same ns ms h g = subst (InRange l k) (says_same k s ns ms h g)

  order_same : (ns ms : List ℕ) → Says k s ns → Says k s ms → InOrder l k ns → InOrder l k ms
  order_same ns ms h g = subst (InOrder l k) (says_same k s ns ms h g)

  wrong_once : Wrong l k s n → Wrong l k s m → n ≡ m
  wrong_once (not_ended a open-ended) (not_ended b _) = a ∙ sym b
  wrong_once (not_ended a open-ended) (other_letter b end _) = absurd (open-ended end)
  wrong_once (not_ended a open-ended) (no_numbers b end _ _) = absurd (open-ended end)
  wrong_once (not_ended a open-ended) (out_of_range b ns says _) = absurd (open-ended (says_end k s ns says))
  wrong_once (not_ended a open-ended) (out_of_order b ns says _ _) = absurd (open-ended (says_end k s ns says))
  wrong_once (other_letter a end _) (not_ended b open-ended) = absurd (open-ended end)
  wrong_once (other_letter a _ _) (other_letter b _ _) = a ∙ sym b
  wrong_once (other_letter a _ other) (no_numbers b _ right _) = absurd (other right)
  wrong_once (other_letter a _ other) (out_of_range b ns says _) = absurd (other (says_letter k s ns says))
  wrong_once (other_letter a _ other) (out_of_order b ns says _ _) = absurd (other (says_letter k s ns says))
  wrong_once (no_numbers a end _ _) (not_ended b open-ended) = absurd (open-ended end)
  wrong_once (no_numbers a _ right _) (other_letter b _ other) = absurd (other right)
  wrong_once (no_numbers a _ _ _) (no_numbers b _ _ _) = a ∙ sym b
  wrong_once (no_numbers a _ _ none) (out_of_range b ns says _) = absurd (none ns says)
  wrong_once (no_numbers a _ _ none) (out_of_order b ns says _ _) = absurd (none ns says)
  wrong_once (out_of_range a ns says _) (not_ended b open-ended) = absurd (open-ended (says_end k s ns says))
  wrong_once (out_of_range a ns says _) (other_letter b _ other) = absurd (other (says_letter k s ns says))
  wrong_once (out_of_range a ns says _) (no_numbers b _ _ none) = absurd (none ns says)
  wrong_once (out_of_range a ns _ _) (out_of_range b ms _ _) = a ∙ sym b
  wrong_once (out_of_range a ns h out) (out_of_order b ms g within _) = absurd (out (range_same ms ns g h within))
  wrong_once (out_of_order a ns says _ _) (not_ended b open-ended) = absurd (open-ended (says_end k s ns says))
  wrong_once (out_of_order a ns says _ _) (other_letter b _ other) = absurd (other (says_letter k s ns says))
  wrong_once (out_of_order a ns says _ _) (no_numbers b _ _ none) = absurd (none ns says)
  wrong_once (out_of_order a ns h within _) (out_of_range b ms g out) = absurd (out (range_same ns ms h g within))
  wrong_once (out_of_order a ns _ _ _) (out_of_order b ms _ _ _) = a ∙ sym b

-- one line is due at a place
kind_once : (l : List ℕ) (p : ℕ) (k j : Kind) → IsLine l k p → IsLine l j p → k ≡ j
kind_once l p contents_line contents_line h g = refl
kind_once l p contents_line (latch_line i) h g = absurd (omega (arith, g.1))
kind_once l p contents_line (gate_line i) h g = absurd (omega (arith, g.1))
kind_once l p contents_line bad_line h g = absurd (omega arith)
kind_once l p (latch_line i) contents_line h g = absurd (omega (arith, h.1))
kind_once l p (latch_line i) (latch_line j) h g = let same : i ≡ j = omega (arith, h.1, g.1) in ap latch_line same
kind_once l p (latch_line i) (gate_line j) h g = absurd (omega (arith, h.0, h.1, g.1))
kind_once l p (latch_line i) bad_line h g = absurd (omega (arith, h.0, h.1))
kind_once l p (gate_line i) contents_line h g = absurd (omega (arith, h.1))
kind_once l p (gate_line i) (latch_line j) h g = absurd (omega (arith, h.1, g.0, g.1))
kind_once l p (gate_line i) (gate_line j) h g = let same : i ≡ j = omega (arith, h.1, g.1) in ap gate_line same
kind_once l p (gate_line i) bad_line h g = absurd (omega (arith, h.0, h.1))
kind_once l p bad_line contents_line h g = absurd (omega arith)
kind_once l p bad_line (latch_line j) h g = absurd (omega (arith, g.0, g.1))
kind_once l p bad_line (gate_line j) h g = absurd (omega (arith, g.0, g.1))
kind_once l p bad_line bad_line h g = refl

-- and none behind the last
not_behind : (l : List ℕ) (p : ℕ) (k : Kind) → IsLine l k p → p ≡ 3 + latch_count l + gate_count l → ⊥
not_behind l p contents_line h at = omega arith
not_behind l p (latch_line i) h at = omega (arith, h.0, h.1)
not_behind l p (gate_line g) h at = omega (arith, h.0, h.1)
not_behind l p bad_line h at = omega arith

pub reason_once : (t l : List ℕ) (n m : Cause) (p : ℕ) → Reason t l n p → Reason t l m p → n ≡ m
reason_once t l n m p (inl v) (inl w) =
    wrong_once l w.0 (after_lines (p - 1) t) n m (subst (λ k. Wrong l k (after_lines (p - 1) t) n) (kind_once l p v.0 w.0 v.1 w.1) v.2) w.2
reason_once t l n m p (inl v) (inr w) = absurd (not_behind l p v.0 v.1 w.place)
reason_once t l n m p (inr v) (inl w) = absurd (not_behind l p w.0 w.1 v.place)
reason_once t l n m p (inr v) (inr w) = v.cause ∙ sym w.cause
