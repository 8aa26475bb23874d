-- Steps over the parts of a line. Assumes nothing.
use Rattle.std.proofs.Common.{◌≡◌, ◌==◌, ℕ, suc, ◌+◌, ◌-◌, ◌<◌, ◌≤◌, Bool, not, cond, ltb, List, [], ◌∷◌, length, get_or, take, drop, Some, None, Option, sym, refl, ap, ◌∙◌, ⊎_elim, arith}
use Rattle.std.proofs.lemmas.List.{take_rest}
use Rattle.std.proofs.lemmas.List.Recursion.{is_position_or_len}
use Rattle.std.proofs.lemmas.Bool.{cond-true, eq-eqb, cases_lt, lt-ltb, le-ltb}
use Rattle.std.proofs.lemmas.List.Sums.{prefix_len-le-length}
use Rattle.std.specs.List.{position, position_or_len}
use Rattle.std.specs.Option.{unwrap_or}
use Rattle.sheet.specs.Parts.{up_to, spaced, shape, shape_by}

-- the first place of a byte, where it stands in the text, and else the text's length
pub up_to_first : (b : ℕ) (s : List ℕ) (o : Option ℕ) → o ≡ position (λ x. x == b) s → unwrap_or o (length s) ≡ up_to b s
up_to_first b s o is =
    let first : up_to b s ≡ position_or_len (λ x. x == b) s = is_position_or_len (up_to b) (λ x. x == b) refl (λ x xs. let more : suc (up_to b xs) ≡ 1 + up_to b xs = omega arith in ap (λ (n : ℕ). cond (x == b) 0 n) more) s in
    let found : (i n : ℕ) → i ≤ n → unwrap_or (cond (ltb i n) (Some i) None) n ≡ i = λ i n h.
    ⊎_elim
    (λ (less : i < n). ap (λ (t : Bool). unwrap_or (cond t (Some i) None) n) (lt-ltb i n less))
    (λ (all : n ≤ i). let end : n ≡ i = omega arith in ap (λ (t : Bool). unwrap_or (cond t (Some i) None) n) (le-ltb i n all) ∙ end)
    (cases_lt i n) in
    ap (λ (q : Option ℕ). unwrap_or q (length s)) is ∙ found (position_or_len (λ x. x == b) s) (length s) (prefix_len-le-length (λ x. not (x == b)) s) ∙ sym first

pub spaced_here : (s : List ℕ) → 0 < length s → get_or s 0 0 ≡ 32 → take (length s - 1) (drop 1 s) ≡ spaced s
spaced_here [] h e = absurd (omega arith)
spaced_here (x ∷ s) h e = take_rest (x ∷ s) 1 ∙ sym (cond-true _ _ _ (eq-eqb x 32 e))

pub shape_at : (s : List ℕ) (x : ℕ) → 0 < length s → get_or s 0 0 ≡ x → shape s ≡ shape_by x (take (length s - 1) (drop 1 s))
shape_at [] x h e = absurd (omega arith)
shape_at (y ∷ s) x h e = ap (λ b. shape_by b s) e ∙ ap (shape_by x) (sym (take_rest (y ∷ s) 1))
