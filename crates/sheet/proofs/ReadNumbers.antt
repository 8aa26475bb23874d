-- The numbers of a line, however many they are: its parts spell them exactly if it is the line of these numbers. Assumes
-- nothing.
use Rattle.std.proofs.Common.{◌≡◌, ℕ, zero, suc, ◌≤◌, List, [], ◌∷◌, ◌++◌, length, get_or, Some, None, Option, sym, refl, ap, ◌∙◌, subst, arith}
use Rattle.std.proofs.lemmas.List.{append_assoc, append-nil}
use Rattle.std.proofs.lemmas.Bool.{cond-false, ne_eqb}
use Rattle.sheet.specs.Parts.{spelled, spaced, former, further}
use Rattle.sheet.specs.Render.{digits, numbers_text, line_text}
use Rattle.sheet.specs.FirstLine.{first_lines}
use Rattle.sheet.proofs.Stages.{none_not}
use Rattle.sheet.proofs.Spelling.{Clear, digits_clear, spelled_digits, spelled_inv}
use Rattle.sheet.proofs.There.{clear_append, former_text, further_text}
use Rattle.sheet.proofs.Again.{spaced_inv, further_inv}
use Rattle.sheet.proofs.ReadSteps.{Free, first_ended}

-- the parts of a line after its letter, one more than k
abbrev pub parts : ℕ → List ℕ → List (List ℕ)
parts zero s = spaced s ∷ []
parts (suc k) s = former s ∷ parts k (further s)

-- the numbers that parts spell, if each spells one
abbrev pub with_first : Option ℕ → Option (List ℕ) → Option (List ℕ)
with_first None o = None
with_first (Some n) None = None
with_first (Some n) (Some ns) = Some (n ∷ ns)

abbrev pub numbers : List (List ℕ) → Option (List ℕ)
numbers [] = Some []
numbers (v ∷ vs) = with_first (spelled v) (numbers vs)

-- the line of some numbers, without its letter and its end
abbrev pub body : List ℕ → List ℕ
body [] = []
body (n ∷ ns) = 32 ∷ (digits n ++ body ns)

body_text : (ns : List ℕ) → numbers_text ns ≡ body ns ++ (10 ∷ [])
body_text [] = refl
body_text (n ∷ ns) =
    ap (λ r. 32 ∷ (digits n ++ r)) (body_text ns) ∙ ap (λ r. 32 ∷ r) (sym (append_assoc (digits n) (body ns) (10 ∷ [])))

pub line_text_lem : (x : ℕ) (ns : List ℕ) → line_text x ns ≡ (x ∷ body ns) ++ (10 ∷ [])
line_text_lem x ns = ap (λ r. x ∷ r) (body_text ns)

body_clear : (ns : List ℕ) → Clear 10 (body ns)
body_clear [] = tt
body_clear (n ∷ ns) =
    (λ e. omega arith, clear_append 10 (digits n) (body ns) (digits_clear 10 n (omega arith)) (body_clear ns))

free_of : (x : List ℕ) → Clear 10 x → Free x
free_of [] h = refl
free_of (y ∷ x) h = cond-false _ _ _ (ne_eqb y 10 h.0) ∙ ap suc (free_of x h.1)

pub line_free : (x : ℕ) (ns : List ℕ) → (x ≡ 10 → ⊥) → Free (x ∷ body ns)
line_free x ns ne = free_of (x ∷ body ns) (ne, body_clear ns)

-- the line of some numbers is the first line of a text that it begins
pub first_line : (q x : ℕ) (ns r : List ℕ) → (x ≡ 10 → ⊥) → first_lines (suc q) (line_text x ns ++ r) ≡ line_text x ns ++ first_lines q r
first_line q x ns r ne =
    let ended : (r : List ℕ) → line_text x ns ++ r ≡ (x ∷ body ns) ++ (10 ∷ r) = λ r.
    ap (λ s. s ++ r) (line_text_lem x ns) ∙ append_assoc (x ∷ body ns) (10 ∷ []) r in
    ap (first_lines (suc q)) (ended r) ∙ first_ended q (x ∷ body ns) r (line_free x ns ne) ∙ sym (ended (first_lines q r))

-- the parts of a line give numbers: these are as many, each of at most three digits, and the line is theirs
pub record Given (k : ℕ) (s ns : List ℕ) : Type 0 where
  pub many : length ns ≡ suc k
  pub small : (i : ℕ) → get_or ns i 0 ≤ 999
  pub is : body ns ≡ s

with_inv : (o : Option ℕ) (p : Option (List ℕ)) (ns : List ℕ) → with_first o p ≡ Some ns → (n : ℕ) × (ms : List ℕ) × (o ≡ Some n) × (p ≡ Some ms) × (n ∷ ms ≡ ns)
with_inv None p ns h = absurd (none_not ns h)
with_inv (Some n) None ns h = absurd (none_not ns h)
with_inv (Some n) (Some ms) ns h = (n, ms, refl, refl, cc)

small_more : (n : ℕ) (ns : List ℕ) → n ≤ 999 → ((i : ℕ) → get_or ns i 0 ≤ 999) → (i : ℕ) → get_or (n ∷ ns) i 0 ≤ 999
small_more n ns h k zero = h
small_more n ns h k (suc i) = k i

small_none : (i : ℕ) → get_or {A = ℕ} [] i 0 ≤ 999
small_none i = omega arith

pub some_same : (x y : List ℕ) → Some x ≡ Some y → x ≡ y
some_same x y h = cc

pub given_numbers : (k : ℕ) (s ns : List ℕ) → numbers (parts k s) ≡ Some ns → Given k s ns
given_numbers zero s ns h =
    let w = with_inv (spelled (spaced s)) (Some []) ns h in
    let n = w.0 in
    let d = spelled_inv (spaced s) n w.2 in
    let none : [] ≡ w.1 = some_same [] w.1 w.3 in
    let is : n ∷ [] ≡ ns = ap (λ ms. n ∷ ms) none ∙ w.4 in
    subst (Given zero s) is (record {
      many = refl;
      small = small_more n [] d.small small_none;
      is = ap (λ r. 32 ∷ r) (append-nil (digits n) ∙ d.is) ∙ sym (spaced_inv s d.some);
    })
given_numbers (suc k) s ns h =
    let w = with_inv (spelled (former s)) (numbers (parts k (further s))) ns h in
    let n = w.0 in
    let d = spelled_inv (former s) n w.2 in
    let rest = given_numbers k (further s) w.1 w.3 in
    subst (Given (suc k) s) w.4 (record {
      many = ap suc rest.many;
      small = small_more n w.1 d.small rest.small;
      is = (λ i. 32 ∷ (d.is i ++ rest.is i)) ∙ sym (further_inv s d.some);
    })

pub numbers_given : (k : ℕ) (ns : List ℕ) → length ns ≡ suc k → ((i : ℕ) → get_or ns i 0 ≤ 999) → numbers (parts k (body ns)) ≡ Some ns
numbers_given k [] long small = absurd (omega arith)
numbers_given zero (n ∷ []) long small =
    ap (λ v. with_first (spelled v) (Some [])) (append-nil (digits n))
    ∙ ap (λ o. with_first o (Some [])) (spelled_digits n (omega (arith, small 0)))
numbers_given zero (n ∷ m ∷ ns) long small = absurd (omega arith)
numbers_given (suc k) (n ∷ []) long small = absurd (omega arith)
numbers_given (suc k) (n ∷ m ∷ ns) long small =
    let clear = digits_clear 32 n (omega arith) in
    let tail = digits m ++ body ns in
    let first : spelled (former (body (n ∷ m ∷ ns))) ≡ Some n = ap spelled (former_text (digits n) tail clear) ∙ spelled_digits n (omega (arith, small 0)) in
    let rest : numbers (parts k (further (body (n ∷ m ∷ ns)))) ≡ Some (m ∷ ns) =
    ap (λ s. numbers (parts k s)) (further_text (digits n) tail clear) ∙ numbers_given k (m ∷ ns) (omega arith) (λ i. small (suc i)) in
    (λ i. with_first (first i) (rest i))
