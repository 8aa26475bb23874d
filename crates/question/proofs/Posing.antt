-- What posing a question answers and leaves. Assumes nothing.
use Rattle.std.proofs.Common.{cond, ◌≡◌, ℕ, ◌+◌, ◌-◌, ◌*◌, ◌^◌, ◌<◌, ◌≤◌, min, Bool, true, false, ltb, leb, List, ◌++◌, length, take, drop, is_some, Some, None, Option, sym, refl, ap, ◌∙◌, zero-mul, arith, length-take}
use borrow.Rule.Slice.PartMut.{post_of}
use Rattle.std.proofs.lemmas.Nat.{mul-le}
use Rattle.std.proofs.lemmas.List.{length-append}
use Rattle.std.proofs.lemmas.Bool.{cond-true, cond-false, cond_both, and_left, and_right, and_from, and_parts, le-leb, lt-leb, leb-true}
use Rattle.lists.specs.Counted.{counted, uncounted}
use Rattle.lists.proofs.Taken.{take_min, drop_min}
use Rattle.sheet.specs.Render.{well_formed}
use Rattle.sheet.specs.Sheets.{Sheet, Legal, sheet_of}
use Rattle.sheet.proofs.Legality.{well_formed_legal}
use Rattle.formula.specs.Conjunction.{opposite}
use Rattle.formula.specs.Formulas.{width}
use Rattle.formula.specs.Framing.{in_frame, in_question, question_literal}
use Rattle.formula.specs.declared.question_literal.QuestionLiteral.{QuestionLiteral}
use Rattle.question.specs.Clauses.{state_clauses, first_clauses, second_clauses, path_clauses}
use Rattle.question.specs.Layout.{flat, encode, start_list, path_list, inclusion_list, all_below, written, given, posed, posed_if}
use Rattle.question.specs.Sizes.{state_clause_count, state_literal_count, first_clause_count, first_literal_count, second_clause_count, second_literal_count}
use Rattle.question.proofs.Counts.{state_length, state_literals, path_length, path_literals}
use Rattle.question.proofs.Fitting.{encode_below, few_nodes, few_gates, formula_fits, state_below, path_below}
use Rattle.question.proofs.Laying.{length_encode}

abbrev Posed : Type 0
Posed = Option ℕ × List ℕ

-- ---- a question of clauses cs, in a list that is to hold it
module _ (v a : ℕ) (cs : List (List ℕ)) (old : List ℕ) where
  abbrev q : List ℕ
  q = encode v a cs

  abbrev size : ℕ
  size = 4 + length cs + length (flat cs)

  pub posed_short : length old < size → ◌≡◌ {A = Posed} (None, old) (posed q old)
  posed_short short = sym (cond-false _ _ _ (and_left _ (all_below (2 ^ 32) q) (lt-leb (length q) (length old) (omega (arith, length_encode v a cs)))))

  module _ (vs : v < 2 ^ 32) (firsts : a ≤ length cs) (room : size ≤ length old) (few : length old ≤ 2 ^ 28) where
    pub posed_wide : all_below (2 ^ 32) (flat cs) ≡ false → ◌≡◌ {A = Posed} (None, old) (posed q old)
    posed_wide wide = sym (cond-false _ _ _ (and_right (leb (length q) (length old)) _ (encode_below (2 ^ 32) v a cs vs firsts (omega arith) ∙ wide)))

    pub posed_written : all_below (2 ^ 32) (flat cs) ≡ true → (n : ℕ) (new : List ℕ) → ◌≡◌ {A = ℕ × List ℕ} (n, new) (written q (length old)) →
        ◌≡◌ {A = Posed} (Some n, new) (posed q old)
    posed_written fit n new is =
        ap (λ (x : ℕ × List ℕ). let y : Posed = (Some x.0, x.1) in y) is
        ∙ sym (cond-true _ _ _
        (and_from _ _ (le-leb (length q) (length old) (omega (arith, length_encode v a cs))) (encode_below (2 ^ 32) v a cs vs firsts (omega arith) ∙ fit)))

-- the room that two parts need, by other names for their sizes
pub short_of : (len a b x y : ℕ) {a' b' x' y' : ℕ} → a ≡ a' → b ≡ b' → x ≡ x' → y ≡ y' → len < 4 + (a + b) + (x + y) → len < 4 + (a' + b') + (x' + y')
short_of len a b x y i j k l h = omega (arith, i, j, k, l)

-- ---- of a legal sheet and a formula list with n gates
module _ (l : List ℕ) (legal : Legal l) (f : List ℕ) (n : ℕ) (whole : 2 * n ≤ length f) (counts : length f ≤ 2 ^ 28)
    (old : List ℕ) (few : length old ≤ 2 ^ 28) where
  abbrev s : Sheet
  s = sheet_of l

  module _ (x y : ℕ) where
    abbrev cs : List (List ℕ)
    cs = state_clauses s f n x y

    abbrev places : ℕ
    places = 4 + state_clause_count s n + state_literal_count s n

    abbrev state : List ℕ
    state = encode (width s + n) 0 cs

    size_is : 4 + length cs + length (flat cs) ≡ places
    size_is = omega (arith, state_length s f n x y, state_literals s f n x y)

    pub state_short : length old < places → ◌≡◌ {A = Posed} (None, old) (posed state old)
    state_short short = posed_short (width s + n) 0 cs old (omega (arith, size_is))

    module _ (ys : y < 2 ^ 32) (room : places ≤ length old) where
      vs : width s + n < 2 ^ 32
      vs = omega (arith, few_nodes l legal f n whole counts, few_gates l legal f n whole counts)

      pub state_wide : formula_fits l legal f n whole counts 1 x ≡ false → ◌≡◌ {A = Posed} (None, old) (posed state old)
      state_wide wide = posed_wide (width s + n) 0 cs old vs (omega arith) (omega (arith, size_is)) few (state_below l legal f n whole counts x y ys ∙ wide)

      pub state_posed : formula_fits l legal f n whole counts 1 x ≡ true → (m : ℕ) (new : List ℕ) →
          ◌≡◌ {A = ℕ × List ℕ} (m, new) (written state (length old)) → ◌≡◌ {A = Posed} (Some m, new) (posed state old)
      state_posed fit = posed_written (width s + n) 0 cs old vs (omega arith) (omega (arith, size_is)) few (state_below l legal f n whole counts x y ys ∙ fit)

  module _ (r k : ℕ) (bound : k ≤ 30) where
    abbrev path : List ℕ
    path = path_list s f n r k

    abbrev path_places : ℕ
    path_places = 4 + (first_clause_count s n + second_clause_count s k) + (first_literal_count s n + second_literal_count s k)

    abbrev v : ℕ
    v = (k + 2) * width s + n

    path_size : 4 + length (path_clauses s f n r k) + length (flat (path_clauses s f n r k)) ≡ path_places
    path_size = omega (arith, path_length s k f n r, path_literals s k f n r)

    firsts : length (first_clauses s f n r k) ≤ length (path_clauses s f n r k)
    firsts = omega (arith, length-append (first_clauses s f n r k) (second_clauses s k))

    pub path_short : length old < path_places → ◌≡◌ {A = Posed} (None, old) (posed path old)
    path_short short = posed_short v (length (first_clauses s f n r k)) (path_clauses s f n r k) old (omega (arith, path_size))

    module _ (room : path_places ≤ length old) where
      path_vs : v < 2 ^ 32
      path_vs =
          let w = few_nodes l legal f n whole counts in
          omega (arith, mul-le (k + 2) (width s) 32 249 (omega arith) w, few_gates l legal f n whole counts)

      pub path_wide : formula_fits l legal f n whole counts (k + 2) r ≡ false → ◌≡◌ {A = Posed} (None, old) (posed path old)
      path_wide wide =
          posed_wide v (length (first_clauses s f n r k)) (path_clauses s f n r k) old path_vs firsts (omega (arith, path_size)) few
          (path_below l legal f n whole counts r k bound ∙ wide)

      pub path_posed : formula_fits l legal f n whole counts (k + 2) r ≡ true → (m : ℕ) (new : List ℕ) →
          ◌≡◌ {A = ℕ × List ℕ} (m, new) (written path (length old)) → ◌≡◌ {A = Posed} (Some m, new) (posed path old)
      path_posed fit =
          posed_written v (length (first_clauses s f n r k)) (path_clauses s f n r k) old path_vs firsts (omega (arith, path_size)) few
          (path_below l legal f n whole counts r k bound ∙ fit)

-- ---- a literal that is to have 32 bits
placed_some : (x : ℕ) → is_some (question_literal x) ≡ ltb x (2 ^ 32)
placed_some x = elim (ltb x (2 ^ 32)) as (λ b. let o : Option QuestionLiteral = cond b (Some (record { 0 = x })) None in is_some o ≡ b) [
  | true ↦ refl
  | false ↦ refl
]

pub placed_not : (x : ℕ) → None ≡ question_literal x → ltb x (2 ^ 32) ≡ false
placed_not x h = sym (ap is_some h ∙ placed_some x)

pub placed_fits : (x : ℕ) (y : QuestionLiteral) → Some y ≡ question_literal x → ltb x (2 ^ 32) ≡ true
placed_fits x y h = sym (ap is_some h ∙ placed_some x)

abbrev number_in : Option QuestionLiteral → ℕ
number_in None = 0
number_in (Some y) = y.0

pub placed_is : (x : ℕ) (y : QuestionLiteral) → Some y ≡ question_literal x → y.0 ≡ x
placed_is x y h = ap number_in (h ∙ cond-true _ _ _ (placed_fits x y h))

-- ---- in what counts of a lent list
pub posed_not : (b : Bool) (q old : List ℕ) → b ≡ false → ◌≡◌ {A = Posed} (None, old) (posed_if b q old)
posed_not b q old h = sym (cond-false _ _ _ h)

pub posed_counted : (b : Bool) (q old : List ℕ) (len : ℕ) → b ≡ true → len ≡ min (length old) (2 ^ 28) → (r : Option ℕ) (t : List ℕ) →
    ◌≡◌ {A = Posed} (r, t) (posed q (take (len - 0) old)) → ◌≡◌ {A = Posed} (r, t ++ post_of 0 (len - 0) old) (posed_if b q old)
posed_counted b q old len h cut r t is =
    let front : take (len - 0) old ≡ counted old = take_min old (2 ^ 28) (len - 0) (omega arith) in
    let rest : drop (len - 0) old ≡ uncounted old = drop_min old (2 ^ 28) (len - 0) (omega arith) in
    let done : ◌≡◌ {A = Posed} (r, t) (posed q (counted old)) = is ∙ ap (λ (xs : List ℕ). posed q xs) front in
    (λ i. ((done i).0, (done i).1 ++ rest i)) ∙ sym (cond-true _ _ _ h)

-- ---- what a builder is given
pub given_tells : (l f : List ℕ) (n : ℕ) → given l f n ≡ true → Legal (counted l) × (2 * n ≤ length (counted f))
given_tells l f n h =
    let p = and_parts (well_formed (counted l)) _ h in (well_formed_legal (counted l) p.0, leb-true _ _ p.1)

pub front_few : (old : List ℕ) (len : ℕ) → len ≡ min (length old) (2 ^ 28) → length (take (len - 0) old) ≤ 2 ^ 28
front_few old len cut = omega (arith, length-take (len - 0) old)

-- with one frame, formulas stand where they are
pub one_placed : (w x : ℕ) → in_question w 1 x ≡ x
one_placed w x = cond_both (ltb x (2 * w)) x (x + 2 * ((1 - 1) * w)) (λ y. y ≡ x) (λ _. refl) (λ _. omega (arith, zero-mul w))

-- ---- the questions, from what counts of the lists
module _ (l f l' f' : List ℕ) (n n' : ℕ) (is : l' ≡ l) (is' : f' ≡ f) (size : n' ≡ n) where
  pub start_list_lem : (r y : ℕ) → y ≡ in_frame (width (sheet_of l')) 0 (sheet_of l').bad →
      encode (width (sheet_of l') + n') 0 (state_clauses (sheet_of l') f' n' r y) ≡ start_list (sheet_of l) f n r
  start_list_lem r y e =
      ap (λ (y : ℕ). encode (width (sheet_of l') + n') 0 (state_clauses (sheet_of l') f' n' r y)) e ∙ (λ i. start_list (sheet_of (is i)) (is' i) (size i) r)

  pub inclusion_list_lem : (p r x y : ℕ) → x ≡ opposite r → y ≡ in_question (width (sheet_of l')) 1 x →
      encode (width (sheet_of l') + n') 0 (state_clauses (sheet_of l') f' n' p y) ≡ inclusion_list (sheet_of l) f n p r
  inclusion_list_lem p r x y o e =
      ap (λ (y : ℕ). encode (width (sheet_of l') + n') 0 (state_clauses (sheet_of l') f' n' p y)) (e ∙ ap (in_question (width (sheet_of l')) 1) o)
      ∙ (λ i. inclusion_list (sheet_of (is i)) (is' i) (size i) p r)

  pub path_list_lem : (r k : ℕ) → path_list (sheet_of l') f' n' r k ≡ path_list (sheet_of l) f n r k
  path_list_lem r k = (λ i. path_list (sheet_of (is i)) (is' i) (size i) r k)
