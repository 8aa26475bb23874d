-- Which questions have numbers of 32 bits alone. Assumes nothing.
use Rattle.std.proofs.Common.{◌≡◌, ℕ, ◌+◌, ◌-◌, ◌*◌, ◌/◌, ◌%◌, ◌^◌, ◌<◌, ◌≤◌, Bool, true, false, ◌&&◌, ltb, List, [], ◌∷◌, length, get_or, take, sym, refl, ap, ◌∙◌, subst, ⊎_elim, arith}
use Rattle.std.specs.List.{list_all, AllByRecursion}
use Rattle.std.proofs.lemmas.Nat.{mul-le}
use Rattle.std.proofs.ByRecursion.{All-append, All-weaker}
use Rattle.std.proofs.lemmas.List.{get_or-take, get_or_default, length-take-le, length-append}
use Rattle.std.proofs.lemmas.List.Sums.{AllPass-from_list_all, list_all-from_AllPass}
use Rattle.std.proofs.lemmas.Bool.{and_parts, and_from, ltb-true, lt-ltb, cond_both, cases_eq}
use Rattle.sheet.specs.Sheets.{Sheet, Legal, sheet_of}
use Rattle.formula.specs.Formulas.{width, left_of, right_of}
use Rattle.formula.specs.Framing.{in_question}
use Rattle.question.specs.Clauses.{state_clauses, path_clauses}
use Rattle.question.specs.Layout.{flat, starts, encode, all_below}
use Rattle.question.specs.Writing.{OperandsFit}
use Rattle.question.proofs.Literals.{opposite_half}
use Rattle.question.proofs.Parts.{all_parts, FormulaParts, state_parts, state_whole, path_parts, path_whole}
use Rattle.question.proofs.Variables.{Lawful, legal_lawful, Over, NodesOf, frame_over, link_over, end_over}

-- ---- the test, and what it tests
same_test : (a b : Bool) → (a ≡ true → b ≡ true) → (b ≡ true → a ≡ true) → a ≡ b
same_test true b f g = sym (f refl)
same_test false true f g = g refl
same_test false false f g = refl

below_all : (m : ℕ) (xs : List ℕ) → all_below m xs ≡ true → AllByRecursion (λ x. x < m) xs
below_all m [] h = tt
below_all m (x ∷ xs) h = let p = and_parts (ltb x m) (all_below m xs) h in (ltb-true x m p.0, below_all m xs p.1)

all_below_lem : (m : ℕ) (xs : List ℕ) → AllByRecursion (λ x. x < m) xs → all_below m xs ≡ true
all_below_lem m [] h = refl
all_below_lem m (x ∷ xs) h = and_from _ _ (lt-ltb x m h.0) (all_below_lem m xs h.1)

-- ---- the operands of n gates
module _ (h : ℕ → ℕ) (m : ℕ) (f : List ℕ) (n : ℕ) (whole : 2 * n ≤ length f) where
  abbrev fits : ℕ → Bool
  fits x = ltb (h x) m

  pub operands_tell : list_all fits (take (2 * n) f) ≡ true → (g : ℕ) → g < n → (h (left_of f g) < m) × (h (right_of f g) < m)
  operands_tell fit g lt =
      let at : (i : ℕ) → i < 2 * n → h (get_or f i 0) < m = λ i in'.
      ltb-true _ _ (ap fits (sym (get_or-take (2 * n) f i 0 in')) ∙ AllPass-from_list_all fits (take (2 * n) f) fit i 0 (omega (arith, length-take-le (2 * n) f whole))) in
      (at (2 * g) (omega arith), at (2 * g + 1) (omega arith))

  pub operands_fit : ((g : ℕ) → g < n → (h (left_of f g) < m) × (h (right_of f g) < m)) → list_all fits (take (2 * n) f) ≡ true
  operands_fit each =
      list_all-from_AllPass fits (take (2 * n) f) (λ i d lt.
      let in' : i < 2 * n = omega (arith, length-take-le (2 * n) f whole) in
      let both = each (i / 2) (omega arith) in
      ap fits (get_or-take (2 * n) f i d in' ∙ get_or_default f i d 0 (omega arith))
      ∙ lt-ltb _ _ (⊎_elim
      (λ (even : i % 2 ≡ 0). let e : 2 * (i / 2) ≡ i = omega arith in subst (λ (j : ℕ). h (get_or f j 0) < m) e both.0)
      (λ (odd : i % 2 ≡ 0 → ⊥). let e : 2 * (i / 2) + 1 ≡ i = omega arith in subst (λ (j : ℕ). h (get_or f j 0) < m) e both.1)
      (cases_eq (i % 2) 0)))

-- ---- variables whose literals have 32 bits
abbrev pub Small : ℕ → Type 0
Small j = j < 2 ^ 31

over_flat : (cs : List (List ℕ)) → AllByRecursion (Over Small) cs → AllByRecursion (λ x. x < 2 ^ 32) (flat cs)
over_flat [] h = tt
over_flat (c ∷ cs) h =
    All-append (λ x. x < 2 ^ 32) c (flat cs) (All-weaker (λ x. Small (x / 2)) (λ x. x < 2 ^ 32) (λ x l. omega arith) c h.0) (over_flat cs h.1)

flat_over : (cs : List (List ℕ)) → AllByRecursion (λ x. x < 2 ^ 32) (flat cs) → AllByRecursion (Over Small) cs
flat_over [] h = tt
flat_over (c ∷ cs) h =
    let p = all_parts (λ x. x < 2 ^ 32) c (flat cs) h in
    (All-weaker (λ x. x < 2 ^ 32) (λ x. Small (x / 2)) (λ x l. omega arith) c p.0, flat_over cs p.1)

pub small_below : (cs : List (List ℕ)) → AllByRecursion (Over Small) cs → all_below (2 ^ 32) (flat cs) ≡ true
small_below cs h = all_below_lem (2 ^ 32) (flat cs) (over_flat cs h)

below_small : (cs : List (List ℕ)) → all_below (2 ^ 32) (flat cs) ≡ true → AllByRecursion (Over Small) cs
below_small cs h = flat_over cs (below_all (2 ^ 32) (flat cs) h)

-- ---- a whole list
starts_below : (m : ℕ) (cs : List (List ℕ)) (t : ℕ) → t + length (flat cs) < m → AllByRecursion (λ x. x < m) (starts t cs)
starts_below m [] t h = tt
starts_below m (c ∷ cs) t h =
    let size = length-append c (flat cs) in
    (omega arith, starts_below m cs (t + length c) (omega arith))

pub encode_below : (m v a : ℕ) (cs : List (List ℕ)) → v < m → a ≤ length cs → 4 + length cs + length (flat cs) < m →
    all_below m (encode v a cs) ≡ all_below m (flat cs)
encode_below m v a cs vs firsts room =
    let t : ℕ = 4 + length cs in
    let end : ℕ = t + length (flat cs) in
    let P : ℕ → Type 0 = λ x. x < m in
    same_test (all_below m (encode v a cs)) (all_below m (flat cs))
    (λ h.
    let all = below_all m (encode v a cs) h in
    all_below_lem m (flat cs) (all_parts P (starts t cs) (end ∷ flat cs) all.1.1.1).1.1)
    (λ h.
    all_below_lem m (encode v a cs)
    (vs, (omega arith, (omega arith, All-append P (starts t cs) (end ∷ flat cs) (starts_below m cs t room) (room, below_all m (flat cs) h)))))

-- ---- a formula's gates
module _ (s : Sheet) (few : width s ≤ 249) (m : ℕ) (most : m ≤ 32) (f : List ℕ) (n : ℕ) (some : n ≤ 2 ^ 27) where
  abbrev w : ℕ
  w = width s

  -- a gate's own literal has 32 bits
  own : (g : ℕ) → g < n → in_question w m (2 * (w + g)) < 2 ^ 31
  own g lt =
      let offset = mul-le (m - 1) w 31 249 (omega arith) few in
      cond_both (ltb (2 * (w + g)) (2 * w)) (2 * (w + g)) (2 * (w + g) + 2 * ((m - 1) * w)) (λ x. x < 2 ^ 31) (λ _. omega arith) (λ _. omega arith)

  gates_small : OperandsFit w m f n → FormulaParts (Over Small) s m f n
  gates_small fit g lt =
      let p : ℕ = in_question w m (left_of f g) in
      let q : ℕ = in_question w m (right_of f g) in
      let x : ℕ = in_question w m (2 * (w + g)) in
      let a : p < 2 ^ 32 = (fit g lt).0 in
      let b : q < 2 ^ 32 = (fit g lt).1 in
      let c : x < 2 ^ 31 = own g lt in
      let d : (x + 1) / 2 < 2 ^ 31 = omega arith in (
        (omega arith, (d, tt)),
        ((omega arith, (d, tt)), ((omega (arith, opposite_half q), (omega (arith, opposite_half p), (omega arith, tt))), tt)),
      )

  small_gates : FormulaParts (Over Small) s m f n → OperandsFit w m f n
  small_gates h g lt =
      let p : ℕ = in_question w m (left_of f g) in
      let q : ℕ = in_question w m (right_of f g) in
      let a : p / 2 < 2 ^ 31 = (h g lt).0.0 in
      let b : q / 2 < 2 ^ 31 = (h g lt).1.0.0 in
      (omega arith, omega arith)

-- ---- the questions of a legal sheet and a formula list with n gates: their numbers have 32 bits if those of the formula have
module _ (l : List ℕ) (legal : Legal l) (f : List ℕ) (n : ℕ) (whole : 2 * n ≤ length f) (counts : length f ≤ 2 ^ 28) where
  abbrev s : Sheet
  s = sheet_of l

  lawful : Lawful s
  lawful = legal_lawful l legal

  pub few_nodes : width s ≤ 249
  few_nodes =
      let a : s.inputs ≤ 24 = legal.few_inputs in
      let b : s.latches ≤ 24 = legal.few_latches in
      let c : s.gates ≤ 200 = legal.few_gates in
      omega arith

  pub few_gates : n ≤ 2 ^ 27
  few_gates = omega arith

  nodes_small : (t : ℕ) → t ≤ 31 → NodesOf Small s lawful t
  nodes_small t h j lt = omega (arith, mul-le t (width s) 31 249 h few_nodes)

  -- what the code tests, where there are m frames
  abbrev pub formula_fits : ℕ → ℕ → Bool
  formula_fits m x = list_all (λ x. ltb (in_question (width s) m x) (2 ^ 32)) (take (2 * n) f) && ltb (in_question (width s) m x) (2 ^ 32)

  pub record Fitting (m x : ℕ) : Type 0 where
    pub operands : OperandsFit (width s) m f n
    pub literal : in_question (width s) m x < 2 ^ 32

  pub fitting_tells : (m x : ℕ) → formula_fits m x ≡ true → Fitting m x
  fitting_tells m x h =
      let p = and_parts (list_all (λ x. ltb (in_question (width s) m x) (2 ^ 32)) (take (2 * n) f)) _ h in
      record { operands = operands_tell (in_question (width s) m) (2 ^ 32) f n whole p.0; literal = ltb-true _ _ p.1 }

  fitting_from : (m x : ℕ) → Fitting m x → formula_fits m x ≡ true
  fitting_from m x h = and_from _ _ (operands_fit (in_question (width s) m) (2 ^ 32) f n whole h.operands) (lt-ltb _ _ h.literal)

  pub state_below : (x y : ℕ) → y < 2 ^ 32 → all_below (2 ^ 32) (flat (state_clauses s f n x y)) ≡ formula_fits 1 x
  state_below x y ys =
      let x' : ℕ = in_question (width s) 1 x in
      same_test (all_below (2 ^ 32) (flat (state_clauses s f n x y))) (formula_fits 1 x)
      (λ h.
      let p = state_parts (Over Small) s f n x y (below_small (state_clauses s f n x y) h) in
      let first : x' / 2 < 2 ^ 31 = p.first.0 in
      fitting_from 1 x (record { operands = small_gates s few_nodes 1 (omega arith) f n few_gates p.formulas; literal = omega arith }))
      (λ h.
      let fit = fitting_tells 1 x h in
      let first : x' < 2 ^ 32 = fit.literal in
      small_below (state_clauses s f n x y)
      (state_whole (Over Small) s f n x y
      (record {
        frame = frame_over Small s lawful 0 (nodes_small 0 (omega arith));
        formulas = gates_small s few_nodes 1 (omega arith) f n few_gates fit.operands;
        first = (omega arith, tt);
        second = (omega arith, tt);
      })))

  pub path_below : (r k : ℕ) → k ≤ 30 → all_below (2 ^ 32) (flat (path_clauses s f n r k)) ≡ formula_fits (k + 2) r
  path_below r k bound =
      let r' : ℕ = in_question (width s) (k + 2) r in
      same_test (all_below (2 ^ 32) (flat (path_clauses s f n r k))) (formula_fits (k + 2) r)
      (λ h.
      let p = (path_parts (Over Small) s f n r k (below_small (path_clauses s f n r k) h)).0 in
      let first : r' / 2 < 2 ^ 31 = p.begin.0 in
      fitting_from (k + 2) r (record { operands = small_gates s few_nodes (k + 2) (omega arith) f n few_gates p.formulas; literal = omega arith }))
      (λ h.
      let fit = fitting_tells (k + 2) r h in
      let first : r' < 2 ^ 32 = fit.literal in
      let latches : (t : ℕ) → t ≤ 31 → (i : ℕ) → i < s.latches → Small (t * width s + (1 + s.inputs + i)) = λ t h i lt. nodes_small t h (1 + s.inputs + i) (omega arith) in
      small_below (path_clauses s f n r k)
      (path_whole (Over Small) s f n r k
      (record {
        frame = frame_over Small s lawful 0 (nodes_small 0 (omega arith));
        link = link_over Small s lawful 0 (nodes_small 0 (omega arith)) (latches 1 (omega arith));
        formulas = gates_small s few_nodes (k + 2) (omega arith) f n few_gates fit.operands;
        begin = (omega arith, tt);
      })
      (record {
        frames = λ t a b. frame_over Small s lawful t (nodes_small t (omega arith));
        links = λ t a b. link_over Small s lawful t (nodes_small t (omega arith)) (latches (t + 1) (omega arith));
        end = end_over Small s lawful k (λ t a b. nodes_small t (omega arith));
      })))
