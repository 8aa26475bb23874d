-- What holds of each clause of a question, part by part. Assumes nothing.
use Rattle.std.proofs.Common.{◌≡◌, ℕ, zero, suc, ◌+◌, ◌<◌, ◌≤◌, List, [], ◌∷◌, ◌++◌, ⊎_elim, arith}
use Rattle.std.specs.List.{AllByRecursion}
use Rattle.std.proofs.ByRecursion.{All-append}
use Rattle.std.proofs.lemmas.Bool.{cases_eq}
use Rattle.lists.specs.Stretch.{stretch}
use Rattle.sheet.specs.Sheets.{Sheet}
use Rattle.formula.specs.Formulas.{width}
use Rattle.formula.specs.Framing.{in_frame, in_question}
use Rattle.question.specs.Clauses.{gate_clauses, frame_clauses, latch_clauses, link_clauses, formula_gate, formula_clauses, unit, bad_clauses, state_clauses, first_clauses, second_clauses, path_clauses}

-- ---- stretches
module _ {X : Type 0} (P : X → Type 0) where
  pub all_parts : (xs ys : List X) → AllByRecursion P (xs ++ ys) → AllByRecursion P xs × AllByRecursion P ys
  all_parts [] ys h = (tt, h)
  all_parts (x ∷ xs) ys h = let r = all_parts xs ys h.1 in ((h.0, r.0), r.1)

  pub stretch_all : (f : ℕ → List X) (n i : ℕ) → ((j : ℕ) → i ≤ j → j < i + n → AllByRecursion P (f j)) → AllByRecursion P (stretch f i n)
  stretch_all f zero i h = tt
  stretch_all f (suc n) i h =
      All-append P (f i) (stretch f (i + 1) n) (h i (omega arith) (omega arith)) (stretch_all f n (i + 1) (λ j a b. h j (omega arith) (omega arith)))

  pub all_stretch : (f : ℕ → List X) (n i : ℕ) → AllByRecursion P (stretch f i n) → (j : ℕ) → i ≤ j → j < i + n → AllByRecursion P (f j)
  all_stretch f zero i h j a b = absurd (omega arith)
  all_stretch f (suc n) i h j a b =
      let r = all_parts (f i) (stretch f (i + 1) n) h in
      ⊎_elim
      (λ (e : j ≡ i). rw e r.0)
      (λ (e : j ≡ i → ⊥). all_stretch f n (i + 1) r.1 j (omega arith) (omega arith))
      (cases_eq j i)

pub all_both : {X : Type 0} (P Q R : X → Type 0) → ((x : X) → P x → Q x → R x) → (xs : List X) → AllByRecursion P xs → AllByRecursion Q xs → AllByRecursion R xs
all_both P Q R join [] p q = tt
all_both P Q R join (x ∷ xs) p q = (join x p.0 q.0, all_both P Q R join xs p.1 q.1)

-- ---- the parts
module _ (P : List ℕ → Type 0) (s : Sheet) where
  pub record FrameParts (t : ℕ) : Type 0 where
    pub constant : P (in_frame (width s) t 1 ∷ [])
    pub gates : (g : ℕ) → g < s.gates → AllByRecursion P (gate_clauses s t g)

  pub frame_parts : (t : ℕ) → AllByRecursion P (frame_clauses s t) → FrameParts t
  frame_parts t h =
      record { constant = h.0; gates = λ g l. all_stretch P (gate_clauses s t) s.gates 0 h.1 g (omega arith) (omega arith) }

  pub frame_whole : (t : ℕ) → FrameParts t → AllByRecursion P (frame_clauses s t)
  frame_whole t p = (p.constant, stretch_all P (gate_clauses s t) s.gates 0 (λ g _ l. p.gates g (omega arith)))

  -- of each latch's two clauses in link t
  abbrev pub LinkParts : ℕ → Type 0
  LinkParts t = (i : ℕ) → i < s.latches → AllByRecursion P (latch_clauses s t i)

  pub link_parts : (t : ℕ) → AllByRecursion P (link_clauses s t) → LinkParts t
  link_parts t h i l = all_stretch P (latch_clauses s t) s.latches 0 h i (omega arith) (omega arith)

  pub link_whole : (t : ℕ) → LinkParts t → AllByRecursion P (link_clauses s t)
  link_whole t h = stretch_all P (latch_clauses s t) s.latches 0 (λ i _ l. h i (omega arith))

  -- of each formula gate's three clauses
  abbrev pub FormulaParts : ℕ → List ℕ → ℕ → Type 0
  FormulaParts m f n = (g : ℕ) → g < n → AllByRecursion P (formula_gate s m f g)

  pub formula_parts : (m : ℕ) (f : List ℕ) (n : ℕ) → AllByRecursion P (formula_clauses s m f n) → FormulaParts m f n
  formula_parts m f n h g l = all_stretch P (formula_gate s m f) n 0 h g (omega arith) (omega arith)

  pub formula_whole : (m : ℕ) (f : List ℕ) (n : ℕ) → FormulaParts m f n → AllByRecursion P (formula_clauses s m f n)
  formula_whole m f n h = stretch_all P (formula_gate s m f) n 0 (λ g _ l. h g (omega arith))

  -- ---- the questions with one frame
  pub record StateParts (f : List ℕ) (n x y : ℕ) : Type 0 where
    pub frame : FrameParts 0
    pub formulas : FormulaParts 1 f n
    pub first : P (in_question (width s) 1 x ∷ [])
    pub second : P (y ∷ [])

  pub state_parts : (f : List ℕ) (n x y : ℕ) → AllByRecursion P (state_clauses s f n x y) → StateParts f n x y
  state_parts f n x y h =
      let ends : List (List ℕ) = unit s 1 x ++ ((y ∷ []) ∷ []) in
      let a = all_parts P (frame_clauses s 0) (formula_clauses s 1 f n ++ ends) h in
      let b = all_parts P (formula_clauses s 1 f n) ends a.1 in
      record { frame = frame_parts 0 a.0; formulas = formula_parts 1 f n b.0; first = b.1.0; second = b.1.1.0 }

  pub state_whole : (f : List ℕ) (n x y : ℕ) → StateParts f n x y → AllByRecursion P (state_clauses s f n x y)
  state_whole f n x y p =
      let ends : List (List ℕ) = unit s 1 x ++ ((y ∷ []) ∷ []) in
      All-append P (frame_clauses s 0) (formula_clauses s 1 f n ++ ends) (frame_whole 0 p.frame)
      (All-append P (formula_clauses s 1 f n) ends (formula_whole 1 f n p.formulas) (p.first, (p.second, tt)))

  -- ---- the path question
  pub record FirstParts (f : List ℕ) (n r k : ℕ) : Type 0 where
    pub frame : FrameParts 0
    pub link : LinkParts 0
    pub formulas : FormulaParts (k + 2) f n
    pub begin : P (in_question (width s) (k + 2) r ∷ [])

  pub record SecondParts (k : ℕ) : Type 0 where
    pub frames : (t : ℕ) → 1 ≤ t → t ≤ k + 1 → FrameParts t
    pub links : (t : ℕ) → 1 ≤ t → t ≤ k → LinkParts t
    pub end : P (stretch (λ t. in_frame (width s) t s.bad ∷ []) 1 (k + 1))

  pub first_parts : (f : List ℕ) (n r k : ℕ) → AllByRecursion P (first_clauses s f n r k) → FirstParts f n r k
  first_parts f n r k h =
      let u : List (List ℕ) = unit s (k + 2) r in
      let fs : List (List ℕ) = formula_clauses s (k + 2) f n in
      let a = all_parts P (frame_clauses s 0) (link_clauses s 0 ++ (fs ++ u)) h in
      let b = all_parts P (link_clauses s 0) (fs ++ u) a.1 in
      let c = all_parts P fs u b.1 in
      record { frame = frame_parts 0 a.0; link = link_parts 0 b.0; formulas = formula_parts (k + 2) f n c.0; begin = c.1.0 }

  pub first_whole : (f : List ℕ) (n r k : ℕ) → FirstParts f n r k → AllByRecursion P (first_clauses s f n r k)
  first_whole f n r k p =
      let u : List (List ℕ) = unit s (k + 2) r in
      let fs : List (List ℕ) = formula_clauses s (k + 2) f n in
      All-append P (frame_clauses s 0) (link_clauses s 0 ++ (fs ++ u)) (frame_whole 0 p.frame)
      (All-append P (link_clauses s 0) (fs ++ u) (link_whole 0 p.link)
      (All-append P fs u (formula_whole (k + 2) f n p.formulas) (p.begin, tt)))

  pub second_parts : (k : ℕ) → AllByRecursion P (second_clauses s k) → SecondParts k
  second_parts k h =
      let b : List (List ℕ) = bad_clauses s k in
      let a = all_parts P (stretch (frame_clauses s) 1 (k + 1)) (stretch (link_clauses s) 1 k ++ b) h in
      let c = all_parts P (stretch (link_clauses s) 1 k) b a.1 in
      record {
        frames = λ t l m. frame_parts t (all_stretch P (frame_clauses s) (k + 1) 1 a.0 t l (omega arith));
        links = λ t l m. link_parts t (all_stretch P (link_clauses s) k 1 c.0 t l (omega arith));
        end = c.1.0;
      }

  pub second_whole : (k : ℕ) → SecondParts k → AllByRecursion P (second_clauses s k)
  second_whole k p =
      let b : List (List ℕ) = bad_clauses s k in
      All-append P (stretch (frame_clauses s) 1 (k + 1)) (stretch (link_clauses s) 1 k ++ b)
      (stretch_all P (frame_clauses s) (k + 1) 1 (λ t l m. frame_whole t (p.frames t l (omega arith))))
      (All-append P (stretch (link_clauses s) 1 k) b (stretch_all P (link_clauses s) k 1 (λ t l m. link_whole t (p.links t l (omega arith)))) (p.end, tt))

  pub path_parts : (f : List ℕ) (n r k : ℕ) → AllByRecursion P (path_clauses s f n r k) → FirstParts f n r k × SecondParts k
  path_parts f n r k h =
      let a = all_parts P (first_clauses s f n r k) (second_clauses s k) h in
      (first_parts f n r k a.0, second_parts k a.1)

  pub path_whole : (f : List ℕ) (n r k : ℕ) → FirstParts f n r k → SecondParts k → AllByRecursion P (path_clauses s f n r k)
  path_whole f n r k p q = All-append P (first_clauses s f n r k) (second_clauses s k) (first_whole f n r k p) (second_whole k q)
