-- Which clause of a question is which, by its number. Assumes nothing.
use Rattle.std.proofs.Common.{◌≡◌, ℕ, zero, suc, ◌+◌, ◌-◌, ◌*◌, ◌<◌, ◌≤◌, eqb, List, [], ◌∷◌, ◌++◌, length, get_or, sym, refl, ap, ◌∙◌, ⊎_elim, suc-mul, zero-mul, arith}
use Rattle.std.proofs.lemmas.Nat.{mul-add-lt}
use Rattle.std.proofs.lemmas.List.{length-append, get_or_append_left, get_or-append_right}
use Rattle.std.proofs.lemmas.Bool.{cond-true, cond-false, eq-eqb, ne_eqb, cases_eq}
use Rattle.lists.specs.Stretch.{stretch}
use Rattle.sheet.specs.Sheets.{Sheet}
use Rattle.formula.specs.Conjunction.{opposite}
use Rattle.formula.specs.Formulas.{width}
use Rattle.formula.specs.Framing.{in_frame, in_question}
use Rattle.question.specs.Clauses.{gate_clauses, frame_clauses, latch_clauses, link_clauses, formula_gate, formula_clauses, unit, bad_clauses, state_clauses, first_clauses, second_clauses, path_clauses}
use Rattle.question.specs.Offsets.{frame_size, link_size, frame_start, link_start, gate_number, latch_number, formula_number, bad_number, PathNumbers, StateNumbers, PathAlwaysNumbers, StartAlwaysNumbers, InclusionAlwaysNumbers}
use Rattle.question.specs.Sizes.{first_clause_count, second_clause_count}
use Rattle.question.proofs.Counts.{stretch_length, frame_length, link_length, formula_length, state_length, first_length, second_length}

-- ---- stretches of equal parts
module _ {X : Type 0} (f : ℕ → List X) (c : ℕ) (each : (i : ℕ) → length (f i) ≡ c) where
  pub get_d_stretch : (n i j e : ℕ) (d : X) → j < n → e < c → get_or (stretch f i n) (j * c + e) d ≡ get_or (f (i + j)) e d
  get_d_stretch zero i j e d h l = absurd (omega arith)
  get_d_stretch (suc n) i zero e d h l =
      let at : 0 * c + e ≡ e = omega (arith, zero-mul c) in
      let same : i ≡ i + 0 = omega arith in
      ap (λ (k : ℕ). get_or (f i ++ stretch f (i + 1) n) k d) at ∙ get_or_append_left (f i) (stretch f (i + 1) n) d e (omega (arith, each i))
      ∙ ap (λ (k : ℕ). get_or (f k) e d) same
  get_d_stretch (suc n) i (suc j) e d h l =
      let at : suc j * c + e - c ≡ j * c + e = omega (arith, suc-mul j c) in
      let past : c ≤ suc j * c + e = omega (arith, suc-mul j c) in
      let same : i + 1 + j ≡ i + suc j = omega arith in
      get_or-append_right (f i) (stretch f (i + 1) n) c (suc j * c + e) d (each i) past
      ∙ ap (λ (k : ℕ). get_or (stretch f (i + 1) n) k d) at ∙ get_d_stretch n (i + 1) j e d (omega arith) l
      ∙ ap (λ (k : ℕ). get_or (f k) e d) same

-- behind n elements
past : {X : Type 0} (xs ys : List X) (n i j : ℕ) (d : X) → length xs ≡ n → j ≡ n + i → get_or (xs ++ ys) j d ≡ get_or ys i d
past xs ys n i j d long at =
    let back : j - n ≡ i = omega arith in
    get_or-append_right xs ys n j d long (omega arith) ∙ ap (λ (k : ℕ). get_or ys k d) back

module _ (s : Sheet) where
  abbrev w : ℕ
  w = width s

  -- ---- within a part
  gate_in_frame : (t g e : ℕ) → g < s.gates → e < 3 → get_or (frame_clauses s t) (1 + 3 * g + e) [] ≡ get_or (gate_clauses s t g) e []
  gate_in_frame t g e h l =
      let at : 1 + 3 * g + e ≡ suc (g * 3 + e) = omega arith in
      let same : 0 + g ≡ g = omega arith in
      ap (λ (k : ℕ). get_or (frame_clauses s t) k []) at ∙ get_d_stretch (gate_clauses s t) 3 (λ i. refl) s.gates 0 g e [] h l
      ∙ ap (λ (k : ℕ). get_or (gate_clauses s t k) e []) same

  latch_in_link : (t i e : ℕ) → i < s.latches → e < 2 → get_or (link_clauses s t) (2 * i + e) [] ≡ get_or (latch_clauses s t i) e []
  latch_in_link t i e h l =
      let at : 2 * i + e ≡ i * 2 + e = omega arith in
      let same : 0 + i ≡ i = omega arith in
      ap (λ (k : ℕ). get_or (link_clauses s t) k []) at ∙ get_d_stretch (latch_clauses s t) 2 (λ j. refl) s.latches 0 i e [] h l
      ∙ ap (λ (k : ℕ). get_or (latch_clauses s t k) e []) same

  gate_in_formulas : (m : ℕ) (f : List ℕ) (n g e : ℕ) → g < n → e < 3
      → get_or (formula_clauses s m f n) (3 * g + e) [] ≡ get_or (formula_gate s m f g) e []
  gate_in_formulas m f n g e h l =
      let at : 3 * g + e ≡ g * 3 + e = omega arith in
      let same : 0 + g ≡ g = omega arith in
      ap (λ (k : ℕ). get_or (formula_clauses s m f n) k []) at ∙ get_d_stretch (formula_gate s m f) 3 (λ j. refl) n 0 g e [] h l
      ∙ ap (λ (k : ℕ). get_or (formula_gate s m f k) e []) same

  -- ---- a path question
  module _ (f : List ℕ) (n r k : ℕ) where
    abbrev formulas : List (List ℕ)
    formulas = formula_clauses s (k + 2) f n

    abbrev own : List (List ℕ)
    own = unit s (k + 2) r

    abbrev firsts : List (List ℕ)
    firsts = first_clauses s f n r k

    abbrev frames : List (List ℕ)
    frames = stretch (frame_clauses s) 1 (k + 1)

    abbrev links : List (List ℕ)
    links = stretch (link_clauses s) 1 k

    firsts_length : length firsts ≡ first_clause_count s n
    firsts_length = first_length s f n r k

    frames_length : length frames ≡ (k + 1) * frame_size s
    frames_length = stretch_length (frame_clauses s) (frame_size s) (frame_length s) (k + 1) 1

    links_length : length links ≡ k * link_size s
    links_length = stretch_length (link_clauses s) (link_size s) (link_length s) k 1

    path_length : length (path_clauses s f n r k) ≡ first_clause_count s n + second_clause_count s k
    path_length = omega (arith, length-append firsts (second_clauses s k), firsts_length, second_length s k)

    in_first : (i : ℕ) → i < first_clause_count s n → get_or (path_clauses s f n r k) i [] ≡ get_or firsts i []
    in_first i h = get_or_append_left firsts (second_clauses s k) [] i (omega (arith, firsts_length))

    in_frame_lem : (t e : ℕ) → t ≤ k + 1 → e < frame_size s → get_or (path_clauses s f n r k) (frame_start s n t + e) [] ≡ get_or (frame_clauses s t) e []
    in_frame_lem t e h l =
        ⊎_elim
        (λ (z : t ≡ 0).
        let at : frame_start s n t + e ≡ e = omega (arith, cond-true (eqb t 0) 0 (first_clause_count s n + (t - 1) * frame_size s) (eq-eqb t 0 z)) in
        ap (λ (i : ℕ). get_or (path_clauses s f n r k) i []) at ∙ in_first e (omega arith)
        ∙ get_or_append_left (frame_clauses s 0) (link_clauses s 0 ++ (formulas ++ own)) [] e (omega (arith, frame_length s 0))
        ∙ ap (λ (i : ℕ). get_or (frame_clauses s i) e []) (sym z))
        (λ (z : t ≡ 0 → ⊥).
        let at : frame_start s n t + e ≡ first_clause_count s n + ((t - 1) * frame_size s + e) =
        omega (arith, cond-false (eqb t 0) 0 (first_clause_count s n + (t - 1) * frame_size s) (ne_eqb t 0 z)) in
        let same : 1 + (t - 1) ≡ t = omega arith in
        let low : (t - 1) * frame_size s + e < (k + 1) * frame_size s = omega (arith, mul-add-lt (t - 1) (frame_size s) e (k + 1) (omega arith) l) in
        past firsts (second_clauses s k) (first_clause_count s n) ((t - 1) * frame_size s + e) (frame_start s n t + e) [] firsts_length at
        ∙ get_or_append_left frames (links ++ bad_clauses s k) [] ((t - 1) * frame_size s + e) (omega (arith, frames_length))
        ∙ get_d_stretch (frame_clauses s) (frame_size s) (frame_length s) (k + 1) 1 (t - 1) e [] (omega arith) l
        ∙ ap (λ (i : ℕ). get_or (frame_clauses s i) e []) same)
        (cases_eq t 0)

    in_link : (t e : ℕ) → t ≤ k → e < link_size s → get_or (path_clauses s f n r k) (link_start s n k t + e) [] ≡ get_or (link_clauses s t) e []
    in_link t e h l =
        let later : ℕ = first_clause_count s n + (k + 1) * frame_size s + (t - 1) * link_size s in
        ⊎_elim
        (λ (z : t ≡ 0).
        let at : link_start s n k t + e ≡ frame_size s + e = omega (arith, cond-true (eqb t 0) (frame_size s) later (eq-eqb t 0 z)) in
        ap (λ (i : ℕ). get_or (path_clauses s f n r k) i []) at ∙ in_first (frame_size s + e) (omega arith)
        ∙ past (frame_clauses s 0) (link_clauses s 0 ++ (formulas ++ own)) (frame_size s) e (frame_size s + e) [] (frame_length s 0) refl
        ∙ get_or_append_left (link_clauses s 0) (formulas ++ own) [] e (omega (arith, link_length s 0))
        ∙ ap (λ (i : ℕ). get_or (link_clauses s i) e []) (sym z))
        (λ (z : t ≡ 0 → ⊥).
        let inner : ℕ = (t - 1) * link_size s + e in
        let at : link_start s n k t + e ≡ first_clause_count s n + ((k + 1) * frame_size s + inner) =
        omega (arith, cond-false (eqb t 0) (frame_size s) later (ne_eqb t 0 z)) in
        let same : 1 + (t - 1) ≡ t = omega arith in
        let low : inner < k * link_size s = omega (arith, mul-add-lt (t - 1) (link_size s) e k (omega arith) l) in
        past firsts (second_clauses s k) (first_clause_count s n) ((k + 1) * frame_size s + inner) (link_start s n k t + e) [] firsts_length at
        ∙ past frames (links ++ bad_clauses s k) ((k + 1) * frame_size s) inner ((k + 1) * frame_size s + inner) [] frames_length refl
        ∙ get_or_append_left links (bad_clauses s k) [] inner (omega (arith, links_length))
        ∙ get_d_stretch (link_clauses s) (link_size s) (link_length s) k 1 (t - 1) e [] (omega arith) l
        ∙ ap (λ (i : ℕ). get_or (link_clauses s i) e []) same)
        (cases_eq t 0)

    -- behind frame 0 and link 0
    in_rest : (i : ℕ) → i < 3 * n + 1 → get_or (path_clauses s f n r k) (frame_size s + link_size s + i) [] ≡ get_or (formulas ++ own) i []
    in_rest i h =
        let at : frame_size s + link_size s + i ≡ frame_size s + (link_size s + i) = omega arith in
        in_first (frame_size s + link_size s + i) (omega arith)
        ∙ past (frame_clauses s 0) (link_clauses s 0 ++ (formulas ++ own)) (frame_size s) (link_size s + i) (frame_size s + link_size s + i) [] (frame_length s 0) at
        ∙ past (link_clauses s 0) (formulas ++ own) (link_size s) i (link_size s + i) [] (link_length s 0) refl

    pub path_numbered : PathNumbers s f n r k
    path_numbered =
        record {
          first_size = firsts_length;
          size = path_length;
          constants = λ t h.
              let at : frame_start s n t ≡ frame_start s n t + 0 = omega arith in
              ap (λ (i : ℕ). get_or (path_clauses s f n r k) i []) at ∙ in_frame_lem t 0 h (omega arith);
          gates = λ t g e h l m.
              let at : gate_number s n t g + e ≡ frame_start s n t + (1 + 3 * g + e) = omega arith in
              ap (λ (i : ℕ). get_or (path_clauses s f n r k) i []) at ∙ in_frame_lem t (1 + 3 * g + e) h (omega arith) ∙ gate_in_frame t g e l m;
          latches = λ t i e h l m.
              let at : latch_number s n k t i + e ≡ link_start s n k t + (2 * i + e) = omega arith in
              ap (λ (j : ℕ). get_or (path_clauses s f n r k) j []) at ∙ in_link t (2 * i + e) h (omega arith) ∙ latch_in_link t i e l m;
          formula_gates = λ g e h l.
              let at : formula_number s g + e ≡ frame_size s + link_size s + (3 * g + e) = omega arith in
              ap (λ (i : ℕ). get_or (path_clauses s f n r k) i []) at ∙ in_rest (3 * g + e) (omega arith)
              ∙ get_or_append_left formulas own [] (3 * g + e) (omega (arith, formula_length s (k + 2) f n)) ∙ gate_in_formulas (k + 2) f n g e h l;
          formula =
              let at : 3 * n ≡ 3 * n + 0 = omega arith in
              in_rest (3 * n) (omega arith) ∙ past formulas own (3 * n) 0 (3 * n) [] (formula_length s (k + 2) f n) at;
          bad =
              let at : bad_number s n k ≡ first_clause_count s n + ((k + 1) * frame_size s + k * link_size s) = omega arith in
              let end : k * link_size s ≡ k * link_size s + 0 = omega arith in
              past firsts (second_clauses s k) (first_clause_count s n) ((k + 1) * frame_size s + k * link_size s) (bad_number s n k) [] firsts_length at
              ∙ past frames (links ++ bad_clauses s k) ((k + 1) * frame_size s) (k * link_size s) ((k + 1) * frame_size s + k * link_size s) [] frames_length refl
              ∙ past links (bad_clauses s k) (k * link_size s) 0 (k * link_size s) [] links_length end;
        }

  -- ---- a question with one frame
  module _ (f : List ℕ) (n x y : ℕ) where
    abbrev ends : List (List ℕ)
    ends = unit s 1 x ++ ((y ∷ []) ∷ [])

    abbrev rest : List (List ℕ)
    rest = formula_clauses s 1 f n ++ ends

    in_front : (e : ℕ) → e < frame_size s → get_or (state_clauses s f n x y) e [] ≡ get_or (frame_clauses s 0) e []
    in_front e h = get_or_append_left (frame_clauses s 0) rest [] e (omega (arith, frame_length s 0))

    behind : (i j : ℕ) → j ≡ frame_size s + i → get_or (state_clauses s f n x y) j [] ≡ get_or rest i []
    behind i j at = past (frame_clauses s 0) rest (frame_size s) i j [] (frame_length s 0) at

    at_end : (i : ℕ) → get_or rest (3 * n + i) [] ≡ get_or ends i []
    at_end i = past (formula_clauses s 1 f n) ends (3 * n) i (3 * n + i) [] (formula_length s 1 f n) refl

    pub state_numbered : StateNumbers s f n x y (state_clauses s f n x y)
    state_numbered =
        record {
          size = state_length s f n x y;
          constant = refl;
          gates = λ g e h l. in_front (1 + 3 * g + e) (omega arith) ∙ gate_in_frame 0 g e h l;
          formula_gates = λ g e h l.
              behind (3 * g + e) (frame_size s + 3 * g + e) (omega arith)
              ∙ get_or_append_left (formula_clauses s 1 f n) ends [] (3 * g + e) (omega (arith, formula_length s 1 f n)) ∙ gate_in_formulas 1 f n g e h l;
          first = behind (3 * n + 0) (frame_size s + 3 * n) (omega arith) ∙ at_end 0;
          second = behind (3 * n + 1) (frame_size s + 3 * n + 1) (omega arith) ∙ at_end 1;
        }

pub path_numbers : PathAlwaysNumbers
path_numbers = path_numbered

pub start_numbers : StartAlwaysNumbers
start_numbers s f n r = state_numbered s f n r (in_frame (width s) 0 s.bad)

pub inclusion_numbers : InclusionAlwaysNumbers
inclusion_numbers s f n p r = state_numbered s f n p (in_question (width s) 1 (opposite r))
