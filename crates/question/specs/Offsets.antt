-- Which clause of a question is which, by its number. Assumes nothing.
use Rattle.std.specs.Prelude.{◌≡◌, ℕ, ◌+◌, ◌-◌, ◌*◌, ◌<◌, ◌≤◌, cond, List, [], ◌∷◌, length, get_or, ◌==◌, slice_index_or}
use Rattle.lists.specs.Stretch.{stretch}
use Rattle.sheet.specs.Sheets.{Sheet}
use Rattle.formula.specs.Conjunction.{opposite}
use Rattle.formula.specs.Formulas.{width}
use Rattle.formula.specs.Framing.{in_frame, in_question}
use Rattle.question.specs.Clauses.{gate_clauses, latch_clauses, formula_gate, start_clauses, first_clauses, path_clauses, inclusion_clauses}
use Rattle.question.specs.Questions.{clause_count, first_count, clause_of}
use Rattle.question.specs.Sizes.{state_clause_count, first_clause_count, second_clause_count}

-- how many clauses a frame has, and a link
abbrev pub frame_size : Sheet → ℕ
frame_size s = 1 + 3 * s.gates

abbrev pub link_size : Sheet → ℕ
link_size s = 2 * s.latches

-- ---- numbers in a path question
-- where frame t starts: the clause of node 0, then three for each gate
abbrev pub frame_start : Sheet → ℕ → ℕ → ℕ
frame_start s n t = cond (t == 0) 0 (first_clause_count s n + (t - 1) * frame_size s)

abbrev pub gate_number : Sheet → ℕ → ℕ → ℕ → ℕ
gate_number s n t g = frame_start s n t + 1 + 3 * g

-- where link t starts: two for each latch
abbrev pub link_start : Sheet → ℕ → ℕ → ℕ → ℕ
link_start s n k t = cond (t == 0) (frame_size s) (first_clause_count s n + (k + 1) * frame_size s + (t - 1) * link_size s)

abbrev pub latch_number : Sheet → ℕ → ℕ → ℕ → ℕ → ℕ
latch_number s n k t i = link_start s n k t + 2 * i

-- three for each formula gate, then the formula
abbrev pub formula_number : Sheet → ℕ → ℕ
formula_number s g = frame_size s + link_size s + 3 * g

abbrev pub bad_number : Sheet → ℕ → ℕ → ℕ
bad_number s n k = first_clause_count s n + (k + 1) * frame_size s + k * link_size s

-- c clauses, a of them in the first part, of which number i is `clause i`
pub record PathNumbered (s : Sheet) (f : List ℕ) (n r k a c : ℕ) (clause : ℕ → List ℕ) : Type 0 where
  pub first_size : a ≡ first_clause_count s n
  pub size : c ≡ first_clause_count s n + second_clause_count s k
  pub constants : (t : ℕ) → t ≤ k + 1 → clause (frame_start s n t) ≡ (in_frame (width s) t 1 ∷ [])
  pub gates : (t g e : ℕ) → t ≤ k + 1 → g < s.gates → e < 3 → clause (gate_number s n t g + e) ≡ slice_index_or (gate_clauses s t g) e []
  pub latches : (t i e : ℕ) → t ≤ k → i < s.latches → e < 2 → clause (latch_number s n k t i + e) ≡ slice_index_or (latch_clauses s t i) e []
  pub formula_gates : (g e : ℕ) → g < n → e < 3 → clause (formula_number s g + e) ≡ slice_index_or (formula_gate s (k + 2) f g) e []
  pub formula : clause (formula_number s n) ≡ (in_question (width s) (k + 2) r ∷ [])
  pub bad : clause (bad_number s n k) ≡ stretch (λ t. in_frame (width s) t s.bad ∷ []) 1 (k + 1)

pub record PathNumbers (s : Sheet) (f : List ℕ) (n r k : ℕ) : Type 0 where
  pub first_size : length (first_clauses s f n r k) ≡ first_clause_count s n
  pub size : length (path_clauses s f n r k) ≡ first_clause_count s n + second_clause_count s k
  pub constants : (t : ℕ) → t ≤ k + 1 → slice_index_or (path_clauses s f n r k) (frame_start s n t) [] ≡ (in_frame (width s) t 1 ∷ [])
  pub gates : (t g e : ℕ) → t ≤ k + 1 → g < s.gates → e < 3
      → slice_index_or (path_clauses s f n r k) (gate_number s n t g + e) [] ≡ slice_index_or (gate_clauses s t g) e []
  pub latches : (t i e : ℕ) → t ≤ k → i < s.latches → e < 2
      → slice_index_or (path_clauses s f n r k) (latch_number s n k t i + e) [] ≡ slice_index_or (latch_clauses s t i) e []
  pub formula_gates : (g e : ℕ) → g < n → e < 3
      → slice_index_or (path_clauses s f n r k) (formula_number s g + e) [] ≡ slice_index_or (formula_gate s (k + 2) f g) e []
  pub formula : get_or (path_clauses s f n r k) (formula_number s n) [] ≡ (in_question (width s) (k + 2) r ∷ [])
  pub bad : get_or (path_clauses s f n r k) (bad_number s n k) [] ≡ stretch (λ t. in_frame (width s) t s.bad ∷ []) 1 (k + 1)

-- ---- numbers in a question with one frame, at whose end a formula literal x and a literal y have to be true
pub record StateNumbered (s : Sheet) (f : List ℕ) (n x y c : ℕ) (clause : ℕ → List ℕ) : Type 0 where
  pub size : c ≡ state_clause_count s n
  pub constant : clause 0 ≡ (in_frame (width s) 0 1 ∷ [])
  pub gates : (g e : ℕ) → g < s.gates → e < 3 → clause (1 + 3 * g + e) ≡ slice_index_or (gate_clauses s 0 g) e []
  pub formula_gates : (g e : ℕ) → g < n → e < 3 → clause (frame_size s + 3 * g + e) ≡ slice_index_or (formula_gate s 1 f g) e []
  pub first : clause (frame_size s + 3 * n) ≡ (in_question (width s) 1 x ∷ [])
  pub second : clause (frame_size s + 3 * n + 1) ≡ (y ∷ [])

pub record StateNumbers (s : Sheet) (f : List ℕ) (n x y : ℕ) (cs : List (List ℕ)) : Type 0 where
  pub size : length cs ≡ state_clause_count s n
  pub constant : get_or cs 0 [] ≡ (in_frame (width s) 0 1 ∷ [])
  pub gates : (g e : ℕ) → g < s.gates → e < 3 → slice_index_or cs (1 + 3 * g + e) [] ≡ slice_index_or (gate_clauses s 0 g) e []
  pub formula_gates : (g e : ℕ) → g < n → e < 3 → slice_index_or cs (frame_size s + 3 * g + e) [] ≡ slice_index_or (formula_gate s 1 f g) e []
  pub first : get_or cs (frame_size s + 3 * n) [] ≡ (in_question (width s) 1 x ∷ [])
  pub second : get_or cs (frame_size s + 3 * n + 1) [] ≡ (y ∷ [])

abbrev pub StartNumbers : Sheet → List ℕ → ℕ → ℕ → Type 0
StartNumbers s f n r = StateNumbers s f n r (in_frame (width s) 0 s.bad) (start_clauses s f n r)

abbrev pub InclusionNumbers : Sheet → List ℕ → ℕ → ℕ → ℕ → Type 0
InclusionNumbers s f n p r =
    StateNumbers s f n p (in_question (width s) 1 (opposite r)) (inclusion_clauses s f n p r)

-- ---- the same in a list that lays the clauses out
abbrev pub NumbersPath : Sheet → List ℕ → ℕ → ℕ → ℕ → List ℕ → Type 0
NumbersPath s f n r k q = PathNumbered s f n r k (first_count q) (clause_count q) (clause_of q)

abbrev pub NumbersStart : Sheet → List ℕ → ℕ → ℕ → List ℕ → Type 0
NumbersStart s f n r q = StateNumbered s f n r (in_frame (width s) 0 s.bad) (clause_count q) (clause_of q)

abbrev pub NumbersInclusion : Sheet → List ℕ → ℕ → ℕ → ℕ → List ℕ → Type 0
NumbersInclusion s f n p r q = StateNumbered s f n p (in_question (width s) 1 (opposite r)) (clause_count q) (clause_of q)

-- ---- the laws
abbrev pub PathAlwaysNumbers : Type 0
PathAlwaysNumbers = (s : Sheet) (f : List ℕ) (n r k : ℕ) → PathNumbers s f n r k

abbrev pub StartAlwaysNumbers : Type 0
StartAlwaysNumbers = (s : Sheet) (f : List ℕ) (n r : ℕ) → StartNumbers s f n r

abbrev pub InclusionAlwaysNumbers : Type 0
InclusionAlwaysNumbers = (s : Sheet) (f : List ℕ) (n p r : ℕ) → InclusionNumbers s f n p r
