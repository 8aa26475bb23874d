-- The two parts of a path question: their variables, and assignments that paths give them. Assumes nothing.
use Rattle.std.proofs.Common.{◌≡◌, ℕ, zero, suc, ◌+◌, ◌-◌, ◌*◌, ◌/◌, ◌<◌, ◌≤◌, Bool, true, false, ◌&&◌, ◌||◌, ltb, leb, List, [], length, get_or, sym, refl, ap, ◌∙◌, subst, inl, inr, ⊎_elim, one-mul, arith}
use Rattle.std.specs.List.{AllByRecursion}
use Rattle.std.proofs.lemmas.Nat.{mul-le}
use Rattle.std.proofs.ByRecursion.{All-get_or}
use Rattle.std.proofs.lemmas.List.{length-append, get_or_append_left, get_or-append_right}
use Rattle.std.proofs.lemmas.Bool.{and_parts, or_cases, ltb-true, lt-ltb}
use Rattle.sheet.specs.Sheets.{Sheet, Legal, sheet_of}
use Rattle.signal.specs.Truth.{holds}
use Rattle.machine.specs.Bits.{bit}
use Rattle.machine.specs.Fits.{latch_at}
use Rattle.machine.specs.Runs.{State, Frame, Follows, BadIn, Reaches}
use Rattle.machine.proofs.Values.{settled}
use Rattle.formula.specs.Formulas.{width, value_at, nodes_at, Formula, Gates}
use Rattle.formula.specs.Framing.{in_frame, in_question}
use Rattle.question.specs.Clauses.{first_clauses, second_clauses, path_clauses}
use Rattle.question.specs.Meaning.{is_local, is_shared, In, Proper}
use Rattle.question.specs.Questions.{variable_count, clause_count, first_count, clause_of, Clause, Mem}
use Rattle.question.proofs.Formulae.{nodes_rooted, rooted_value}
use Rattle.question.proofs.Frames.{Held, assigned, assigned_node, assigned_literal, assigned_frame, assigned_link, assigned_formulas, assigned_formula}
use Rattle.question.proofs.Holding.{unit_from, some_from}
use Rattle.question.proofs.Parts.{first_whole, second_whole}
use Rattle.question.proofs.Paths.{along, along_follows, along_last}
use Rattle.question.proofs.Propriety.{path_proper}
use Rattle.question.proofs.Sides.{path_sides}
use Rattle.question.proofs.Variables.{Lawful}
use Rattle.interpolant.specs.Interpolation.{Cut, Parted, First, Second}
use Rattle.interpolant.specs.Meaning.{latches_at, IsPath, PathParted}
use Rattle.interpolant.specs.Parting.{width_in, cut_of}

-- a legal list lays out few nodes
pub legal_wide : (l : List ℕ) → Legal l → width_in l ≡ width (sheet_of l)
legal_wide l h = omega (arith, h.few_inputs, h.few_latches, h.few_gates)

and_true : (b : Bool) → (b && true) ≡ b
and_true true = refl
and_true false = refl

-- ---- the clauses of the two parts
module _ (l q f : List ℕ) (n r k : ℕ) (legal : Legal l) (gates : Gates (sheet_of l) f n) (formula : Formula (sheet_of l) n r) (lays : IsPath q (sheet_of l) f n r k) where
  abbrev s : Sheet
  s = sheet_of l

  abbrev w : ℕ
  w = width s

  abbrev u : Cut
  u = cut_of l q n

  abbrev ones : List (List ℕ)
  ones = first_clauses s f n r k

  abbrev others : List (List ℕ)
  others = second_clauses s k

  size : clause_count q ≡ length ones + length others
  size = lays.count ∙ length-append ones others

  first_clause : (i : ℕ) → i < first_count q → clause_of q i ≡ get_or ones i []
  first_clause i h =
      let low : i < length ones = omega (arith, lays.first) in
      lays.clauses i (omega (arith, length-append ones others)) ∙ get_or_append_left ones others [] i low

  second_clause : (i : ℕ) → i < clause_count q → first_count q ≤ i → clause_of q i ≡ get_or others (i - length ones) []
  second_clause i h m =
      lays.clauses i (omega (arith, lays.count)) ∙ get_or-append_right ones others (length ones) i [] refl (omega (arith, lays.first))

  pub first_from : (α : ℕ → Bool) → AllByRecursion (Held α) ones → First q u α
  first_from α all i h m =
      ap (holds α) (first_clause i m) ∙ All-get_or (Held α) ones i [] (omega (arith, lays.first)) all

  pub second_from : (α : ℕ → Bool) → AllByRecursion (Held α) others → Second q u α
  second_from α all i h m =
      ap (holds α) (second_clause i h m) ∙ All-get_or (Held α) others (i - length ones) [] (omega (arith, lays.first, size)) all

  proper : (i : ℕ) → i < clause_count q → Proper ((k + 2) * w + n) (clause_of q i)
  proper i h =
      let low : i < length (path_clauses s f n r k) = omega (arith, lays.count) in
      subst (Proper ((k + 2) * w + n)) (sym (lays.clauses i low)) (All-get_or (Proper ((k + 2) * w + n)) (path_clauses s f n r k) i [] low (path_proper l f n r k legal gates formula))

  pub sound : (i : ℕ) → i < clause_count q → Clause (clause_of q i)
  sound i h = (proper i h).ascends

  -- ---- the cut is where the parts say
  wide : width_in l ≡ w
  wide = legal_wide l legal

  local_is : (j : ℕ) → j < (k + 2) * w + n → u.local j ≡ is_local s k j
  local_is j h =
      let fresh : variable_count q - n ≡ (k + 2) * w = omega (arith, lays.variables) in
      let below : ltb j (variable_count q) ≡ true = lt-ltb j (variable_count q) (omega (arith, lays.variables)) in
      (λ i. ltb j (wide i) || (leb (fresh i) j && below i)) ∙ ap (λ (b : Bool). ltb j w || b) (and_true (leb ((k + 2) * w) j))

  shared_is : (j : ℕ) → u.shared j ≡ is_shared s j
  shared_is j = ap (λ (v : ℕ). leb (v + 1 + s.inputs) j && ltb j (v + 1 + s.inputs + s.latches)) wide

  shared_low : (j : ℕ) → is_shared s j ≡ true → j < (k + 2) * w + n
  shared_low j h =
      let p = and_parts (leb (w + 1 + s.inputs) j) (ltb j (w + 1 + s.inputs + s.latches)) h in
      let low : j < w + 1 + s.inputs + s.latches = ltb-true j (w + 1 + s.inputs + s.latches) p.1 in
      omega (arith, mul-le 2 w (k + 2) w (omega arith) (omega arith))

  pub parted : Parted q u
  parted =
      let sides = path_sides l f n r k legal gates formula in
      record {
        first = λ i x h m is.
            let in_ones : Mem x (get_or ones i []) = subst (Mem x) (first_clause i m) is in
            let either = All-get_or _ ones i [] (omega (arith, lays.first)) sides.first x in_ones in
            ⊎_elim
            (λ e. inl (local_is (x / 2) ((proper i h).below x is) ∙ e))
            (λ e. inr (shared_is (x / 2) ∙ e))
            (or_cases (is_local s k (x / 2)) (is_shared s (x / 2)) either);
        second = λ i x h m is.
            let in_others : Mem x (get_or others (i - length ones) []) = subst (Mem x) (second_clause i h m) is in
            local_is (x / 2) ((proper i h).below x is)
            ∙ All-get_or _ others (i - length ones) [] (omega (arith, lays.first, size)) sides.second x in_others;
        apart = λ v h.
            let is : is_shared s v ≡ true = sym (shared_is v) ∙ h in
            local_is v (shared_low v is) ∙ sides.apart v is;
      }

pub path_parted : PathParted
path_parted l q f n r k legal gates formula lays = parted l q f n r k legal gates formula lays

-- ---- a formula has its value from the latches alone
pub value_by : (s : Sheet) (f : List ℕ) (n : ℕ) → Gates s f n → (c d : ℕ → Bool) → ((i : ℕ) → i < s.latches → c i ≡ d i)
    → (x : ℕ) → Formula s n x → value_at s f n c x ≡ value_at s f n d x
value_by s f n gates c d same x is =
    let fits = nodes_rooted s f n gates c in
    rooted_value s f n gates d (nodes_at s f n c)
    (record { constant = fits.constant; latches = λ i h. fits.latches i h ∙ same i h; gates = fits.gates }) x is

-- ---- assignments that frames give
module _ (s : Sheet) (lawful : Lawful s) (f : List ℕ) (n : ℕ) (gates : Gates s f n) (k : ℕ) where
  -- the latch bits of frame 1
  state_is : (frames : ℕ → Frame s) (i : ℕ) → i < s.latches → bit (frames 1).state i ≡ latches_at s (assigned s lawful f n (k + 2) gates (omega arith) frames) i
  state_is frames i h =
      let α : ℕ → Bool = assigned s lawful f n (k + 2) gates (omega arith) frames in
      let place : 1 * width s + latch_at s i ≡ width s + 1 + s.inputs + i = omega (arith, one-mul (width s)) in
      sym ((settled s (bit (frames 1).state) (bit (frames 1).inputs) lawful.ascends).latches i h)
      ∙ sym (assigned_node s lawful f n (k + 2) gates (omega arith) frames 1 (latch_at s i) (omega arith) (omega arith))
      ∙ ap α place

  -- a step from a state in r satisfies the first part
  first_holds : (frames : ℕ → Frame s) (r : ℕ) → Formula s n r → In s f n r (frames 0).state → Follows s (frames 0) (frames 1).state
      → AllByRecursion (Held (assigned s lawful f n (k + 2) gates (omega arith) frames)) (first_clauses s f n r k)
  first_holds frames r formula in_r follows =
      let α : ℕ → Bool = assigned s lawful f n (k + 2) gates (omega arith) frames in
      first_whole (Held α) s f n r k
      (record {
        frame = assigned_frame s lawful f n (k + 2) gates (omega arith) frames 0 (omega arith);
        link = assigned_link s lawful f n (k + 2) gates (omega arith) frames 0 (omega arith) follows;
        formulas = assigned_formulas s lawful f n (k + 2) gates (omega arith) frames;
        begin = unit_from α (in_question (width s) (k + 2) r) (assigned_formula s lawful f n (k + 2) gates (omega arith) frames r formula ∙ in_r);
      })

  -- a path from frame 1 on that meets a bad frame satisfies the second
  second_holds : (frames : ℕ → Frame s) → ((t : ℕ) → 1 ≤ t → t ≤ k → Follows s (frames t) (frames (t + 1)).state) → (j : ℕ) → 1 ≤ j → j ≤ k + 1 → BadIn s (frames j)
      → AllByRecursion (Held (assigned s lawful f n (k + 2) gates (omega arith) frames)) (second_clauses s k)
  second_holds frames follows j some few bad =
      let α : ℕ → Bool = assigned s lawful f n (k + 2) gates (omega arith) frames in
      second_whole (Held α) s k
      (record {
        frames = λ t a b. assigned_frame s lawful f n (k + 2) gates (omega arith) frames t (omega arith);
        links = λ t a b. assigned_link s lawful f n (k + 2) gates (omega arith) frames t (omega arith) (follows t a b);
        end =
            some_from α (λ t. in_frame (width s) t s.bad) (k + 1) 1 j some (omega arith)
            (assigned_literal s lawful f n (k + 2) gates (omega arith) frames j s.bad (omega arith) lawful.bads ∙ bad);
      })

  abbrev pair : Frame s → Frame s → ℕ → Frame s
  pair a b zero = a
  pair a b (suc t) = b

  -- the assignment of a step, and that of a path
  pub step_given : (r : ℕ) → Formula s n r → (a : Frame s) (c : State s) → In s f n r a.state → Follows s a c
      → (α : ℕ → Bool) × AllByRecursion (Held α) (first_clauses s f n r k) × ((i : ℕ) → i < s.latches → bit c i ≡ latches_at s α i)
  step_given r formula a c in_r follows =
      let frames : ℕ → Frame s = pair a (record { state = c; inputs = a.inputs }) in
      (assigned s lawful f n (k + 2) gates (omega arith) frames, first_holds frames r formula in_r follows, state_is frames)

  pub path_given : (c : State s) (j : ℕ) → Reaches s c j → j ≤ k
      → (α : ℕ → Bool) × AllByRecursion (Held α) (second_clauses s k) × ((i : ℕ) → i < s.latches → bit c i ≡ latches_at s α i)
  path_given c j reaches few =
      let start : Frame s = record { state = c; inputs = reaches.inputs } in
      let frames : ℕ → Frame s = λ t. along s start reaches.later (t - 1) in
      let follows : (t : ℕ) → 1 ≤ t → t ≤ k → Follows s (frames t) (frames (t + 1)).state =
      λ t a _. let e : suc (t - 1) ≡ t + 1 - 1 = omega arith in
      subst (λ (i : ℕ). Follows s (frames t) (along s start reaches.later i).state) e (along_follows s start reaches.later reaches.meets.path (t - 1)) in
      let back : j + 1 - 1 ≡ length reaches.later = omega (arith, reaches.steps) in
      let bad : BadIn s (frames (j + 1)) =
      subst (BadIn s) (sym (ap (along s start reaches.later) back ∙ along_last s start reaches.later)) reaches.meets.ends_bad in
      (assigned s lawful f n (k + 2) gates (omega arith) frames, second_holds frames follows (j + 1) (omega arith) (omega arith) bad, state_is frames)
