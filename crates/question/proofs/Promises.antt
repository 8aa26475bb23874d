-- What a posed question promises. Assumes nothing.
use Rattle.std.proofs.Common.{◌≡◌, ℕ, zero, suc, ◌+◌, ◌-◌, ◌*◌, ◌/◌, ◌^◌, ◌<◌, ◌≤◌, Bool, true, false, cond, ◌&&◌, leb, List, [], ◌∷◌, ◌++◌, length, take, replicate, is_some, IfSome, Some, None, Option, sym, refl, ap, ◌∙◌, subst, inl, inr, ⊎_elim, one-mul, arith, length-take}
use Rattle.std.specs.List.{AllByRecursion}
use Rattle.std.proofs.lemmas.Nat.{mul-le}
use Rattle.std.proofs.ByRecursion.{All-weaker}
use Rattle.std.proofs.lemmas.List.{append_assoc, take_at, get_or_past, length-append}
use Rattle.std.proofs.lemmas.Bool.{cond-true, cond-false, and_left, and_from, and_parts, le-leb, lt-leb, cases_lt, false≢true}
use Rattle.lists.specs.Counted.{counted, uncounted}
use Rattle.sheet.specs.Sheets.{Sheet, Legal, sheet_of}
use Rattle.sheet.specs.Trip.{Iff}
use Rattle.sheet.proofs.Legality.{legal_well_formed}
use Rattle.formula.specs.Conjunction.{opposite}
use Rattle.formula.specs.Formulas.{width, right_of, Formula, Gates}
use Rattle.formula.specs.Framing.{in_frame, in_question}
use Rattle.question.specs.Clauses.{state_clauses, start_clauses, first_clauses, second_clauses, path_clauses, inclusion_clauses}
use Rattle.question.specs.Layout.{encode, start_list, path_list, inclusion_list, all_below, given, posed, posed_if}
use Rattle.question.specs.Questions.{Mem, IsQuestion, Satisfiable}
use Rattle.question.specs.Sizes.{state_clause_count, state_literal_count, first_clause_count, first_literal_count, second_clause_count, second_literal_count}
use Rattle.question.specs.Meaning.{AllHold, Solvable, Proper, BadInR, BadAfter, Outside, StartTells, PathTells, InclusionTells}
use Rattle.question.specs.Laid.{Lays, Tells, Parted}
use Rattle.question.specs.Offsets.{NumbersStart, NumbersPath, NumbersInclusion}
use Rattle.question.proofs.Counts.{state_length, state_literals, path_length, path_literals}
use Rattle.question.proofs.Fitting.{Small, small_below, encode_below}
use Rattle.question.proofs.Laying.{length_encode}
use Rattle.question.proofs.Listing.{lays_state_numbers, lays_path_numbers, lays_parted}
use Rattle.question.proofs.Numbers.{start_numbers, path_numbers, inclusion_numbers}
use Rattle.question.proofs.Paths.{path_asks, path_tells}
use Rattle.question.proofs.Posing.{given_tells}
use Rattle.question.proofs.Propriety.{start_proper, path_proper, inclusion_proper}
use Rattle.question.proofs.Reading.{encode_lays, encode_question}
use Rattle.question.proofs.Sides.{path_sides}
use Rattle.question.proofs.States.{start_asks, start_tells, inclusion_asks, inclusion_tells}
use Rattle.question.proofs.Variables.{Over}

abbrev Posed : Type 0
Posed = Option ℕ × List ℕ

-- ---- where the result is a length, the question stands in front
abbrev Holds : Bool → List ℕ → Posed → Type 0
Holds b q p = IfSome p.0 (λ m. (b ≡ true) × (take m p.1 ≡ q))

front_holds : (q front rest : List ℕ) → Holds true q ((posed q front).0, (posed q front).1 ++ rest)
front_holds q front rest =
    let zeros : List ℕ = replicate (length front - length q) 0 in
    elim (leb (length q) (length front) && all_below (2 ^ 32) q) as (λ t.
    let p : Posed = cond t (Some (length q), q ++ zeros) (None, front) in
    Holds true q (p.0, p.1 ++ rest)) [
      | true ↦ (refl, ap (take (length q)) (append_assoc q zeros rest) ∙ take_at q (zeros ++ rest) (length q) refl)
      | false ↦ tt
    ]

posed_holds : (b : Bool) (q old : List ℕ) → Holds b q (posed_if b q old)
posed_holds true q old = front_holds q (counted old) (uncounted old)
posed_holds false q old = tt

-- ---- where there is room, and each number has 32 bits, the result is a length
some_if_room : (q front : List ℕ) → (length q ≤ length front → all_below (2 ^ 32) q ≡ true) →
    Iff (is_some (posed q front).0 ≡ true) (length q ≤ length front)
some_if_room q front fit =
    ⊎_elim
    (λ (short : length front < length q).
    let none : (posed q front).0 ≡ None = ap (λ (p : Posed). p.0) (cond-false _ _ _ (and_left _ (all_below (2 ^ 32) q) (lt-leb (length q) (length front) short))) in
    let r : Iff (is_some (posed q front).0 ≡ true) (length q ≤ length front) = (λ h. absurd (false≢true (sym (ap is_some none) ∙ h)), λ h. absurd (omega arith)) in
    r)
    (λ (room : length q ≤ length front).
    let some : (posed q front).0 ≡ Some (length q) = ap (λ (p : Posed). p.0) (cond-true _ _ _ (and_from _ _ (le-leb (length q) (length front) room) (fit room))) in
    let r : Iff (is_some (posed q front).0 ≡ true) (length q ≤ length front) = (λ h. room, λ h. ap is_some some) in
    r)
    (cases_lt (length front) (length q))

-- ---- clauses over few variables have literals of 32 bits
mem_all : (P : ℕ → Type 0) (xs : List ℕ) → ((x : ℕ) → Mem x xs → P x) → AllByRecursion P xs
mem_all P [] h = tt
mem_all P (x ∷ xs) h = (h x (inl refl), mem_all P xs (λ y m. h y (inr m)))

proper_small : (v : ℕ) (cs : List (List ℕ)) → v ≤ 2 ^ 31 → AllByRecursion (Proper v) cs → AllByRecursion (Over Small) cs
proper_small v cs few =
    All-weaker (Proper v) (Over Small) (λ c p. mem_all (λ x. Small (x / 2)) c (λ x m. omega (arith, p.below x m))) cs

-- ---- of any clauses
module _ (b : Bool) (v a : ℕ) (cs : List (List ℕ)) (old : List ℕ) (res : Option ℕ) (new : List ℕ)
    (is : ◌≡◌ {A = Posed} (res, new) (posed_if b (encode v a cs) old)) where
  abbrev q : List ℕ
  q = encode v a cs

  told : (Q : List ℕ → Type 0) → (b ≡ true → Q q) → IfSome res (λ m. Q (take m new))
  told Q h =
      let by : (o : Option ℕ) → Holds b q (o, new) → IfSome o (λ m. Q (take m new)) = λ o. elim o as (λ o. Holds b q (o, new) → IfSome o (λ m. Q (take m new))) [
        | None ↦ λ _. tt
        | Some m ↦ λ k. subst Q (sym k.1) (h k.0)
      ] in
      by res (subst (Holds b q) (sym is) (posed_holds b q old))

  pub lays : IfSome res (λ m. Lays (take m new) v a cs)
  lays = told (λ xs. Lays xs v a cs) (λ _. encode_lays v a cs)

  pub is_question : a ≤ length cs → (b ≡ true → AllByRecursion (Proper v) cs) → IfSome res (λ m. IsQuestion (take m new))
  is_question firsts proper = told IsQuestion (λ h. encode_question v a cs firsts (proper h))

  pub asks : (P : Type 0) → (b ≡ true → Iff (Solvable cs) P) → IfSome res (λ m. Iff (Satisfiable (take m new)) P)
  asks P both =
      told (λ xs. Iff (Satisfiable xs) P) (λ h.
      let laid = encode_lays v a cs in (
        λ k. (both h).0 (k.0, (laid.satisfied k.0).0 k.1),
        λ p. let k = (both h).1 p in (k.0, (laid.satisfied k.0).1 k.1),
      ))

  -- each assignment that satisfies it satisfies the clauses
  pub tells : (P : (ℕ → Bool) → Type 0) → (b ≡ true → (α : ℕ → Bool) → AllHold α cs → P α) → IfSome res (λ m. Tells P (take m new))
  tells P law = told (Tells P) (λ h α sat. law h α (((encode_lays v a cs).satisfied α).0 sat))

  -- what follows from the layout
  pub laid_so : (Q : List ℕ → Type 0) → (b ≡ true → (q : List ℕ) → Lays q v a cs → Q q) → IfSome res (λ m. Q (take m new))
  laid_so Q law = told Q (λ h. law h q (encode_lays v a cs))

  pub takes : b ≡ true → v ≤ 2 ^ 31 → a ≤ length cs → AllByRecursion (Proper v) cs → Iff (is_some res ≡ true) (length q ≤ length (counted old))
  takes h few firsts proper =
      let found : res ≡ (posed q (counted old)).0 = ap (λ (p : Posed). p.0) (is ∙ cond-true _ _ _ h) in
      let short : length (counted old) ≤ 2 ^ 28 = omega (arith, length-take (2 ^ 28) old) in
      subst (λ (o : Option ℕ). Iff (is_some o ≡ true) (length q ≤ length (counted old))) (sym found)
      (some_if_room q (counted old) (λ room.
      encode_below (2 ^ 32) v a cs (omega arith) firsts (omega (arith, length_encode v a cs)) ∙ small_below cs (proper_small v cs few proper)))

-- ---- how long the questions are
pub state_long : (s : Sheet) (f : List ℕ) (n x y : ℕ) → length (encode (width s + n) 0 (state_clauses s f n x y)) ≡ 4 + state_clause_count s n + state_literal_count s n
state_long s f n x y =
    omega (arith, length_encode (width s + n) 0 (state_clauses s f n x y), state_length s f n x y, state_literals s f n x y)

pub path_long : (s : Sheet) (f : List ℕ) (n r k : ℕ) →
    length (path_list s f n r k) ≡ 4 + (first_clause_count s n + second_clause_count s k) + (first_literal_count s n + second_literal_count s k)
path_long s f n r k =
    omega
    (arith, length_encode ((k + 2) * width s + n) (length (first_clauses s f n r k)) (path_clauses s f n r k), path_length s k f n r, path_literals s k f n r)

-- ---- of lent lists: a sheet's, a formula list with n gates, and one that is to hold the question
pub gates_whole : (s : Sheet) (f : List ℕ) (n : ℕ) → Gates s f n → 2 * n ≤ length f
gates_whole s f zero gates = omega arith
gates_whole s f (suc g) gates =
    ⊎_elim
    (λ (there : 2 * g + 1 < length f). omega arith)
    (λ (past : length f ≤ 2 * g + 1).
    let none : right_of f g / 2 ≡ 0 = ap (λ (x : ℕ). x / 2) (get_or_past f (2 * g + 1) 0 past) in
    absurd
    (⊎_elim (λ (h : (s.inputs < right_of f g / 2) × (right_of f g / 2 ≤ s.inputs + s.latches)). omega (arith, none))
    (λ (h : (width s ≤ right_of f g / 2) × (right_of f g / 2 < width s + g)). omega (arith, none)) (gates.rights g (omega arith))))
    (cases_lt (2 * g + 1) (length f))

given_from : (l f : List ℕ) (n : ℕ) → Legal (counted l) → Gates (sheet_of (counted l)) (counted f) n → given l f n ≡ true
given_from l f n legal gates =
    and_from _ _ (legal_well_formed (counted l) legal) (le-leb _ _ (gates_whole (sheet_of (counted l)) (counted f) n gates))

few_variables : (l f : List ℕ) (n m : ℕ) → m ≤ 32 → Legal (counted l) → Gates (sheet_of (counted l)) (counted f) n →
    m * width (sheet_of (counted l)) + n ≤ 2 ^ 31
few_variables l f n m most legal gates =
    let s : Sheet = sheet_of (counted l) in
    let a : s.inputs ≤ 24 = legal.few_inputs in
    let b : s.latches ≤ 24 = legal.few_latches in
    let c : s.gates ≤ 200 = legal.few_gates in
    omega (arith, mul-le m (width s) 32 249 most (omega arith), gates_whole s (counted f) n gates, length-take (2 ^ 28) f)

module _ (l f : List ℕ) (n : ℕ) (old : List ℕ) (res : Option ℕ) (new : List ℕ) where
  abbrev s : Sheet
  s = sheet_of (counted l)

  abbrev g : List ℕ
  g = counted f

  abbrev legal_given : given l f n ≡ true → Legal (counted l)
  legal_given h = (given_tells l f n h).0

  one_frame : Legal (counted l) → Gates s g n → width s + n ≤ 2 ^ 31
  one_frame legal gates = omega (arith, few_variables l f n 1 (omega arith) legal gates, one-mul (width s))

  module _ (r : ℕ) (is : ◌≡◌ {A = Posed} (res, new) (posed_if (given l f n) (start_list s g n r) old)) where
    pub start_takes : Legal (counted l) → Gates s g n → Formula s n r → Iff (is_some res ≡ true) (length (start_list s g n r) ≤ length (counted old))
    start_takes legal gates formula =
        takes (given l f n) (width s + n) 0 (start_clauses s g n r) old res new is (given_from l f n legal gates) (one_frame legal gates) (omega arith)
        (start_proper (counted l) g n r legal gates formula)

    pub start_lays : IfSome res (λ m. Lays (take m new) (width s + n) 0 (start_clauses s g n r))
    start_lays = lays (given l f n) (width s + n) 0 (start_clauses s g n r) old res new is

    pub start_is_question : Gates s g n → Formula s n r → IfSome res (λ m. IsQuestion (take m new))
    start_is_question gates formula =
        is_question (given l f n) (width s + n) 0 (start_clauses s g n r) old res new is (omega arith) (λ h.
        start_proper (counted l) g n r (legal_given h) gates formula)

    pub start_asks_bad : Gates s g n → Formula s n r → IfSome res (λ m. Iff (Satisfiable (take m new)) (BadInR s g n r))
    start_asks_bad gates formula =
        asks (given l f n) (width s + n) 0 (start_clauses s g n r) old res new is (BadInR s g n r) (λ h.
        start_asks (counted l) g n r (legal_given h) gates formula)

    pub start_tells_state : Gates s g n → Formula s n r → IfSome res (λ m. Tells (StartTells s g n r) (take m new))
    start_tells_state gates formula =
        tells (given l f n) (width s + n) 0 (start_clauses s g n r) old res new is (StartTells s g n r) (λ h.
        start_tells (counted l) g n r (legal_given h) gates formula)

    pub start_numbers_clauses : IfSome res (λ m. NumbersStart s g n r (take m new))
    start_numbers_clauses =
        laid_so (given l f n) (width s + n) 0 (start_clauses s g n r) old res new is (NumbersStart s g n r) (λ h q laid.
        lays_state_numbers q (width s + n) 0 (start_clauses s g n r) laid s g n r (in_frame (width s) 0 s.bad) (start_numbers s g n r))

  module _ (p r : ℕ) (is : ◌≡◌ {A = Posed} (res, new) (posed_if (given l f n) (inclusion_list s g n p r) old)) where
    pub inclusion_takes : Legal (counted l) → Gates s g n → Formula s n p → Formula s n r →
        Iff (is_some res ≡ true) (length (inclusion_list s g n p r) ≤ length (counted old))
    inclusion_takes legal gates a b =
        takes (given l f n) (width s + n) 0 (inclusion_clauses s g n p r) old res new is (given_from l f n legal gates) (one_frame legal gates) (omega arith)
        (inclusion_proper (counted l) g n p r legal gates a b)

    pub inclusion_lays : IfSome res (λ m. Lays (take m new) (width s + n) 0 (inclusion_clauses s g n p r))
    inclusion_lays = lays (given l f n) (width s + n) 0 (inclusion_clauses s g n p r) old res new is

    pub inclusion_is_question : Gates s g n → Formula s n p → Formula s n r → IfSome res (λ m. IsQuestion (take m new))
    inclusion_is_question gates a b =
        is_question (given l f n) (width s + n) 0 (inclusion_clauses s g n p r) old res new is (omega arith) (λ h.
        inclusion_proper (counted l) g n p r (legal_given h) gates a b)

    pub inclusion_asks_outside : Gates s g n → Formula s n p → Formula s n r →
        IfSome res (λ m. Iff (Satisfiable (take m new)) (Outside s g n p r))
    inclusion_asks_outside gates a b =
        asks (given l f n) (width s + n) 0 (inclusion_clauses s g n p r) old res new is (Outside s g n p r) (λ h.
        inclusion_asks (counted l) g n p r (legal_given h) gates a b)

    pub inclusion_tells_state : Gates s g n → Formula s n p → Formula s n r → IfSome res (λ m. Tells (InclusionTells s g n p r) (take m new))
    inclusion_tells_state gates a b =
        tells (given l f n) (width s + n) 0 (inclusion_clauses s g n p r) old res new is (InclusionTells s g n p r) (λ h.
        inclusion_tells (counted l) g n p r (legal_given h) gates a b)

    pub inclusion_numbers_clauses : IfSome res (λ m. NumbersInclusion s g n p r (take m new))
    inclusion_numbers_clauses =
        laid_so (given l f n) (width s + n) 0 (inclusion_clauses s g n p r) old res new is (NumbersInclusion s g n p r) (λ h q laid.
        lays_state_numbers q (width s + n) 0 (inclusion_clauses s g n p r) laid s g n p (in_question (width s) 1 (opposite r)) (inclusion_numbers s g n p r))

  module _ (r k : ℕ) (is : ◌≡◌ {A = Posed} (res, new) (posed_if (leb k 30 && given l f n) (path_list s g n r k) old)) where
    abbrev v : ℕ
    v = (k + 2) * width s + n

    abbrev a : ℕ
    a = length (first_clauses s g n r k)

    firsts : a ≤ length (path_clauses s g n r k)
    firsts = omega (arith, length-append (first_clauses s g n r k) (second_clauses s k))

    abbrev legal_path : (leb k 30 && given l f n) ≡ true → Legal (counted l)
    legal_path h = legal_given (and_parts (leb k 30) (given l f n) h).1

    pub path_takes : k ≤ 30 → Legal (counted l) → Gates s g n → Formula s n r → Iff (is_some res ≡ true) (length (path_list s g n r k) ≤ length (counted old))
    path_takes bound legal gates formula =
        takes (leb k 30 && given l f n) v a (path_clauses s g n r k) old res new is (and_from _ _ (le-leb k 30 bound) (given_from l f n legal gates))
        (few_variables l f n (k + 2) (omega arith) legal gates) firsts (path_proper (counted l) g n r k legal gates formula)

    pub path_lays : IfSome res (λ m. Lays (take m new) v a (path_clauses s g n r k))
    path_lays = lays (leb k 30 && given l f n) v a (path_clauses s g n r k) old res new is

    pub path_is_question : Gates s g n → Formula s n r → IfSome res (λ m. IsQuestion (take m new))
    path_is_question gates formula =
        is_question (leb k 30 && given l f n) v a (path_clauses s g n r k) old res new is firsts (λ h.
        path_proper (counted l) g n r k (legal_path h) gates formula)

    pub path_asks_bad : Gates s g n → Formula s n r → IfSome res (λ m. Iff (Satisfiable (take m new)) (BadAfter s g n r k))
    path_asks_bad gates formula =
        asks (leb k 30 && given l f n) v a (path_clauses s g n r k) old res new is (BadAfter s g n r k) (λ h.
        path_asks (counted l) g n r k (legal_path h) gates formula)

    pub path_tells_frames : Gates s g n → Formula s n r → IfSome res (λ m. Tells (PathTells s g n r k) (take m new))
    path_tells_frames gates formula =
        tells (leb k 30 && given l f n) v a (path_clauses s g n r k) old res new is (PathTells s g n r k) (λ h.
        path_tells (counted l) g n r k (legal_path h) gates formula)

    pub path_parts_variables : Gates s g n → Formula s n r → IfSome res (λ m. Parted s k (take m new))
    path_parts_variables gates formula =
        laid_so (leb k 30 && given l f n) v a (path_clauses s g n r k) old res new is (Parted s k) (λ h q laid.
        lays_parted s g n r k q v laid (path_sides (counted l) g n r k (legal_path h) gates formula))

    pub path_numbers_clauses : IfSome res (λ m. NumbersPath s g n r k (take m new))
    path_numbers_clauses =
        laid_so (leb k 30 && given l f n) v a (path_clauses s g n r k) old res new is (NumbersPath s g n r k) (λ h q laid.
        lays_path_numbers s g n r k q v laid (path_numbers s g n r k))
