-- What opening a check answers. Assumes nothing.
use Rattle.std.proofs.Common.{◌≡◌, ℕ, ◌+◌, ◌*◌, ◌^◌, ◌<◌, ◌≤◌, min, Bool, true, false, ltb, leb, List, length, is_some, Some, None, Err, Option, sym, refl, ap, ◌∙◌, ⊎_elim, arith, length-take}
use Rattle.std.proofs.lemmas.List.{get_or-take}
use Rattle.std.proofs.lemmas.Bool.{cond-true, cond-false, and_from, and_left, le-leb, lt-leb, lt-ltb, false≢true}
use Rattle.lists.specs.Counted.{counted}
use Rattle.sheet.specs.Faults.{fault}
use Rattle.sheet.specs.declared.fault.Cause.TheVariants.{StartFormulaTooLong, StartQuestionTooLong}
use Rattle.sheet.specs.declared.fault.Fault.{Fault}
use Rattle.sheet.specs.declared.fault.Layer.TheVariants.{Open}
use Rattle.sheet.specs.Render.{well_formed}
use Rattle.sheet.specs.Sheets.{Sheet, sheet_of, gate_count, Legal}
use Rattle.sheet.specs.Trip.{Iff}
use Rattle.sheet.proofs.Legality.{well_formed_legal, legal_well_formed}
use Rattle.formula.specs.declared.root.Root.{Root}
use Rattle.formula.specs.Formulas.{width, Formula, Gates}
use Rattle.formula.specs.Framing.{in_frame}
use Rattle.formula.specs.Conjunction.{Outcome, grown, short}
use Rattle.formula.specs.Starting.{start_in, start_size, Starts}
use Rattle.formula.specs.Built.{literal, started, start_over, write_start, size_of_start}
use Rattle.formula.proofs.Sizes.{start_count}
use Rattle.formula.proofs.Turns.{legal_few}
use Rattle.formula.proofs.Valued.{SamePairs, gates_same}
use Rattle.formula.proofs.Writing.{size_is, short_leaves, refused_when}
use Rattle.question.specs.Clauses.{start_clauses}
use Rattle.question.specs.Layout.{start_list, given, posed_if, all_below}
use Rattle.question.proofs.Counts.{state_length, state_literals}
use Rattle.question.proofs.Laying.{length_encode}
use Rattle.checker.specs.Opening.{Opened, unopened, start_asked, start_made, opened}

abbrev pub Found : Type 0
Found = Option Root × List ℕ

abbrev Posed : Type 0
Posed = Option ℕ × List ℕ

abbrev no_size : Option ℕ
no_size = None

none_some : {X : Type 0} (x : X) → None ≡ Some x → ⊥
none_some x h = let z : ◌≡◌ {A = ℕ} 0 1 = cc in omega arith

-- ---- sizes
pub start_list_length : (s : Sheet) (f : List ℕ) (n r : ℕ) → length (start_list s f n r) ≡ 10 + 10 * (s.gates + n)
start_list_length s f n r =
    omega (
      arith,
      length_encode (width s + n) 0 (start_clauses s f n r),
      state_length s f n r (in_frame (width s) 0 s.bad),
      state_literals s f n r (in_frame (width s) 0 s.bad),
    )

-- how many gates a start formula has that was written
count_by : (c front : List ℕ) (o : Outcome) (d : Root) (t : List ℕ) → Legal c → start_in (sheet_of c) (length front) ≡ o
    → ◌≡◌ {A = Found} (Some d, t) (started front o) → d.gates ≡ start_size (sheet_of c)
count_by c front (grown x n f) d t legal is e =
    let few = legal_few c legal in
    let same : Some d ≡ Some (record { literal = literal x; gates = n }) = ap (λ (p : Found). p.0) e in
    let count : d.gates ≡ n = cc in
    count ∙ start_count (sheet_of c) few.0 few.1 (length front) x n f is
count_by c front short d t legal is e = absurd (none_some d (sym (ap (λ (p : Found). p.0) e)))

count_over : (c front : List ℕ) (d : Root) (t : List ℕ) → Legal c → ◌≡◌ {A = Found} (Some d, t) (start_over c front) → d.gates ≡ size_of_start c
count_over c front d t legal e =
    let formed : well_formed c ≡ true = legal_well_formed c legal in
    count_by c front (start_in (sheet_of c) (length front)) d t legal refl (e ∙ cond-true _ _ _ formed) ∙ sym (size_is c formed)

some_part : (l f : List ℕ) (d : Root) (t : List ℕ) → ◌≡◌ {A = Found} (Some d, t) (write_start l f)
    → ◌≡◌ {A = Found} (Some d, (start_over (counted l) (counted f)).1) (start_over (counted l) (counted f))
some_part l f d t e = λ i. ((e i).0, (start_over (counted l) (counted f)).1)

count_is : (l f : List ℕ) (d : Root) (t : List ℕ) → Legal (counted l) → ◌≡◌ {A = Found} (Some d, t) (write_start l f) → d.gates ≡ size_of_start (counted l)
count_is l f d t legal e =
    count_over (counted l) (counted f) d (start_over (counted l) (counted f)).1 legal (some_part l f d t e)

-- ---- where both fit
module _ (l : List ℕ) (K Q : ℕ) (f q f' : List ℕ) (d : Root) (is : ◌≡◌ {A = Found} (Some d, f') (write_start l f)) (q' : List ℕ) where
  abbrev list : List ℕ
  list = start_list (sheet_of (counted l)) (counted f') d.gates d.literal.0

  pub never_none : Legal (counted l) → 2 * size_of_start (counted l) ≤ length (counted f)
      → 10 + 10 * (gate_count (counted l) + size_of_start (counted l)) ≤ length (counted q) → length f' ≡ length f
      → Starts (sheet_of (counted l)) f' d.gates d.literal.0
      → (Legal (counted l) → Gates (sheet_of (counted l)) (counted f') d.gates → Formula (sheet_of (counted l)) d.gates d.literal.0
      → Iff (is_some no_size ≡ true) (length list ≤ length (counted q)))
      → ⊥
  never_none legal room space same starts takes =
      let count : d.gates ≡ size_of_start (counted l) = count_is l f d f' legal is in
      let long : length (counted f') ≡ length (counted f) = omega (arith, length-take (2 ^ 28) f', length-take (2 ^ 28) f) in
      let pairs : SamePairs f' (counted f') d.gates = λ k h. get_or-take (2 ^ 28) f' k 0 (omega (arith, length-take (2 ^ 28) f')) in
      let gates : Gates (sheet_of (counted l)) (counted f') d.gates = gates_same (sheet_of (counted l)) f' (counted f') d.gates pairs starts.gates in
      let size = start_list_length (sheet_of (counted l)) (counted f') d.gates d.literal.0 in
      false≢true ((takes legal gates starts.formula).1 (omega arith))

-- ---- where one does not
module _ (l : List ℕ) (K Q : ℕ) (f q : List ℕ) where
  pub opened_if : true ≡ well_formed (counted l) → K ≤ 30 → 0 < Q → Q ≤ 4294967295 → opened l K Q f q ≡ start_made l K Q f q (write_start l f)
  opened_if formed bound some few =
      cond-true _ _ _ (sym formed) ∙ cond-true _ _ _ (le-leb K 30 bound)
      ∙ cond-true _ _ _ (and_from (ltb 0 Q) (leb Q 4294967295) (lt-ltb 0 Q some) (le-leb Q 4294967295 few))

  pub unstarted : true ≡ well_formed (counted l) → K ≤ 30 → 0 < Q → Q ≤ 4294967295 → (e : Fault) → e ≡ fault Open StartFormulaTooLong 0
      → (n len : ℕ) → n ≡ size_of_start (counted l) → len ≡ min (length f) (2 ^ 28) → len < 2 * n
      → ◌≡◌ {A = Opened} (Err e, f, q) (opened l K Q f q)
  unstarted formed bound some few e is n len size cut lacks =
      let none : ◌≡◌ {A = Found} (None, f) (write_start l f) =
      short_leaves l f (counted l) len refl formed cut (omega (arith, size_is (counted l) (sym formed))) in
      ap (λ (e : Fault). let r : Opened = (Err e, f, q) in r) is ∙ ap (λ (p : Found). start_made l K Q f q p) none
      ∙ sym (opened_if formed bound some few)

  -- a question list that is too short
  posed_none : (b : Bool) (list : List ℕ) → length (counted q) < length list → (posed_if b list q).0 ≡ None
  posed_none true list lacks =
      ap (λ (p : Posed). p.0) (cond-false _ _ _ (and_left (leb (length list) (length (counted q))) (all_below (2 ^ 32) list) (lt-leb (length list) (length (counted q)) lacks)))
  posed_none false list lacks = refl

  asked_none : (d : Root) (f' : List ℕ) (o : Option ℕ) (x : List ℕ) → o ≡ None → start_asked K Q d f f' q (o, x) ≡ unopened StartQuestionTooLong f q
  asked_none d f' None x none = refl
  asked_none d f' (Some n) x none = absurd (none_some n (sym none))

  made_none : Legal (counted l) → 2 * size_of_start (counted l) ≤ length (counted f) → length (counted q) < 10 + 10 * (gate_count (counted l) + size_of_start (counted l))
      → (o : Option Root) (t : List ℕ) → ◌≡◌ {A = Found} (o, t) (write_start l f) → start_made l K Q f q (o, t) ≡ unopened StartQuestionTooLong f q
  made_none legal room lacks None t e =
      absurd
      (⊎_elim
      (λ (not : Legal (counted l) → ⊥). not legal)
      (λ (little : length (counted f) < 2 * size_of_start (counted l)). omega arith)
      ((refused_when l f t None e).0 refl))
  made_none legal room lacks (Some d) t e =
      let count : d.gates ≡ size_of_start (counted l) = count_is l f d t legal e in
      let list : List ℕ = start_list (sheet_of (counted l)) (counted t) d.gates d.literal.0 in
      let size = start_list_length (sheet_of (counted l)) (counted t) d.gates d.literal.0 in
      let p : Posed = posed_if (given l t d.gates) list q in
      asked_none d t p.0 p.1 (posed_none (given l t d.gates) list (omega arith))

  pub unasked : true ≡ well_formed (counted l) → K ≤ 30 → 0 < Q → Q ≤ 4294967295 → (e : Fault) → e ≡ fault Open StartQuestionTooLong 0
      → (n len : ℕ) → n ≡ size_of_start (counted l) → len ≡ min (length f) (2 ^ 28) → 2 * n ≤ len
      → (m space : ℕ) → m ≡ 10 + 10 * (gate_count (counted l) + n) → space ≡ min (length q) (2 ^ 28) → space < m
      → ◌≡◌ {A = Opened} (Err e, f, q) (opened l K Q f q)
  unasked formed bound some few e is n len size cut room m space need given lacks =
      ap (λ (e : Fault). let r : Opened = (Err e, f, q) in r) is
      ∙ sym (made_none (well_formed_legal (counted l) (sym formed)) (omega (arith, length-take (2 ^ 28) f)) (omega (arith, length-take (2 ^ 28) q))
      (write_start l f).0 (write_start l f).1 refl)
      ∙ sym (opened_if formed bound some few)
