-- What writing the start formula answers, and when. Assumes nothing.
use Rattle.std.proofs.Common.{◌≡◌, ℕ, ◌-◌, ◌*◌, ◌^◌, ◌<◌, ◌≤◌, min, true, false, ◌⊎◌, List, ◌++◌, length, take, drop, replicate, IfSome, Some, None, Option, sym, refl, ap, ◌∙◌, subst, inl, inr, ⊎_elim, arith, length-take, MatchOption}
use borrow.Rule.Slice.PartMut.{post_of}
use lib.ListN.{length-replicate}
use Rattle.std.proofs.lemmas.List.{take-append-drop, get_or_append_left}
use Rattle.std.proofs.lemmas.Bool.{cond-true, cond-false, cases_Bool, both_ways}
use Rattle.std.proofs.lemmas.Bool.Decides.{Decides-at}
use Rattle.lists.specs.Counted.{counted, uncounted}
use Rattle.lists.proofs.Taken.{take_min, drop_min}
use Rattle.sheet.specs.Render.{well_formed}
use Rattle.sheet.specs.Sheets.{Sheet, sheet_of, latch_count, Legal}
use Rattle.sheet.specs.Trip.{Iff}
use Rattle.sheet.proofs.Legality.{well_formed_legal, legal_well_formed}
use Rattle.machine.specs.Bits.{bit}
use Rattle.formula.specs.declared.root.Root.{Root}
use Rattle.formula.specs.Conjunction.{Outcome, grown, short}
use Rattle.formula.specs.Starting.{join_starts, start_in, start_size, Starts, TrueAtStarts}
use Rattle.formula.specs.Built.{started, start_over, write_start, size_of_start}
use Rattle.formula.proofs.Valued.{SamePairs, value_same, gates_same}
use Rattle.formula.proofs.Starts.{starts_from}
use Rattle.formula.proofs.Sizes.{start_short, start_count}
use Rattle.formula.proofs.Turns.{legal_few}

abbrev Found : Type 0
Found = Option Root × List ℕ

none_some : (d : Root) → None ≡ Some d → ⊥
none_some d h = let z : ◌≡◌ {A = ℕ} 0 1 = cc in omega arith

-- ---- over plain lists: c lays out the sheet, and the formula is to go into front
module _ (c : List ℕ) where
  illegal : (front : List ℕ) → well_formed c ≡ false → start_over c front ≡ (None, front)
  illegal front h = cond-false _ _ _ h

  legal : (front : List ℕ) → well_formed c ≡ true → start_over c front ≡ started front (start_in (sheet_of c) (length front))
  legal front h = cond-true _ _ _ h

  -- the sizes of a legal list
  room : well_formed c ≡ true → (places : ℕ) → Iff (start_in (sheet_of c) places ≡ short) (places < 2 * start_size (sheet_of c))
  room h = let few = legal_few c (well_formed_legal c h) in start_short (sheet_of c) few.0 few.1

  pub size_is : well_formed c ≡ true → size_of_start c ≡ start_size (sheet_of c)
  size_is h = cond-true _ _ _ h

  pub room_told : (r : ℕ) → r ≡ start_size (sheet_of c) → well_formed c ≡ true → (places : ℕ) → Iff (start_in (sheet_of c) places ≡ short) (places < 2 * r)
  room_told r e h = subst (λ (k : ℕ). (places : ℕ) → Iff (start_in (sheet_of c) places ≡ short) (places < 2 * k)) (sym e) (room h)

  joined_over : (front : List ℕ) → well_formed c ≡ true → 2 * start_size (sheet_of c) ≤ length front → (r : Option Root) (t : List ℕ)
      → MatchOption r (start_in (sheet_of c) (length front) ≡ short) (λ d. start_in (sheet_of c) (length front) ≡ grown d.literal.0 d.gates t)
      → ◌≡◌ {A = Found} (r, t) (start_over c front)
  joined_over front h enough None t told = absurd (omega (arith, enough, (room h (length front)).0 told))
  joined_over front h enough (Some d) t told = sym (legal front h ∙ ap (started front) told)

  none_short : (front : List ℕ) (o : Outcome) → (started front o).0 ≡ None → o ≡ short
  none_short front (grown x n f) e = absurd (none_some _ (sym e))
  none_short front short e = refl

  refused_over : (front : List ℕ) (r : Option Root) → r ≡ (start_over c front).0 → Iff (r ≡ None) ((Legal c → ⊥) ⊎ (length front < 2 * size_of_start c))
  refused_over front r is =
      ⊎_elim
      (λ (h : well_formed c ≡ true).
      let told : r ≡ (started front (start_in (sheet_of c) (length front))).0 = is ∙ ap (λ (q : Found). q.0) (legal front h) in
      let size = size_is h in
      let both = room h (length front) in
      let r : Iff (r ≡ None) ((Legal c → ⊥) ⊎ (length front < 2 * size_of_start c)) = (
        λ e. inr (omega (arith, size, both.0 (none_short front _ (sym told ∙ e)))),
        λ why. ⊎_elim
            (λ (not : Legal c → ⊥). absurd (not (well_formed_legal c h)))
            (λ (l : length front < 2 * size_of_start c). told ∙ ap (λ o. (started front o).0) (both.1 (omega (arith, size))))
            why,
      ) in r)
      (λ (h : well_formed c ≡ false).
      let r : Iff (r ≡ None) ((Legal c → ⊥) ⊎ (length front < 2 * size_of_start c)) = (
        λ e. inl (λ g. both_ways (well_formed c) h (legal_well_formed c g)),
        λ why. is ∙ ap (λ (q : Found). q.0) (illegal front h),
      ) in r)
      (cases_Bool (well_formed c))

-- ---- of lent lists
nothing_written : (l old : List ℕ) → start_over (counted l) (counted old) ≡ (None, counted old) → ◌≡◌ {A = Found} (None, old) (write_start l old)
nothing_written l old e =
    sym (ap (λ (q : Found). let r : Found = (q.0, q.1 ++ uncounted old) in r) e ∙ ap (λ (f : List ℕ). let r : Found = (None, f) in r) (take-append-drop (2 ^ 28) old))

pub illegal_leaves : (l old : List ℕ) → well_formed (counted l) ≡ false → ◌≡◌ {A = Found} (None, old) (write_start l old)
illegal_leaves l old h = nothing_written l old (illegal (counted l) (counted old) h)

pub short_leaves : (l old c : List ℕ) (len : ℕ) → c ≡ counted l → true ≡ well_formed c → len ≡ min (length old) (2 ^ 28) → len < 2 * start_size (sheet_of c)
    → ◌≡◌ {A = Found} (None, old) (write_start l old)
short_leaves l old c len is formed cut few =
    let long : length (counted old) ≡ len = omega (arith, cut, length-take (2 ^ 28) old) in
    let none : start_in (sheet_of c) (length (counted old)) ≡ short = (room c (sym formed) (length (counted old))).1 (omega (arith, few, long)) in
    nothing_written l old (ap (λ (x : List ℕ). start_over x (counted old)) (sym is) ∙ legal c (counted old) (sym formed) ∙ ap (started (counted old)) none)

pub refused_when : (l old t : List ℕ) (r : Option Root) → ◌≡◌ {A = Found} (r, t) (write_start l old)
    → Iff (r ≡ None) ((Legal (counted l) → ⊥) ⊎ (length (counted old) < 2 * size_of_start (counted l)))
refused_when l old t r e = refused_over (counted l) (counted old) r (ap (λ (q : Found). q.0) e)

-- what is so for bits latch by latch is so for states
states_of : (s : Sheet) (f : List ℕ) (r : Option Root) → IfSome r (λ d. Starts s f d.gates d.literal.0) →
    IfSome r (λ d. TrueAtStarts s f d.gates d.literal.0)
states_of s f None starts = tt
states_of s f (Some d) starts = λ c. starts.value (bit c)

-- the gates of the formula, with anything behind them
module _ (c : List ℕ) (formed : true ≡ well_formed c) (len : ℕ) (enough : 2 * start_size (sheet_of c) ≤ len) (front : List ℕ) (long : length front ≡ len)
    (zeros : List ℕ) (filled : zeros ≡ replicate (length front) 0) (t : List ℕ) (same : length t ≡ length zeros) (rest : List ℕ) where
  abbrev s : Sheet
  s = sheet_of c

  count_before : (x n : ℕ) → join_starts s s.latches 0 1 0 zeros ≡ grown x n t → n ≡ start_size s
  count_before x n e =
      let few = legal_few c (well_formed_legal c (sym formed)) in
      start_count s few.0 few.1 (length front) x n t (ap (join_starts s s.latches 0 1 0) (sym filled) ∙ e)

  starts_before : (x n : ℕ) → join_starts s s.latches 0 1 0 zeros ≡ grown x n t → Starts s (t ++ rest) n x
  starts_before x n e =
      let k : n ≡ start_size s = count_before x n e in
      let z : length zeros ≡ length front = ap length filled ∙ length-replicate (length front) 0 in
      let pairs : SamePairs t (t ++ rest) n = λ j l. get_or_append_left t rest 0 j (omega (arith, k, enough, long, same, z)) in
      let starts = starts_from s zeros x n t e in
      record {
        gates = gates_same s t (t ++ rest) n pairs starts.gates;
        formula = starts.formula;
        value = λ a. Decides-at _ _ (value_same s t (t ++ rest) n pairs a x) (starts.value a);
      }

  starts_if : (c' : List ℕ) → c ≡ c' → (r : Option Root)
      → MatchOption r (join_starts s s.latches 0 1 0 zeros ≡ short) (λ d. join_starts s s.latches 0 1 0 zeros ≡ grown d.literal.0 d.gates t)
      → IfSome r (λ d. Starts (sheet_of c') (t ++ rest) d.gates d.literal.0)
  starts_if c' is None told = tt
  starts_if c' is (Some d) told =
      subst (λ (x : List ℕ). Starts (sheet_of x) (t ++ rest) d.gates d.literal.0) is (starts_before d.literal.0 d.gates told)

  sized_if : (c' : List ℕ) → c ≡ c' → (r : Option Root)
      → MatchOption r (join_starts s s.latches 0 1 0 zeros ≡ short) (λ d. join_starts s s.latches 0 1 0 zeros ≡ grown d.literal.0 d.gates t)
      → IfSome r (λ d. d.gates ≡ size_of_start c')
  sized_if c' is None told = tt
  sized_if c' is (Some d) told =
      count_before d.literal.0 d.gates told ∙ sym (cond-true (well_formed c) (start_size (sheet_of c)) 0 (sym formed)) ∙ ap size_of_start is

-- the formula, joined in zeros where the list's front was
module _ (l old c : List ℕ) (len : ℕ) (is : c ≡ counted l) (formed : true ≡ well_formed c) (cut : len ≡ min (length old) (2 ^ 28)) (enough : 2 * start_size (sheet_of c) ≤ len)
    (zeros : List ℕ) (filled : zeros ≡ replicate (length (take (len - 0) old)) 0) (r : Option Root) (t : List ℕ)
    (told : MatchOption r (join_starts (sheet_of c) (latch_count c) 0 1 0 zeros ≡ short) (λ d. join_starts (sheet_of c) (latch_count c) 0 1 0 zeros ≡ grown d.literal.0 d.gates t)) where
  abbrev Told : List ℕ → Type 0
  Told f = MatchOption r (join_starts (sheet_of c) (latch_count c) 0 1 0 f ≡ short) (λ d. join_starts (sheet_of c) (latch_count c) 0 1 0 f ≡ grown d.literal.0 d.gates t)

  long : length (take (len - 0) old) ≡ len
  long = omega (arith, cut, length-take (len - 0) old)

  abbrev rest : List ℕ
  rest = post_of 0 (len - 0) old

  written : ◌≡◌ {A = Found} (r, t ++ rest) (write_start l old)
  written =
      let front : take (len - 0) old ≡ counted old = take_min old (2 ^ 28) (len - 0) (omega arith) in
      let behind : drop (len - 0) old ≡ uncounted old = drop_min old (2 ^ 28) (len - 0) (omega arith) in
      let here : ◌≡◌ {A = Found} (r, t) (start_over c (take (len - 0) old)) = joined_over c (take (len - 0) old) (sym formed) (omega (arith, enough, long)) r t (subst Told filled told) in
      let done : ◌≡◌ {A = Found} (r, t) (start_over (counted l) (counted old)) = here ∙ (λ i. start_over (is i) (front i)) in
      (λ i. ((done i).0, (done i).1 ++ behind i))

  -- what the call promises of it
  pub start_done : length t ≡ length zeros
      → (◌≡◌ {A = Found} (r, t ++ rest) (write_start l old))
      × IfSome r (λ d. Starts (sheet_of (counted l)) (t ++ rest) d.gates d.literal.0)
      × IfSome r (λ d. TrueAtStarts (sheet_of (counted l)) (t ++ rest) d.gates d.literal.0)
      × IfSome r (λ d. d.gates ≡ size_of_start (counted l))
      × Iff (r ≡ None) ((Legal (counted l) → ⊥) ⊎ (length (counted old) < 2 * size_of_start (counted l)))
  start_done same =
      let starts = starts_if c formed len enough (take (len - 0) old) long zeros filled t same rest (counted l) is r told in (
        written,
        starts,
        states_of (sheet_of (counted l)) (t ++ rest) r starts,
        sized_if c formed len enough (take (len - 0) old) long zeros filled t same rest (counted l) is r told,
        refused_when l old (t ++ rest) r written,
      )
