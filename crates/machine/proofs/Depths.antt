-- Each sheet has a reverse depth: the sets of the states that reach a bad one within j steps grow until they stay.
-- Assumes nothing.
use Rattle.std.proofs.Common.{◌≡◌, ℕ, zero, suc, ◌+◌, ◌^◌, ◌<◌, ◌≤◌, true, false, not, ◌&&◌, ◌||◌, ◌⊎◌, List, [], ◌∷◌, length, refl, subst, inl, inr, arith}
use Rattle.std.proofs.lemmas.Bool.{both_ways, cases_Bool, cases_lt, and_parts, and_from, not-true, not_from_false, or_cases, or_left, or_right}
use Rattle.sheet.specs.Sheets.{Sheet}
use Rattle.machine.specs.Runs.{State, Inputs, Frame, value_in, Follows, BadIn, BadPath, Reaches}
use Rattle.machine.specs.Depth.{Within, ReverseDepth, Fewest, HasReverseDepth}
use Rattle.machine.proofs.Count.{Region, count, count_le, count_grows, some, found, is_some}
use Rattle.machine.proofs.Steps.{stepped, stepped_follows, only_stepped}

module _ (s : Sheet) where
  abbrev at : State s → Inputs s → Frame s
  at c x = record { state = c; inputs = x }

  -- the states that are bad, and those that a step takes into a set
  abbrev bad_states : Region s.latches
  bad_states c = some s.inputs (λ x. value_in s (at c x) s.bad)

  abbrev into : Region s.latches → Region s.latches
  into R c = some s.inputs (λ x. R (stepped s (at c x)))

  -- the states that reach a bad one within j steps
  abbrev pub back : ℕ → Region s.latches
  back zero c = bad_states c
  back (suc j) c = back j c || into (back j) c

  pub back_reaches : (j : ℕ) (c : State s) → back j c ≡ true → (q : ℕ) × (q ≤ j) × Reaches s c q
  back_reaches zero c e =
      let x = found s.inputs (λ x. value_in s (at c x) s.bad) e in
      (0, omega arith, record { inputs = x.0; later = []; meets = record { path = tt; ends_bad = x.1 }; steps = refl })
  back_reaches (suc j) c e =
      elim (or_cases (back j c) (into (back j) c) e) [
        | inl h ↦ (let t = back_reaches j c h in (t.0, omega (arith, t.1), t.2))
        | inr h ↦
            (let x = found s.inputs (λ x. back j (stepped s (at c x))) h in
            let t = back_reaches j (stepped s (at c x.0)) x.1 in
            (suc t.0, omega (arith, t.1), longer c x.0 t.0 t.2))
      ]
    where
      longer : (c : State s) (x : Inputs s) (q : ℕ) → Reaches s (stepped s (at c x)) q → Reaches s c (suc q)
      longer c x q r =
          record {
            inputs = x;
            later = at (stepped s (at c x)) r.inputs ∷ r.later;
            meets = record { path = (stepped_follows s (at c x), r.meets.path); ends_bad = r.meets.ends_bad };
            steps = omega (arith, r.steps);
          }

  bad_back : (j : ℕ) (f : Frame s) → BadIn s f → back j f.state ≡ true
  bad_back zero f b = is_some s.inputs (λ x. value_in s (at f.state x) s.bad) f.inputs b
  bad_back (suc j) f b = or_left (back j f.state) (into (back j) f.state) (bad_back j f b)

  step_back : (j : ℕ) (f : Frame s) (c : State s) → Follows s f c → back j c ≡ true → back (suc j) f.state ≡ true
  step_back j f c st e =
      or_right (back j f.state) (into (back j) f.state)
      (is_some s.inputs (λ x. back j (stepped s (at f.state x))) f.inputs (subst (λ d. back j d ≡ true) (only_stepped s f c st) e))

  back_path : (f : Frame s) (fs : List (Frame s)) (j : ℕ) → length fs ≤ j → BadPath s f fs → back j f.state ≡ true
  back_path f [] j h m = bad_back j f m.ends_bad
  back_path f (g ∷ gs) zero h m = absurd (omega arith)
  back_path f (g ∷ gs) (suc j) h m =
      step_back j f g.state m.path.0
      (back_path g gs j (omega arith) (record { path = m.path.1; ends_bad = m.ends_bad }))

  pub back_has : (c : State s) (m j : ℕ) → m ≤ j → Reaches s c m → back j c ≡ true
  back_has c m j h r = back_path (at c r.inputs) r.later j (omega (arith, r.steps)) r.meets

  abbrev Stays : ℕ → Type 0
  Stays j = (c : State s) → back (suc j) c ≡ true → back j c ≡ true

  stays_path : (j : ℕ) → Stays j → (f : Frame s) (fs : List (Frame s)) → BadPath s f fs → back j f.state ≡ true
  stays_path j h f [] m = bad_back j f m.ends_bad
  stays_path j h f (g ∷ gs) m =
      h f.state (step_back j f g.state m.path.0 (stays_path j h g gs (record { path = m.path.1; ends_bad = m.ends_bad })))

  within_stays : (j : ℕ) → Within s j → Stays j
  within_stays j h c e =
      let t = back_reaches (suc j) c e in
      let u = h c t.0 t.2 in
      back_has c u.0 j u.1 u.2

  stays_within : (j : ℕ) → Stays j → Within s j
  stays_within j h c m r = back_reaches j c (stays_path j h (at c r.inputs) r.later r.meets)

  abbrev new : ℕ → Region s.latches
  new j c = back (suc j) c && not (back j c)

  grows : (j : ℕ) → some s.latches (new j) ≡ true → count s.latches (back j) < count s.latches (back (suc j))
  grows j e =
      let t = found s.latches (new j) e in
      let h = and_parts (back (suc j) t.0) (not (back j t.0)) t.1 in
      count_grows s.latches (back j) (back (suc j)) (λ c. or_left (back j c) (into (back j) c)) t.0 (not-true (back j t.0) h.1) h.0

  stays : (j : ℕ) → some s.latches (new j) ≡ false → Stays j
  stays j e c h =
      elim (cases_Bool (back j c)) [
        | inl t ↦ t
        | inr f ↦
            absurd (both_ways (some s.latches (new j)) e
            (is_some s.latches (new j) c (and_from (back (suc j) c) (not (back j c)) h (not_from_false (back j c) f))))
      ]

  moves : (j : ℕ) → some s.latches (new j) ≡ true → Stays j → ⊥
  moves j e h =
      let t = found s.latches (new j) e in
      let p = and_parts (back (suc j) t.0) (not (back j t.0)) t.1 in
      both_ways (back j t.0) (not-true (back j t.0) p.1) (h t.0 p.0)

  abbrev Unsettled : ℕ → Type 0
  Unsettled j = (i : ℕ) → i < j → Stays i → ⊥

  unsettled_on : (j : ℕ) → Unsettled j → some s.latches (new j) ≡ true → Unsettled (suc j)
  unsettled_on j before e i h st =
      elim (cases_lt i j) [ inl lt ↦ before i lt st | inr le ↦ moves j e (let k : i ≡ j = omega arith in subst Stays k st) ]

  abbrev Bounded : Type 0
  Bounded = (r : ℕ) × (r ≤ 2 ^ s.latches) × ReverseDepth s r

  settled : (j : ℕ) → j ≤ count s.latches (back j) → Unsettled j → some s.latches (new j) ≡ false → Bounded
  settled j low before e =
      (j, omega (arith, count_le s.latches (back j)), record { within = stays_within j (stays j e); least = λ q h. least q h (cases_lt q j) })
    where
      least : (q : ℕ) → Within s q → (q < j) ⊎ (j ≤ q) → j ≤ q
      least q h (inl lt) = absurd (before q lt (within_stays q h))
      least q h (inr le) = le

  -- each j that does not settle it adds a state
  seek : (m j : ℕ) → 2 ^ s.latches ≤ count s.latches (back j) + m → j ≤ count s.latches (back j) → Unsettled j → Bounded
  seek zero j full low before =
      elim (cases_Bool (some s.latches (new j))) [
        | inl more ↦ absurd (omega (arith, grows j more, count_le s.latches (back (suc j))))
        | inr e ↦ settled j low before e
      ]
  seek (suc m) j full low before =
      elim (cases_Bool (some s.latches (new j))) [
        | inl more ↦ seek m (suc j) (omega (arith, grows j more)) (omega (arith, grows j more)) (unsettled_on j before more)
        | inr e ↦ settled j low before e
      ]

  -- a state that is new at the last but one j needs as many steps as the depth is
  pub attained_by : (d : ℕ) → ReverseDepth s d → (d ≡ 0) ⊎ ((c : State s) × Fewest s c d)
  attained_by zero h = inl refl
  attained_by (suc d) h =
      elim (cases_Bool (some s.latches (new d))) [
        | inl more ↦ inr (newest (found s.latches (new d) more))
        | inr e ↦ absurd (omega (arith, h.least d (stays_within d (stays d e))))
      ]
    where
      newest : ((c : State s) × (new d c ≡ true)) → (c : State s) × Fewest s c (suc d)
      newest t =
          let c = t.0 in
          let p = and_parts (back (suc d) c) (not (back d c)) t.1 in
          let far : (q : ℕ) → Reaches s c q → suc d ≤ q =
          λ q r. elim (cases_lt d q) [
            | inl lt ↦ lt
            | inr le ↦ absurd (both_ways (back d c) (not-true (back d c) p.1) (back_has c q d le r))
          ] in
          let near = back_reaches (suc d) c p.0 in
          let same : near.0 ≡ suc d = omega (arith, near.1, far near.0 near.2) in
          (c, record { reaches = subst (λ m. Reaches s c m) same near.2; no_fewer = far })

pub only_depth : (s : Sheet) (q r : ℕ) → ReverseDepth s q → ReverseDepth s r → q ≡ r
only_depth s q r a b = omega (arith, a.least r b.within, b.least q a.within)

pub has_reverse_depth : (s : Sheet) → HasReverseDepth s
has_reverse_depth s =
    let d = seek s (2 ^ s.latches) 0 (omega arith) (omega arith) (λ i h. absurd (omega arith)) in
    record {
      depth = d.0;
      is_depth = d.2;
      only = λ r h. only_depth s r d.0 h d.2;
      bounded = d.1;
      attained = attained_by s d.0 d.2;
      none = λ unreached. omega (arith, d.2.least 0 (λ c m h. absurd (unreached c m h)));
    }

pub depth_low : (s : Sheet) (r : ℕ) → ReverseDepth s r → r ≤ 2 ^ s.latches
depth_low s r h = let d = has_reverse_depth s in omega (arith, d.only r h, d.bounded)
