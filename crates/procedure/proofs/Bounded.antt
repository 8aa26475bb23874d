-- Limits that are large enough are never met: the turns at each point of every series, by induction over it. Assumes nothing.
use Rattle.std.proofs.Common.{◌≡◌, ℕ, ◌+◌, ◌*◌, ◌^◌, ◌<◌, ◌≤◌, true, eqb, refl, le_refl, add-one, arith}
use Rattle.std.proofs.lemmas.Nat.{mul-le}
use Rattle.std.proofs.lemmas.Bool.{cond_both, eqb-true, or_left, or_right}
use Rattle.sheet.specs.Sheets.{Sheet}
use Rattle.machine.specs.Runs.{State}
use Rattle.machine.specs.Depth.{Within}
use Rattle.machine.proofs.Count.{count, count_le, count_grows, count_some}
use Rattle.procedure.specs.Procedure.{Region, StartRegion, Check, Question, start, path, inclusion, Verdict, safe, run, undecided, spent, Point, asks, ended, turns_of, union, Witness, Answer, start_yes, start_no, path_run, path_ends, path_deeper, path_no, inclusion_yes, inclusion_no, limited, Series, opens, answers, cleared, RisesTo, most}
use Rattle.procedure.proofs.Starting.{first_state}
use Rattle.procedure.proofs.Sound.{Standing, Holds, holds}

-- each bound left behind has 2 ^ (latches + 1) turns, and each state of the region has two
abbrev due : {s : Sheet} → ℕ → Check s → ℕ
due {s} visited c = visited * 2 ^ (s.latches + 1) + 2 * count s.latches c.region

double : (n : ℕ) → 2 ^ (n + 1) ≡ 2 * 2 ^ n
double n = rw add-one (omega arith)

due_low : {s : Sheet} (visited : ℕ) (c : Check s) (r : ℕ) → visited ≤ r → due visited c < most s.latches r
due_low {s} visited c r h =
    omega (
      arith,
      double s.latches,
      count_le s.latches c.region,
      mul-le visited (2 ^ (s.latches + 1)) r (2 ^ (s.latches + 1)) h (le_refl (2 ^ (s.latches + 1))),
    )

-- The bounds that were left behind are fewer than the bound, and each was below the reverse depth; they and the region pay
-- for the turns, with so many left over.
record Paying {s : Sheet} (K r left : ℕ) (c : Check s) : Type 0 where
  visited : ℕ
  below : visited ≤ c.bound
  shallow : visited ≤ r
  allowed : c.bound ≤ K
  paid : c.turns + left ≤ due visited c

abbrev Barred : {s : Sheet} → (K Q r : ℕ) → Verdict s → Type 0
Barred K Q r safe = Unit {0}
Barred K Q r (run d j) = Unit {0}
Barred K Q r undecided = r ≤ K → ⊥
Barred {s} K Q r spent = most s.latches r ≤ Q → ⊥

-- the invariant
abbrev Paid : {s : Sheet} → (K Q r : ℕ) → Point s → Type 0
Paid K Q r (asks c start) = (c.bound ≡ 0) × (c.turns ≡ 0)
Paid K Q r (asks c path) = Paying K r 1 c
Paid K Q r (asks c (inclusion P)) = Paying K r 0 c
Paid {s} K Q r (ended v turns) = (turns ≤ most s.latches r) × Barred K Q r v

module _ (s : Sheet) (initial : Region s) (next : ℕ → ℕ) (K Q r : ℕ) (tells : StartRegion s initial) (rises : RisesTo K next) (near : Within s r) where
  -- a grown region has a yes only below the reverse depth, since its states are farther than the bound from what is bad
  unreached : (c : Check s) (n : ℕ) → Standing s next c n → c.grown ≡ true
      → (d : State s) (j : ℕ) → Witness s c.region c.bound d j → c.bound < r
  unreached c n h grown d j w =
      let q = near d j w.reaches in
      omega (arith, q.1, h.far grown d q.0 w.inside q.2)

  some_start : (R : Region s) → StartRegion s R → 0 < count s.latches R
  some_start R h = let d = first_state s in count_some s.latches R d.0 ((h d.0).1 d.1)

  low : {left : ℕ} (c : Check s) → Paying K r left c → c.turns < most s.latches r
  low c b = omega (arith, b.paid, due_low b.visited c r b.shallow)

  paid_after : {p q : Point s} → Answer s initial next K p q → (n : ℕ) → Holds s next n p → Paid K Q r p → Paid K Q r q
  paid_after (start_yes c d inside bad) n h b = (omega arith, tt)
  paid_after (start_no c none) n h b =
      record { visited = 0; below = omega arith; shallow = omega arith; allowed = omega arith; paid = omega (arith, some_start c.region h.2) }
  paid_after (path_run c d j w ungrown) n h b = (omega (arith, low c b), tt)
  paid_after (path_ends c d j w grown last) n h b = (omega (arith, low c b), λ deep. omega (arith, unreached c n h grown d j w))
  paid_after (path_deeper c d j w grown more) n h b =
      let less : c.bound < K = omega (arith, b.allowed, more) in
      record {
        visited = b.visited + 1;
        below = omega (arith, b.below, (rises c.bound less).0);
        shallow = omega (arith, b.below, unreached c n h grown d j w);
        allowed = (rises c.bound less).1;
        paid = omega (arith, b.paid, double s.latches, count_le s.latches c.region, some_start initial tells);
      }
  paid_after (path_no c P none i) n h b =
      record { visited = b.visited; below = b.below; shallow = b.shallow; allowed = b.allowed; paid = omega (arith, b.paid) }
  paid_after (inclusion_yes c P d has out) n h b =
      record {
        visited = b.visited;
        below = b.below;
        shallow = b.shallow;
        allowed = b.allowed;
        paid =
            omega (
              arith,
              b.paid,
              count_grows s.latches c.region (union s c.region P) (λ t. or_left (c.region t) (P t)) d out (or_right (c.region d) (P d) has),
            );
      }
  paid_after (inclusion_no c P within) n h b = (omega (arith, low c b), tt)

  low_at : (c : Check s) (q : Question s) → Paid K Q r (asks c q) → c.turns < most s.latches r
  low_at c start b = omega arith
  low_at c path b = low c b
  low_at c (inclusion P) b = low c b

  paid_limited : (p : Point s) → Paid K Q r p → Paid K Q r (limited Q p)
  paid_limited (asks c q) b =
      cond_both (eqb c.turns Q) _ _ (Paid K Q r)
      (λ e. (omega (arith, low_at c q b), λ long. omega (arith, low_at c q b, eqb-true c.turns Q e))) (λ _. b)
  paid_limited (ended v turns) b = b

  paid_always : {p : Point s} → Series s initial next K Q p → Paid K Q r p
  paid_always opens = (refl, refl)
  paid_always (answers p q u a) = paid_limited q (paid_after a (cleared u) (holds s initial next K tells u) (paid_always u))

  pub fewer : (c : Check s) (q : Question s) → Series s initial next K Q (asks c q) → c.turns < most s.latches r
  fewer c q u = low_at c q (paid_always u)

  pub few : (p : Point s) → Series s initial next K Q p → turns_of p ≤ most s.latches r
  few (asks c q) u = omega (arith, fewer c q u)
  few (ended v turns) u = (paid_always u).0

  pub decided : r ≤ K → (turns : ℕ) → Series s initial next K Q (ended undecided turns) → ⊥
  decided deep turns u = (paid_always u).1 deep

  pub unspent : most s.latches r ≤ Q → (turns : ℕ) → Series s initial next K Q (ended spent turns) → ⊥
  unspent long turns u = (paid_always u).1 long
