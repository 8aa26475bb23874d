-- Which variables the two parts of a path question have. Assumes nothing.
use Rattle.std.proofs.Common.{◌≡◌, ℕ, ◌+◌, ◌*◌, ◌/◌, ◌<◌, ◌≤◌, true, false, ◌||◌, ltb, leb, List, one-mul, zero-mul, arith}
use Rattle.std.specs.List.{AllByRecursion}
use Rattle.std.proofs.lemmas.Nat.{mul-add-lt, mul-le}
use Rattle.std.proofs.ByRecursion.{All-weaker}
use Rattle.std.proofs.lemmas.Bool.{ltb-true, leb-true, lt-ltb, le-ltb, le-leb, lt-leb, and_parts, and_from, or_from, or_left, or_right}
use Rattle.sheet.specs.Sheets.{Sheet, sheet_of}
use Rattle.formula.specs.Formulas.{width, Formula, Gates}
use Rattle.question.specs.Clauses.{first_clauses, second_clauses}
use Rattle.question.specs.Meaning.{is_local, is_shared, Sides, PathSides}
use Rattle.question.specs.Questions.{Mem}
use Rattle.question.proofs.Variables.{Lawful, legal_lawful, Over, over_mem, first_over, second_over}

module _ (s : Sheet) (k : ℕ) where
  abbrev w : ℕ
  w = width s

  low_local : (j : ℕ) → j < w → is_local s k j ≡ true
  low_local j h = or_left (ltb j w) (leb ((k + 2) * w) j) (lt-ltb j w h)

  high_local : (j : ℕ) → (k + 2) * w ≤ j → is_local s k j ≡ true
  high_local j h = or_right (ltb j w) (leb ((k + 2) * w) j) (le-leb ((k + 2) * w) j h)

  not_local : (j : ℕ) → w ≤ j → j < (k + 2) * w → is_local s k j ≡ false
  not_local j a b = or_from (ltb j w) (leb ((k + 2) * w) j) (le-ltb j w a) (lt-leb ((k + 2) * w) j b)

  latch_shared : (i : ℕ) → i < s.latches → is_shared s (1 * w + (1 + s.inputs + i)) ≡ true
  latch_shared i h =
      let one = one-mul w in
      and_from (leb (w + 1 + s.inputs) (1 * w + (1 + s.inputs + i))) (ltb (1 * w + (1 + s.inputs + i)) (w + 1 + s.inputs + s.latches))
      (le-leb _ _ (omega arith)) (lt-ltb _ _ (omega arith))

  -- what is shared is not local
  shared_apart : (j : ℕ) → is_shared s j ≡ true → is_local s k j ≡ false
  shared_apart j h =
      let p = and_parts (leb (w + 1 + s.inputs) j) (ltb j (w + 1 + s.inputs + s.latches)) h in
      let a : w + 1 + s.inputs ≤ j = leb-true (w + 1 + s.inputs) j p.0 in
      let b : j < w + 1 + s.inputs + s.latches = ltb-true j (w + 1 + s.inputs + s.latches) p.1 in
      not_local j (omega arith) (omega (arith, mul-le 2 w (k + 2) w (omega arith) (omega arith)))

  module _ (lawful : Lawful s) (f : List ℕ) (n : ℕ) (gates : Gates s f n) where
    abbrev Ours : ℕ → Type 0
    Ours j = (is_local s k j || is_shared s j) ≡ true

    local_ours : (j : ℕ) → is_local s k j ≡ true → Ours j
    local_ours j h = or_left (is_local s k j) (is_shared s j) h

    first_ours : (r : ℕ) → Formula s n r → AllByRecursion (Over Ours) (first_clauses s f n r k)
    first_ours r is =
        first_over Ours s lawful f n gates r k is
        (λ j h. local_ours (0 * w + j) (low_local (0 * w + j) (omega (arith, zero-mul w))))
        (λ i h. or_right (is_local s k (1 * w + (1 + s.inputs + i))) (is_shared s (1 * w + (1 + s.inputs + i))) (latch_shared i h))
        (record {
          latches = λ i h. local_ours (1 + s.inputs + i) (low_local (1 + s.inputs + i) (omega arith));
          gates = λ g h. local_ours ((k + 2) * w + g) (high_local ((k + 2) * w + g) (omega arith));
        })

    abbrev Theirs : ℕ → Type 0
    Theirs j = is_local s k j ≡ false

    second_theirs : AllByRecursion (Over Theirs) (second_clauses s k)
    second_theirs =
        second_over Theirs s lawful f n gates k (λ t a b j h.
        not_local (t * w + j) (omega (arith, mul-le 1 w t w a (omega arith), one-mul w)) (omega (arith, mul-add-lt t w j (k + 2) (omega arith) h)))

    pub sides : (r : ℕ) → Formula s n r → Sides s f n r k
    sides r is =
        record {
          first = All-weaker (Over Ours) (λ c. (x : ℕ) → Mem x c → Ours (x / 2)) (over_mem Ours) (first_clauses s f n r k) (first_ours r is);
          second = All-weaker (Over Theirs) (λ c. (x : ℕ) → Mem x c → Theirs (x / 2)) (over_mem Theirs) (second_clauses s k) second_theirs;
          apart = shared_apart;
        }

pub path_sides : PathSides
path_sides l f n r k legal gates is = sides (sheet_of l) k (legal_lawful l legal) f n gates r is
