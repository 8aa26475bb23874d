-- The guarantee, for every check of every machine. Assumes nothing.
use Rattle.std.proofs.Common.{ℕ, arith}
use Rattle.sheet.specs.Sheets.{Sheet}
use Rattle.procedure.specs.Procedure.{Region, StartRegion, OneByOne, RisesTo, Guarantee}
use Rattle.procedure.proofs.Sound.{run_reaches, holds}
use Rattle.procedure.proofs.Bounded.{few, fewer, decided, unspent}

pub guarantee : (s : Sheet) (initial : Region s) → StartRegion s initial → (next : ℕ → ℕ) (K Q : ℕ) → Guarantee s initial next K Q
guarantee s initial tells next K Q =
    record {
      safe_is_safe = λ turns u. holds s initial next K tells u;
      run_is_bad = λ d j turns u. let h = holds s initial next K tells u in (h.0, h.1);
      none_within_cleared = λ d j turns u. (holds s initial next K tells u).2;
      run_is_shortest = λ one d j turns u. (holds s initial next K tells u).3 one;
      none_within_bound = λ one c u m b.
          let h = holds s initial next K tells u in
          omega (arith, h.by_one one, h.clear b.first.state m b.starts (run_reaches b));
      few_turns = λ rises r d. few s initial next K Q r tells rises d.within;
      fewer_before_end = λ rises r d. fewer s initial next K Q r tells rises d.within;
      never_undecided = λ rises r d. decided s initial next K Q r tells rises d.within;
      never_spent = λ rises r d. unspent s initial next K Q r tells rises d.within;
    }

-- bounds that are tried one by one rise to any limit
pub one_by_one_rises : (next : ℕ → ℕ) (K : ℕ) → OneByOne next → RisesTo K next
one_by_one_rises next K one k h = (omega (arith, one k), omega (arith, one k))
