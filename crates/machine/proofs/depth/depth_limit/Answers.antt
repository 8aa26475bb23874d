use Rattle.std.proofs.Common.{◌≡◌, ℕ, ◌*◌, ◌%◌, ◌^◌, ◌<◌, ◌≤◌, List, Ok, sym, ap, ◌∙◌, mod-eq_of_lt, one-mul, arith}
use lib.Pow.{pow-lt}
use Rattle.std.proofs.lemmas.Bool.{cond-false, cond-true}
use Rattle.lists.specs.Counted.{counted}
use Rattle.sheet.specs.Sheets.{sheet_of, latch_count}
use Rattle.machine.proofs.Depths.{has_reverse_depth, depth_low}
use Rattle.machine.proofs.Reaching.{bad_runs}
use Rattle.machine.proofs.depth.depth_limit.Goals as goal

pub returns-in_default : goal.returns-in_default
returns-in_default c =
    record {
      is_the_number_of_states = rw c.refuse.ensures (sym (cond-false _ _ _ (sym c.in_default.ensures.is_the_test)));
      each_sheet_has_exactly_one_depth = has_reverse_depth;
      bad_runs_need_no_more_steps = bad_runs;
      limits_the_reverse_depth = tt;
    }

-- 1 shifted by at most 24 bits
shifted : (n : ℕ) → n ≤ 24 → 1 * 2 ^ n % 2 ^ 32 ≡ 2 ^ n
shifted n few =
    let less : n < 32 = omega arith in
    ap (λ k. k % 2 ^ 32) (one-mul (2 ^ n)) ∙ mod-eq_of_lt (pow-lt less)

pub returns : goal.returns
returns c =
    let l : List ℕ = counted c.args.sheet.now in
    let sheet = c.in-Some.sheet in
    let latches : c.latches.result ≡ latch_count l = c.latches.ensures ∙ ap latch_count c.in-Some.ensures.only_of_legal_lists in
    let power : 1 * 2 ^ c.latches.result % 2 ^ 32 ≡ 2 ^ latch_count l =
    shifted c.latches.result (omega (arith, c.latches.ensures, sheet.legal.few_latches)) ∙ ap (λ n. 2 ^ n) latches in
    record {
      is_the_number_of_states = ap (λ n. Ok n) power ∙ sym (cond-true _ _ _ (sym c.in-Some.ensures.is_the_test));
      each_sheet_has_exactly_one_depth = has_reverse_depth;
      bad_runs_need_no_more_steps = bad_runs;
      limits_the_reverse_depth = λ depth is. rw power (depth_low (sheet_of l) depth is);
    }
