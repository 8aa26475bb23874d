use Rattle.std.proofs.Common.{sym, ap, ◌∙◌, arith}
use Rattle.sheet.specs.Render.{well_formed}
use Rattle.formula.proofs.Writing.{illegal_leaves, short_leaves, refused_when, start_done}
use Rattle.formula.proofs.start.start_formula.Goals as goal

pub returns-in_err-sheet-clause-writes_the_start_formula : goal.returns-in_err-sheet-clause-writes_the_start_formula
returns-in_err-sheet-clause-writes_the_start_formula c =
    rw c.from_residual.ensures (illegal_leaves c.args.sheet.now c.args.list.now (sym c.in_err-sheet.ensures.is_the_test))

pub returns-then-len-count_gates : goal.returns-then-len-count_gates
returns-then-len-count_gates c =
    let l = c.args.sheet.now in
    let old = c.args.list.now in
    let cut = c.in_ok-sheet.ensures.only_of_legal_lists in
    let formed = c.in_ok-sheet.ensures.is_the_test ∙ ap well_formed (sym cut) in
    let is = short_leaves l old _ c.counted_len-len.result cut formed c.counted_len-len.ensures (omega (arith, c.count_gates.ensures)) in
    record { writes_the_start_formula = is; is_true_in_start_states_only = tt; is_true_in_the_machines_start_states = tt; has_the_told_size = tt; refuses_illegal_or_short = refused_when l old old _ is }

pub returns : goal.returns
returns c =
    let cut = c.in_ok-sheet.ensures.only_of_legal_lists in
    let formed = c.in_ok-sheet.ensures.is_the_test ∙ ap well_formed (sym cut) in
    let done = start_done c.args.sheet.now c.args.list.now _ c.counted_len-len.result cut formed c.counted_len-len.ensures
    (omega (arith, c.count_gates.ensures)) c.fill.new.self (c.fill.ensures.after (λ y e. e)) c.join_starts.result c.join_starts.new.list c.join_starts.ensures c.join_starts.auto.list in
    record {
      writes_the_start_formula = done.0;
      is_true_in_start_states_only = done.1;
      is_true_in_the_machines_start_states = done.2;
      has_the_told_size = done.3;
      refuses_illegal_or_short = done.4;
    }
