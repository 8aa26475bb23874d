use Rattle.std.proofs.Common.{◌+◌, set, sym, subst, arith}
use Rattle.std.specs.declared.ops.ControlFlow.TheVariants.{Continue}
use Rattle.producer.specs.Machine.{Moved}
use Rattle.producer.proofs.Stacks.{rows_fit}
use Rattle.producer.proofs.Moving.{move_closed, move_found, move_open}
use Rattle.producer.proofs.split.descend.Goals as goal

pub returns-in-Some : goal.returns-in-Some
returns-in-Some c = λ n a all none st.
    move_closed c.args.question.now n c.args.v c.args.work.now a c.args.at all none c.requires.under (omega (arith, rows_fit c.args.v)) st
    c.mark_line.new.work c.in-Some.k c.requires.short c.in-Some.ensures c.mark_line.ensures.marked c.mark_line.ensures.kept

pub returns-then-at-v : goal.returns-then-at-v
returns-then-at-v c = λ n a all none st.
    move_found c.args.question.now n c.args.v c.args.work.now a c.args.at all none c.requires.under (omega (arith, rows_fit c.args.v)) st
    c.in_default.ensures c.if-at-v.true

pub returns : goal.returns
returns c = λ n a all none st.
    let s = c.args.at in
    subst (λ o. Moved c.args.question.now n c.args.v c.args.work.now (set c.args.work.now s.depth 0) a s all (Continue (record { depth = s.depth + 1; steps = s.steps; line = o }))) (sym none)
    (move_open c.args.question.now n c.args.v c.args.work.now a s all none c.requires.under (omega (arith, rows_fit c.args.v)) st
    c.in_default.ensures (omega arith) c.requires.short)
