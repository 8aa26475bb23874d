use Rattle.std.proofs.Common.{◌≡◌, ◌+◌, ◌-◌, ◌*◌, ◌++◌, get_or, take, drop, ◌∙◌, rules}
use Rattle.std.proofs.lemmas.List.{places}
use Rattle.producer.proofs.rows.join_line.Goals as goal

pub returns-clause-joined : goal.returns-clause-joined
returns-clause-joined c = λ i l.
    let w = c.args.work.now in
    let v = c.args.v in
    let d = c.args.d in
    let from = c.row-from.result in
    let others : get_or (take (from + v - from) (drop from c.split_at_mut-stack.result.0.now)) i 0 ≡ get_or w ((d + 2) * v + i) 0 = search (rules, places) in
    let marks : get_or (take v c.split_at_mut-stack.result.1.now) i 0 ≡ get_or w ((v + 2) * v + i) 0 = search (rules, places) in
    let own = c.join_rows.ensures i (search (rules, places)) in
    let placed : get_or (c.split_at_mut-stack.result.0.now ++ (c.join_rows.new.marks ++ drop v c.split_at_mut-stack.result.1.now)) ((v + 2) * v + i) 0 ≡ get_or c.join_rows.new.marks i 0 =
    search (rules, places) in
    rw (← others, ← marks) (placed ∙ own)
