use Rattle.std.proofs.Common.{◌≡◌, ◌∙◌, rules}
use Rattle.lists.specs.Counted.{counted}
use Rattle.sheet.proofs.Legality.{legal_well_formed}
use Rattle.formula.specs.Built.{size_of_start}
use Rattle.formula.proofs.Writing.{size_is, room_told}
use Rattle.formula.proofs.start.start_size.Goals as goal

pub returns-clause-tells_the_room : goal.returns-clause-tells_the_room
returns-clause-tells_the_room c =
    let l = counted c.args.sheet.now in
    let size : c.map_or.result ≡ size_of_start l = search rules in
    λ legal. let formed = legal_well_formed l legal in room_told l c.map_or.result (size ∙ size_is l formed) formed
