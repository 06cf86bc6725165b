use Rattle.std.proofs.Common.{length, take, sym, arith}
use Rattle.std.proofs.lemmas.List.{length-take-le}
use Rattle.keys.proofs.Counts.{has_room}
use Rattle.keys.proofs.memory.make_room.Goals as goal

pub returns-in-None-clause-free : goal.returns-in-None-clause-free
returns-in-None-clause-free g c =
    let xs = c.args.xs.now in
    let held = take c.args.count xs in
    let room = has_room g.K.Key.grouped c.args.most (length xs) c.args.key.now held c.requires.group c.requires.some (sym c.in-None.ensures.value) in
    omega (arith, room, length-take-le c.args.count xs c.requires.held)
