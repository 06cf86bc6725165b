use Rattle.std.proofs.Common.{◌∷◌, [], sym, ap, ◌∙◌, arith}
use Rattle.octets.specs.Octets.{written}
use Rattle.octets.proofs.Writes.{then-written}
use Rattle.tape.proofs.Pieces.{full_piece, length-piece}
use Rattle.tape.proofs.write.put_full_piece.Goals as goal

pub returns-clause-after : goal.returns-clause-after
returns-clause-after c =
    let xs = c.args.octets.now in
    let m = c.args.memory.now in
    let long = length-piece xs (omega (arith, c.told-octets)) in
    then-written m c.put-next.new.memory c.put.new.memory (0x44 ∷ 32 ∷ []) xs c.args.at c.put-next.result c.put-next.ensures.after c.put.ensures.after c.put-next.ensures.next (omega (arith, c.put-next.ensures.next))
    ∙ ap (λ z. written c.args.at z m) (sym (full_piece xs (omega (arith, c.told-octets))))
