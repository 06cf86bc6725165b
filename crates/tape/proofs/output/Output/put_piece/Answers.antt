use Rattle.std.proofs.Common.{[], ◌∷◌, length, arith}
use Rattle.tape.proofs.Puts.{then_put}
use Rattle.tape.proofs.Pieces.{length-piece, zeros_past}
use Rattle.tape.proofs.output.Output.put_piece.Goals as goal

pub returns : goal.returns
returns c =
    let octets = c.args.octets.now in
    let zeros = zeros_past (length octets) c.requires.few in
    let long = length-piece octets c.requires.few in
    let start = c.args.self.now in
    let two = then_put start c.put.new.self c.put-2.new.self (0x44 ∷ length octets ∷ []) octets c.put.ensures c.put-2.ensures (omega arith) in
    then_put start c.put-2.new.self c.put-3.new.self (0x44 ∷ length octets ∷ octets) _ two (rw zeros at c.put-3.ensures) (omega arith)
