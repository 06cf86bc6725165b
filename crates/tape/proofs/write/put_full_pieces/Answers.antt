use Rattle.std.proofs.Common.{◌≡◌, [], ◌+◌, length, get_or, take, sym, ap, ◌∙◌, length-append, arith}
use Rattle.std.proofs.lemmas.List.{take_all}
use Rattle.std.specs.List.{flat_map}
use Rattle.octets.specs.Octets.{written}
use Rattle.octets.proofs.Writes.{written_none, then-written}
use Rattle.tape.specs.Format.{piece}
use Rattle.tape.proofs.Puts.{full_pieces_more, full_pieces_within}
use Rattle.tape.proofs.write.put_full_pieces.Goals as goal

pub loop-octets-init : goal.loop-octets-init
loop-octets-init c = (omega arith, sym (written_none c.args.memory.now c.args.at))

pub put_full_piece-next-requires : goal.put_full_piece-next-requires
put_full_piece-next-requires c =
    let ps = c.args.pieces.now in
    let i = c.loop-octets.octets-index in
    let whole = ap length (full_pieces_more ps i c.loop-octets-test.true) ∙ length-append (flat_map piece (take i ps)) (piece (get_or ps i [])) in
    omega (arith, full_pieces_within ps i c.loop-octets-test.true, c.loop-octets.invariant.0)

pub loop-octets-preserved : goal.loop-octets-preserved
loop-octets-preserved c =
    let ps = c.args.pieces.now in
    let i = c.loop-octets.octets-index in
    let m = c.args.memory.now in
    let before = flat_map piece (take i ps) in
    let one = piece (get_or ps i []) in
    let more = full_pieces_more ps i c.loop-octets-test.true in
    let whole = ap length more ∙ length-append before one in
    let two = then-written m c.loop-octets.memory c.put_full_piece-next.new.memory before one c.args.at c.loop-octets.next c.loop-octets.invariant.1 c.put_full_piece-next.ensures.after c.loop-octets.invariant.0
    (omega (arith, full_pieces_within ps i c.loop-octets-test.true, c.loop-octets.invariant.0)) in
    (omega (arith, c.put_full_piece-next.ensures.next, c.loop-octets.invariant.0), two ∙ ap (λ xs. written c.args.at xs m) (sym more))

pub returns : goal.returns
returns c =
    let ps = c.args.pieces.now in
    let all : take c.loop-octets.octets-index ps ≡ ps = take_all _ ps (omega arith) in
    record {
      next = c.loop-octets.invariant.0 ∙ ap (λ z. c.args.at + length (flat_map piece z)) all;
      after = c.loop-octets.invariant.1 ∙ ap (λ z. written c.args.at (flat_map piece z) c.args.memory.now) all;
    }
