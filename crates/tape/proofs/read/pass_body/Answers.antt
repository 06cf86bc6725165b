use Rattle.std.proofs.Common.{◌+◌, ◌≤◌, length, drop, unwrap_or, sym, ap, ◌∙◌, arith, rules}
use Rattle.std.proofs.lemmas.Result.{err_from_is_err_and}
use Rattle.tape.specs.Heads.{body}
use Rattle.tape.specs.Reading.{operand, all_zero}
use Rattle.tape.proofs.Entries.{part_ok}
use Rattle.tape.proofs.Readings.{primary_refused, message_refused, primary_handed, both_handed}
use Rattle.tape.proofs.read.pass_body.Goals as goal

pub returns-in_err-octets-in-Primary : goal.returns-in_err-octets-in-Primary
returns-in_err-octets-in-Primary g c =
    let p = err_from_is_err_and c.from_residual.result c.from_residual.ensures.1 in
    let o = c.in-Primary in
    let e = ap (λ n. operand 50 (λ xs. all_zero (drop n xs)) c.args.cursor.now) (sym c.unwrap_or-count.ensures) ∙ sym c.in_err-octets-in-Primary.ensures.value in
    rw (p.1, p.2) (ap (λ z. body z c.args.cursor.now) o.is ∙ primary_refused o.pair o.warning_type o.security c.args.cursor.now _ e)

pub returns-in_ok-octets-in-Primary : goal.returns-in_ok-octets-in-Primary
returns-in_ok-octets-in-Primary g c =
    let o = c.in-Primary in
    let e = ap (λ n. operand 50 (λ xs. all_zero (drop n xs)) c.args.cursor.now) (sym c.unwrap_or-count.ensures) ∙ sym c.in_ok-octets-in-Primary.ensures.value in
    primary_handed c.args.outline c.args.cursor.now (λ xs. g.S.Sink.took c.args.sink.now xs c.take.new.self) o.pair o.warning_type o.security c.in_ok-octets-in-Primary.octets.now c.padded.new.self o.is e (rw c.unwrap_or-count.ensures at c.take.ensures)

pub returns-in_err-part-in-Message : goal.returns-in_err-part-in-Message
returns-in_err-part-in-Message g c =
    let p = err_from_is_err_and c.from_residual-in_err-part-in-Message.result c.from_residual-in_err-part-in-Message.ensures.1 in
    let o = c.in-Message in
    rw (p.1, p.2) (ap (λ z. body z c.args.cursor.now) o.is ∙ message_refused o.block o.pair o.coding o.message o.area c.args.cursor.now _ c.in_err-part-in-Message.ensures)

pub part-requires-in-Message : goal.part-requires-in-Message
part-requires-in-Message g c =
    let first = c.in_ok-part-in-Message.ensures in
    let long = (part_ok c.in-Message.message c.args.cursor.now first.0 c.part.new.cursor first.1).0 in
    let few : c.in-Message.message + unwrap_or c.in-Message.area 0 ≤ 16384 = search rules in
    let all = g.met.S.Sink.fits_less c.args.sink.now (length first.0 + c.unwrap_or.result) 16384 (omega arith) c.requires.fit in
    g.met.S.Sink.fits_after c.args.sink.now c.part.new.sink first.0 c.unwrap_or.result all first.2

pub returns-in_ok-part-in-Message : goal.returns-in_ok-part-in-Message
returns-in_ok-part-in-Message g c =
    let o = c.in-Message in
    let first = c.in_ok-part-in-Message.ensures in
    let long = (part_ok o.message c.args.cursor.now first.0 c.part.new.cursor first.1).0 in
    let few : o.message + unwrap_or o.area 0 ≤ 16384 = search rules in
    both_handed c.args.outline c.args.cursor.now (λ xs. g.S.Sink.took c.args.sink.now xs c.part-in-Message.new.sink) o.block o.pair o.coding o.message o.area c.unwrap_or.result first.0 c.part.new.cursor _ (λ ys. g.S.Sink.took c.part.new.sink ys c.part-in-Message.new.sink) _ o.is first.1 c.unwrap_or.ensures
    (λ ys size taken.
    let all = g.met.S.Sink.fits_less c.args.sink.now (length first.0 + length ys) 16384 (omega arith) c.requires.fit in
    g.met.S.Sink.takes_more c.args.sink.now c.part.new.sink c.part-in-Message.new.sink first.0 ys all first.2 taken)
    c.part-in-Message.ensures
