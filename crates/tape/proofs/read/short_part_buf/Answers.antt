use Rattle.std.proofs.Common.{Ok, sym, ap, ◌∙◌, arith}
use Rattle.std.proofs.lemmas.Result.{err_from_is_err_and}
use Rattle.tape.specs.Reading.{part}
use Rattle.tape.proofs.Gathers.{part_none, part_read, part_refused}
use Rattle.tape.proofs.read.short_part_buf.Goals as goal

pub returns-then-count-eq0 : goal.returns-then-count-eq0
returns-then-count-eq0 c =
    ap (λ n. part n c.args.cursor.now) c.if-count-eq0.true ∙ part_none c.args.cursor.now ∙ ap (λ xs. Ok (xs, c.args.cursor.now)) (sym c.new.ensures.items)

pub returns-in_err-octets : goal.returns-in_err-octets
returns-in_err-octets c =
    let p = err_from_is_err_and c.from_residual.result c.from_residual.ensures.1 in
    rw (p.1, p.2) (part_refused c.args.count c.args.cursor.now (omega arith) c.requires _ c.in_err-octets.ensures)

pub returns : goal.returns
returns c =
    part_read c.args.count c.args.cursor.now (omega arith) c.requires _ _ c.in_ok-octets.ensures ∙ ap (λ xs. Ok (xs, c.data.new.self)) (sym c.in_ok-from_slice.ensures.items)
