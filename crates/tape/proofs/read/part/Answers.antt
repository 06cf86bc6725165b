use Rattle.std.proofs.Common.{◌+◌, ◌-◌, ◌*◌, ◌%◌, length, sym, ap, ◌∙◌, subst, arith}
use Rattle.std.proofs.lemmas.Result.{err_from_is_err_and}
use Rattle.tape.specs.Reading.{part}
use Rattle.tape.proofs.Gathers.{handing_start, handing_more, handing_err, handing_end, data_long}
use Rattle.tape.proofs.read.part.Goals as goal

pub loop-init : goal.loop-init
loop-init g c = handing_start _ c.args.count c.fork-here.result _ (omega arith) (g.met.S.Sink.takes_none c.args.sink.now)

pub take-requires : goal.take-requires
take-requires g c =
    let h = c.loop.invariant in
    let left = c.args.count - c.loop.counter * 32 in
    let long = data_long _ _ _ _ (omega arith) c.in_ok-data.ensures in
    let all = subst (λ n. g.S.Sink.fits c.args.sink.now n) (sym h.counted) c.requires in
    let room = g.met.S.Sink.fits_after c.args.sink.now c.loop.sink h.handed left all h.taken in
    g.met.S.Sink.fits_less c.loop.sink (length c.in_ok-data.field-0.now) left (omega arith) room

pub loop-preserved : goal.loop-preserved
loop-preserved g c =
    handing_more _ c.args.count c.fork-here.result _ _ _ _ _ _ c.in_ok-data.field-0.now (omega arith) (omega arith) (omega arith) c.in_ok-data.ensures
    (λ xs few taken.
    let room = g.met.S.Sink.fits_less c.args.sink.now (length xs + length c.in_ok-data.field-0.now) c.args.count few c.requires in
    g.met.S.Sink.takes_more c.args.sink.now c.loop.sink _ xs c.in_ok-data.field-0.now room taken c.take.ensures)
    c.loop.invariant

pub returns-in_err-data : goal.returns-in_err-data
returns-in_err-data g c =
    let p = err_from_is_err_and c.from_residual.result c.from_residual.ensures.1 in
    rw (p.1, p.2)
    (ap (part c.args.count) (sym c.fork-here.ensures) ∙ handing_err _ c.args.count c.fork-here.result _ _ _ _ (omega arith) (omega arith) c.in_err-data.ensures c.loop.invariant)

pub take-requires-then-last-gt0 : goal.take-requires-then-last-gt0
take-requires-then-last-gt0 g c =
    let h = c.loop.invariant in
    let left = c.args.count - c.loop.counter * 32 in
    let long = data_long (c.args.count % 32) _ _ _ (omega arith) c.in_ok-data-2.ensures in
    let all = subst (λ n. g.S.Sink.fits c.args.sink.now n) (sym h.counted) c.requires in
    let room = g.met.S.Sink.fits_after c.args.sink.now c.loop.sink h.handed left all h.taken in
    g.met.S.Sink.fits_less c.loop.sink (length c.in_ok-data-2.field-0.now) left (omega arith) room

pub returns-in_err-data-2 : goal.returns-in_err-data-2
returns-in_err-data-2 g c =
    let p = err_from_is_err_and c.from_residual-in_err-data-2.result c.from_residual-in_err-data-2.ensures.1 in
    rw (p.1, p.2)
    (ap (part c.args.count) (sym c.fork-here.ensures) ∙ handing_err _ c.args.count c.fork-here.result _ (c.args.count % 32) _ _ (omega arith) (omega arith) c.in_err-data-2.ensures c.loop.invariant)

pub returns-in_ok-data-2 : goal.returns-in_ok-data-2
returns-in_ok-data-2 g c =
    let step = handing_more _ c.args.count c.fork-here.result (λ xs. g.S.Sink.took c.args.sink.now xs c.take-then-last-gt0.new.self) (c.args.count - c.loop.counter * 32) 0 (c.args.count % 32) c.loop.here c.data-then-last-gt0.new.self c.in_ok-data-2.field-0.now (omega arith) (omega arith) (omega arith) c.in_ok-data-2.ensures
    (λ xs few taken.
    let room = g.met.S.Sink.fits_less c.args.sink.now (length xs + length c.in_ok-data-2.field-0.now) c.args.count few c.requires in
    g.met.S.Sink.takes_more c.args.sink.now c.loop.sink c.take-then-last-gt0.new.self xs c.in_ok-data-2.field-0.now room taken c.take-then-last-gt0.ensures)
    c.loop.invariant in
    let end = handing_end _ c.args.count c.fork-here.result 0 c.data-then-last-gt0.new.self (omega arith) step in
    (end.0, ap (part c.args.count) (sym c.fork-here.ensures) ∙ end.1, end.2)

pub returns-else-last-gt0 : goal.returns-else-last-gt0
returns-else-last-gt0 g c =
    let end = handing_end _ c.args.count c.fork-here.result _ _ (omega arith) c.loop.invariant in
    (end.0, ap (part c.args.count) (sym c.fork-here.ensures) ∙ end.1, end.2)
