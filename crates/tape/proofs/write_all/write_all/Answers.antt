use Rattle.std.proofs.Common.{◌+◌, map, take, drop, Ok, vec_items, sym, ap, ◌∙◌}
use Rattle.std.proofs.lemmas.List.{take_all}
use Rattle.std.proofs.lemmas.Result.{err_from_is_err_and}
use Rattle.warning.specs.Meaning.{said}
use Rattle.warning.specs.Meaning.{owned}
use Rattle.tape.specs.Promises.{written}
use Rattle.tape.specs.Reading.{read_tape}
use Rattle.tape.proofs.Lists.{written_push, written_all, item_more, item_split, append_err}
use Rattle.tape.proofs.Whole.{reads_back}
use Rattle.tape.proofs.write_all.write_all.Goals as goal

pub returns-in_err-append-clause-value : goal.returns-in_err-append-clause-value
returns-in_err-append-clause-value c =
    let p = err_from_is_err_and c.from_residual.result c.from_residual.ensures.1 in
    let xs = c.args.warnings.now in
    let i = c.loop-w.w-index in
    let split = item_split xs i c.w-item.result (said c.as_warning.result) c.loop-w-test.true c.w-item.is c.as_warning.ensures in
    rw (p.1, p.2) (append_err (map owned (take i xs)) (said c.as_warning.result) (map owned (drop (i + 1) xs)) (map owned xs) (vec_items c.loop-w.tape) (vec_items c.append.new.tape) _ split c.loop-w.invariant c.in_err-append.ensures)

pub loop-w-preserved : goal.loop-w-preserved
loop-w-preserved c =
    let xs = c.args.warnings.now in
    let i = c.loop-w.w-index in
    let done = c.in_ok-append.ensures in
    let w = said c.as_warning.result in
    ap written (item_more xs i c.w-item.result w c.loop-w-test.true c.w-item.is c.as_warning.ensures)
    ∙ written_push (map owned (take i xs)) w (vec_items c.loop-w.tape) c.loop-w.invariant done.0
    ∙ ap Ok (sym done.1)

pub returns-clause-reads_back : goal.returns-clause-reads_back
returns-clause-reads_back c =
    let xs = c.args.warnings.now in
    let value = ap (λ z. written (map owned z)) (sym (take_all c.loop-w.w-index xs c.loop-w-test.false)) ∙ c.loop-w.invariant in
    let all = written_all (map owned xs) (vec_items c.loop-w.tape) value in
    ap read_tape (sym all.1) ∙ reads_back (map owned xs) all.0
