use Rattle.std.proofs.Common.{sym}
use Rattle.std.proofs.lemmas.Result.{err_from_is_err_and}
use Rattle.warning.specs.Meaning.{owned}
use Rattle.tape.proofs.Readings.{head_refused, head_read, agrees_same}
use Rattle.tape.proofs.read.entry.Goals as goal

pub returns-in_err-outline : goal.returns-in_err-outline
returns-in_err-outline c =
    let p = err_from_is_err_and c.from_residual.result c.from_residual.ensures.1 in
    rw (p.1, p.2) (head_refused c.args.cursor.now _ (sym c.in_err-outline.ensures.value))

pub returns : goal.returns
returns c = agrees_same owned _ _ _ _ (head_read c.args.cursor.now _ _ (sym c.in_ok-outline.ensures.value)) c.body.ensures
