use Rattle.std.proofs.Common.{sym, arith}
use Rattle.std.proofs.lemmas.Result.{err_from_is_err_and}
use Rattle.tape.proofs.Splits.{tested_err, tested_no, tested_yes}
use Rattle.tape.proofs.cursor.Cursor.octet_if.Goals as goal

pub returns-in_err-value : goal.returns-in_err-value
returns-in_err-value g c passes tests =
    let p = err_from_is_err_and c.from_residual.result c.from_residual.ensures.1 in
    rw (p.1, p.2) (tested_err passes c.args.self.now _ c.in_err-value.ensures)

pub returns-then-test : goal.returns-then-test
returns-then-test g c passes tests =
    let told = tests _ _ (omega arith) c.if-test.ensures in
    tested_yes passes c.args.self.now _ c.in_ok-value.value c.in_ok-value.ensures (sym told)

pub returns-else-test : goal.returns-else-test
returns-else-test g c passes tests =
    let told = tests _ _ (omega arith) c.if-test.ensures in
    rw c.unknown-unknown.ensures (tested_no passes c.args.self.now _ c.in_ok-value.value c.in_ok-value.ensures (sym told))
