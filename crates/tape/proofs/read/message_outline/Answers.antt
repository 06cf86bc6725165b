use Rattle.std.proofs.Common.{refl}
use Rattle.std.proofs.lemmas.Result.{err_from_is_err_and}
use Rattle.tape.specs.Heads.{message_outline}
use Rattle.tape.proofs.Flags.{flagged}
use Rattle.tape.proofs.read.message_outline.Goals as goal

pub returns-in_err-area : goal.returns-in_err-area
unfolding message_outline
returns-in_err-area c =
    let p = err_from_is_err_and c.from_residual-in_err-area.result c.from_residual-in_err-area.ensures.1 in
    let m = rw c.octet_limit.ensures at c.in_ok-message.ensures in
    let f = rw c.may_have_area.ensures at c.in_ok-has_area.ensures in
    let a = rw c.most_area.ensures at c.in_err-area.ensures in
    rw (p.1, p.2, ← c.in_ok-block.ensures, ← c.in_ok-pair.ensures, ← c.in_ok-coding.ensures, ← m, ← f, ← a) refl

pub returns : goal.returns
unfolding message_outline
returns c =
    let m = rw c.octet_limit.ensures at c.in_ok-message.ensures in
    let f = rw c.may_have_area.ensures at c.in_ok-has_area.ensures in
    let a = rw c.most_area.ensures at c.in_ok-area.ensures in
    rw (← c.in_ok-block.ensures, ← c.in_ok-pair.ensures, ← c.in_ok-coding.ensures, ← m, ← f, ← a, c.then_some.ensures, flagged) refl
