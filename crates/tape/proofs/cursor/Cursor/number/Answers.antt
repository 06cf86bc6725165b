use Rattle.std.proofs.Common.{sym, arith}
use Rattle.std.proofs.lemmas.Bool.{ltb-false, ltb-true}
use Rattle.tape.proofs.Splits.{number_none, number-first}
use Rattle.tape.proofs.cursor.Cursor.number.Goals as goal

pub returns-in_default : goal.returns-in_default
returns-in_default c =
    rw (c.ended.ensures, ← c.self.view_is) (sym (number_none c.self.inside.at c.self.inside.rest.now (omega (arith, ltb-false, ltb-true))))

pub returns : goal.returns
returns c = rw (← c.self.view_is) (sym (number-first c.self.inside.at _ c.self.inside.rest.now (omega (arith, ltb-false, ltb-true)) (omega arith) c.from_be_bytes.ensures))
