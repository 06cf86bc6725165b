use Rattle.std.proofs.Common.{sym, arith}
use Rattle.std.proofs.lemmas.Bool.{ltb-false, ltb-true}
use Rattle.tape.proofs.Splits.{octet_none, octet-first}
use Rattle.tape.proofs.cursor.Cursor.octet.Goals as goal

pub returns-in_default : goal.returns-in_default
returns-in_default c =
    rw (c.ended.ensures, ← c.self.view_is) (sym (octet_none _ c.self.inside.at c.self.inside.rest.now (omega (arith, ltb-false, ltb-true))))

pub returns : goal.returns
returns c = rw (← c.self.view_is) (sym (octet-first c.self.inside.at c.self.inside.rest.now (omega (arith, ltb-false, ltb-true))))
