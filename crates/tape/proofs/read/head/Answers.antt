use Rattle.std.proofs.Common.{sym}
use Rattle.tape.proofs.Outlines.{primary_right, message_right}
use Rattle.tape.proofs.read.head.Goals as goal

pub returns-in_ok-outline-in-80-clause-right : goal.returns-in_ok-outline-in-80-clause-right
returns-in_ok-outline-in-80-clause-right c = primary_right c.octet.new.self _ _ (sym c.in_ok-outline-in-80.ensures)

pub returns-in_ok-outline-in-77-clause-right : goal.returns-in_ok-outline-in-77-clause-right
returns-in_ok-outline-in-77-clause-right c = message_right c.octet.new.self _ _ (sym c.in_ok-outline-in-77.ensures)
