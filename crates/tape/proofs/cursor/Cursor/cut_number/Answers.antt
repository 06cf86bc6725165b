use Rattle.std.proofs.Common.{sym, arith}
use Rattle.tape.proofs.Splits.{number_to_cut, number_to_ended}
use Rattle.tape.proofs.cursor.Cursor.cut_number.Goals as goal

pub returns-then-least_number-most : goal.returns-then-least_number-most
returns-then-least_number-most c =
    rw (c.unknown.ensures, ← c.self.view_is) (sym (number_to_cut c.args.most c.self.inside.at c.self.inside.rest.now (rw (← c.self.view_is) at c.requires) (omega arith)))

pub returns : goal.returns
returns c =
    rw (c.ended.ensures, ← c.self.view_is) (sym (number_to_ended c.args.most c.self.inside.at c.self.inside.rest.now (rw (← c.self.view_is) at c.requires) (omega arith)))
