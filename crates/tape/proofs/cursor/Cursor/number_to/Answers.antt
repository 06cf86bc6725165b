use Rattle.std.proofs.Common.{sym, ◌∙◌, arith}
use Rattle.std.proofs.lemmas.Bool.{ltb-false, ltb-true}
use Rattle.tape.proofs.Splits.{number_to_over, number_to-first}
use Rattle.tape.proofs.cursor.Cursor.number_to.Goals as goal

pub returns-then-value-most : goal.returns-then-value-most
returns-then-value-most c =
    rw (c.unknown.ensures, ← c.self.view_is) (sym (number_to_over c.args.most c.self.inside.at c.self.inside.rest.now (omega arith) (omega arith)))

pub returns : goal.returns
returns c =
    rw (← c.self.view_is) (sym (number_to-first c.args.most c.self.inside.at c.from-value.result c.self.inside.rest.now (omega (arith, ltb-false, ltb-true)) (omega arith) (c.from-value.ensures ∙ c.from_be_bytes.ensures) c.if-value-most.false))
