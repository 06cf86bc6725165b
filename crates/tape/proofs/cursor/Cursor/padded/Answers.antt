use Rattle.std.proofs.Common.{◌+◌, take, Ok, sym, ap, ◌∙◌}
use Rattle.tape.specs.Reading.{place}
use Rattle.tape.proofs.Splits.{padded_wrong, padded_short, padded_long}
use Rattle.tape.proofs.cursor.Cursor.padded.Goals as goal

pub returns-then-not-is_padded-clause-value : goal.returns-then-not-is_padded-clause-value
returns-then-not-is_padded-clause-value c =
    rw (c.unknown.ensures, ← c.self.view_is) (sym (padded_wrong c.args.width c.args.count c.self.inside.at c.self.inside.rest.now (sym c.if-not-is_padded.ensures)))

pub returns-in_default-clause-value : goal.returns-in_default-clause-value
returns-in_default-clause-value c =
    rw (c.ended.ensures, ← c.self.view_is) (sym (padded_short c.args.width c.args.count c.self.inside.at c.self.inside.rest.now (sym c.if-not-is_padded.ensures) c.in_default.ensures.cases))

pub returns-clause-value : goal.returns-clause-value
returns-clause-value c =
    let t = c.self.inside.rest.now in
    let at = c.self.inside.at + c.args.width in
    let s = c.in-Some.ensures.cases in
    ap (λ z. Ok (z, place at c.in-Some.rest.now)) s.1
    ∙ ap (λ z. Ok (take c.args.width t, place at z)) s.2
    ∙ rw (← c.self.view_is) (sym (padded_long c.args.width c.args.count c.self.inside.at t (sym c.if-not-is_padded.ensures) s.0))
