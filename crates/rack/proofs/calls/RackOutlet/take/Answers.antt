use Rattle.std.proofs.Common.{◌≡◌, Some, sym, ap, ◌∙◌, arith}
use Rattle.std.specs.List.{slice_get}
use Rattle.outlet.specs.Outcomes.{without_first}
use Rattle.rack.specs.Holding.{lies, holding}
use Rattle.rack.proofs.Ring.{first_lies, some_held, first-copied}
use Rattle.rack.proofs.calls.RackOutlet.take.Goals as goal

pub returns-clause-after : goal.returns-clause-after
returns-clause-after c =
    let s = c.args.self.now in
    let place = c.in_ok-place.place.now in
    let told : Some (lies place) ≡ slice_get (holding s) 0 = grind arith in
    sym (ap without_first (first_lies s place (some_held s (lies place) told)))

pub returns-clause-copied : goal.returns-clause-copied
returns-clause-copied c =
    let s = c.args.self.now in
    let place = c.in_ok-place.place.now in
    let told : Some (lies place) ≡ slice_get (holding s) 0 = grind arith in
    c.copy.ensures ∙ first-copied (holding s) (lies place) c.args.buffer.now told
