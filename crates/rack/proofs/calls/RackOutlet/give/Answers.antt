use Rattle.std.proofs.Common.{sym, arith}
use Rattle.warning.specs.Meaning.{said}
use Rattle.warning.specs.Notice.{outline}
use Rattle.outlet.proofs.Answered.{give_done}
use Rattle.rack.specs.Numbers.{rack_room}
use Rattle.rack.specs.Holding.{holding}
use Rattle.rack.specs.Laws.{units_held}
use Rattle.rack.proofs.Ring.{lies_more}
use Rattle.rack.proofs.calls.RackOutlet.give.Goals as goal

pub returns-clause-value : goal.returns-clause-value
returns-clause-value c =
    let s = c.args.self.now in
    give_done rack_room (holding s) (outline (said c.args.w)) (sym c.in_ok-judge.ensures.value) (omega (arith, units_held s))

pub returns-clause-after : goal.returns-clause-after
returns-clause-after c =
    let s = c.args.self.now in
    lies_more s.places s.oldest s.count c.keep.new.self (said c.args.w) s.all s.low (omega (arith, units_held s)) c.keep.ensures
