use Rattle.std.proofs.Common.{◌∙◌, arith, length-set}
use Rattle.store.proofs.Sums.{counted_held}
use Rattle.berths.specs.Numbers.{one}
use Rattle.berths.specs.Holding.{holding}
use Rattle.berths.proofs.Counts.{counted_without}
use Rattle.berths.proofs.Rows.{held_cleared}
use Rattle.berths.proofs.Berths.clear.Goals as goal

pub invariant_of-self-clause-slots : goal.invariant_of-self-clause-slots
invariant_of-self-clause-slots c = length-set c.args.self.now.used c.args.slot _ ∙ c.args.self.now.slots

pub invariant_of-self-clause-counted : goal.invariant_of-self-clause-counted
invariant_of-self-clause-counted c =
    let s = c.args.self.now in
    let l = c.loop-berth in
    counted_held one _ _ _ (held_cleared s.berths l.berth-items c.args.slot _ l.berth-index s.all c.requires (omega arith) l.auto.berth-items c.loop-berth-test.false l.invariant) (counted_without (holding s) c.args.slot _ s.used (omega arith) (omega arith) s.counted)

pub returns : goal.returns
returns c =
    let s = c.args.self.now in
    let l = c.loop-berth in
    held_cleared s.berths l.berth-items c.args.slot _ l.berth-index s.all c.requires (omega arith) l.auto.berth-items c.loop-berth-test.false l.invariant
