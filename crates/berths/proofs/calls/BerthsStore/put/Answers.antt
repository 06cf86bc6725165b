use Rattle.std.proofs.Common.{◌≡◌, false, is_some, ◌∙◌, arith, length-set}
use Rattle.store.proofs.Places.{there}
use Rattle.berths.specs.Numbers.{slot_count}
use Rattle.berths.specs.Berthed.{held_in}
use Rattle.berths.specs.Laws.{slot_most}
use Rattle.berths.proofs.Puts.{taken_at, laid_counted}
use Rattle.berths.proofs.calls.BerthsStore.put.Goals as goal

pub overflow_add-used : goal.overflow_add-used
overflow_add-used c =
    let s = c.args.self.now in
    let t = there slot_count c.args.place.slot c.args.place.number _ c.in_ok-i.ensures in
    omega (arith, s.counted c.args.place.slot (omega (arith, t.low)), slot_most (held_in s.berths) c.args.place.slot)

pub invariant_of-self-clause-slots : goal.invariant_of-self-clause-slots
invariant_of-self-clause-slots c = length-set c.args.self.now.used c.args.place.slot _ ∙ c.args.self.now.slots

pub invariant_of-self-clause-counted : goal.invariant_of-self-clause-counted
invariant_of-self-clause-counted c =
    let s = c.args.self.now in
    let slot = c.args.place.slot in
    let n = c.args.place.number in
    let none : is_some (held_in s.berths slot n) ≡ false = grind (arith, taken_at) in
    laid_counted s.berths s.used slot n c.in_ok-i.i _ _ _ s.all s.slots c.in_ok-i.ensures none c.lay.ensures (omega arith) s.counted
