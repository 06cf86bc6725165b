use Rattle.std.proofs.Common.{◌≡◌, ap, ◌∙◌, arith}
use Rattle.store.specs.Meaning.{without_slot}
use Rattle.store.proofs.Changes.{without_slots, slots_none, slots_more, slots_all}
use Rattle.berths.specs.Numbers.{slot_count, berths_shape}
use Rattle.berths.specs.Holding.{holding}
use Rattle.berths.specs.Laws.{all_placed}
use Rattle.berths.proofs.calls.BerthsStore.drop_all.Goals as goal

pub loop-slot-init : goal.loop-slot-init
loop-slot-init c = slots_none (holding c.args.self.now)

pub loop-slot-preserved : goal.loop-slot-preserved
loop-slot-preserved c =
    c.clear.ensures ∙ ap (λ h. without_slot h c.loop-slot.slot) c.loop-slot.invariant ∙ slots_more (holding c.args.self.now) c.loop-slot.slot

pub returns-clause-after : goal.returns-clause-after
returns-clause-after c =
    let s = c.args.self.now in
    let end : c.loop-slot.slot ≡ slot_count = omega arith in
    c.loop-slot.invariant ∙ ap (without_slots (holding s)) end ∙ slots_all berths_shape (holding s) (all_placed s.berths)
