use Rattle.std.proofs.Common.{◌≡◌, ap, ◌∙◌, arith}
use Rattle.store.specs.Meaning.{without_slot}
use Rattle.store.proofs.Changes.{without_slots, slots_none, slots_more, slots_all}
use Rattle.pool.specs.Numbers.{slot_count, pool_shape}
use Rattle.pool.specs.Chains.{links, parts}
use Rattle.pool.specs.Holding.{holding}
use Rattle.pool.specs.Laws.{all_placed}
use Rattle.pool.proofs.calls.PoolStore.drop_all.Goals as goal

pub loop-slot-init : goal.loop-slot-init
loop-slot-init c = slots_none (holding c.args.self.now)

pub loop-slot-preserved : goal.loop-slot-preserved
loop-slot-preserved c =
    c.clear.ensures ∙ ap (λ h. without_slot h c.loop-slot.slot) c.loop-slot.invariant ∙ slots_more (holding c.args.self.now) c.loop-slot.slot

pub returns-clause-after : goal.returns-clause-after
returns-clause-after c =
    let p = c.args.self.now in
    let end : c.loop-slot.slot ≡ slot_count = omega arith in
    c.loop-slot.invariant ∙ ap (without_slots (holding p)) end ∙ slots_all pool_shape (holding p) (all_placed (parts p.chains) (links p.chains) p.places)
