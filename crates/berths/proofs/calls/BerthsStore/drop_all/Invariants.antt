use Rattle.std.proofs.Common.{◌≡◌}
use Rattle.store.proofs.Changes.{without_slots}
use Rattle.berths.specs.Holding.{holding}
use Rattle.berths.proofs.calls.BerthsStore.drop_all.Given as goal

abbrev pub invariant-loop-slot : goal.invariant-loop-slot
invariant-loop-slot l = holding l.self ≡ without_slots (holding l.initial.self) l.slot
