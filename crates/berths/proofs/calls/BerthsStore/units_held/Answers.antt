use Rattle.std.proofs.Common.{arith}
use Rattle.berths.specs.Holding.{holding}
use Rattle.berths.specs.Laws.{slot_most}
use Rattle.berths.proofs.Counts.{units_three}
use Rattle.berths.proofs.calls.BerthsStore.units_held.Goals as goal

pub overflow_add-result : goal.overflow_add-result
overflow_add-result c =
    let s = c.args.self.now in
    omega (arith, s.counted 0 (omega arith), s.counted 1 (omega arith), slot_most (holding s) 0, slot_most (holding s) 1)

pub overflow_add-result-2 : goal.overflow_add-result-2
overflow_add-result-2 c =
    let s = c.args.self.now in
    omega (arith, s.counted 0 (omega arith), s.counted 1 (omega arith), s.counted 2 (omega arith), slot_most (holding s) 0, slot_most (holding s) 1, slot_most (holding s) 2)

pub returns : goal.returns
returns c =
    let s = c.args.self.now in
    omega (arith, s.counted 0 (omega arith), s.counted 1 (omega arith), s.counted 2 (omega arith), units_three (holding s))
