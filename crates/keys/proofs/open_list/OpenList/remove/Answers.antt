use Rattle.std.proofs.Common.{Some, take, arith}
use native.Mathlib.Nat.{sub-zero}
use Rattle.keys.specs.Kinds.{same_pair}
use Rattle.keys.proofs.Counts.{at_most_front, at_most_without}
use Rattle.keys.proofs.open_list.OpenList.remove.Goals as goal

pub invariant_of-self-clause-apart : goal.invariant_of-self-clause-apart
invariant_of-self-clause-apart c =
    let s = c.args.self.now in
    simp sub-zero (at_most_front same_pair 1 s.count 1 s.entries c.remove.new.xs _ (omega arith) (simp sub-zero at c.remove.auto.xs) (simp sub-zero at c.remove.ensures) (at_most_without same_pair 1 (Some c.in-Some.at) (take s.count s.entries) s.apart))
