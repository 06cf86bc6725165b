use Rattle.std.proofs.Common.{take, arith}
use native.Mathlib.Nat.{sub-zero}
use Rattle.keys.specs.Kinds.{same_network_pair, of_one_network}
use Rattle.keys.specs.Numbers.{most_of_network}
use Rattle.keys.proofs.Counts.{at_most_front, at_most_kept}
use Rattle.keys.proofs.remembered.RememberedList.expire.Goals as goal

pub invariant_of-self-clause-apart : goal.invariant_of-self-clause-apart
invariant_of-self-clause-apart c =
    let s = c.args.self.now in
    let call = c.expire-gone in
    simp sub-zero (at_most_front same_network_pair 1 s.count call.result s.entries call.new.xs _ (omega arith) (simp sub-zero at call.auto.xs) (simp sub-zero at call.ensures.after) (at_most_kept same_network_pair 1 _ (take s.count s.entries) s.apart))

pub invariant_of-self-clause-few : goal.invariant_of-self-clause-few
invariant_of-self-clause-few c =
    let s = c.args.self.now in
    let call = c.expire-gone in
    simp sub-zero (at_most_front of_one_network most_of_network s.count call.result s.entries call.new.xs _ (omega arith) (simp sub-zero at call.auto.xs) (simp sub-zero at call.ensures.after) (at_most_kept of_one_network most_of_network _ (take s.count s.entries) s.few))
