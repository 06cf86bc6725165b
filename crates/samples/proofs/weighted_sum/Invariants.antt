use Rattle.std.proofs.Common.{◌≡◌, ◌+◌, ◌^◌, ◌%◌, drop}
use Rattle.samples.specs.Samples.{weighted_from}
use Rattle.samples.proofs.weighted_sum.Given as goal

abbrev pub invariant-loop-i : goal.invariant-loop-i
invariant-loop-i l = (l.sum + weighted_from l.i (drop l.i l.memory)) % 2 ^ 64 ≡ weighted_from 0 l.memory % 2 ^ 64
