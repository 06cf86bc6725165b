use Rattle.std.proofs.Common.{◌≡◌, take}
use Rattle.octets.specs.Octets.{written}
use Rattle.pool.specs.Chains.{links, parts, walk, gathered}
use Rattle.pool.proofs.blocks.Blocks.gather.Given as goal

abbrev pub invariant-loop-i : goal.invariant-loop-i
invariant-loop-i l =
    (l.link.block ≡ walk (links l.self) l.initial.link.block l.i)
    × (l.memory ≡ written 0 (take l.count (gathered (parts l.self) (links l.self) l.initial.link.block l.i)) l.initial.memory)
