use Rattle.std.proofs.Common.{◌≡◌}
use Rattle.std.specs.Slice.Iter.{chunks_rest, chunks_size}
use Rattle.pool.proofs.Gathered.{Laying}
use Rattle.pool.proofs.blocks.Blocks.lay.Given as goal

abbrev pub invariant-loop-part : goal.invariant-loop-part
invariant-loop-part l =
    (chunks_size l.part-iterator ≡ 32)
    × Laying l.initial.self l.self l.initial.link.block l.link.block l.segment (chunks_rest l.part-iterator)
