use Rattle.std.proofs.Common.{sym, ap, ◌∙◌, ◌*◌, ◌<◌, ◌≤◌, ◌-◌, min, length, take, slice_index_or, arith}
use Rattle.pool.specs.Numbers.{block_count}
use Rattle.pool.specs.Chains.{links, parts, block}
use Rattle.pool.proofs.Gathered.{walk_none, walk_on, block_at, gather_none, gather_more, gather_all}
use Rattle.pool.proofs.blocks.Blocks.gather.Goals as goal

pub loop-i-init : goal.loop-i-init
loop-i-init c =
    let b = c.args.self.now in
    (sym (walk_none (links b) c.args.first.block), gather_none (parts b) (links b) c.args.first.block (length c.args.memory.now) c.args.memory.now)

pub loop-i-preserved : goal.loop-i-preserved
loop-i-preserved c =
    let b = c.args.self.now in
    let i = c.loop-i.i in
    let x = c.index-self-index.result in
    let is = c.index.ensures ∙ c.loop-i.invariant.0 in
    let there : c.index.result < block_count = omega (arith, c.loop-i.link.there, c.index.ensures) in
    let low : i * 32 ≤ length c.args.memory.now = omega (arith, c.div_ceil-i-end.ensures) in
    let part = ap (λ z. take z (slice_index_or b.blocks c.index.result x).octets) c.min-size.ensures
    ∙ ap (take (min 32 (length c.args.memory.now - i * 32))) (sym (block_at b c.index.result x there) ∙ ap (block (parts b)) is) in (
      walk_on b c.args.first.block i c.index.result x there is,
      gather_more b c.args.first (length c.args.memory.now) i c.args.memory.now c.loop-i.memory c.put.new.memory _ low (omega arith) part c.loop-i.invariant.1 c.put.ensures.after,
    )

pub returns : goal.returns
returns c = gather_all c.args.self.now c.args.first c.loop-i.i c.args.memory.now c.loop-i.memory (omega (arith, c.div_ceil-i-end.ensures, c.loop-i.auto.i-end, c.loop-i-test.false)) c.loop-i.invariant.1
