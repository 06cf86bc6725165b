use Rattle.std.proofs.Common.{◌≡◌, ◌+◌, ◌*◌, ◌-◌, ◌≤◌, length, sym, refl, ap, ◌∙◌, arith}
use Rattle.std.proofs.lemmas.List.{length-set}
use Rattle.store.specs.Meaning.{content, count, units}
use Rattle.store.proofs.Places.{There}
use Rattle.store.proofs.Standing.{length-octets}
use Rattle.pool.specs.Numbers.{slot_count, place_count, block_count, blocks_for, pool_shape}
use Rattle.pool.specs.Chains.{links, walk}
use Rattle.pool.specs.Holding.{holding}
use Rattle.pool.proofs.Keeping.{joined, laid_octets, sound, slot_used, filled_kept, filled_counted, filled_holding}
use Rattle.pool.proofs.Pool.fill.Goals as goal

pub lay-self-requires : goal.lay-self-requires
lay-self-requires c i j h l z =
    let seg = content c.args.segment in
    let x = joined seg _ c.write_to.new.memory c.octet_count-count.result c.requires.short c.write_to.ensures c.octet_count-count.ensures in
    let e : length _ ≡ count seg = ap length x ∙ length-octets seg in
    let room = c.requires.room in
    ((sound c.args.self.now).apart place_count place_count i j (omega arith) (omega arith) z).1

pub overflow_add-self : goal.overflow_add-self
overflow_add-self c = omega (arith, c.args.self.now.kept, c.args.self.now.within, c.requires.room, c.blocks_for-cost.ensures)

pub overflow_add-self-2 : goal.overflow_add-self-2
overflow_add-self-2 c = omega (arith, slot_used c.args.self.now c.args.slot c.requires.low, c.args.self.now.within, c.requires.room, c.blocks_for-cost.ensures)

pub invariant_of-self-2 : goal.invariant_of-self-2
invariant_of-self-2 c =
    let p = c.args.self.now in
    let seg = content c.args.segment in
    let x = joined seg _ c.write_to.new.memory c.octet_count-count.result c.requires.short c.write_to.ensures c.octet_count-count.ensures in
    let t : There slot_count c.args.slot c.args.number (c.args.slot * 64 + c.args.number) = record { low = c.requires.low; few = c.requires.few; is = refl } in
    let k = c.blocks_for-cost.ensures ∙ ap (λ z. blocks_for z) c.octet_count-count.ensures in
    let rest = c.lay-self.ensures.rest ∙ ap (λ z. walk (links p.chains) p.free.block (blocks_for (length z))) x ∙ ap (λ z. walk (links p.chains) p.free.block (blocks_for z)) (length-octets seg) ∙ ap (walk (links p.chains) p.free.block) (sym k) in
    let room : c.blocks_for-cost.result ≤ block_count - units pool_shape (holding p) = omega (arith, c.requires.room) in
    let laid = laid_octets _ _ _ _ seg _ _ x k c.lay-self.ensures.laid in
    let kept = filled_kept p c.args.slot c.args.number _ t c.requires.vacant seg _ c.lengths-lengths.ensures refl c.blocks_for-cost.result k room _ laid _ _ c.lay-self.ensures.same rest in
    record {
      all = kept.all;
      slots = length-set p.used c.args.slot _ ∙ p.slots;
      kept = omega (arith, kept.kept);
      within = kept.within;
      apart = kept.apart;
      counted = filled_counted p c.args.slot c.args.number _ t c.requires.vacant seg _ c.lengths-lengths.ensures refl c.blocks_for-cost.result k room _ laid _ _ c.lay-self.ensures.same (omega arith);
    }

pub returns : goal.returns
returns c =
    let p = c.args.self.now in
    let seg = content c.args.segment in
    let x = joined seg _ c.write_to.new.memory c.octet_count-count.result c.requires.short c.write_to.ensures c.octet_count-count.ensures in
    let t : There slot_count c.args.slot c.args.number (c.args.slot * 64 + c.args.number) = record { low = c.requires.low; few = c.requires.few; is = refl } in
    let k = c.blocks_for-cost.ensures ∙ ap (λ z. blocks_for z) c.octet_count-count.ensures in
    filled_holding p c.args.slot c.args.number _ t c.requires.vacant seg _ c.lengths-lengths.ensures refl c.blocks_for-cost.result k (omega (arith, c.requires.room)) _ (laid_octets _ _ _ _ seg _ _ x k c.lay-self.ensures.laid) _ c.lay-self.ensures.same
