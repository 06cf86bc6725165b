use Rattle.std.proofs.Common.{arith, rules}
use Rattle.warning.specs.Meaning.{said}
use Rattle.tape.proofs.Puts.{body_room, both_put}
use Rattle.tape.proofs.write.write.Goals as goal

pub put_body-requires : goal.put_body-requires
put_body-requires c =
    let asked = rw c.outline-outline.ensures at c.in_ok-cost.ensures.value in
    let head = rw c.outline-outline.ensures at c.put_head.ensures in
    record { fit = body_room (said c.args.w) c.in_ok-cost.cost c.args.at c.put_head.new.self.at c.args.memory.now c.put_head.new.self.memory.now asked (omega arith) head.0 head.1 }

pub returns : goal.returns
returns c =
    let asked = rw c.outline-outline.ensures at c.in_ok-cost.ensures.value in
    let head = rw c.outline-outline.ensures at c.put_head.ensures in
    let body = c.put_body.ensures in
    let both = both_put (said c.args.w) c.in_ok-cost.cost c.args.at c.put_head.new.self.at c.put_body.new.self.at c.args.memory.now c.put_head.new.self.memory.now
    c.put_body.new.self.memory.now asked (omega arith) head.0 head.1 body.0 body.1 in
    record { value = both.0; after = let written = both.1 in search rules }
