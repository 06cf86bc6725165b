use Rattle.std.proofs.Common.{refl}
use Rattle.octets.proofs.Writes.{written-part}
use Rattle.octets.proofs.put.Goals as goal

pub returns : goal.returns
returns c =
    record {
      next = refl;
      after = written-part c.args.memory.now c.args.octets.now _ c.args.at c.copy_from_slice.ensures.after;
    }
