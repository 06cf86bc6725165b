use Rattle.std.proofs.Common.{refl}
use Rattle.berths.proofs.Counts.{new_counted}
use Rattle.berths.proofs.Rows.{held_none}
use Rattle.berths.proofs.Berths.new.Goals as goal

pub invariant_of-result : goal.invariant_of-result
invariant_of-result c = record { all = refl; slots = refl; counted = new_counted _ (held_none c.vacant-vacant.result c.vacant-vacant.ensures) }
