use Rattle.std.proofs.Common.{sym, refl, arith}
use Rattle.pool.specs.Numbers.{place_count}
use Rattle.pool.specs.Chains.{links, parts}
use Rattle.pool.proofs.Fresh.{new_apart, new_held, new_units, new_counted}
use Rattle.pool.proofs.Pool.new.Goals as goal

pub invariant_of-result : goal.invariant_of-result
invariant_of-result c =
    let b = c.new.result in
    let held = new_held (parts b) (links b) place_count in
    let units = new_units _ held in record {
      all = refl;
      slots = refl;
      kept = sym units;
      within = omega (arith, units);
      apart = new_apart (links b) c.new.ensures place_count c.to.result.block _ c.to.ensures units;
      counted = new_counted _ held;
    }

pub returns : goal.returns
returns c = new_held (parts c.new.result) (links c.new.result) place_count
