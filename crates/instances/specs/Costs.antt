-- What the pool asks for single counts of octets.
use Rattle.std.specs.Prelude.{◌≡◌, Ok, Err}
use Rattle.store.specs.declared.StoreFault.TheVariants.{TooLong}
use Rattle.store.specs.Outcomes.{cost_outcome}
use Rattle.pool.specs.Numbers.{pool_shape}

abbrev pub PoolCosts : Type 0
PoolCosts =
    (cost_outcome pool_shape 0 ≡ Ok 1)
    × (cost_outcome pool_shape 32 ≡ Ok 1)
    × (cost_outcome pool_shape 33 ≡ Ok 2)
    × (cost_outcome pool_shape 256 ≡ Ok 8)
    × (cost_outcome pool_shape 257 ≡ Err (TooLong 257))
