-- The meaning of the pool as a store.
use Rattle.store.specs.Meaning.{Held}
use Rattle.pool.specs.declared.Pool.{Pool}
use Rattle.pool.specs.Chains.{links, parts, held_in}

abbrev pub holding : Pool → Held
holding p = held_in (parts p.chains) (links p.chains) p.places
