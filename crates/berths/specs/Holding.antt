-- The meaning of the berths as a store.
use Rattle.store.specs.Meaning.{Held}
use Rattle.berths.specs.declared.Berths.{Berths}
use Rattle.berths.specs.Berthed.{held_in}

abbrev pub holding : Berths → Held
holding b = held_in b.berths
