-- The number of each refusal of a store and the values that come with it, case by case.
use Rattle.warning.specs.declared.Refusal.{Refusal}
use Rattle.warning.specs.declared.Values.TheVariants.{Nothing, One, Two}
use Rattle.warning.specs.Refusals.{refusal}
use Rattle.store.specs.declared.StoreFault.{StoreFault}
use Rattle.store.specs.declared.StoreFault.TheVariants.{NoSlot, NoNumber, TooLong, Occupied, NotHeld, NoUnits, Memory}

abbrev pub of_store : StoreFault → Refusal
of_store (NoSlot slot) = refusal 4 (One slot)
of_store (NoNumber number) = refusal 4 (One number)
of_store (TooLong count) = refusal 7 (One count)
of_store Occupied = refusal 17 Nothing
of_store NotHeld = refusal 17 Nothing
of_store (NoUnits cost free) = refusal 11 (Two cost free)
of_store (Memory length) = refusal 1 (One length)
