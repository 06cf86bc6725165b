-- The number of each refusal of an outlet and the values that come with it, case by case.
use Rattle.warning.specs.declared.Refusal.{Refusal}
use Rattle.warning.specs.declared.Values.TheVariants.{Nothing, One, Two}
use Rattle.warning.specs.Refusals.{refusal, of_warning}
use Rattle.outlet.specs.declared.OutletFault.{OutletFault}
use Rattle.outlet.specs.declared.OutletFault.TheVariants.{NoWarning, Full, Buffer, Empty}

abbrev pub of_outlet : OutletFault → Refusal
of_outlet (NoWarning fault) = of_warning fault
of_outlet (Full cost free) = refusal 12 (Two cost free)
of_outlet (Buffer length) = refusal 1 (One length)
of_outlet Empty = refusal 16 Nothing
