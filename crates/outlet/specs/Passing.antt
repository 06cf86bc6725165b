-- A warning that is given to an outlet and then taken from it.
use Rattle.std.specs.Prelude.{◌≡◌, ℕ, ◌≤◌, List, [], Ok, Err, Result}
use Rattle.warning.specs.declared.Warning.{Warning}
use Rattle.warning.specs.declared.WarningFault.{WarningFault}
use Rattle.warning.specs.Notice.{Notice}
use Rattle.warning.specs.Numbers.{most_octets}
use Rattle.warning.specs.Rules.{judged}
use Rattle.outlet.specs.declared.OutletFault.{OutletFault}
use Rattle.outlet.specs.declared.OutletFault.TheVariants.{NoWarning}

-- an outlet that holds nothing, and a buffer of n octets for any warning
abbrev pub Ready : List Notice → ℕ → Type 0
Ready ws n = (ws ≡ []) × (most_octets ≤ n)

-- only what is no warning is refused
abbrev pub pass_by : Result (Unit {0}) WarningFault → Warning ℕ → Result (Warning ℕ) OutletFault
pass_by (Err f) o = Err (NoWarning f)
pass_by (Ok u) o = Ok o

abbrev pub pass_outcome : Warning ℕ → Result (Warning ℕ) OutletFault
pass_outcome o = pass_by (judged o) o
