-- What each call of an outlet answers: the first refusal in the order of the checks, or the answer.
use Rattle.std.specs.Prelude.{ℕ, cond, List, [], ◌∷◌, ◌++◌, Some, None, Ok, Err, Option, Result, nat_lt}
use Rattle.octets.specs.Octets.{written}
use Rattle.warning.specs.declared.Warning.{Warning}
use Rattle.warning.specs.declared.WarningFault.{WarningFault}
use Rattle.warning.specs.Contents.{octets}
use Rattle.warning.specs.Notice.{Notice, outline}
use Rattle.warning.specs.Numbers.{most_octets}
use Rattle.warning.specs.Rules.{judged}
use Rattle.outlet.specs.declared.OutletFault.{OutletFault}
use Rattle.outlet.specs.declared.OutletFault.TheVariants.{NoWarning, Full, Buffer, Empty}
use Rattle.outlet.specs.Meaning.{Room, units_free}

-- what is no warning is refused by its first fault, then what costs more than is free
abbrev pub give_by : Result (Unit {0}) WarningFault → ℕ → ℕ → Result (Unit {0}) OutletFault
give_by (Err f) cost free = Err (NoWarning f)
give_by (Ok u) cost free = cond (nat_lt free cost) (Err (Full cost free)) (Ok tt)

abbrev pub give_outcome : Room → List Notice → Warning ℕ → Result (Unit {0}) OutletFault
give_outcome room ws o = give_by (judged o) (room.cost o) (units_free room ws)

-- the newest stands last
abbrev pub with_newest : List Notice → Notice → List Notice
with_newest ws w = ws ++ (w ∷ [])

-- a buffer that is shorter than the longest warning is refused, even where nothing is held
abbrev pub into_buffer : {X : Type 0} → ℕ → Result X OutletFault → Result X OutletFault
into_buffer n next = cond (nat_lt n most_octets) (Err (Buffer n)) next

abbrev pub first_taken : List Notice → Result (Warning ℕ) OutletFault
first_taken [] = Err Empty
first_taken (w ∷ ws) = Ok (outline w)

-- taking into a buffer of n octets
abbrev pub take_outcome : List Notice → ℕ → Result (Warning ℕ) OutletFault
take_outcome ws n = into_buffer n (first_taken ws)

abbrev pub without_first : List Notice → List Notice
without_first [] = []
without_first (w ∷ ws) = ws

-- the buffer with the octets of the first warning at its start
abbrev pub first_copied : List Notice → List ℕ → List ℕ
first_copied [] buffer = buffer
first_copied (w ∷ ws) buffer = written 0 (octets w) buffer

abbrev pub first_of : List Notice → Option (Warning ℕ)
first_of [] = None
first_of (w ∷ ws) = Some (outline w)

abbrev pub cost_by : Result (Unit {0}) WarningFault → ℕ → Result ℕ WarningFault
cost_by (Err f) cost = Err f
cost_by (Ok u) cost = Ok cost

abbrev pub cost_outcome : Room → Warning ℕ → Result ℕ WarningFault
cost_outcome room o = cost_by (judged o) (room.cost o)
