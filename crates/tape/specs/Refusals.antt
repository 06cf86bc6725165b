-- The number of each refusal of the tape and the values that come with it, case by case.
use Rattle.std.specs.Prelude.{ℕ}
use Rattle.warning.specs.declared.Refusal.{Refusal}
use Rattle.warning.specs.declared.Values.TheVariants.{One, Two}
use Rattle.warning.specs.Refusals.{refusal, of_warning}
use Rattle.tape.specs.declared.fault.WriteFault.{WriteFault}
use Rattle.tape.specs.declared.fault.WriteFault.TheVariants.{NoWarning, Full}
use Rattle.tape.specs.declared.fault.TapeFault.{TapeFault}
use Rattle.tape.specs.declared.fault.TapeFault.TheVariants.{Unknown, Ended}

abbrev pub of_write : WriteFault → Refusal
of_write (NoWarning fault) = of_warning fault
of_write (Full cost free) = refusal 12 (Two cost free)

-- where a tape is refused
abbrev pub offset_of : TapeFault → ℕ
offset_of (Unknown offset) = offset
offset_of (Ended offset) = offset

abbrev pub of_tape : TapeFault → Refusal
of_tape (Unknown offset) = refusal 18 (One offset)
of_tape (Ended offset) = refusal 19 (One offset)
