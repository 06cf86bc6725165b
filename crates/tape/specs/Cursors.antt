-- What the methods of a cursor answer.
use Rattle.std.specs.Prelude.{◌≡◌, ℕ, ◌<◌, Bool, cond, Ok, Err, Result}
use Rattle.tape.specs.declared.fault.TapeFault.{TapeFault}
use Rattle.tape.specs.declared.fault.Failure.{Failure}
use Rattle.tape.specs.declared.fault.Failure.TheVariants.{Fault, Memory}
use Rattle.tape.specs.Reading.{Place, Read}

-- a value that was read and the place after it, or the refusal, after which nothing is said of the place
abbrev pub gave : {X : Type 0} → Result X TapeFault → Place → Read X
gave (Ok x) p = Ok (x, p)
gave (Err f) p = Err f

-- the same by what the value means
abbrev pub gave_as : {X Y : Type 0} → (X → Y) → Result X TapeFault → Place → Read Y
gave_as meaning (Ok x) p = Ok (meaning x, p)
gave_as meaning (Err f) p = Err f

-- the same where memory may be wanting: then nothing is said
abbrev pub Agrees : {X Y : Type 0} → (X → Y) → Read Y → Result X (Failure TapeFault) → Place → Type 0
Agrees meaning r (Ok x) p = r ≡ Ok (meaning x, p)
Agrees meaning r (Err (Fault f)) p = r ≡ Err f
Agrees meaning r (Err Memory) p = Unit {0}

-- a test of octets answers what a function says
abbrev pub Tests : (ℕ → Bool → Type 0) → (ℕ → Bool) → Type 0
Tests answers passes = (x : ℕ) (r : Bool) → x < 256 → answers x r → r ≡ passes x

-- a flag as it stands on tape
abbrev pub flag_number : Bool → ℕ
flag_number b = cond b 1 0
