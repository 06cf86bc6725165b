-- What writing one warning answers.
use Rattle.std.specs.Prelude.{◌≡◌, ℕ, ◌+◌, ◌≤◌, cond, List, [], ◌∷◌, ◌++◌, length, replicate, Ok, Err, Result, nat_lt}
use Rattle.std.specs.Option.{unwrap_or}
use Rattle.octets.specs.Octets.{two, written}
use Rattle.warning.specs.declared.Warning.{Warning}
use Rattle.warning.specs.declared.Warning.TheVariants.{Primary, Message}
use Rattle.warning.specs.declared.WarningFault.{WarningFault}
use Rattle.warning.specs.Notice.{Notice}
use Rattle.warning.specs.Numbers.{security_octets}
use Rattle.warning.specs.Rules.{judged}
use Rattle.tape.specs.declared.fault.WriteFault.{WriteFault}
use Rattle.tape.specs.declared.fault.WriteFault.TheVariants.{NoWarning, Full}
use Rattle.tape.specs.declared.output.Output.{Output}
use Rattle.tape.specs.Numbers.{primary_command, message_command}
use Rattle.tape.specs.Format.{cost, flag_of, pair_octets, pieces, octets_of}

-- the cost of what is a warning, or its first fault
abbrev pub cost_by : Result (Unit {0}) WarningFault → ℕ → Result ℕ WarningFault
cost_by (Ok x) n = Ok n
cost_by (Err f) n = Err f

abbrev pub costed : (Warning ℕ) → Result ℕ WarningFault
costed o = cost_by (judged o) (cost o)

-- the place after a warning that is written at a place with so many octets free
abbrev pub write_by : Result ℕ WarningFault → ℕ → ℕ → Result ℕ WriteFault
write_by (Err f) free at = Err (NoWarning f)
write_by (Ok n) free at = cond (nat_lt free n) (Err (Full n free)) (Ok (at + n))

abbrev pub write_outcome : (Warning ℕ) → ℕ → ℕ → Result ℕ WriteFault
write_outcome o free at = write_by (costed o) free at

-- the head of a warning on tape, by its outline: the command octet, and the operands before its octets
abbrev pub head_octets : Warning ℕ → List ℕ
head_octets (Primary pair warning-type security) =
    primary_command ∷ (pair_octets pair ++ (two warning-type ++ (flag_of security ∷ [])))
head_octets (Message block pair coding octets area) =
    message_command ∷ block ∷ (pair_octets pair ++ (coding ∷ (two octets ++ (flag_of area ∷ two (unwrap_or area 0)))))

-- the body: the security information, or zeros in its place; or the data commands of both parts
abbrev pub body_octets : Notice → List ℕ
body_octets (Primary pair warning-type security) = unwrap_or security (replicate security_octets 0)
body_octets (Message block pair coding octets area) = pieces octets ++ pieces (octets_of area)

-- octets fit into what an output has left
abbrev pub HasRoom : Output → List ℕ → Type 0
HasRoom output octets = output.at + length octets ≤ length output.memory.now

-- octets were put into an output, which still lends the same memory
abbrev pub HasPut : Output → List ℕ → Output → Type 0
HasPut before octets after =
    (after.at ≡ before.at + length octets)
    × (after.memory.now ≡ written before.at octets before.memory.now)
    × (after.memory.ghost_name ≡ before.memory.ghost_name)
