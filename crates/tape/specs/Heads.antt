-- Reading one warning: its head tells its outline, and its body has its octets.
use Rattle.std.specs.Prelude.{◌≡◌, ℕ, true, cond, List, take, drop, Ok, Err, Result, ◌==◌, nat_le}
use Rattle.std.specs.Option.{option_map, unwrap_or}
use Rattle.octets.specs.Octets.{written}
use Rattle.warning.specs.declared.Pair.{Pair}
use Rattle.warning.specs.declared.Warning.{Warning}
use Rattle.warning.specs.declared.Warning.TheVariants.{Primary, Message}
use Rattle.warning.specs.Contents.{octets}
use Rattle.warning.specs.Notice.{Notice}
use Rattle.warning.specs.Numbers.{security_octets}
use Rattle.warning.specs.Rules.{carries_message, limit}
use Rattle.tape.specs.declared.fault.TapeFault.{TapeFault}
use Rattle.tape.specs.declared.fault.TapeFault.TheVariants.{Unknown}
use Rattle.tape.specs.declared.fault.Failure.{Failure}
use Rattle.tape.specs.declared.fault.Failure.TheVariants.{Fault, Memory}
use Rattle.tape.specs.Numbers.{primary_command, message_command}
use Rattle.tape.specs.Reading.{Place, Read, then, operand, octet, number, number_to, pair_operands, all_zero, present, part, most_flag, most_area, entry}

-- the operands of a primary, up to its security information
unfoldable pub primary_outline : Place → Read (Warning ℕ)
primary_outline p =
    then (pair_operands p) (λ pair p.
    then (number p) (λ warning-type p.
    then (octet (λ flag. nat_le flag 1) p) (λ flag p.
    Ok (Primary pair warning-type (present flag security_octets), p))))

-- the operands of a message, up to its data
abbrev pub lengths_outline : ℕ → Pair → ℕ → Place → Read (Warning ℕ)
lengths_outline block pair coding p =
    then (number_to (limit block) p) (λ octets p.
    then (octet (λ flag. nat_le flag (most_flag block)) p) (λ flag p.
    then (number_to (most_area block octets flag) p) (λ area p.
    Ok (Message block pair coding octets (present flag area), p))))

unfoldable pub message_outline : Place → Read (Warning ℕ)
message_outline p =
    then (octet carries_message p) (λ block p.
    then (pair_operands p) (λ pair p.
    then (octet (λ coding. true) p) (λ coding p.
    lengths_outline block pair coding p)))

-- the operands that belong to a command
abbrev pub outline_by : ℕ → ℕ → Place → Read (Warning ℕ)
outline_by command at p =
    cond (command == primary_command) (primary_outline p)
    (cond (command == message_command) (message_outline p) (Err (Unknown at)))

-- the head of a warning: its command octet and the operands that tell its outline
unfoldable pub head : Place → Read (Warning ℕ)
head p = then (octet (λ c. true) p) (λ command q. outline_by command p.at q)

-- The body of a warning whose outline is known: the security information in its operand, with
-- zeros past it, or the data commands of the message and of the area.
unfoldable pub body : (Warning ℕ) → Place → Read Notice
body (Primary pair warning-type security) p =
    then (operand security_octets (λ xs. all_zero (drop (unwrap_or security 0) xs)) p) (λ xs p.
    Ok (Primary pair warning-type (option_map (λ n. take n xs) security), p))
body (Message block pair coding count area) p =
    then (part count p) (λ xs p.
    then (part (unwrap_or area 0) p) (λ ys p.
    Ok (Message block pair coding xs (option_map (λ n. ys) area), p)))

-- a warning is its head and then its body, at every place
abbrev pub HeadThenBody : Type 0
HeadThenBody = (p : Place) → entry p ≡ then (head p) body

-- what is answered of a value and the place after it: what it means, and the offset
abbrev pub answered : {X Y : Type 0} → (X → Y) → Read X → Result (Y × ℕ) TapeFault
answered meaning (Ok r) = Ok (meaning r.0, r.1.at)
answered meaning (Err f) = Err f

-- the same in memory of its own; where that is wanting, nothing is said
abbrev pub AnsweredAs : {X Y : Type 0} → (X → Y) → Read Y → Result (X × ℕ) (Failure TapeFault) → Type 0
AnsweredAs meaning r (Ok x) = answered (λ y. y) r ≡ Ok (meaning x.0, x.1)
AnsweredAs meaning r (Err (Fault f)) = r ≡ Err f
AnsweredAs meaning r (Err Memory) = Unit {0}

-- the octets of a warning that is read, at the start of a memory; a refusal leaves the memory as it was
abbrev pub copied : Read Notice → List ℕ → List ℕ
copied (Ok r) memory = written 0 (octets r.0) memory
copied (Err f) memory = memory

-- something that is read, whose octets are handed on; of a refusal nothing else is said
abbrev pub Passed : {X : Type 0} → (X → List ℕ) → Read X → (List ℕ → Type 0) → Result (Unit {0}) TapeFault → Place → Type 0
Passed {X} octets_in r taken (Ok u) p = (x : X) × (r ≡ Ok (x, p)) × taken (octets_in x)
Passed octets_in r taken (Err f) p = r ≡ Err f
