-- Reading a tape: its octets are judged in order, operand by operand.
use Rattle.std.specs.Prelude.{ℕ, zero, suc, ◌+◌, ◌-◌, min, Bool, true, cond, ◌&&◌, leb, List, [], ◌∷◌, ◌++◌, length, take, drop, Some, None, Ok, Err, Option, Result, ◌==◌, nat_eq, nat_le, nat_lt, slice_index}
use Rattle.octets.specs.Octets.{two_at}
use Rattle.warning.specs.declared.Pair.{Pair}
use Rattle.warning.specs.declared.Warning.TheVariants.{Primary, Message}
use Rattle.warning.specs.Notice.{Notice}
use Rattle.warning.specs.Numbers.{security_octets}
use Rattle.warning.specs.Rules.{carries_message, without_area, limit}
use Rattle.tape.specs.declared.fault.TapeFault.{TapeFault}
use Rattle.tape.specs.declared.fault.TapeFault.TheVariants.{Unknown, Ended}
use Rattle.tape.specs.Numbers.{primary_command, message_command, data_command, data_octets}
use Rattle.tape.specs.Format.{commands_for}

-- where a reader stands: an offset, and the octets from there on
pub record Place : Type 0 where
  pub at : ℕ
  pub rest : List ℕ

abbrev pub place : ℕ → List ℕ → Place
place at rest = record { at = at; rest = rest }

-- what reading something gives: its value and the place after it, or the refusal
abbrev pub Read : Type 0 → Type 0
Read X = Result (X × Place) TapeFault

-- one thing after another
abbrev pub then : {X Y : Type 0} → Read X → (X → Place → Read Y) → Read Y
then (Ok r) next = next r.0 r.1
then (Err f) next = Err f

-- An operand of a width. `begins` tells of its octets, as far as the input has them, whether
-- an acceptable value begins so. If none does, the operand is wrong, wherever the input ends;
-- otherwise an input that lacks an octet of it has ended too early.
unfoldable pub operand : ℕ → (List ℕ → Bool) → Place → Read (List ℕ)
operand width begins p =
    cond (begins (take width p.rest))
    (cond (nat_lt (length p.rest) width) (Err (Ended (p.at + length p.rest)))
    (Ok (take width p.rest, place (p.at + width) (drop width p.rest))))
    (Err (Unknown p.at))

-- one octet, of which a test is asked
abbrev pub first_is : (ℕ → Bool) → List ℕ → Bool
first_is test [] = true
first_is test (x ∷ xs) = test x

unfoldable pub octet : (ℕ → Bool) → Place → Read ℕ
octet test p = then (operand 1 (first_is test) p) (λ xs q. Ok (slice_index xs 0, q))

-- two octets that are those of a number; a missing one counts as 0, which is the least that can follow
abbrev pub of_number : List ℕ → Bool
of_number xs = nat_lt (slice_index xs 1) 256

-- a number that an operand may be whatever it is, and one that has a limit
unfoldable pub number : Place → Read ℕ
number p = then (operand 2 of_number p) (λ xs q. Ok (two_at xs 0, q))

unfoldable pub number_to : ℕ → Place → Read ℕ
number_to most p = then (operand 2 (λ xs. of_number xs && nat_le (two_at xs 0) most) p) (λ xs q. Ok (two_at xs 0, q))

unfoldable pub pair_operands : Place → Read Pair
pair_operands p = then (number p) (λ i p. then (number p) (λ s p. Ok (record { identifier = i; serial = s }, p)))

-- octets of which none is other than 0
abbrev pub all_zero : List ℕ → Bool
all_zero [] = true
all_zero (x ∷ xs) = x == 0 && all_zero xs

-- what a flag says of a part
abbrev pub present : {X : Type 0} → ℕ → X → Option X
present flag x = cond (flag == 0) None (Some x)

-- security information, which is zeros where its flag is 0
abbrev pub security_operand : ℕ → Place → Read (Option (List ℕ))
security_operand flag p =
    then (operand security_octets (λ xs. cond (flag == 0) (all_zero xs) true) p) (λ xs q. Ok (present flag xs, q))

-- the operands of a primary
unfoldable pub primary_operands : Place → Read Notice
primary_operands p =
    then (pair_operands p) (λ pair p.
    then (number p) (λ warning-type p.
    then (octet (λ flag. leb flag 1) p) (λ flag p.
    then (security_operand flag p) (λ security p.
    Ok (Primary pair warning-type security, p)))))

-- a data command of which the count is known
unfoldable pub data_operands : ℕ → Place → Read (List ℕ)
data_operands count p =
    then (octet (λ c. nat_eq c data_command) p) (λ command p.
    then (octet (λ c. nat_eq c count) p) (λ c p.
    then (operand data_octets (λ xs. all_zero (drop count xs)) p) (λ xs p.
    Ok (take count xs, p))))

-- n data commands, of which the first have 32 octets, and the last the rest
abbrev pub data_by : ℕ → ℕ → Place → Read (List ℕ)
data_by zero count p = Ok ([], p)
data_by (suc n) count p =
    then (data_operands (min data_octets count) p) (λ xs p.
    then (data_by n (count - data_octets) p) (λ ys p.
    Ok (xs ++ ys, p)))

-- the data commands of a part
unfoldable pub part : ℕ → Place → Read (List ℕ)
part count p = data_by (commands_for count) count p

-- the largest area flag of a block, and the largest area length
abbrev pub most_flag : ℕ → ℕ
most_flag block = cond (without_area block) 0 1

abbrev pub most_area : ℕ → ℕ → ℕ → ℕ
most_area block octets flag = cond (flag == 0) 0 (limit block - octets)

-- the data of a message whose operands are known
abbrev pub message_data : ℕ → Pair → ℕ → ℕ → ℕ → ℕ → Place → Read Notice
message_data block pair coding octets flag area p =
    then (part octets p) (λ message-octets p.
    then (part area p) (λ area_octets p.
    Ok (Message block pair coding message-octets (present flag area_octets), p)))

-- the lengths of a message, and its data
abbrev pub message_lengths : ℕ → Pair → ℕ → Place → Read Notice
message_lengths block pair coding p =
    then (number_to (limit block) p) (λ octets p.
    then (octet (λ flag. leb flag (most_flag block)) p) (λ flag p.
    then (number_to (most_area block octets flag) p) (λ area p.
    message_data block pair coding octets flag area p)))

-- the operands of a message, and its data
unfoldable pub message_operands : Place → Read Notice
message_operands p =
    then (octet carries_message p) (λ block p.
    then (pair_operands p) (λ pair p.
    then (octet (λ coding. true) p) (λ coding p.
    message_lengths block pair coding p)))

-- the operands that belong to a command
abbrev pub by_command : ℕ → ℕ → Place → Read Notice
by_command command at p =
    cond (command == primary_command) (primary_operands p)
    (cond (command == message_command) (message_operands p) (Err (Unknown at)))

-- one warning
unfoldable pub entry : Place → Read Notice
entry p = then (octet (λ c. true) p) (λ command q. by_command command p.at q)

-- the warnings that follow, and none after the last octet; each takes at least one octet, so `n` octets hold at most n
abbrev pub prepended : Notice → Result (List Notice) TapeFault → Result (List Notice) TapeFault
prepended w (Ok ws) = Ok (w ∷ ws)
prepended w (Err f) = Err f

abbrev pub followed : Read Notice → (Place → Result (List Notice) TapeFault) → Result (List Notice) TapeFault
followed (Ok r) next = prepended r.0 (next r.1)
followed (Err f) next = Err f

abbrev pub entries : ℕ → Place → Result (List Notice) TapeFault
entries zero p = Ok []
entries (suc n) p = cond (length p.rest == 0) (Ok []) (followed (entry p) (entries n))

-- a whole tape
unfoldable pub read_tape : List ℕ → Result (List Notice) TapeFault
read_tape tape = entries (length tape) (place 0 tape)
