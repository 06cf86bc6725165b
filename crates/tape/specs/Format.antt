-- A warning on tape.
use Rattle.std.specs.Prelude.{ℕ, zero, suc, ◌+◌, ◌-◌, ◌*◌, ◌/◌, List, [], ◌∷◌, ◌++◌, length, take, drop, replicate, Some, None, Option}
use Rattle.std.specs.Option.{unwrap_or}
use Rattle.std.specs.List.{flat_map}
use Rattle.octets.specs.Octets.{two}
use Rattle.warning.specs.declared.Pair.{Pair}
use Rattle.warning.specs.declared.Warning.{Warning}
use Rattle.warning.specs.declared.Warning.TheVariants.{Primary, Message}
use Rattle.warning.specs.Notice.{Notice}
use Rattle.warning.specs.Numbers.{security_octets}
use Rattle.tape.specs.Numbers.{primary_command, message_command, data_command, data_octets}

-- how many data commands n octets take: one for each 32 begun
abbrev pub commands_for : ℕ → ℕ
commands_for n = (n + 31) / data_octets

-- a data command: the count, then 32 octets, zeros past the count
abbrev pub piece : List ℕ → List ℕ
piece xs = data_command ∷ length xs ∷ (xs ++ replicate (data_octets - length xs) 0)

-- n data commands, each with 32 octets as long as there are so many
abbrev pub pieces_by : ℕ → List ℕ → List ℕ
pieces_by zero xs = []
pieces_by (suc n) xs = piece (take data_octets xs) ++ pieces_by n (drop data_octets xs)

-- the data commands of one part
unfoldable pub pieces : List ℕ → List ℕ
pieces xs = pieces_by (commands_for (length xs)) xs

-- a flag, 0 for what is absent
abbrev pub flag_of : {X : Type 0} → Option X → ℕ
flag_of None = 0
flag_of (Some x) = 1

-- the octets of a part that may be absent
abbrev pub octets_of : Option (List ℕ) → List ℕ
octets_of None = []
octets_of (Some xs) = xs

abbrev pub pair_octets : Pair → List ℕ
pair_octets pair = two pair.identifier ++ two pair.serial

-- flag and security information, zeros where it is absent
abbrev pub security_part : Option (List ℕ) → List ℕ
security_part None = 0 ∷ replicate security_octets 0
security_part (Some xs) = 1 ∷ xs

-- flag and length of an area
abbrev pub area_head : Option (List ℕ) → List ℕ
area_head area = flag_of area ∷ two (length (octets_of area))

-- the commands of a warning: each its first octet, then its operands
abbrev pub primary_head : Pair → ℕ → List ℕ
primary_head pair warning-type = primary_command ∷ (pair_octets pair ++ two warning-type)

abbrev pub message_head : ℕ → Pair → ℕ → List ℕ → Option (List ℕ) → List ℕ
message_head block pair coding octets area =
    message_command ∷ block ∷ (pair_octets pair ++ (coding ∷ (two (length octets) ++ area_head area)))

abbrev pub encode : Notice → List ℕ
encode (Primary pair warning-type security) = primary_head pair warning-type ++ security_part security
encode (Message block pair coding octets area) =
    message_head block pair coding octets area ++ (pieces octets ++ pieces (octets_of area))

-- the warnings of a tape, one after another
abbrev pub encode_all : List Notice → List ℕ
encode_all = flat_map encode

-- the octets that the data commands of a part of n octets take, and that a warning takes
abbrev pub part_cost : ℕ → ℕ
part_cost n = commands_for n * 34

abbrev pub cost : (Warning ℕ) → ℕ
cost (Primary pair warning-type security) = 58
cost (Message block pair coding octets area) = 12 + part_cost octets + part_cost (unwrap_or area 0)
