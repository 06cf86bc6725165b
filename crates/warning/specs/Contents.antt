-- The octets of a warning, one after another.
use Rattle.std.specs.Prelude.{ℕ, List, [], ◌++◌, take, drop, Option}
use Rattle.std.specs.Option.{option_map, unwrap_or}
use Rattle.warning.specs.declared.Warning.{Warning}
use Rattle.warning.specs.declared.Warning.TheVariants.{Primary, Message}
use Rattle.warning.specs.Notice.{Notice}
use Rattle.warning.specs.Rules.{total}

-- the octets of a part that may be absent
abbrev pub part_octets : Option (List ℕ) → List ℕ
part_octets part = unwrap_or part []

-- the octets of a warning: the message and then the area, or the security information
abbrev pub octets : Notice → List ℕ
octets (Primary pair warning-type security) = part_octets security
octets (Message block pair coding message-octets area) = message-octets ++ part_octets area

-- how many these are
abbrev pub octet_count : Warning ℕ → ℕ
octet_count (Primary pair warning-type security) = unwrap_or security 0
octet_count (Message block pair coding message-length area) = total message-length area

-- the warning of an outline whose octets stand at the start of a memory
abbrev pub standing : Warning ℕ → List ℕ → Notice
standing (Primary pair warning-type security) memory = Primary pair warning-type (option_map (λ n. take n memory) security)
standing (Message block pair coding message-length area) memory =
    Message block pair coding (take message-length memory) (option_map (λ n. take n (drop message-length memory)) area)
