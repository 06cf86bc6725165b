-- What the rules say of radios, blocks and warnings.
use Rattle.std.specs.Prelude.{ℕ, ◌+◌, min, Bool, true, cond, not, ◌&&◌, ◌||◌, is_some, Some, None, Ok, Err, Option, Result, ◌==◌, nat_le, nat_lt}
use Rattle.std.specs.Option.{unwrap_or, ok_or}
use Rattle.warning.specs.declared.Radio.{Radio}
use Rattle.warning.specs.declared.Radio.TheVariants.{Lte, Nr}
use Rattle.warning.specs.declared.UnknownRadio.{UnknownRadio}
use Rattle.warning.specs.declared.Warning.{Warning}
use Rattle.warning.specs.declared.Warning.TheVariants.{Primary, Message}
use Rattle.warning.specs.declared.WarningFault.{WarningFault}
use Rattle.warning.specs.declared.WarningFault.TheVariants.{Block, Area, TooLong, Security}
use Rattle.warning.specs.Numbers.{radio_lte, radio_nr, etws_secondary, cmas_lte, cmas_nr, most_octets, security_octets, most_count}

-- the radio that an octet names
abbrev pub radio_of : ℕ → Option Radio
radio_of octet = cond (octet == radio_lte) (Some Lte) (cond (octet == radio_nr) (Some Nr) None)

-- the same as the answer of a conversion, whose fault carries the octet
abbrev pub radio_read : ℕ → Result Radio UnknownRadio
radio_read octet = ok_or (radio_of octet) (record { 0 = octet })

-- the blocks whose warnings are messages
abbrev pub carries_message : ℕ → Bool
carries_message block = block == etws_secondary || (block == cmas_lte || block == cmas_nr)

-- a block whose warnings have no area
abbrev pub without_area : ℕ → Bool
without_area block = block == etws_secondary

-- how many message and area octets a warning of a block may have together
abbrev pub limit : ℕ → ℕ
limit block = most_octets

-- message and area octets together
abbrev pub total : ℕ → Option ℕ → ℕ
total message area = message + unwrap_or area 0

-- What is a warning: the security information of a primary has its one length; a message has
-- a block that carries messages, no area where the block has none, and few enough octets.
abbrev pub right_security : Option ℕ → Bool
right_security None = true
right_security (Some length) = length == security_octets

abbrev pub is_warning : Warning ℕ → Bool
is_warning (Primary pair warning-type security) = right_security security
is_warning (Message block pair coding message area) =
    carries_message block && (not (without_area block && is_some area) && nat_le (total message area) (limit block))

-- The first fault of what is no warning, in the order of the checks. The count of octets
-- stops at the largest number that a count can be; octets in memory never come so far.
abbrev pub judged_security : Option ℕ → Result (Unit {0}) WarningFault
judged_security None = Ok tt
judged_security (Some length) = cond (length == security_octets) (Ok tt) (Err (Security length))

abbrev pub judged_message : ℕ → ℕ → Option ℕ → Result (Unit {0}) WarningFault
judged_message block message area =
    cond (not (carries_message block)) (Err (Block block))
    (cond (without_area block && is_some area) (Err Area)
    (cond (nat_lt (limit block) (total message area)) (Err (TooLong (min (total message area) most_count))) (Ok tt)))

abbrev pub judged : Warning ℕ → Result (Unit {0}) WarningFault
judged (Primary pair warning-type security) = judged_security security
judged (Message block pair coding message area) = judged_message block message area
