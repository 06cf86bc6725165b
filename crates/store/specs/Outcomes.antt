-- What each call of a store answers: the first refusal in the order of the checks, or the answer.
use Rattle.std.specs.Prelude.{ℕ, ◌+◌, ◌*◌, Bool, cond, List, is_some, Some, None, Ok, Err, Option, Result, nat_le, nat_lt}
use Rattle.octets.specs.Octets.{written}
use Rattle.store.specs.declared.Segment.{Segment}
use Rattle.store.specs.declared.StoreFault.{StoreFault}
use Rattle.store.specs.declared.StoreFault.TheVariants.{NoSlot, NoNumber, TooLong, Occupied, NotHeld, NoUnits, Memory}
use Rattle.store.specs.Meaning.{Content, Held, Shape, octets, count, same, lengths_of, slot_units, units_free}
use Rattle.store.specs.Numbers.{number_count, most_octets}

-- a slot that the store lacks is refused first, then a number that no segment has
abbrev pub at_slot : {X : Type 0} → Shape → ℕ → Result X StoreFault → Result X StoreFault
at_slot shape slot next = cond (nat_le shape.slots slot) (Err (NoSlot slot)) next

abbrev pub at_place : {X : Type 0} → Shape → ℕ → ℕ → Result X StoreFault → Result X StoreFault
at_place shape slot number next = at_slot shape slot (cond (nat_le number_count number) (Err (NoNumber number)) next)

-- too many octets are refused
abbrev pub not_too_long : {X : Type 0} → ℕ → Result X StoreFault → Result X StoreFault
not_too_long n next = cond (nat_lt most_octets n) (Err (TooLong n)) next

-- a segment that is not held is refused
abbrev pub where_held : {X : Type 0} → Option Content → (Content → Result X StoreFault) → Result X StoreFault
where_held None next = Err NotHeld
where_held (Some seg) next = next seg

-- the segment that is held at a place
abbrev pub look_up : Shape → Held → ℕ → ℕ → Result Content StoreFault
look_up shape h slot number = at_place shape slot number (where_held (h slot number) Ok)

abbrev pub put_outcome : Shape → Held → ℕ → ℕ → Content → Result (Unit {0}) StoreFault
put_outcome shape h slot number seg =
    at_place shape slot number
    (not_too_long (count seg)
    (cond (is_some (h slot number)) (Err Occupied)
    (cond (nat_lt (units_free shape h) (shape.cost (count seg))) (Err (NoUnits (shape.cost (count seg)) (units_free shape h)))
    (Ok tt))))

abbrev pub drop_outcome : Shape → ℕ → Result (Unit {0}) StoreFault
drop_outcome shape slot = at_slot shape slot (Ok tt)

abbrev pub cost_outcome : Shape → ℕ → Result ℕ StoreFault
cost_outcome shape n = not_too_long n (Ok (shape.cost n))

abbrev pub units_outcome : Shape → Held → ℕ → Result ℕ StoreFault
units_outcome shape h slot = at_slot shape slot (Ok (slot_units shape.cost h slot))

abbrev pub held_outcome : Shape → Held → ℕ → ℕ → Result Bool StoreFault
held_outcome shape h slot number = at_place shape slot number (Ok (is_some (h slot number)))

abbrev pub lengths_outcome : Shape → Held → ℕ → ℕ → Result (Segment ℕ) StoreFault
lengths_outcome shape h slot number = at_place shape slot number (where_held (h slot number) (λ seg. Ok (lengths_of seg)))

abbrev pub equals_outcome : Shape → Held → ℕ → ℕ → Content → Result Bool StoreFault
equals_outcome shape h slot number given = at_place shape slot number (where_held (h slot number) (λ seg. Ok (same seg given)))

-- copying out into a memory of n octets
abbrev pub copy_outcome : Shape → Held → ℕ → ℕ → ℕ → Result (Unit {0}) StoreFault
copy_outcome shape h slot number n =
    at_place shape slot number (where_held (h slot number) (λ seg. cond (nat_lt n (count seg)) (Err (Memory n)) (Ok tt)))

-- the memory with a segment at its start: the message, then the area
abbrev pub copied : Option Content → List ℕ → List ℕ
copied None memory = memory
copied (Some seg) memory = written 0 (octets seg) memory

-- the index of a place: 64 places to a slot
abbrev pub index : ℕ → ℕ → ℕ
index slot number = slot * number_count + number

-- a check of one rule alone
abbrev pub judged_slot : ℕ → ℕ → Result (Unit {0}) StoreFault
judged_slot slots slot = cond (nat_le slots slot) (Err (NoSlot slot)) (Ok tt)

abbrev pub judged_octets : ℕ → Result (Unit {0}) StoreFault
judged_octets n = not_too_long n (Ok tt)

abbrev pub judged_vacant : Bool → Result (Unit {0}) StoreFault
judged_vacant held = cond held (Err Occupied) (Ok tt)

abbrev pub judged_memory : ℕ → ℕ → Result (Unit {0}) StoreFault
judged_memory n octets = cond (nat_lt n octets) (Err (Memory n)) (Ok tt)

abbrev pub judged_place : ℕ → ℕ → ℕ → Result ℕ StoreFault
judged_place slots slot number =
    cond (nat_le slots slot) (Err (NoSlot slot)) (cond (nat_le number_count number) (Err (NoNumber number)) (Ok (index slot number)))
