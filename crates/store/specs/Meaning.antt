-- What a store means: the segments that it holds, by slot and number, and its shape.
use Rattle.std.specs.Prelude.{◌≡◌, ℕ, zero, suc, ◌+◌, ◌-◌, ◌*◌, ◌<◌, ◌≤◌, Bool, true, false, cond, ◌&&◌, List, [], ◌++◌, length, take, drop, Some, None, Option, ◌==◌, slice_index}
use Rattle.std.specs.Borrow.{Bor}
use Rattle.std.specs.Option.{option_map, unwrap_or}
use Rattle.std.specs.Str.{bytes_eq}
use Rattle.octets.specs.Octets.{written}
use Rattle.store.specs.declared.Segment.{Segment}
use Rattle.store.specs.Numbers.{number_count, most_octets}

-- what a segment is: message octets, and area octets that may be absent
abbrev pub Content : Type 0
Content = Segment (List ℕ)

-- the same segment, each part of it turned into something else
abbrev pub with_parts : {A B : Type 0} → (A → B) → Segment A → Segment B
with_parts turned segment = record { message = turned segment.message; area = option_map turned segment.area }

-- what a segment of the code is, whoever lends its octets
abbrev pub content : Segment (Bor (List ℕ)) → Content
content = with_parts (λ octets. octets.now)

-- an absent area has no octets
abbrev pub area_octets : Option (List ℕ) → List ℕ
area_octets area = unwrap_or area []

-- the octets of a segment: the message, then the area
abbrev pub octets : Content → List ℕ
octets seg = seg.message ++ area_octets seg.area

-- a segment without its octets: their lengths stand in their place
abbrev pub lengths_of : Content → Segment ℕ
lengths_of = with_parts length

-- message and area octets together
abbrev pub count_of : Segment ℕ → ℕ
count_of l = l.message + unwrap_or l.area 0

abbrev pub count : Content → ℕ
count seg = count_of (lengths_of seg)

-- the segment of these lengths that stands at the start of the octets
abbrev pub standing : Segment ℕ → List ℕ → Content
standing l octets = record { message = take l.message octets; area = option_map (λ a. take a (drop l.message octets)) l.area }

-- memory with the message at its start and the area after it
abbrev pub spread : Content → List ℕ → List ℕ
spread seg memory = written (length seg.message) (area_octets seg.area) (written 0 seg.message memory)

-- whether two segments are equal: absent and empty areas differ
abbrev pub same_area : Option (List ℕ) → Option (List ℕ) → Bool
same_area None None = true
same_area None (Some b) = false
same_area (Some a) None = false
same_area (Some a) (Some b) = bytes_eq a b

abbrev pub same : Content → Content → Bool
same x y = bytes_eq x.message y.message && same_area x.area y.area

-- the segments held, by slot and number
abbrev pub Held : Type 0
Held = ℕ → ℕ → Option Content

abbrev pub nothing : Held
nothing slot number = None

-- one place holds something else, all others hold what they held
abbrev pub replaced : Held → ℕ → ℕ → Option Content → Held
replaced h slot number new s n = cond (s == slot && n == number) new (h s n)

abbrev pub with_segment : Held → ℕ → ℕ → Content → Held
with_segment h slot number seg = replaced h slot number (Some seg)

abbrev pub without_slot : Held → ℕ → Held
without_slot h slot s n = cond (s == slot) None (h s n)

-- how many slots a store has, its units in all, and the units that so many octets cost
pub record Shape : Type 0 where
  pub slots : ℕ
  pub total : ℕ
  pub cost : ℕ → ℕ

-- what every shape fulfils
pub record Lawful (shape : Shape) : Type 0 where
  pub fewest : 2 ≤ shape.slots
  pub most : shape.slots ≤ 9
  pub some : (n : ℕ) → n ≤ most_octets → 1 ≤ shape.cost n
  pub rises : (m n : ℕ) → m ≤ n → n ≤ most_octets → shape.cost m ≤ shape.cost n
  pub roomy : number_count * shape.cost most_octets ≤ shape.total

-- what may stand at a place: nothing, or in a slot that there is a segment that is not too long
abbrev pub Placed : Shape → ℕ → ℕ → Option Content → Type 0
Placed shape slot number None = Unit {0}
Placed shape slot number (Some seg) = (slot < shape.slots) × (number < number_count) × (count seg ≤ most_octets)

-- the units of what stands at a place
abbrev pub paid : (ℕ → ℕ) → Option Content → ℕ
paid cost None = 0
paid cost (Some seg) = cost (count seg)

unfoldable pub sum_below : (ℕ → ℕ) → ℕ → ℕ
sum_below f zero = 0
sum_below f (suc n) = sum_below f n + f n

-- the units held in one slot, in all slots, and the units that are free
abbrev pub slot_units : (ℕ → ℕ) → Held → ℕ → ℕ
slot_units cost h slot = sum_below (λ number. paid cost (h slot number)) number_count

abbrev pub units : Shape → Held → ℕ
units shape h = sum_below (slot_units shape.cost h) shape.slots

abbrev pub units_free : Shape → Held → ℕ
units_free shape h = shape.total - units shape h

-- counts that are the units of their slots
abbrev pub Counted : (ℕ → ℕ) → Held → List ℕ → Type 0
Counted cost h used = (slot : ℕ) → slot < length used → slice_index used slot ≡ slot_units cost h slot
