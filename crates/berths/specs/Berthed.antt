-- What berths hold.
use Rattle.std.specs.Prelude.{ℕ, Bool, cond, ◌&&◌, is_some, List, None, Option, nat_lt, replicate, refl, slice_index_or}
use Rattle.std.specs.Option.{option_map}
use Rattle.std.proofs.Common.{zero-le}
use Rattle.store.specs.Meaning.{Content, Held, standing}
use Rattle.store.specs.Numbers.{number_count}
use Rattle.store.specs.Outcomes.{index}
use Rattle.berths.specs.declared.berth.Berth.{Berth}
use Rattle.berths.specs.Numbers.{slot_count, berth_octets}

-- a segment stands at the start of its berth
abbrev pub lies : Berth → Option Content
lies b = option_map (λ l. standing l b.octets) b.lengths

abbrev pub taken : Berth → Bool
taken b = is_some (lies b)

abbrev pub empty : Berth
empty = record { lengths = None; octets = replicate berth_octets 0; full = refl; short = zero-le }

abbrev pub berth : List Berth → ℕ → Berth
berth bs i = slice_index_or bs i empty

-- each place of a slot has the berth of its index
unfoldable pub held_in : List Berth → Held
held_in bs slot number = cond (nat_lt slot slot_count && nat_lt number number_count) (lies (berth bs (index slot number))) None
