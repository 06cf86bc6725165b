-- What the two lists hold, the oldest first.
use Rattle.std.specs.Prelude.{cond, List, length, take, Ok, Err, Result, nat_lt}
use Rattle.warning.specs.declared.Pair.{Pair}
use Rattle.keys.specs.declared.Entry.{Entry}
use Rattle.keys.specs.declared.kinds.NetworkPair.{NetworkPair}
use Rattle.keys.specs.declared.open_list.OpenList.{OpenList}
use Rattle.keys.specs.declared.open_list.StoreFault.{StoreFault}
use Rattle.keys.specs.declared.open_list.StoreFault.TheVariants.{Known, Full}
use Rattle.keys.specs.declared.remembered.RememberedList.{RememberedList}
use Rattle.keys.specs.Kinds.{same_pair}
use Rattle.keys.specs.Memory.{holds}
use Rattle.keys.specs.Numbers.{open_capacity}

abbrev pub opened : OpenList → List (Entry Pair)
opened list = take list.count list.entries

abbrev pub recalled : RememberedList → List (Entry NetworkPair)
recalled list = take list.count list.entries

-- what storing in the open list answers: a pair is refused where it is in the list, or all places are taken
abbrev pub store_outcome : Pair → List (Entry Pair) → Result (Unit {0}) StoreFault
store_outcome pair xs = cond (holds same_pair pair xs) (Err Known) (cond (nat_lt (length xs) open_capacity) (Ok tt) (Err Full))
