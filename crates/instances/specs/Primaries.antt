-- Primaries of one network in one second.
use Rattle.std.specs.Prelude.{◌≡◌, ℕ, List, [], ◌∷◌, ◌≢◌}
use Rattle.warning.specs.declared.Pair.{Pair}
use Rattle.warning.specs.declared.network.Network.{Network}
use Rattle.keys.specs.declared.Entry.{Entry}
use Rattle.keys.specs.declared.kinds.NetworkPair.{NetworkPair}
use Rattle.keys.specs.declared.memory.Memory.{Memory}
use Rattle.keys.specs.declared.memory.Memory.TheVariants.{Known, New}
use Rattle.keys.specs.Entries.{entry}
use Rattle.keys.specs.Kinds.{same_network_pair, of_one_network}
use Rattle.keys.specs.Memory.{memory_of, remembered}
use Rattle.keys.specs.Numbers.{most_of_network, remembered_capacity}

-- the answers to primaries that come one after the other at one clock
abbrev pub answers : ℕ → List NetworkPair → List (Entry NetworkPair) → List Memory
answers clock [] held = []
answers clock (key ∷ keys) held =
    memory_of same_network_pair key held
    ∷ answers clock keys (remembered same_network_pair of_one_network most_of_network remembered_capacity (entry key clock) held)

abbrev pub primary_of : Network → Pair → NetworkPair
primary_of network pair = record { network = network; pair = pair }

-- X, Y, X, Z and Y, where nothing was remembered before
abbrev pub five_answers : Network → Pair → Pair → Pair → ℕ → List Memory
five_answers network x y z clock =
    answers clock (primary_of network x ∷ primary_of network y ∷ primary_of network x ∷ primary_of network z ∷ primary_of network y ∷ []) []

-- A new primary is forwarded. The third is known, and renews X, so that Z takes the place of Y.
abbrev pub FivePrimaries : Type 0
FivePrimaries =
    (network : Network) (x y z : Pair) (clock : ℕ) → (x ≢ y) → (x ≢ z) → (y ≢ z)
    → five_answers network x y z clock ≡ New ∷ New ∷ Known ∷ New ∷ New ∷ []
