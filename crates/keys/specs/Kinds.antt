-- When keys are the same: all parts agree.
use Rattle.std.specs.Prelude.{Bool, ◌&&◌, ◌==◌}
use Rattle.warning.specs.declared.Pair.{Pair}
use Rattle.warning.specs.declared.network.Network.{Network}
use Rattle.keys.specs.declared.kinds.NetworkPair.{NetworkPair}

abbrev pub same_pair : Pair → Pair → Bool
same_pair x y = x.identifier == y.identifier && x.serial == y.serial

abbrev pub same_network : Network → Network → Bool
same_network x y = x.mcc == y.mcc && (x.digits == y.digits && x.mnc == y.mnc)

abbrev pub same_network_pair : NetworkPair → NetworkPair → Bool
same_network_pair x y = same_network x.network y.network && same_pair x.pair y.pair

abbrev pub of_one_network : NetworkPair → NetworkPair → Bool
of_one_network x y = same_network x.network y.network
