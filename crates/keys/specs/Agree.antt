-- Keys are the same where their parts are.
use Rattle.std.specs.Prelude.{◌≡◌, ℕ, true, Decides, ◌==◌, refl}
use Rattle.std.proofs.Common.{◌∙◌, ap, subst}
use Rattle.std.proofs.Math.Bool.{Bool-set}
use Rattle.std.proofs.lemmas.Bool.{and_parts, and_from, eqb-true, eq-eqb}
use Rattle.warning.specs.Networks.{is_network}
use Rattle.warning.specs.declared.Pair.{Pair}
use Rattle.warning.specs.declared.network.Network.{Network}
use Rattle.keys.specs.declared.kinds.NetworkPair.{NetworkPair}
use Rattle.keys.specs.Kinds.{same_pair, same_network, same_network_pair}

abbrev named : (mcc digits mnc : ℕ) → is_network mcc digits mnc ≡ true → Network
named mcc digits mnc valid = record { mcc = mcc; digits = digits; mnc = mnc; valid = valid }

abbrev paired : Network → Pair → NetworkPair
paired network pair = record { network = network; pair = pair }

abbrev numbered : ℕ → ℕ → Pair
numbered identifier serial = record { identifier = identifier; serial = serial }

named-same : (m d n m' d' n' : ℕ) (v : is_network m d n ≡ true) (v' : is_network m' d' n' ≡ true) → m ≡ m' → d ≡ d' → n ≡ n' → named m d n v ≡ named m' d' n' v'
named-same m d n m' d' n' v v' p q r =
    subst (λ (k : ℕ). (w : is_network k d' n' ≡ true) → named m d n v ≡ named k d' n' w) p
    (subst (λ (k : ℕ). (w : is_network m k n' ≡ true) → named m d n v ≡ named m k n' w) q
    (subst (λ (k : ℕ). (w : is_network m d k ≡ true) → named m d n v ≡ named m d k w) r
    (λ w. ap (named m d n) (Bool-set _ _ v w)))) v'

network_same : (x y : Network) → same_network x y ≡ true → x ≡ y
network_same x y e =
    let a = and_parts (x.mcc == y.mcc) _ e in
    let b = and_parts (x.digits == y.digits) _ a.1 in
    named-same x.mcc x.digits x.mnc y.mcc y.digits y.mnc x.valid y.valid (eqb-true _ _ a.0) (eqb-true _ _ b.0) (eqb-true _ _ b.1)

pub network_itself : (x : Network) → same_network x x ≡ true
network_itself x =
    and_from _ _ (eq-eqb x.mcc _ refl) (and_from _ _ (eq-eqb x.digits _ refl) (eq-eqb x.mnc _ refl))

pair_same : (x y : Pair) → same_pair x y ≡ true → x ≡ y
pair_same x y e =
    let a = and_parts (x.identifier == y.identifier) _ e in
    ap (λ i. numbered i x.serial) (eqb-true _ _ a.0) ∙ ap (numbered y.identifier) (eqb-true _ _ a.1)

pair_itself : (x : Pair) → same_pair x x ≡ true
pair_itself x = and_from _ _ (eq-eqb x.identifier _ refl) (eq-eqb x.serial _ refl)

pub decides_pair : (x y : Pair) → Decides (same_pair x y) (x ≡ y)
decides_pair x y = (pair_same x y, λ e. subst (λ (z : Pair). same_pair x z ≡ true) e (pair_itself x))

pub decides_network_pair : (x y : NetworkPair) → Decides (same_network_pair x y) (x ≡ y)
decides_network_pair x y = (
  λ e. let a = and_parts (same_network x.network y.network) _ e in
      ap (λ n. paired n x.pair) (network_same x.network y.network a.0) ∙ ap (paired y.network) (pair_same x.pair y.pair a.1),
  λ e. subst (λ (z : NetworkPair). same_network_pair x z ≡ true) e (and_from _ _ (network_itself x.network) (pair_itself x.pair)),
)
