-- Five primaries of one network, step by step.
use Rattle.std.proofs.Common.{◌≡◌, ℕ, Bool, true, false, List, [], ◌∷◌, Decides, sym, refl, ap, ◌∙◌, ⊎_elim}
use Rattle.std.proofs.lemmas.Bool.{cases_Bool}
use Rattle.warning.specs.declared.Pair.{Pair}
use Rattle.warning.specs.declared.network.Network.{Network}
use Rattle.keys.specs.declared.Entry.{Entry}
use Rattle.keys.specs.declared.kinds.NetworkPair.{NetworkPair}
use Rattle.keys.specs.declared.memory.Memory.{Memory}
use Rattle.keys.specs.declared.memory.Memory.TheVariants.{Known, New}
use Rattle.keys.specs.Entries.{entry}
use Rattle.keys.specs.Kinds.{same_network_pair, of_one_network}
use Rattle.keys.specs.Memory.{memory_of, remembered}
use Rattle.keys.specs.Agree.{decides_network_pair, network_itself}
use Rattle.instances.specs.Primaries.{answers, primary_of, FivePrimaries}

-- one answer more
pub answers_step : (clock : ℕ) (key : NetworkPair) (keys : List NetworkPair) (held next : List (Entry NetworkPair)) (r : Memory) (rs : List Memory) → r ≡ memory_of same_network_pair key held → next ≡ remembered same_network_pair of_one_network 2 12 (entry key clock) held → rs ≡ answers clock keys next → r ∷ rs ≡ answers clock (key ∷ keys) held
answers_step clock key keys held next r rs a b e =
    ap (λ m. m ∷ rs) a ∙ ap (λ ms. memory_of same_network_pair key held ∷ ms) (e ∙ ap (answers clock keys) b)

module _ {K : Type 0} (same grouped : K → K → Bool) (clock : ℕ) (x y z : K)
    (xx : same x x ≡ true) (yx : same y x ≡ false) (zy : same z y ≡ false) (zx : same z x ≡ false) (yz : same y z ≡ false)
    (gyx : grouped y x ≡ true) (gzy : grouped z y ≡ true) (gzx : grouped z x ≡ true) where
  pub second : memory_of same y (entry x clock ∷ []) ≡ New
  second = simp yx refl

  pub second_list : remembered same grouped 2 12 (entry y clock) (entry x clock ∷ []) ≡ entry x clock ∷ entry y clock ∷ []
  second_list = simp (yx, gyx) refl

  pub third : memory_of same x (entry x clock ∷ entry y clock ∷ []) ≡ Known
  third = simp xx refl

  pub third_list : remembered same grouped 2 12 (entry x clock) (entry x clock ∷ entry y clock ∷ []) ≡ entry y clock ∷ entry x clock ∷ []
  third_list = simp xx refl

  pub fourth : memory_of same z (entry y clock ∷ entry x clock ∷ []) ≡ New
  fourth = simp (zy, zx) refl

  pub fourth_list : remembered same grouped 2 12 (entry z clock) (entry y clock ∷ entry x clock ∷ []) ≡ entry x clock ∷ entry z clock ∷ []
  fourth_list = simp (zy, zx, gzy, gzx) refl

  pub fifth : memory_of same y (entry x clock ∷ entry z clock ∷ []) ≡ New
  fifth = simp (yx, yz) refl

refuted : {P : Type 0} (b : Bool) → Decides b P → (P → ⊥) → b ≡ false
refuted b d n = ⊎_elim (λ t. absurd (n (d.0 t))) (λ f. f) (cases_Bool b)

other : (network : Network) (x y : Pair) → (x ≡ y → ⊥) → same_network_pair (primary_of network x) (primary_of network y) ≡ false
other network x y n =
    refuted (same_network_pair (primary_of network x) (primary_of network y)) (decides_network_pair (primary_of network x) (primary_of network y)) (λ e. n (ap (λ k. k.pair) e))

pub five : FivePrimaries
five network x y z clock x≢y x≢z y≢z =
    let a = primary_of network x in
    let b = primary_of network y in
    let d = primary_of network z in
    let aa = (decides_network_pair a a).1 refl in
    let ba = other network y x (λ e. x≢y (sym e)) in
    let db = other network z y (λ e. y≢z (sym e)) in
    let da = other network z x (λ e. x≢z (sym e)) in
    let bd = other network y z y≢z in
    let own = network_itself network in
    let same = same_network_pair in
    let group = of_one_network in
    sym (answers_step clock a (b ∷ a ∷ d ∷ b ∷ []) [] (entry a clock ∷ []) New _ refl refl
    (answers_step clock b (a ∷ d ∷ b ∷ []) (entry a clock ∷ []) (entry a clock ∷ entry b clock ∷ []) New _ (sym (second same group clock a b d aa ba db da bd own own own)) (sym (second_list same group clock a b d aa ba db da bd own own own))
    (answers_step clock a (d ∷ b ∷ []) (entry a clock ∷ entry b clock ∷ []) (entry b clock ∷ entry a clock ∷ []) Known _ (sym (third same group clock a b d aa ba db da bd own own own)) (sym (third_list same group clock a b d aa ba db da bd own own own))
    (answers_step clock d (b ∷ []) (entry b clock ∷ entry a clock ∷ []) (entry a clock ∷ entry d clock ∷ []) New _ (sym (fourth same group clock a b d aa ba db da bd own own own)) (sym (fourth_list same group clock a b d aa ba db da bd own own own))
    (answers_step clock b [] (entry a clock ∷ entry d clock ∷ []) _ New [] (sym (fifth same group clock a b d aa ba db da bd own own own)) refl refl)))))
