-- What the berths hold, after a berth or a slot of them is written.
use Rattle.std.proofs.Common.{◌≡◌, ℕ, ◌+◌, ◌-◌, ◌*◌, ◌<◌, ◌≤◌, Bool, true, false, cond, ◌&&◌, List, length, drop, get_or, set, replicate, eqb, None, Ok, Option, sym, refl, ap, ◌∙◌, ⊎_elim, arith, rules}
use Rattle.std.proofs.Math.Path.{fun_ext}
use Rattle.std.proofs.lemmas.List.{get_or_read, get_or-set_same, get_or-set_other, get_or-replicate, length-drop, length-take-le, places}
use Rattle.std.proofs.lemmas.Bool.{cases_eq, cases_lt, eq-eqb, ne_eqb, and_left, and_right}
use borrow.Rule.Slice.PartMut.{mid_of, put_mid}
use Rattle.store.specs.Meaning.{Content, Held, nothing, replaced, without_slot}
use Rattle.store.specs.Numbers.{number_count}
use Rattle.store.specs.Outcomes.{index, judged_place, at_place}
use Rattle.store.proofs.Places.{There, there, at_there}
use Rattle.berths.specs.declared.berth.Berth.{Berth}
use Rattle.berths.specs.Numbers.{slot_count, berth_count, berths_shape}
use Rattle.berths.specs.Berthed.{empty, berth, lies, held_in}
use Rattle.berths.specs.Laws.{past, beyond, held_at}

-- a berth that is read has what is held at its place
pub read_at : (bs : List Berth) (slot n i : ℕ) (b : Berth) → length bs ≡ berth_count → There slot_count slot n i → b ≡ get_or bs i b → lies (get_or bs i b) ≡ held_in bs slot n
read_at bs slot n i b all t is = ap lies (sym is ∙ get_or_read bs i b (omega (arith, t.low, t.few, t.is)) is empty) ∙ sym (held_at bs slot n i t)

pub found_at : (bs : List Berth) (slot n i : ℕ) (b : Berth) (o : Option Content) → length bs ≡ berth_count → Ok i ≡ judged_place slot_count slot n → b ≡ get_or bs i b → o ≡ lies (get_or bs i b) → Ok o ≡ at_place berths_shape slot n (Ok (held_in bs slot n))
found_at bs slot n i b o all p is e =
    let t = there slot_count slot n i p in
    ap Ok (e ∙ read_at bs slot n i b all t is) ∙ at_there berths_shape slot n i (Ok (held_in bs slot n)) t

-- what is held, place by place
held_is : (bs : List Berth) (h : Held) → ((s k : ℕ) → slot_count ≤ s → h s k ≡ None) → ((s k : ℕ) → number_count ≤ k → h s k ≡ None) → ((s k : ℕ) → s < slot_count → k < number_count → lies (berth bs (index s k)) ≡ h s k) → held_in bs ≡ h
held_is bs h no_slot no_number each = fun_ext (λ s. fun_ext (λ k. ⊎_elim
    (λ (p : s < slot_count). ⊎_elim
    (λ (q : k < number_count). held_at bs s k (index s k) (record { low = p; few = q; is = refl }) ∙ each s k p q)
    (λ (q : number_count ≤ k). past bs s k q ∙ sym (no_number s k q))
    (cases_lt k number_count))
    (λ (p : slot_count ≤ s). beyond bs s k p ∙ sym (no_slot s k p))
    (cases_lt s slot_count)))

pub held_none : (b : Berth) → lies b ≡ None → held_in (replicate berth_count b) ≡ nothing
held_none b e = held_is (replicate berth_count b) nothing (λ s k p. refl) (λ s k q. refl) (λ s k p q. ap lies (get_or-replicate berth_count (index s k) b empty (omega arith)) ∙ e)

none_in : {X : Type 0} (b : Bool) (o : Option X) → o ≡ None → cond b None o ≡ None
none_in true o e = refl
none_in false o e = e

not_both : (s slot k n : ℕ) → (s ≡ slot → k ≡ n → ⊥) → (eqb s slot && eqb k n) ≡ false
not_both s slot k n differ =
    ⊎_elim
    (λ (p : s ≡ slot). and_right (eqb s slot) (eqb k n) (ne_eqb k n (differ p)))
    (λ (p : s ≡ slot → ⊥). and_left (eqb s slot) (eqb k n) (ne_eqb s slot p))
    (cases_eq s slot)

-- one berth is written
pub held_set : (bs : List Berth) (slot n i : ℕ) (b : Berth) → length bs ≡ berth_count → There slot_count slot n i → held_in (set bs i b) ≡ replaced (held_in bs) slot n (lies b)
held_set bs slot n i b all t =
    held_is (set bs i b) (replaced (held_in bs) slot n (lies b))
    (λ s k p. let no = not_both s slot k n (λ x y. omega (arith, t.low)) in rw no (beyond bs s k p))
    (λ s k q. let no = not_both s slot k n (λ x y. omega (arith, t.few)) in rw no (past bs s k q))
    (λ s k p q. ⊎_elim
    (λ (y : index s k ≡ i).
    let x : s ≡ slot = omega (arith, t.few, t.is) in
    let z : k ≡ n = omega (arith, t.few, t.is) in
    let u : eqb slot slot ≡ true = eq-eqb slot slot refl in
    let v : eqb n n ≡ true = eq-eqb n n refl in
    rw (x, z, u, v) (ap (λ j. lies (berth (set bs i b) j)) (sym t.is) ∙ ap lies (get_or-set_same bs i b empty (omega (arith, t.low, t.few, t.is)))))
    (λ (y : index s k ≡ i → ⊥).
    let no = not_both s slot k n (λ x z. y (omega (arith, t.is))) in
    rw no (ap lies (get_or-set_other bs i (index s k) b empty y) ∙ sym (held_at bs s k (index s k) (record { low = p; few = q; is = refl }))))
    (cases_eq (index s k) i))

length_mid : (a k : ℕ) (xs : List Berth) → a + k ≤ length xs → length (mid_of a k xs) ≡ k
length_mid a k xs h = let d = length-drop a xs in length-take-le k (drop a xs) (omega arith)

-- an element of a list whose part was written
module _ (a k : ℕ) (xs ys : List Berth) (i : ℕ) (d : Berth) (fits : a + k ≤ length xs) (same : length ys ≡ k) where
  mid_below : i < a → get_or (put_mid a k xs ys) i d ≡ get_or xs i d
  mid_below h = search (rules, places)

  mid_in : a ≤ i → i < a + k → get_or (put_mid a k xs ys) i d ≡ get_or ys (i - a) d
  mid_in l h = search (rules, places)

  mid_past : a + k ≤ i → get_or (put_mid a k xs ys) i d ≡ get_or xs i d
  mid_past h = search (rules, places)

-- the berths of a slot are vacant now
pub held_cleared : (bs ys : List Berth) (slot m n : ℕ) → length bs ≡ berth_count → slot < slot_count → m ≡ number_count → length ys ≡ length (mid_of (slot * 64) m bs) → length (mid_of (slot * 64) m bs) ≤ n → ((j : ℕ) → j < n → lies (berth ys j) ≡ None) → held_in (put_mid (slot * 64) m bs ys) ≡ without_slot (held_in bs) slot
held_cleared bs ys slot m n all low e same done vacant =
    let fits : slot * 64 + m ≤ length bs = omega arith in
    let part = length_mid (slot * 64) m bs fits in
    let long : length ys ≡ m = same ∙ part in
    held_is (put_mid (slot * 64) m bs ys) (without_slot (held_in bs) slot)
    (λ s k p. none_in (eqb s slot) (held_in bs s k) (beyond bs s k p))
    (λ s k q. none_in (eqb s slot) (held_in bs s k) (past bs s k q))
    (λ s k p q.
    let at = held_at bs s k (index s k) (record { low = p; few = q; is = refl }) in
    ⊎_elim
    (λ (y : s ≡ slot).
    let t : eqb s slot ≡ true = eq-eqb s slot y in
    rw t (ap lies (mid_in (slot * 64) m bs ys (index s k) empty fits long (omega arith) (omega arith)) ∙ vacant (index s k - slot * 64) (omega arith)))
    (λ (y : s ≡ slot → ⊥).
    let f = ne_eqb s slot y in
    rw f (⊎_elim
    (λ (h : s < slot). ap lies (mid_below (slot * 64) m bs ys (index s k) empty fits long (omega arith)) ∙ sym at)
    (λ (h : slot ≤ s). ap lies (mid_past (slot * 64) m bs ys (index s k) empty fits long (omega arith)) ∙ sym at)
    (cases_lt s slot)))
    (cases_eq s slot))
