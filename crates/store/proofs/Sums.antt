-- The units held, as segments come and go.
use Rattle.std.proofs.Common.{◌≡◌, ℕ, zero, suc, ◌+◌, ◌*◌, ◌<◌, ◌≤◌, true, eqb, List, length, get_or, set, Option, sym, refl, ap, ◌∙◌, ⊎_elim, suc-mul, arith}
use Rattle.std.proofs.lemmas.List.{get_or-set_same, get_or-set_other, length-set}
use Rattle.std.proofs.lemmas.Bool.{cases_eq, eq-eqb, ne_eqb}
use Rattle.store.specs.Meaning.{Content, Held, Shape, paid, sum_below, slot_units, units, replaced, nothing, Counted}
use Rattle.store.specs.Numbers.{number_count}

pub sum_same : (f g : ℕ → ℕ) (n : ℕ) → ((k : ℕ) → k < n → g k ≡ f k) → sum_below g n ≡ sum_below f n
unfolding sum_below
sum_same f g zero same = refl
sum_same f g (suc n) same =
    let a = sum_same f g n (λ k h. same k (omega arith)) in
    let b = same n (omega arith) in
    rw (a, b)

pub sum_none : (n : ℕ) → sum_below (λ _. 0) n ≡ 0
unfolding sum_below
sum_none zero = refl
sum_none (suc n) = omega (arith, sum_none n)

-- a term is at most the sum
pub term_below : (f : ℕ → ℕ) (n i : ℕ) → i < n → f i ≤ sum_below f n
unfolding sum_below
term_below f zero i h = absurd (omega arith)
term_below f (suc n) i h =
    ⊎_elim
    (λ (e : i ≡ n). rw e (omega arith))
    (λ (ne : i ≡ n → ⊥). let t = term_below f n i (omega arith) in omega arith)
    (cases_eq i n)

-- a sum of terms that are at most m
pub sum_most : (f : ℕ → ℕ) (m n : ℕ) → ((k : ℕ) → f k ≤ m) → sum_below f n ≤ n * m
unfolding sum_below
sum_most f m zero each = omega arith
sum_most f m (suc n) each =
    let t = sum_most f m n each in
    let s = suc-mul n m in
    omega (arith, each n)

-- where one term changes
pub sum_change : (f g : ℕ → ℕ) (n i : ℕ) → i < n → ((k : ℕ) → k < n → (k ≡ i → ⊥) → g k ≡ f k) → sum_below g n + f i ≡ sum_below f n + g i
unfolding sum_below
sum_change f g zero i h same = absurd (omega arith)
sum_change f g (suc n) i h same =
    ⊎_elim
    (λ (e : i ≡ n).
    let a : sum_below g n ≡ sum_below f n = sum_same f g n (λ k l. same k (omega arith) (λ q. omega arith)) in
    rw e (omega arith))
    (λ (ne : i ≡ n → ⊥).
    let a : sum_below g n + f i ≡ sum_below f n + g i = sum_change f g n i (omega arith) (λ k l d. same k (omega arith) d) in
    let b : g n ≡ f n = same n (omega arith) (λ q. ne (sym q)) in
    omega arith)
    (cases_eq i n)

-- one place holds something else
module _ (cost : ℕ → ℕ) (h : Held) (slot number : ℕ) (new : Option Content) where
  pub here_replaced : replaced h slot number new slot number ≡ new
  here_replaced =
      let a : eqb slot slot ≡ true = eq-eqb slot slot refl in
      let b : eqb number number ≡ true = eq-eqb number number refl in
      rw (a, b)

  pub slot_replaced : number < number_count → slot_units cost (replaced h slot number new) slot + paid cost (h slot number) ≡ slot_units cost h slot + paid cost new
  slot_replaced low =
      let self : eqb slot slot ≡ true = eq-eqb slot slot refl in
      let t = sum_change (λ n. paid cost (h slot n)) (λ n. paid cost (replaced h slot number new slot n)) number_count number low (λ k l d. let ne = ne_eqb k number d in rw (self, ne)) in
      t ∙ ap (λ o. slot_units cost h slot + paid cost o) here_replaced

  pub other_replaced : (s : ℕ) → (s ≡ slot → ⊥) → slot_units cost (replaced h slot number new) s ≡ slot_units cost h s
  other_replaced s d = let ne = ne_eqb s slot d in sum_same (λ n. paid cost (h s n)) (λ n. paid cost (replaced h slot number new s n)) number_count (λ n m. rw ne)

pub units-replaced : (shape : Shape) (h : Held) (slot number : ℕ) (new : Option Content) → slot < shape.slots → number < number_count → units shape (replaced h slot number new) + paid shape.cost (h slot number) ≡ units shape h + paid shape.cost new
units-replaced shape h slot number new within few =
    let cost = shape.cost in
    let h' = replaced h slot number new in
    let row = slot_replaced cost h slot number new few in
    let all : units shape h' + slot_units cost h slot ≡ units shape h + slot_units cost h' slot
    = sum_change (slot_units cost h) (slot_units cost h') shape.slots slot within (λ k l d. other_replaced cost h slot number new k d) in
    omega arith

pub slot_nothing : (cost : ℕ → ℕ) (slot : ℕ) → slot_units cost nothing slot ≡ 0
slot_nothing cost slot = sum_none number_count

pub units-nothing : (shape : Shape) → units shape nothing ≡ 0
units-nothing shape = sum_same (λ _. 0) (slot_units shape.cost nothing) shape.slots (λ s _. slot_nothing shape.cost s) ∙ sum_none shape.slots

-- counts stay right where one place changes
pub counted_replaced : (cost : ℕ → ℕ) (h : Held) (slot number : ℕ) (new : Option Content) (used : List ℕ) (n : ℕ) → slot < length used → number < number_count → Counted cost h used → n + paid cost (h slot number) ≡ get_or used slot 0 + paid cost new → Counted cost (replaced h slot number new) (set used slot n)
counted_replaced cost h slot number new used n low few c e s within =
    ⊎_elim
    (λ (q : s ≡ slot).
    let a = c slot low in
    let b = slot_replaced cost h slot number new few in
    let here : get_or (set used slot n) slot 0 ≡ n = get_or-set_same used slot n 0 low in
    rw q (here ∙ omega arith))
    (λ (q : s ≡ slot → ⊥).
    let inside : s < length used = rw length-set at within in
    get_or-set_other used slot s n 0 q ∙ c s inside ∙ sym (other_replaced cost h slot number new s q))
    (cases_eq s slot)

-- a unit of a slot is at most one of all
pub slot_below : (shape : Shape) (h : Held) (slot : ℕ) → slot < shape.slots → slot_units shape.cost h slot ≤ units shape h
slot_below shape h slot low = term_below (slot_units shape.cost h) shape.slots slot low

pub paid_below : (cost : ℕ → ℕ) (h : Held) (slot number : ℕ) → number < number_count → paid cost (h slot number) ≤ slot_units cost h slot
paid_below cost h slot number few = term_below (λ n. paid cost (h slot n)) number_count number few

pub counted_held : (cost : ℕ → ℕ) (used : List ℕ) (h h' : Held) → h ≡ h' → Counted cost h' used → Counted cost h used
counted_held cost used h h' e c slot low = c slot low ∙ ap (λ z. slot_units cost z slot) (sym e)
