-- What a store holds after changes, one place after another.
use Rattle.std.proofs.Common.{◌≡◌, ℕ, ◌+◌, ◌<◌, ◌≤◌, Bool, true, false, cond, ◌&&◌, eqb, ltb, leb, is_some, is_ok, Some, None, Option, Result, sym, refl, ◌∙◌, ⊎_elim, arith}
use mathlib.Core.Path.{fun_ext}
use Rattle.std.proofs.lemmas.Bool.{cases_eq, cases_lt, eq-eqb, ne_eqb, lt-ltb, le-ltb, le-leb, lt-leb, true≢false, and_right}
use Rattle.std.proofs.lemmas.Bool.Decides.{nat_tests}
use Rattle.store.specs.declared.StoreFault.{StoreFault}
use Rattle.store.specs.Meaning.{Content, Held, Shape, Placed, replaced, without_slot, nothing}
use Rattle.store.specs.Outcomes.{drop_outcome}
use Rattle.store.specs.Numbers.{number_count}
use Rattle.store.specs.Trials.{Empty}

pub none_if : {X : Type 0} (o : Option X) → is_some o ≡ false → o ≡ None
none_if None e = refl
none_if (Some x) e = absurd (true≢false e)

-- nothing stands past the last slot or the last number
pub no_slot : (shape : Shape) (slot number : ℕ) (o : Option Content) → Placed shape slot number o → shape.slots ≤ slot → o ≡ None
no_slot shape slot number None p h = refl
no_slot shape slot number (Some seg) p h = absurd (omega (arith, p.0))

pub no_number : (shape : Shape) (slot number : ℕ) (o : Option Content) → Placed shape slot number o → number_count ≤ number → o ≡ None
no_number shape slot number None p h = refl
no_number shape slot number (Some seg) p h = absurd (omega (arith, p.1))

pub emptied : (h : Held) (slot : ℕ) → Empty h slot → without_slot h slot ≡ h
emptied h slot none = fun_ext (λ s. fun_ext (λ n. ⊎_elim
    (λ (e : s ≡ slot). let y : eqb slot slot ≡ true = eq-eqb slot slot refl in rw (e, y) (sym (none n)))
    (λ (ne : s ≡ slot → ⊥). let y : eqb s slot ≡ false = ne_eqb s slot ne in rw y)
    (cases_eq s slot)))

-- a trial in an empty slot, and then a drop of it
pub back : (shape : Shape) (h h₂ h₃ : Held) (slot : ℕ) (r : Result (Unit {0}) StoreFault) → Empty h slot → without_slot h₂ slot ≡ without_slot h slot → ((n : ℕ) → Placed shape slot n (h₂ slot n)) → r ≡ drop_outcome shape slot → h₃ ≡ cond (is_ok r) (without_slot h₂ slot) h₂ → h₃ ≡ h
back shape h h₂ h₃ slot r none rest placed answer after =
    ⊎_elim
    (λ (l : slot < shape.slots).
    let b : leb shape.slots slot ≡ false = lt-leb _ _ l in
    let a : h₃ ≡ without_slot h₂ slot = after ∙ rw (answer, b) in
    a ∙ rest ∙ emptied h slot none)
    (λ (l : shape.slots ≤ slot).
    let b : leb shape.slots slot ≡ true = le-leb _ _ l in
    let a : h₃ ≡ h₂ = after ∙ rw (answer, b) in
    a ∙ sym (emptied h₂ slot (λ n. no_slot shape slot n (h₂ slot n) (placed n) l)) ∙ rest ∙ emptied h slot none)
    (cases_lt slot shape.slots)

-- the numbers below n of a slot hold nothing any more
abbrev pub without_below : Held → ℕ → ℕ → Held
without_below h slot n s k = cond (eqb s slot && ltb k n) None (h s k)

pub below_none : (h : Held) (slot : ℕ) → h ≡ without_below h slot 0
below_none h slot = fun_ext (λ s. fun_ext (λ k.
    let no : (eqb s slot && ltb k 0) ≡ false = and_right (eqb s slot) (ltb k 0) (le-ltb k 0 (omega arith)) in rw no))

one_more : {X : Type 0} (s slot k n : ℕ) (x y : X) → cond (eqb s slot && eqb k n) x (cond (eqb s slot && ltb k n) x y) ≡ cond (eqb s slot && ltb k (n + 1)) x y
one_more s slot k n x y = grind (arith, nat_tests)

pub below_more : (h : Held) (slot n : ℕ) → replaced (without_below h slot n) slot n None ≡ without_below h slot (n + 1)
below_more h slot n = fun_ext (λ s. fun_ext (λ k. one_more s slot k n None (h s k)))

and_one : {X : Type 0} (b : Bool) (x y : X) → cond (b && true) x y ≡ cond b x y
and_one true x y = refl
and_one false x y = refl

cond_none : {X : Type 0} (b : Bool) → cond {A = Option X} b None None ≡ None
cond_none true = refl
cond_none false = refl

pub below_all : (shape : Shape) (h : Held) (slot : ℕ) → ((s n : ℕ) → Placed shape s n (h s n)) → without_below h slot number_count ≡ without_slot h slot
below_all shape h slot placed = fun_ext (λ s. fun_ext (λ k. ⊎_elim
    (λ (l : k < number_count). let a : ltb k number_count ≡ true = lt-ltb k number_count l in rw a (and_one (eqb s slot) None (h s k)))
    (λ (l : number_count ≤ k). let n : h s k ≡ None = no_number shape s k (h s k) (placed s k) l in rw n (cond_none (eqb s slot && ltb k number_count) ∙ sym (cond_none (eqb s slot))))
    (cases_lt k number_count)))

-- the slots below n hold nothing any more
abbrev pub without_slots : Held → ℕ → Held
without_slots h n s k = cond (ltb s n) None (h s k)

pub slots_none : (h : Held) → h ≡ without_slots h 0
slots_none h = fun_ext (λ s. fun_ext (λ k. let no : ltb s 0 ≡ false = le-ltb s 0 (omega arith) in rw no))

slot_more : {X : Type 0} (s n : ℕ) (x y : X) → cond (eqb s n) x (cond (ltb s n) x y) ≡ cond (ltb s (n + 1)) x y
slot_more s n x y = grind (arith, nat_tests)

pub slots_more : (h : Held) (n : ℕ) → without_slot (without_slots h n) n ≡ without_slots h (n + 1)
slots_more h n = fun_ext (λ s. fun_ext (λ k. slot_more s n None (h s k)))

pub slots_all : (shape : Shape) (h : Held) → ((s n : ℕ) → Placed shape s n (h s n)) → without_slots h shape.slots ≡ nothing
slots_all shape h placed = fun_ext (λ s. fun_ext (λ k. ⊎_elim
    (λ (l : s < shape.slots). let a : ltb s shape.slots ≡ true = lt-ltb _ _ l in rw a)
    (λ (l : shape.slots ≤ s). let n : h s k ≡ None = no_slot shape s k (h s k) (placed s k) l in rw n (cond_none (ltb s shape.slots)))
    (cases_lt s shape.slots)))

pub replaced-same : (h : Held) (slot number : ℕ) (o : Option Content) → h slot number ≡ o → h ≡ replaced h slot number o
replaced-same h slot number o e = fun_ext (λ s. fun_ext (λ n. ⊎_elim
    (λ (p : s ≡ slot). ⊎_elim
    (λ (q : n ≡ number).
    let a : eqb slot slot ≡ true = eq-eqb slot slot refl in
    let b : eqb number number ≡ true = eq-eqb number number refl in
    rw (p, q, a, b) e)
    (λ (q : n ≡ number → ⊥). let b : (eqb s slot && eqb n number) ≡ false = and_right (eqb s slot) (eqb n number) (ne_eqb n number q) in rw b)
    (cases_eq n number))
    (λ (p : s ≡ slot → ⊥). let a : eqb s slot ≡ false = ne_eqb s slot p in rw a)
    (cases_eq s slot)))
