-- What the judging of a place tells.
use Rattle.std.proofs.Common.{◌≡◌, ℕ, ◌<◌, ◌≤◌, Bool, true, false, cond, ltb, leb, is_some, Some, None, Ok, Err, Option, Result, refl, ap, ◌∙◌, ⊎_elim, arith}
use Rattle.std.proofs.lemmas.Bool.{cases_lt, le-leb, lt-leb, le-ltb, lt-ltb}
use Rattle.store.specs.declared.StoreFault.{StoreFault}
use Rattle.store.specs.declared.StoreFault.TheVariants.{NoSlot, NoNumber, Occupied, NoUnits}
use Rattle.store.specs.Meaning.{Shape, Held, Content, count, units_free}
use Rattle.store.specs.Outcomes.{at_place, not_too_long, where_held, judged_place, index, put_outcome, held_outcome, look_up, judged_memory}
use Rattle.store.specs.Numbers.{number_count, most_octets}

-- a place that there is, by its index
pub record There (slots slot number i : ℕ) : Type 0 where
  pub low : slot < slots
  pub few : number < number_count
  pub is : i ≡ index slot number

clash : {X : Type 0} (i : ℕ) (f : StoreFault) → Ok i ≡ Err f → X
clash i f e = let z : ◌≡◌ {A = ℕ} 0 1 = cc in absurd (omega arith)

pub there : (slots slot number i : ℕ) → Ok i ≡ judged_place slots slot number → There slots slot number i
there slots slot number i e =
    ⊎_elim
    (λ (l : slot < slots).
    let a : leb slots slot ≡ false = lt-leb _ _ l in
    let e₁ = rw a at e in
    ⊎_elim
    (λ (k : number < number_count).
    let b : leb number_count number ≡ false = lt-leb _ _ k in
    let e₂ : Ok i ≡ Ok (index slot number) = rw b at e₁ in
    record { low = l; few = k; is = cc })
    (λ (k : number_count ≤ number).
    let b : leb number_count number ≡ true = le-leb _ _ k in
    clash i (NoNumber number) (rw b at e₁))
    (cases_lt number number_count))
    (λ (l : slots ≤ slot).
    let a : leb slots slot ≡ true = le-leb _ _ l in
    clash i (NoSlot slot) (rw a at e))
    (cases_lt slot slots)

-- what a call answers at such a place
pub at_there : {X : Type 0} (shape : Shape) (slot number i : ℕ) (next : Result X StoreFault) → There shape.slots slot number i → next ≡ at_place shape slot number next
at_there shape slot number i next t =
    let a : leb shape.slots slot ≡ false = lt-leb _ _ t.low in
    let b : leb number_count number ≡ false = lt-leb _ _ t.few in
    rw (a, b)

-- the answers of a put at such a place
module _ (shape : Shape) (h : Held) (slot number i : ℕ) (seg : Content) (t : There shape.slots slot number i) (short : count seg ≤ most_octets) where
  shortly : {X : Type 0} (next : Result X StoreFault) → next ≡ at_place shape slot number (not_too_long (count seg) next)
  shortly next = let a : ltb most_octets (count seg) ≡ false = le-ltb _ _ short in rw a (at_there shape slot number i next t)

  pub put_occupied : is_some (h slot number) ≡ true → Err Occupied ≡ put_outcome shape h slot number seg
  put_occupied e = rw e (shortly (Err Occupied))

  pub put_full : is_some (h slot number) ≡ false → units_free shape h < shape.cost (count seg) → Err (NoUnits (shape.cost (count seg)) (units_free shape h)) ≡ put_outcome shape h slot number seg
  put_full e full = let a : ltb (units_free shape h) (shape.cost (count seg)) ≡ true = lt-ltb _ _ full in rw (e, a) (shortly (Err (NoUnits (shape.cost (count seg)) (units_free shape h))))

  pub put_done : is_some (h slot number) ≡ false → shape.cost (count seg) ≤ units_free shape h → Ok tt ≡ put_outcome shape h slot number seg
  put_done e room = let a : ltb (units_free shape h) (shape.cost (count seg)) ≡ false = le-ltb _ _ room in rw (e, a) (shortly (Ok tt))

-- the answers of the questions at such a place
module _ (shape : Shape) (h : Held) (slot number i : ℕ) (t : There shape.slots slot number i) where
  pub held_told : (b : Bool) → b ≡ is_some (h slot number) → Ok b ≡ held_outcome shape h slot number
  held_told b e = ap Ok e ∙ at_there shape slot number i (Ok (is_some (h slot number))) t

-- what a look-up finds is held
pub found : (shape : Shape) (h : Held) (slot number : ℕ) (seg : Content) → Ok seg ≡ look_up shape h slot number → h slot number ≡ Some seg
found shape h slot number seg e = at (leb shape.slots slot) (leb number_count number) (NoSlot slot) (NoNumber number) (h slot number) e
  where
    at : (a b : Bool) (d f : StoreFault) (o : Option Content) → Ok seg ≡ cond a (Err d) (cond b (Err f) (where_held o Ok)) → o ≡ Some seg
    at true b d f o e = let y : ◌≡◌ {A = ℕ} 0 1 = cc in absurd (omega arith)
    at false true d f o e = let y : ◌≡◌ {A = ℕ} 0 1 = cc in absurd (omega arith)
    at false false d f None e = let y : ◌≡◌ {A = ℕ} 0 1 = cc in absurd (omega arith)
    at false false d f (Some c) e = cc

-- a memory that is not refused is long enough
pub roomy : (n octets : ℕ) (u : Unit {0}) → Ok u ≡ judged_memory n octets → octets ≤ n
roomy n octets u e =
    ⊎_elim
    (λ (l : n < octets).
    let a : ltb n octets ≡ true = lt-ltb _ _ l in
    let f = rw a at e in
    let y : ◌≡◌ {A = ℕ} 0 1 = cc in absurd (omega arith))
    (λ (l : octets ≤ n). l)
    (cases_lt n octets)

-- a check that refuses in one case, and what its answer tells
abbrev pub refused_where : Bool → StoreFault → Result (Unit {0}) StoreFault
refused_where b e = cond b (Err e) (Ok tt)

pub refused_if : (b : Bool) (e f : StoreFault) → Err f ≡ refused_where b e → (b ≡ true) × (f ≡ e)
refused_if true e f z = (refl, cc)
refused_if false e f z = let y : ◌≡◌ {A = ℕ} 0 1 = cc in absurd (omega arith)

pub passed_if : (b : Bool) (e : StoreFault) (u : Unit {0}) → Ok u ≡ refused_where b e → b ≡ false
passed_if true e u z = let y : ◌≡◌ {A = ℕ} 0 1 = cc in absurd (omega arith)
passed_if false e u z = refl
