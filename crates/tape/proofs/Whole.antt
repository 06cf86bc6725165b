-- Reading a whole tape: both round trips.
use Rattle.std.proofs.Common.{◌≡◌, ℕ, zero, suc, ◌+◌, ◌<◌, ◌≤◌, Bool, true, false, cond, eqb, ◌⊎◌, List, [], ◌∷◌, ◌++◌, length, Ok, Err, Result, sym, refl, ap, ◌∙◌, inl, inr, ⊎_elim, arith}
use Rattle.std.proofs.lemmas.List.{append_assoc, append-nil, length-append, nil_from_length}
use Rattle.std.proofs.lemmas.Bool.{eq-eqb, ne_eqb, and_parts, eqb-true}
use Rattle.warning.specs.declared.Warning.TheVariants.{Primary, Message}
use Rattle.warning.specs.Notice.{Notice, outline}
use Rattle.warning.specs.Rules.{is_warning}
use Rattle.tape.specs.declared.fault.TapeFault.{TapeFault}
use Rattle.tape.specs.Format.{encode, encode_all}
use Rattle.tape.specs.Reading.{Place, place, Read, entry, prepended, followed, entries, read_tape}
use Rattle.tape.specs.Promises.{all_warnings, ReadsWhatWasWritten, WritesWhatWasRead}
use Rattle.tape.proofs.Takes.{Took}
use Rattle.tape.proofs.Entries.{entry_ok, entry_at}

-- no warning takes no octets
pub some_octets : (w : Notice) → 0 < length (encode w)
some_octets (Primary pair warning-type security) = omega arith
some_octets (Message block pair coding octets area) = omega arith

-- what was taken is missing from the rest
left_less : (n : ℕ) (w : Notice) (p q : Place) → length p.rest ≤ suc n → Took (encode w) p q → length q.rest ≤ n
left_less n w p q h t =
    let e = ap length t.cut ∙ length-append (encode w) q.rest in
    let s = some_octets w in
    omega arith

followed_same : (r : Read Notice) (f g : Place → Result (List Notice) TapeFault) → ((w : Notice) (q : Place) → r ≡ Ok (w, q) → f q ≡ g q) → followed r f ≡ followed r g
followed_same (Ok r) f g h = ap (prepended r.0) (h r.0 r.1 refl)
followed_same (Err e) f g h = refl

-- more turns than octets change nothing
pub entries_enough : (n m : ℕ) (p : Place) → length p.rest ≤ n → length p.rest ≤ m → entries n p ≡ entries m p
entries_enough zero zero p h k = refl
entries_enough zero (suc m) p h k = let none : eqb (length p.rest) 0 ≡ true = eq-eqb _ _ (omega arith) in rw none
entries_enough (suc n) zero p h k = let none : eqb (length p.rest) 0 ≡ true = eq-eqb _ _ (omega arith) in rw none
entries_enough (suc n) (suc m) p h k =
    ap (cond (eqb (length p.rest) 0) (Ok []))
    (followed_same (entry p) (entries n) (entries m) (λ w q e. let t = (entry_ok p w q e).1 in entries_enough n m q (left_less n w p q h t) (left_less m w p q k t)))

-- the warnings from a place on
abbrev pub all_read : Place → Result (List Notice) TapeFault
all_read p = entries (length p.rest) p

pub all_read_step : (p : Place) → 0 < length p.rest → all_read p ≡ followed (entry p) all_read
all_read_step p h =
    let n = length p.rest in
    let some : eqb (length p.rest) 0 ≡ false = ne_eqb _ _ (λ e. omega arith) in
    let more : all_read p ≡ entries (suc n) p = entries_enough n (suc n) p (omega arith) (omega arith) in
    let first : entries (suc n) p ≡ followed (entry p) (entries n) = rw some in
    more ∙ first ∙ followed_same (entry p) (entries n) all_read (λ w q e.
    let t = (entry_ok p w q e).1 in
    let l = left_less n w p q (omega arith) t in
    entries_enough n (length q.rest) q l (omega arith))

abbrev pub prepended_all : List Notice → Result (List Notice) TapeFault → Result (List Notice) TapeFault
prepended_all [] r = r
prepended_all (w ∷ ws) r = prepended w (prepended_all ws r)

pub prepended_ok : (ws vs : List Notice) → prepended_all ws (Ok vs) ≡ Ok (ws ++ vs)
prepended_ok [] vs = refl
prepended_ok (w ∷ ws) vs = ap (prepended w) (prepended_ok ws vs)

pub prepended_err : (ws : List Notice) (f : TapeFault) → prepended_all ws (Err f) ≡ Err f
prepended_err [] f = refl
prepended_err (w ∷ ws) f = ap (prepended w) (prepended_err ws f)

-- warnings that stand on tape are read one after another
pub all_read_at : (at : ℕ) (ws : List Notice) (rest : List ℕ) → all_warnings ws ≡ true → all_read (place at (encode_all ws ++ rest)) ≡ prepended_all ws (all_read (place (at + length (encode_all ws)) rest))
all_read_at at [] rest h = let e : at ≡ at + 0 = omega arith in ap (λ z. all_read (place z rest)) e
all_read_at at (w ∷ ws) rest h =
    let both = and_parts (is_warning (outline w)) (all_warnings ws) h in
    let more = encode_all ws ++ rest in
    let s = some_octets w in
    let long = length-append (encode w) (encode_all ws ++ rest) in
    let moved : at + length (encode w) + length (encode_all ws) ≡ at + length (encode w ++ encode_all ws) = rw length-append (omega arith) in
    ap (λ z. all_read (place at z)) (append_assoc (encode w) (encode_all ws) rest)
    ∙ all_read_step (place at (encode w ++ more)) (omega arith)
    ∙ ap (λ z. followed z all_read) (entry_at at w more both.0)
    ∙ ap (prepended w) (all_read_at (at + length (encode w)) ws rest both.1)
    ∙ ap (λ z. prepended w (prepended_all ws (all_read (place z rest)))) moved

pub reads_back : ReadsWhatWasWritten
unfolding read_tape
reads_back ws h =
    ap (λ z. all_read (place 0 z)) (sym (append-nil (encode_all ws)))
    ∙ all_read_at 0 ws [] h
    ∙ prepended_ok ws []
    ∙ ap Ok (append-nil ws)

prepended_parts : (w : Notice) (r : Result (List Notice) TapeFault) (ws : List Notice) → prepended w r ≡ Ok ws → (vs : List Notice) × (r ≡ Ok vs) × (w ∷ vs ≡ ws)
prepended_parts w (Ok vs) ws e = (vs, refl, cc)
prepended_parts w (Err f) ws e = let z : ◌≡◌ {A = ℕ} 0 1 = cc in absurd (omega arith)

followed_parts : (r : Read Notice) (f : Place → Result (List Notice) TapeFault) (ws : List Notice) → followed r f ≡ Ok ws → (w : Notice) × (q : Place) × (vs : List Notice) × (r ≡ Ok (w, q)) × (f q ≡ Ok vs) × (w ∷ vs ≡ ws)
followed_parts (Ok r) f ws e = let s = prepended_parts r.0 (f r.1) ws e in (r.0, r.1, s.0, refl, s.1, s.2)
followed_parts (Err g) f ws e = let z : ◌≡◌ {A = ℕ} 0 1 = cc in absurd (omega arith)

cond_parts : {X : Type 0} (b : Bool) (x y z : X) → cond b x y ≡ z → ((b ≡ true) × (x ≡ z)) ⊎ ((b ≡ false) × (y ≡ z))
cond_parts true x y z e = inl (refl, e)
cond_parts false x y z e = inr (refl, e)

abbrev Written : List Notice → List ℕ → Type 0
Written ws tape = (all_warnings ws ≡ true) × (encode_all ws ≡ tape)

none_written : (ws : List Notice) (tape : List ℕ) → length tape ≡ 0 → ◌≡◌ {A = Result (List Notice) TapeFault} (Ok []) (Ok ws) → Written ws tape
none_written ws tape h e =
    let none : [] ≡ ws = cc in
    let nil = nil_from_length tape h in
    (ap all_warnings (sym none), ap encode_all (sym none) ∙ sym nil)

more-written : (w : Notice) (vs ws : List Notice) (p q : Place) → (is_warning (outline w) ≡ true) × Took (encode w) p q → Written vs q.rest → w ∷ vs ≡ ws → Written ws p.rest
more-written w vs ws p q a b e =
    let all : all_warnings (w ∷ vs) ≡ true = rw (a.0, b.0) in
    (ap all_warnings (sym e) ∙ all, ap encode_all (sym e) ∙ ap (λ z. encode w ++ z) b.1 ∙ sym a.1.cut)

written_by : (n : ℕ) (p : Place) (ws : List Notice) → length p.rest ≤ n → entries n p ≡ Ok ws → Written ws p.rest
written_by zero p ws h e = none_written ws p.rest (omega arith) e
written_by (suc n) p ws h e =
    ⊎_elim
    (λ k. none_written ws p.rest (eqb-true _ _ k.0) k.1)
    (λ k.
    let s = followed_parts (entry p) (entries n) ws k.1 in
    let o = entry_ok p s.0 s.1 s.3 in
    more-written s.0 s.2 ws p s.1 o (written_by n s.1 s.2 (left_less n s.0 p s.1 h o.1) s.4) s.5)
    (cond_parts (eqb (length p.rest) 0) (Ok []) (followed (entry p) (entries n)) (Ok ws) e)

pub writes_back : WritesWhatWasRead
unfolding read_tape
writes_back tape ws e = written_by (length tape) (place 0 tape) ws (omega arith) e
