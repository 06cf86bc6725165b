-- What a head, a body and a whole warning give, by what their parts gave, and the other way round.
use Rattle.std.proofs.Common.{◌≡◌, ℕ, ◌+◌, List, ◌++◌, length, take, drop, Some, None, Ok, Err, Option, Result, unwrap_or, sym, refl, ap, ◌∙◌, subst, arith}
use Rattle.std.proofs.lemmas.List.{nil_from_length, append-nil, drop_all}
use Rattle.octets.specs.Octets.{written}
use Rattle.std.specs.Option.{option_map}
use Rattle.warning.specs.declared.Pair.{Pair}
use Rattle.warning.specs.declared.Warning.{Warning}
use Rattle.warning.specs.declared.Warning.TheVariants.{Primary, Message}
use Rattle.warning.specs.Contents.{octets, part_octets}
use Rattle.warning.specs.Notice.{Notice, outline}
use Rattle.tape.specs.declared.fault.TapeFault.{TapeFault}
use Rattle.tape.specs.declared.fault.Failure.{Failure}
use Rattle.tape.specs.declared.fault.Failure.TheVariants.{Fault, Memory}
use Rattle.tape.specs.Cursors.{Agrees}
use Rattle.tape.specs.Heads.{head, body, Passed}
use Rattle.tape.specs.Reading.{Place, Read, operand, all_zero, part, entry}
use Rattle.tape.proofs.Takes.{then_elim, then_is}
use Rattle.tape.proofs.Splits.{then_err}
use Rattle.tape.proofs.Entries.{part_ok}
use Rattle.tape.proofs.Outlines.{head_right}
use Rattle.tape.proofs.Bodies.{entry_split, body_outline}

-- what is read is not refused
pub clash : {X : Type 0} {C : Type 0} (x : X) (f : TapeFault) → ◌≡◌ {A = Result X TapeFault} (Ok x) (Err f) → C
clash x f e = let z : ◌≡◌ {A = ℕ} 0 1 = cc in absurd (omega arith)

pub head_refused : (p : Place) (f : TapeFault) → head p ≡ Err f → entry p ≡ Err f
head_refused p f e = entry_split p ∙ then_err (head p) body f e

pub head_read : (p r : Place) (o : (Warning ℕ)) → head p ≡ Ok (o, r) → entry p ≡ body o r
head_read p r o e = entry_split p ∙ then_is (head p) body o r e

-- a warning that is read has its outline in its head
pub head_of : (p : Place) (w : Notice) (q : Place) → entry p ≡ Ok (w, q) → (r : Place) × (head p ≡ Ok (outline w, r))
head_of p w q e =
    then_elim (head p) body w q (sym (entry_split p) ∙ e) (λ o r e₁ k.
    let same = body_outline o r w q (head_right p o r e₁) k in
    (r, e₁ ∙ ap (λ z. Ok (z, r)) (sym same)))

-- the operand of security information
abbrev pub security_read : Option ℕ → Place → Read (List ℕ)
security_read security p = operand 50 (λ xs. all_zero (drop (unwrap_or security 0) xs)) p

module _ (pair : Pair) (t : ℕ) (security : Option ℕ) (p : Place) where
  pub primary_refused : (f : TapeFault) → security_read security p ≡ Err f → body (Primary pair t security) p ≡ Err f
  unfolding body
  primary_refused f e = then_err (security_read security p) _ f e

  pub primary_read : (xs : List ℕ) (q : Place) → security_read security p ≡ Ok (xs, q) → body (Primary pair t security) p ≡ Ok (Primary pair t (option_map (λ n. take n xs) security), q)
  unfolding body
  primary_read xs q e = then_is (security_read security p) _ xs q e

module _ (block : ℕ) (pair : Pair) (coding m : ℕ) (area : Option ℕ) (p : Place) where
  pub message_refused : (f : TapeFault) → part m p ≡ Err f → body (Message block pair coding m area) p ≡ Err f
  unfolding body
  message_refused f e = then_err (part m p) _ f e

  pub area_refused : (xs : List ℕ) (r : Place) (f : TapeFault) → part m p ≡ Ok (xs, r) → part (unwrap_or area 0) r ≡ Err f → body (Message block pair coding m area) p ≡ Err f
  unfolding body
  area_refused xs r f e k = then_is (part m p) _ xs r e ∙ then_err (part (unwrap_or area 0) r) _ f k

  pub message_read : (xs ys : List ℕ) (r q : Place) → part m p ≡ Ok (xs, r) → part (unwrap_or area 0) r ≡ Ok (ys, q) → body (Message block pair coding m area) p ≡ Ok (Message block pair coding xs (option_map (λ n. ys) area), q)
  unfolding body
  message_read xs ys r q e k = then_is (part m p) _ xs r e ∙ then_is (part (unwrap_or area 0) r) _ ys q k

-- the octets of a primary, and of a message
pub security_octets_taken : (security : Option ℕ) (xs : List ℕ) → part_octets (option_map (λ n. take n xs) security) ≡ take (unwrap_or security 0) xs
security_octets_taken None xs = refl
security_octets_taken (Some n) xs = refl

area_octets : (area : Option ℕ) (ys : List ℕ) → length ys ≡ unwrap_or area 0 → part_octets (option_map (λ n. ys) area) ≡ ys
area_octets None ys l = sym (nil_from_length ys l)
area_octets (Some n) ys l = refl

-- what is handed on, by what the sink makes of it
pub passed_so : {X : Type 0} (octets_in : X → List ℕ) (r : Read X) (taken more : List ℕ → Type 0) (res : Result (Unit {0}) TapeFault) (q : Place) → ((x : X) → r ≡ Ok (x, q) → taken (octets_in x) → more (octets_in x)) → Passed octets_in r taken res q → Passed octets_in r more res q
passed_so octets_in r taken more (Ok u) q step s = (s.0, s.1, step s.0 s.1 s.2)
passed_so octets_in r taken more (Err f) q step s = s

-- a memory that is filled from its start
pub written_whole : (xs memory : List ℕ) → length xs ≡ length memory → written 0 xs memory ≡ xs
written_whole xs memory h = ap (λ z. xs ++ z) (drop_all (0 + length xs) memory (omega arith)) ∙ append-nil xs

-- a body whose octets are handed on
module _ (o : (Warning ℕ)) (p : Place) (taken : List ℕ → Type 0) where
  pub primary_handed : (pair : Pair) (t : ℕ) (security : Option ℕ) (xs : List ℕ) (q : Place) → o ≡ Primary pair t security → security_read security p ≡ Ok (xs, q) → taken (take (unwrap_or security 0) xs) → Passed octets (body o p) taken (Ok tt) q
  primary_handed pair t security xs q is e got =
      (Primary pair t (option_map (λ n. take n xs) security), ap (λ z. body z p) is ∙ primary_read pair t security p xs q e, subst taken (sym (security_octets_taken security xs)) got)

  pub both_handed : (block : ℕ) (pair : Pair) (coding m : ℕ) (area : Option ℕ) (n : ℕ) (xs : List ℕ) (r q : Place) (second : List ℕ → Type 0) (res : Result (Unit {0}) TapeFault) → o ≡ Message block pair coding m area → part m p ≡ Ok (xs, r) → n ≡ unwrap_or area 0 → ((ys : List ℕ) → length ys ≡ n → second ys → taken (xs ++ ys)) → Passed (λ ys. ys) (part n r) second res q → Passed octets (body o p) taken res q
  both_handed block pair coding m area n xs r q second (Ok u) is e k step s =
      let ys = s.0 in
      let long = (part_ok n r ys q s.1).0 in
      let same = area_octets area ys (long ∙ k) in (
        Message block pair coding xs (option_map (λ z. ys) area),
        ap (λ z. body z p) is ∙ message_read block pair coding m area p xs ys r q e (ap (λ z. part z r) (sym k) ∙ s.1),
        subst (λ z. taken (xs ++ z)) (sym same) (step ys long s.2),
      )
  both_handed block pair coding m area n xs r q second (Err f) is e k step s =
      ap (λ z. body z p) is ∙ area_refused block pair coding m area p xs r f e (ap (λ z. part z r) (sym k) ∙ s)

-- an answer that memory may keep from being given
pub agrees_same : {X Y : Type 0} (f : X → Y) (r s : Read Y) (x : Result X (Failure TapeFault)) (q : Place) → r ≡ s → Agrees f s x q → Agrees f r x q
agrees_same f r s (Ok x) q e h = e ∙ h
agrees_same f r s (Err (Fault g)) q e h = e ∙ h
agrees_same f r s (Err Memory) q e h = tt

-- an error that is passed on: a refusal, or want of memory
pub agrees_err : {X Y V W : Type 0} (f : X → Y) (g : V → W) (r : Read Y) (s : Read W) (e : Failure TapeFault) (p q : Place) → ((h : TapeFault) → r ≡ Err h → s ≡ Err h) → Agrees f r (Err e) p → Agrees g s (Err e) q
agrees_err f g r s (Fault h) p q k a = k h a
agrees_err f g r s Memory p q k a = tt
