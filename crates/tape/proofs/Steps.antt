-- One step of a reader of a whole tape.
use Rattle.std.specs.declared.alloc.Global.{Global}
use Rattle.std.proofs.Common.{Vec, ◌≡◌, ℕ, ◌<◌, ◌≤◌, true, List, [], ◌∷◌, ◌++◌, map, length, take, drop, Ok, Err, sym, refl, ap, ◌∙◌, subst, arith}
use Rattle.std.proofs.lemmas.List.{append_assoc, length-append, length-take-le, length-drop, take_at, drop_at, take-append-drop, flat_map_more, map_push}
use Rattle.std.proofs.lemmas.Bool.{and_parts}
use Rattle.tape.specs.declared.fault.Failure.{Failure}
use Rattle.tape.specs.declared.fault.TapeFault.{TapeFault}
use Rattle.tape.specs.declared.fault.Failure.TheVariants.{Fault, Memory}
use Rattle.warning.specs.declared.Warning.{Warning}
use Rattle.warning.specs.Meaning.{owned}
use Rattle.warning.specs.Notice.{Notice, outline}
use Rattle.warning.specs.Rules.{is_warning}
use Rattle.tape.specs.Format.{encode, encode_all}
use Rattle.tape.specs.Promises.{all_warnings}
use Rattle.tape.specs.Reading.{Place, place, entry}
use Rattle.tape.specs.Cursors.{Agrees}
use Rattle.tape.specs.Readers.{Next}
use Rattle.tape.proofs.Takes.{Took}
use Rattle.tape.proofs.Entries.{entry_ok}
use Rattle.tape.proofs.Whole.{some_octets}

all_more : (ws : List Notice) (w : Notice) → all_warnings ws ≡ true → is_warning (outline w) ≡ true → all_warnings (ws ++ (w ∷ [])) ≡ true
all_more [] w h k = rw k
all_more (v ∷ ws) w h k =
    let both = and_parts (is_warning (outline v)) (all_warnings ws) h in
    let more = all_more ws w both.1 k in
    rw (both.0, more)

encode-more : (ws : List Notice) (w : Notice) → encode_all (ws ++ (w ∷ [])) ≡ encode_all ws ++ encode w
encode-more ws w = sym (flat_map_more encode [] ws w)

-- a reader that has read warnings up to a place of its tape
pub record Reached (t : List ℕ) (at : ℕ) (ws : List Notice) : Type 0 where
  pub within : at ≤ length t
  pub right : all_warnings ws ≡ true
  pub written : encode_all ws ≡ take at t

-- what is left after a warning was taken
module _ (t : List ℕ) (at : ℕ) (ws vs : List Notice) (w : Notice) (q : Place) (reached : Reached t at ws) (read : entry (place at (drop at t)) ≡ Ok (w, q)) (added : vs ≡ ws ++ (w ∷ [])) where
  step_took : Took (encode w) (place at (drop at t)) q
  step_took = (entry_ok (place at (drop at t)) w q read).1

  whole : t ≡ (take at t ++ encode w) ++ q.rest
  whole = sym (take-append-drop at t) ∙ ap (λ z. take at t ++ z) step_took.cut ∙ sym (append_assoc (take at t) (encode w) q.rest)

  front : length (take at t ++ encode w) ≡ q.at
  front =
      let a = length-append (take at t) (encode w) in
      let b = length-take-le at t reached.within in
      let m = step_took.moved in
      omega arith

  step_rest : drop q.at t ≡ q.rest
  step_rest = ap (drop q.at) whole ∙ drop_at (take at t ++ encode w) q.rest q.at front

  step_front : take q.at t ≡ take at t ++ encode w
  step_front = ap (take q.at) whole ∙ take_at (take at t ++ encode w) q.rest q.at front

  pub step_read : (n : ℕ) → n ≡ q.at → entry (place at (drop at t)) ≡ Ok (w, place n (drop n t))
  step_read n e = read ∙ ap (λ z. Ok (w, place q.at z)) (sym step_rest) ∙ ap (λ m. Ok (w, place m (drop m t))) (sym e)

  reached_there : Reached t q.at vs
  reached_there =
      let long = ap length whole ∙ length-append (take at t ++ encode w) q.rest in
      let right = (entry_ok (place at (drop at t)) w q read).0 in
      record {
        within = omega (arith, front, long);
        right = ap all_warnings added ∙ all_more ws w reached.right right;
        written = ap encode_all added ∙ encode-more ws w ∙ ap (λ z. z ++ encode w) reached.written ∙ sym step_front;
      }

  pub step_reached : (n : ℕ) → n ≡ q.at → Reached t n vs
  step_reached n e = subst (λ m. Reached t m vs) (sym e) reached_there

-- each warning leaves less
pub read_less : (p : Place) (w : Notice) (q : Place) → entry p ≡ Ok (w, q) → length q.rest < length p.rest
read_less p w q e =
    let t = (entry_ok p w q e).1 in
    let cut = ap length t.cut ∙ length-append (encode w) q.rest in
    let some = some_octets w in
    omega arith

-- an error leaves the reader where it was
pub next_err : (t : List ℕ) (at : ℕ) (ws : List Notice) (q : Place) (e : Failure TapeFault) → at < length t → Agrees owned (entry (place at (drop at t))) (Err e) q → Next (place at (drop at t)) ws (place at (drop at t)) ws (Err e)
next_err t at ws q (Fault f) h a = let d = length-drop at t in (omega arith, a, refl, refl)
next_err t at ws q Memory h a = (refl, refl)

-- one warning more, in the reader's own memory
pub owned-more : (xs ys : List (Warning (Vec ℕ Global))) (x : (Warning (Vec ℕ Global))) → ys ≡ xs ++ (x ∷ []) → map owned ys ≡ map owned xs ++ (owned x ∷ [])
owned-more xs ys x e = ap (map owned) e ∙ map_push owned xs x
