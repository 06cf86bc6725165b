-- Octets that are the written form of warnings: what they read as, their front, and what follows when
-- they grow or shrink.
use Rattle.std.proofs.Common.{◌≡◌, ℕ, ◌+◌, ◌-◌, ◌≤◌, ◌<◌, true, List, [], ◌∷◌, ◌++◌, length, take, drop, Some, Ok, Err, Option, Result, sym, refl, ap, ◌∙◌, arith}
use Rattle.std.proofs.Math.Seq.{paste}
use Rattle.std.proofs.lemmas.List.{append_assoc, length-append, length-take-le, length-drop, take_at, drop_at, drop-take, flat_map_more}
use Rattle.std.proofs.lemmas.Bool.{and_parts, and_from}
use Rattle.std.specs.Option.{option_map}
use Rattle.std.specs.Result.{result_ok}
use Rattle.octets.specs.Octets.{written}
use Rattle.warning.specs.declared.Warning.{Warning}
use Rattle.warning.specs.Notice.{Notice, outline}
use Rattle.warning.specs.Rules.{is_warning}
use Rattle.tape.specs.declared.fault.TapeFault.{TapeFault}
use Rattle.tape.specs.Format.{encode, encode_all, cost}
use Rattle.tape.specs.Promises.{all_warnings}
use Rattle.tape.specs.Heads.{head, answered, copied}
use Rattle.tape.specs.Reading.{place, entry, read_tape}
use Rattle.tape.proofs.Costs.{length-encode}
use Rattle.tape.proofs.Entries.{entry_at}
use Rattle.tape.proofs.Readings.{head_of}
use Rattle.tape.proofs.Ends.{entry_none}
use Rattle.tape.proofs.Splits.{then_err, octet_none}
use Rattle.tape.proofs.Whole.{reads_back}
use Rattle.outlet.specs.Outcomes.{first_of, without_first, first_copied}
use Rattle.tape_outlet.specs.declared.TapeOutlet.{TapeOutlet}
use Rattle.tape_outlet.specs.Numbers.{with_cost}
use Rattle.tape_outlet.specs.Holding.{holding}
use Rattle.tape_outlet.specs.Written.{or_none, read_as}

-- octets that are the written form of warnings
pub record Kept (t : List ℕ) (ws : List Notice) : Type 0 where
  pub right : all_warnings ws ≡ true
  pub is : encode_all ws ≡ t

pub held : (t : TapeOutlet) → Kept (take t.used t.octets) (holding t)
held t = record { right = t.right; is = t.written }

-- they read as these
pub kept_reads : (t : List ℕ) (ws : List Notice) → Kept t ws → read_tape t ≡ Ok ws
kept_reads t ws k = ap read_tape (sym k.is) ∙ reads_back ws k.right

pub kept_held : (t : List ℕ) (ws : List Notice) → Kept t ws → read_as t ≡ ws
kept_held t ws k = ap or_none (kept_reads t ws k)

-- the first one
module _ (t : List ℕ) (w : Notice) (ws : List Notice) (k : Kept t (w ∷ ws)) where
  first_right : (is_warning (outline w) ≡ true) × (all_warnings ws ≡ true)
  first_right = and_parts (is_warning (outline w)) (all_warnings ws) k.right

  first_read : entry (place 0 t) ≡ Ok (w, place (length (encode w)) (encode_all ws))
  first_read =
      let start : 0 + length (encode w) ≡ length (encode w) = omega arith in
      ap (λ z. entry (place 0 z)) (sym k.is) ∙ entry_at 0 w (encode_all ws) first_right.0 ∙ ap (λ n. Ok (w, place n (encode_all ws))) start

nothing : (t : List ℕ) → Kept t [] → length t < 1
nothing t k = omega (arith, ap length k.is)

-- the head of what holds nothing is refused
head_none : (t : List ℕ) → length t < 1 → (f : TapeFault) × (head (place 0 t) ≡ Err f)
unfolding head
head_none t h = (_, then_err _ _ _ (octet_none (λ c. true) 0 t h))

-- what the calls of the tape tell of the first one
abbrev pub told : Result (Warning ℕ × ℕ) TapeFault → Option (Warning ℕ)
told r = option_map (λ x. x.0) (result_ok r)

pub first_head : (t : List ℕ) (ws : List Notice) → Kept t ws → told (answered (λ o. o) (head (place 0 t))) ≡ first_of ws
first_head t [] k = ap (λ z. told (answered (λ o. o) z)) (head_none t (nothing t k)).1
first_head t (w ∷ ws) k = ap (λ z. told (answered (λ o. o) z)) (head_of (place 0 t) w _ (first_read t w ws k)).1

pub first_entry : (t : List ℕ) (ws : List Notice) → Kept t ws → result_ok (answered outline (entry (place 0 t))) ≡ option_map with_cost (first_of ws)
first_entry t [] k = ap (λ z. result_ok (answered outline z)) (entry_none 0 t (nothing t k))
first_entry t (w ∷ ws) k =
    ap (λ z. result_ok (answered outline z)) (first_read t w ws k)
    ∙ ap (λ n. Some (outline w, n)) (length-encode w (first_right t w ws k).0)

pub first-copied : (t : List ℕ) (ws : List Notice) (m : List ℕ) → Kept t ws → copied (entry (place 0 t)) m ≡ first_copied ws m
first-copied t [] m k = ap (λ z. copied z m) (entry_none 0 t (nothing t k))
first-copied t (w ∷ ws) m k = ap (λ z. copied z m) (first_read t w ws k)

-- without the first one, which costs n octets
without : (t : List ℕ) (ws : List Notice) (n : ℕ) → Some n ≡ option_map cost (first_of ws) → Kept t ws → (n ≤ length t) × Kept (drop n t) (without_first ws)
without t [] n e k = let z : ◌≡◌ {A = ℕ} 0 1 = cc in absurd (omega arith)
without t (w ∷ ws) n e k =
    let both = first_right t w ws k in
    let size : length (encode w) ≡ n = let z : n ≡ cost (outline w) = cc in length-encode w both.0 ∙ sym z in
    let long = ap length k.is in
    let first = length-append (encode w) (encode_all ws) in
    (omega arith, record { right = both.1; is = sym (ap (drop n) (sym k.is) ∙ drop_at (encode w) (encode_all ws) n size) })

-- with one more at the end
more_right : (ws : List Notice) (w : Notice) → all_warnings ws ≡ true → is_warning (outline w) ≡ true → all_warnings (ws ++ (w ∷ [])) ≡ true
more_right [] w h k = and_from _ _ k refl
more_right (v ∷ ws) w h k =
    let both = and_parts (is_warning (outline v)) (all_warnings ws) h in
    and_from _ _ both.0 (more_right ws w both.1 k)

with_more : (t : List ℕ) (ws : List Notice) (w : Notice) → Kept t ws → is_warning (outline w) ≡ true → Kept (t ++ encode w) (ws ++ (w ∷ []))
with_more t ws w k h = record { right = more_right ws w k.right h; is = sym (flat_map_more encode [] ws w) ∙ ap (λ z. z ++ encode w) k.is }

kept_same : (t u : List ℕ) (ws : List Notice) → t ≡ u → Kept u ws → Kept t ws
kept_same t u ws e k = record { right = k.right; is = k.is ∙ sym e }

-- the octets in use of a memory
module _ (m m₁ : List ℕ) (ws : List Notice) (used : ℕ) (fit : used ≤ length m) (k : Kept (take used m) ws) where
  in_use : length (take used m) ≡ used
  in_use = length-take-le used m fit

  -- what follows the first warning is moved to the front
  module _ (n : ℕ) (first : Some n ≡ option_map cost (first_of ws)) where
    pub first_within : n ≤ used
    first_within = omega (arith, (without (take used m) ws n first k).0, in_use)

    moved : m₁ ≡ paste m 0 (drop n m) (used - n) → take (used - n) m₁ ≡ drop n (take used m)
    moved e =
        let low = first_within in
        let d = length-drop n m in
        let long : length (take (used - n) (drop n m)) ≡ used - n = length-take-le (used - n) (drop n m) (omega arith) in
        let whole : n + (used - n) ≡ used = omega arith in
        ap (take (used - n)) e
        ∙ take_at (take (used - n) (drop n m)) _ (used - n) long
        ∙ sym (drop-take n (used - n) m)
        ∙ ap (λ z. drop n (take z m)) whole

    pub kept_moved : m₁ ≡ paste m 0 (drop n m) (used - n) → Kept (take (used - n) m₁) (without_first ws)
    kept_moved e = kept_same _ _ _ (moved e) (without (take used m) ws n first k).1

  -- a warning is written behind them
  module _ (w : Notice) (end : ℕ) (right : is_warning (outline w) ≡ true) (next : end ≡ used + cost (outline w)) (e : m₁ ≡ written used (encode w) m) where
    ended : take end m₁ ≡ take used m ++ encode w
    ended =
        let size = length-encode w right in
        let long : length (take used m ++ encode w) ≡ end = length-append (take used m) (encode w) ∙ omega (arith, in_use) in
        ap (take end) (e ∙ sym (append_assoc (take used m) (encode w) _)) ∙ take_at (take used m ++ encode w) _ end long

    pub kept_written : Kept (take end m₁) (ws ++ (w ∷ []))
    kept_written = kept_same _ _ _ ended (with_more (take used m) ws w k right)
