-- The octets that a tape outlet has in use are the written form of the warnings that it holds; the laws
-- of an outlet by that.
use Rattle.std.specs.Prelude.{◌≡◌, ℕ, ◌+◌, ◌≤◌, true, not, ◌&&◌, List, [], ◌∷◌, length, is_some, refl}
use Rattle.std.proofs.Common.{◌∙◌, ap, arith}
use Rattle.std.proofs.lemmas.List.{length-append, length-take-le}
use Rattle.std.proofs.lemmas.List.Elements.{All-nil, All-cons}
use Rattle.std.proofs.lemmas.List.Sums.{sum_by-cons}
use Rattle.std.proofs.lemmas.Bool.{and_parts, leb-true}
use Rattle.std.specs.Option.{unwrap_or}
use Rattle.warning.specs.declared.Warning.{Warning}
use Rattle.warning.specs.declared.Warning.TheVariants.{Primary, Message}
use Rattle.warning.specs.Notice.{Notice, outline}
use Rattle.warning.specs.Rules.{is_warning, carries_message, without_area}
use Rattle.tape.specs.Format.{encode, encode_all, cost, part_cost}
use Rattle.tape.specs.Promises.{all_warnings}
use Rattle.tape.proofs.Costs.{length-encode}
use Rattle.outlet.specs.Meaning.{Lawful, Warnings, costs}
use Rattle.tape_outlet.specs.declared.TapeOutlet.{TapeOutlet}
use Rattle.tape_outlet.specs.Numbers.{tape_octets, tape_room}
use Rattle.tape_outlet.specs.Holding.{holding}

-- the length of a tape is what its warnings cost
pub length-encode_all : (ws : List Notice) → all_warnings ws ≡ true → costs tape_room ws ≡ length (encode_all ws)
length-encode_all [] h = refl
length-encode_all (w ∷ ws) h =
    let both = and_parts (is_warning (outline w)) (all_warnings ws) h in
    let more = sum_by-cons (λ v. cost (outline v)) w ws in
    let rest = length-encode_all ws both.1 in
    let first = length-encode w both.0 in
    let long = length-append (encode w) (encode_all ws) in
    more ∙ omega arith

-- the octets in use are the units held
pub used_costs : (t : TapeOutlet) → costs tape_room (holding t) ≡ t.used
used_costs t = length-encode_all (holding t) t.right ∙ ap length t.written ∙ length-take-le t.used t.octets (omega (arith, t.all, t.within))

-- what the warnings held cost never exceeds the total
pub costs_within : (t : TapeOutlet) → costs tape_room (holding t) ≤ tape_room.total
costs_within t = omega (arith, used_costs t, t.within)

-- each is a warning
pub each_right : (ws : List Notice) → all_warnings ws ≡ true → Warnings ws
each_right [] h = All-nil (λ w. is_warning (outline w) ≡ true)
each_right (w ∷ ws) h =
    let both = and_parts (is_warning (outline w)) (all_warnings ws) h in
    All-cons (λ v. is_warning (outline v) ≡ true) w ws both.0 (each_right ws both.1)

-- every warning has room in an empty outlet
fits : (m a : ℕ) → m + a ≤ 16384 → 12 + part_cost m + part_cost a ≤ tape_octets
fits m a h = omega arith

roomy : (o : Warning ℕ) → is_warning o ≡ true → cost o ≤ tape_octets
roomy (Primary pair t security) h = omega arith
roomy (Message block pair coding m area) h =
    let first = and_parts (carries_message block) _ h in
    let second = and_parts (not (without_area block && is_some area)) _ first.1 in
    fits m (unwrap_or area 0) (leb-true _ _ second.1)

pub lawful : Lawful tape_room
lawful = record { roomy = roomy; of_primary = λ p q t u s. refl; of_message = λ b p q c d n a. refl }
