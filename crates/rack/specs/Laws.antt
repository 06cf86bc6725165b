-- What a rack holds are warnings, which never cost more than its total.
use Rattle.std.specs.Prelude.{◌≡◌, ℕ, ◌≤◌, true, List, [], ◌∷◌, length, map, refl}
use Rattle.std.proofs.Common.{◌∙◌, ap, arith, drop, take, slice_index_or, length-append, length-drop, length-take-le}
use Rattle.std.proofs.lemmas.List.{length-map}
use Rattle.std.proofs.lemmas.List.Elements.{All-map}
use Rattle.std.proofs.lemmas.List.Sums.{sum_by-cons}
use Rattle.warning.specs.Notice.{Notice, outline}
use Rattle.warning.specs.Rules.{is_warning}
use Rattle.warning.proofs.Standing.{outline-standing, few_octets}
use Rattle.outlet.specs.Meaning.{Lawful, Warnings, costs}
use Rattle.rack.specs.declared.Place.{Place}
use Rattle.rack.specs.declared.Rack.{Rack}
use Rattle.rack.specs.Numbers.{rack_room}
use Rattle.rack.specs.Holding.{lies, window, holding}

pub lawful : Lawful rack_room
lawful = record { roomy = λ o h. omega arith; of_primary = λ p q t u s. refl; of_message = λ b p q c d n a. refl }

-- a unit a warning
pub units : (ws : List Notice) → costs rack_room ws ≡ length ws
units [] = refl
units (w ∷ ws) = let rest = units ws in sum_by-cons (λ w. 1) w ws ∙ omega arith

-- as many as are counted
pub length-window : {X : Type 0} (k n : ℕ) (xs : List X) → k ≤ length xs → n ≤ length xs → length (window k n xs) ≡ n
length-window k n xs low few = length-take-le n _ (omega (arith, length-append (drop k xs) (take k xs), length-drop k xs, length-take-le k xs low))

pub length-holding : (r : Rack) → length (holding r) ≡ r.count
length-holding r =
    length-map (window r.oldest r.count r.places) lies
    ∙ length-window r.oldest r.count r.places (omega (arith, r.all, r.low)) (omega (arith, r.all, r.few))

pub units_held : (r : Rack) → costs rack_room (holding r) ≡ r.count
units_held r = units (holding r) ∙ length-holding r

-- what the warnings held cost never exceeds the total
pub costs_within : (r : Rack) → costs rack_room (holding r) ≤ rack_room.total
costs_within r = omega (arith, units_held r, r.few)

-- a place has the outline of its warning
pub outline-lies : (p : Place) → outline (lies p) ≡ p.outline
outline-lies p = outline-standing p.outline p.octets (omega (arith, p.long, few_octets p.outline p.right))

lies_right : (p : Place) → is_warning (outline (lies p)) ≡ true
lies_right p = ap is_warning (outline-lies p) ∙ p.right

-- what lies in places are warnings
pub all_right : (ps : List Place) → Warnings (map lies ps)
all_right ps = All-map (λ w. is_warning (outline w) ≡ true) lies ps (λ k d h. lies_right (slice_index_or ps k d))

pub warnings_held : (r : Rack) → Warnings (holding r)
warnings_held r = all_right (window r.oldest r.count r.places)
