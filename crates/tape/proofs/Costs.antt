-- What a warning costs, and how long it is on tape.
use Rattle.std.proofs.Common.{◌≡◌, ℕ, ◌+◌, ◌-◌, ◌<◌, ◌≤◌, Bool, true, false, cond, not, ◌&&◌, ltb, leb, List, length, take, replicate, is_some, Some, None, Ok, Err, Option, Result, unwrap_or, sym, refl, ap, ◌∙◌, arith}
use Rattle.std.proofs.lemmas.List.{length-append, length-replicate, take_at}
use Rattle.std.proofs.lemmas.Bool.{le-ltb, eqb-true, and_parts, leb-true, le-leb}
use Rattle.std.specs.Option.{option_map}
use Rattle.warning.specs.declared.Pair.{Pair}
use Rattle.warning.specs.declared.Warning.{Warning}
use Rattle.warning.specs.declared.WarningFault.{WarningFault}
use Rattle.warning.proofs.Judging.{judged_right}
use Rattle.octets.specs.Octets.{written}
use Rattle.tape.specs.declared.fault.WriteFault.{WriteFault}
use Rattle.tape.specs.declared.fault.WriteFault.TheVariants.{Full}
use Rattle.warning.specs.declared.Warning.TheVariants.{Primary, Message}
use Rattle.warning.specs.Notice.{Notice, outline}
use Rattle.warning.specs.Rules.{judged, is_warning, carries_message, without_area}
use Rattle.tape.specs.Format.{encode, pieces, octets_of, cost, part_cost}
use Rattle.tape.specs.Writing.{cost_by, costed, write_by, write_outcome}
use Rattle.tape.proofs.Pieces.{length-pieces}

cost_by_parts : (j : Result (Unit {0}) WarningFault) (n m : ℕ) → Ok m ≡ cost_by j n → (j ≡ Ok tt) × (m ≡ n)
cost_by_parts (Ok tt) n m e = (refl, cc)
cost_by_parts (Err f) n m e = let z : ◌≡◌ {A = ℕ} 0 1 = cc in absurd (omega arith)

-- the cost that is answered is the cost of a warning
pub costed-cost : (o : (Warning ℕ)) (n : ℕ) → Ok n ≡ costed o → n ≡ cost o
costed-cost o n e = (cost_by_parts (judged o) (cost o) n e).1

pub costed-right : (o : Warning ℕ) (n : ℕ) → Ok n ≡ costed o → is_warning o ≡ true
costed-right o n e = judged_right o (cost_by_parts (judged o) (cost o) n e).0

-- what is answered where the warning fits
pub write_fits : (r : Result ℕ WarningFault) (n free at next : ℕ) → Ok n ≡ r → n ≤ free → next ≡ at + n → Ok next ≡ write_by r free at
write_fits r n free at next e h k =
    let room : ltb free n ≡ false = le-ltb _ _ h in
    rw (sym e, room, k)

pub length-octets_of : (area : Option (List ℕ)) → length (octets_of area) ≡ unwrap_or (option_map length area) 0
length-octets_of None = refl
length-octets_of (Some xs) = refl

-- the octets that a warning takes are its cost
pub length-encode : (n : Notice) → is_warning (outline n) ≡ true → length (encode n) ≡ cost (outline n)
length-encode (Primary pair warning-type None) h = refl
length-encode (Primary pair warning-type (Some xs)) h = let e = eqb-true (length xs) 50 h in omega arith
length-encode (Message block pair coding octets area) h =
    let a = length-pieces octets in
    let b = length-pieces (octets_of area) in
    let c = length-append (pieces octets) (pieces (octets_of area)) in
    let d = ap part_cost (length-octets_of area) in
    omega arith

some_cost : (o : Warning ℕ) → 0 < cost o
some_cost (Primary pair warning-type security) = omega arith
some_cost (Message block pair coding octets area) = omega arith

-- a warning whose cost is free has room
pub room_for : (w : Notice) (n at : ℕ) (memory : List ℕ) → Ok n ≡ costed (outline w) → n ≤ length memory - at → at + length (encode w) ≤ length memory
room_for w n at memory e h =
    let is = costed-cost (outline w) n e in
    let some = some_cost (outline w) in
    let long = length-encode w (costed-right (outline w) n e) in
    omega arith

in_room : (b : Bool) (end n : ℕ) (f : WriteFault) → Ok end ≡ cond b (Err f) (Ok n) → end ≡ n
in_room true end n f k = let z : ◌≡◌ {A = ℕ} 0 1 = cc in absurd (omega arith)
in_room false end n f k = cc

cost_by_ok : (j : Result (Unit {0}) WarningFault) (n free at end : ℕ) → Ok end ≡ write_by (cost_by j n) free at → (j ≡ Ok tt) × (end ≡ at + n)
cost_by_ok (Ok tt) n free at end e = (refl, in_room (ltb free n) end (at + n) (Full n free) e)
cost_by_ok (Err f) n free at end e = let z : ◌≡◌ {A = ℕ} 0 1 = cc in absurd (omega arith)

-- a warning that was written at the start of memory is what stands there
pub written_whole : (w : Notice) (m m₁ : List ℕ) (free end : ℕ) → Ok end ≡ write_outcome (outline w) free 0 → m₁ ≡ written 0 (encode w) m → (judged (outline w) ≡ Ok tt) × (take end m₁ ≡ encode w)
written_whole w m m₁ free end e k =
    let ok = cost_by_ok (judged (outline w)) (cost (outline w)) free 0 end e in
    let long = length-encode w (judged_right (outline w) ok.0) in
    let size : length (encode w) ≡ end = omega (arith, ok.1) in
    (ok.0, ap (take end) k ∙ take_at (encode w) _ end size)

-- the longest entry: two parts take at most one data command more than one part of all octets
most_pieces : (m a : ℕ) → m + a ≤ 16384 → 12 + part_cost m + part_cost a ≤ 17454
most_pieces m a h = omega arith

pub longest_most : (w : Notice) → is_warning (outline w) ≡ true → length (encode w) ≤ 17454
longest_most (Primary pair warning-type security) h = let l = length-encode (Primary pair warning-type security) h in omega arith
longest_most (Message block pair coding octets area) h =
    let l = length-encode (Message block pair coding octets area) h in
    let first = and_parts (carries_message block) _ h in
    let second = and_parts (not (without_area block && is_some (option_map length area))) _ first.1 in
    let few : length octets + unwrap_or (option_map length area) 0 ≤ 16384 = leb-true _ _ second.1 in
    let most = most_pieces (length octets) (unwrap_or (option_map length area) 0) few in
    omega arith

longest_by : (pair : Pair) (xs ys : List ℕ) → length xs ≡ 1 → length ys ≡ 16383 → (is_warning (outline (Message 12 pair 0 xs (Some ys))) ≡ true) × (length (encode (Message 12 pair 0 xs (Some ys))) ≡ 17454)
longest_by pair xs ys a b =
    let few : leb (length xs + length ys) 16384 ≡ true = le-leb _ _ (omega arith) in
    let right : is_warning (outline (Message 12 pair 0 xs (Some ys))) ≡ true = few in
    let l = length-encode (Message 12 pair 0 xs (Some ys)) right in
    let m : part_cost (length xs) ≡ 34 = ap part_cost a in
    let n : part_cost (length ys) ≡ 17408 = ap part_cost b in
    (right, omega arith)

pub longest_met : (w : Notice) × (is_warning (outline w) ≡ true) × (length (encode w) ≡ 17454)
longest_met =
    let pair : Pair = record { identifier = 0; serial = 0 } in
    let by = longest_by pair (replicate 1 0) (replicate 16383 0) (length-replicate {A = ℕ} 1 0) (length-replicate {A = ℕ} 16383 0) in
    (Message 12 pair 0 (replicate 1 0) (Some (replicate 16383 0)), by.0, by.1)
