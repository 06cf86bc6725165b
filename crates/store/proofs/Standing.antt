-- Segments that stand in memory, the message first and then the area.
use Rattle.std.proofs.Common.{◌≡◌, ℕ, ◌+◌, ◌≤◌, List, [], ◌++◌, length, take, drop, Some, None, Option, sym, refl, ap, ◌∙◌, add-zero, arith, take-add}
use Rattle.std.proofs.lemmas.List.{take_at, drop_at, append_assoc, append-nil, length-append, length-take-le, length-drop}
use Rattle.octets.specs.Octets.{written}
use Rattle.octets.proofs.Writes.{written-written}
use Rattle.store.specs.declared.Segment.{Segment}
use Rattle.store.specs.Outcomes.{copied}
use Rattle.store.specs.Meaning.{Content, octets, area_octets, lengths_of, count, count_of, standing, spread}

-- the segment that was written is there
pub standing_at : (seg : Content) (rest : List ℕ) → standing (lengths_of seg) (octets seg ++ rest) ≡ seg
standing_at seg rest = parts seg.message seg.area
  where
    parts : (m : List ℕ) (a : Option (List ℕ)) → standing (lengths_of (record { message = m; area = a })) (octets (record { message = m; area = a }) ++ rest) ≡ record { message = m; area = a }
    parts m None = rw append_assoc (ap (λ x. record { message = x; area = None }) (take_at m ([] ++ rest) _ refl))
    parts m (Some a) = rw append_assoc (rw (take_at m (a ++ rest) _ refl, drop_at m (a ++ rest) _ refl, take_at a rest _ refl))

pub length-octets : (seg : Content) → length (octets seg) ≡ count seg
length-octets seg = of seg.message seg.area
  where
    of : (m : List ℕ) (a : Option (List ℕ)) → length (m ++ area_octets a) ≡ count (record { message = m; area = a })
    of m None = length-append m []
    of m (Some a) = length-append m a

-- a segment in enough octets has its lengths
pub lengths_standing : (l : Segment ℕ) (xs : List ℕ) → count_of l ≤ length xs → lengths_of (standing l xs) ≡ l
lengths_standing l xs h = of l.message l.area h
  where
    of : (m : ℕ) (a : Option ℕ) → count_of (record { message = m; area = a }) ≤ length xs → lengths_of (standing (record { message = m; area = a }) xs) ≡ record { message = m; area = a }
    of m None h = let t = length-take-le m xs (omega arith) in rw t
    of m (Some a) h =
        let t = length-take-le m xs (omega arith) in
        let d = length-drop m xs in
        let u = length-take-le a (drop m xs) (omega arith) in
        rw (t, u)

-- its octets are the first ones
pub octets-standing : (l : Segment ℕ) (xs : List ℕ) → count_of l ≤ length xs → octets (standing l xs) ≡ take (count_of l) xs
octets-standing l xs h = of l.message l.area h
  where
    of : (m : ℕ) (a : Option ℕ) → count_of (record { message = m; area = a }) ≤ length xs → octets (standing (record { message = m; area = a }) xs) ≡ take (count_of (record { message = m; area = a })) xs
    of m None h = rw add-zero (append-nil (take m xs))
    of m (Some a) h =
        let t = length-take-le m xs (omega arith) in
        let cut : take (m + a) xs ≡ take m xs ++ take a (drop m xs) = take-add m a xs in
        sym cut

-- copying a segment that stands in the octets
pub copied-standing : (o : Option Content) (l : Segment ℕ) (n k : ℕ) (xs m m' : List ℕ) → o ≡ Some (standing l xs) → count_of l ≤ length xs → n ≡ count_of l → k ≡ n → m' ≡ written 0 (take k xs) m → m' ≡ copied o m
copied-standing o l n k xs m m' e h c d f =
    let w : take k xs ≡ octets (standing l xs) = ap (λ z. take z xs) (d ∙ c) ∙ sym (octets-standing l xs h) in
    rw e (f ∙ ap (λ z. written 0 z m) w)

-- the octets of a segment, written to the start of a memory: the same segment stands there
pub standing-written : (l : Segment ℕ) (n : ℕ) (xs ys m m' : List ℕ) → n ≡ count_of l → ys ≡ xs → count_of l ≤ length xs → m' ≡ written 0 (take n ys) m → standing l m' ≡ standing l xs
standing-written l n xs ys m m' c e h f =
    let seg = standing l xs in
    let o : take n ys ≡ octets seg = ap (λ z. take z ys) c ∙ ap (take (count_of l)) e ∙ sym (octets-standing l xs h) in
    let long = lengths_standing l xs h in
    let rest = drop (0 + length (take n ys)) m in
    ap (standing l) (f ∙ ap (λ z. z ++ rest) o) ∙ ap (λ z. standing z (octets seg ++ rest)) (sym long) ∙ standing_at seg rest

-- both parts written one after the other are the octets of the segment, written at once
pub spread_is : (seg : Content) (m : List ℕ) → count seg ≤ length m → spread seg m ≡ written 0 (octets seg) m
spread_is seg m h = written-written m seg.message (area_octets seg.area) 0 (length seg.message) (omega arith) (omega arith)
