-- Warnings whose octets stand in memory.
use Rattle.std.proofs.Common.{◌≡◌, ℕ, ◌≤◌, true, not, ◌&&◌, List, [], ◌++◌, length, take, drop, is_some, Some, None, sym, refl, ap, ◌∙◌, add-zero, arith, take-add}
use Rattle.std.proofs.lemmas.List.{take_at, drop_at, append_assoc, append-nil, length-append, length-take-le, length-drop}
use Rattle.std.proofs.lemmas.Bool.{eqb-true, leb-true, and_parts}
use Rattle.warning.specs.declared.Warning.{Warning}
use Rattle.warning.specs.declared.Warning.TheVariants.{Primary, Message}
use Rattle.warning.specs.Contents.{octets, octet_count, standing}
use Rattle.warning.specs.Notice.{Notice, outline}
use Rattle.warning.specs.Numbers.{most_octets}
use Rattle.warning.specs.Rules.{is_warning, carries_message, without_area}

-- the warning that was written is there
pub standing_at : (w : Notice) (rest : List ℕ) → standing (outline w) (octets w ++ rest) ≡ w
standing_at (Primary pair t None) rest = refl
standing_at (Primary pair t (Some xs)) rest = ap (λ z. Primary pair t (Some z)) (take_at xs rest _ refl)
standing_at (Message block pair coding m None) rest =
    ap (λ z. Message block pair coding (take (length m) z) None) (append_assoc m [] rest)
    ∙ ap (λ z. Message block pair coding z None) (take_at m ([] ++ rest) _ refl)
standing_at (Message block pair coding m (Some a)) rest =
    ap (λ z. Message block pair coding (take (length m) z) (Some (take (length a) (drop (length m) z)))) (append_assoc m a rest)
    ∙ ap (λ z. Message block pair coding z (Some (take (length a) (drop (length m) (m ++ (a ++ rest)))))) (take_at m (a ++ rest) _ refl)
    ∙ ap (λ z. Message block pair coding m (Some (take (length a) z))) (drop_at m (a ++ rest) _ refl)
    ∙ ap (λ z. Message block pair coding m (Some z)) (take_at a rest _ refl)

-- it has its octets
pub length-octets : (w : Notice) → length (octets w) ≡ octet_count (outline w)
length-octets (Primary pair t None) = refl
length-octets (Primary pair t (Some xs)) = refl
length-octets (Message block pair coding m None) = length-append m []
length-octets (Message block pair coding m (Some a)) = length-append m a

-- a warning in enough octets has its outline
pub outline-standing : (o : Warning ℕ) (xs : List ℕ) → octet_count o ≤ length xs → outline (standing o xs) ≡ o
outline-standing (Primary pair t None) xs h = refl
outline-standing (Primary pair t (Some n)) xs h = ap (λ z. Primary pair t (Some z)) (length-take-le n xs h)
outline-standing (Message block pair coding m None) xs h = ap (λ z. Message block pair coding z None) (length-take-le m xs (omega arith))
outline-standing (Message block pair coding m (Some a)) xs h =
    let d = length-drop m xs in
    ap (λ z. Message block pair coding z (Some (length (take a (drop m xs))))) (length-take-le m xs (omega arith))
    ∙ ap (λ z. Message block pair coding m (Some z)) (length-take-le a (drop m xs) (omega arith))

-- and its octets are the first ones
pub octets-standing : (o : Warning ℕ) (xs : List ℕ) → octets (standing o xs) ≡ take (octet_count o) xs
octets-standing (Primary pair t None) xs = refl
octets-standing (Primary pair t (Some n)) xs = refl
octets-standing (Message block pair coding m None) xs = append-nil (take m xs) ∙ ap (λ z. take z xs) (sym (add-zero m))
octets-standing (Message block pair coding m (Some a)) xs = sym (take-add m a xs)

-- no warning has more octets than there may be
pub few_octets : (o : Warning ℕ) → is_warning o ≡ true → octet_count o ≤ most_octets
few_octets (Primary pair t None) h = omega arith
few_octets (Primary pair t (Some n)) h = let e = eqb-true n 50 h in omega arith
few_octets (Message block pair coding m area) h =
    let first = and_parts (carries_message block) _ h in
    let second = and_parts (not (without_area block && is_some area)) _ first.1 in
    leb-true _ _ second.1
