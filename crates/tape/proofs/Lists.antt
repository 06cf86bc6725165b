-- Writing a list of warnings, one after another.
use Rattle.std.proofs.Common.{◌≡◌, ℕ, ◌+◌, ◌<◌, true, List, [], ◌∷◌, ◌++◌, map, length, get_or, take, drop, IfOk, IfErr, Ok, Err, vec_items, Result, Vec, sym, refl, ap, ◌∙◌, arith}
use Rattle.std.proofs.lemmas.List.{append_assoc, append-nil, take-append-drop, drop_more, map-append, map_more}
use Rattle.std.proofs.lemmas.Bool.{and_parts}
use Rattle.std.specs.declared.alloc.Global.{Global}
use Rattle.warning.specs.declared.WarningFault.{WarningFault}
use Rattle.warning.specs.declared.Warning.{Warning}
use Rattle.warning.specs.Notice.{Notice, outline}
use Rattle.warning.specs.Meaning.{owned}
use Rattle.warning.specs.Rules.{is_warning, judged}
use Rattle.warning.proofs.Judging.{judged_right, right_judged}
use Rattle.tape.specs.declared.fault.Failure.{Failure}
use Rattle.tape.specs.declared.fault.Failure.TheVariants.{Fault, Memory}
use Rattle.tape.specs.Format.{encode, encode_all}
use Rattle.tape.specs.Promises.{all_warnings, written, written_by, Appended, WrittenAs}

by_parts : (j : Result (Unit {0}) WarningFault) (xs : List ℕ) (r : Result (List ℕ) WarningFault) (zs : List ℕ) → written_by j xs r ≡ Ok zs → (ys : List ℕ) × (j ≡ Ok tt) × (r ≡ Ok ys) × (xs ++ ys ≡ zs)
by_parts (Ok tt) xs (Ok ys) zs e = (ys, refl, refl, cc)
by_parts (Ok tt) xs (Err f) zs e = let z : ◌≡◌ {A = ℕ} 0 1 = cc in absurd (omega arith)
by_parts (Err f) xs r zs e = let z : ◌≡◌ {A = ℕ} 0 1 = cc in absurd (omega arith)

-- one more warning at the end
pub written_push : (ws : List Notice) (w : Notice) (xs : List ℕ) → written ws ≡ Ok xs → judged (outline w) ≡ Ok tt → written (ws ++ (w ∷ [])) ≡ Ok (xs ++ encode w)
written_push [] w xs e h =
    let none : [] ≡ xs = cc in
    ap (λ j. written_by j (encode w) (Ok [])) h ∙ ap Ok (append-nil (encode w)) ∙ ap (λ z. Ok (z ++ encode w)) none
written_push (v ∷ ws) w xs e h =
    let p = by_parts (judged (outline v)) (encode v) (written ws) xs e in
    let more = written_push ws w p.0 p.2 h in
    ap (λ j. written_by j (encode v) (written (ws ++ (w ∷ [])))) p.1 ∙ ap (written_by (Ok tt) (encode v)) more
    ∙ ap Ok (sym (append_assoc (encode v) p.0 (encode w))) ∙ ap (λ z. Ok (z ++ encode w)) p.3

-- the first that is none
pub written_err : (ws : List Notice) (w : Notice) (vs : List Notice) (xs : List ℕ) (f : WarningFault) → written ws ≡ Ok xs → judged (outline w) ≡ Err f → written (ws ++ (w ∷ vs)) ≡ Err f
written_err [] w vs xs f e h = ap (λ j. written_by j (encode w) (written vs)) h
written_err (v ∷ ws) w vs xs f e h =
    let p = by_parts (judged (outline v)) (encode v) (written ws) xs e in
    let more = written_err ws w vs p.0 f p.2 h in
    ap (λ j. written_by j (encode v) (written (ws ++ (w ∷ vs)))) p.1 ∙ ap (written_by (Ok tt) (encode v)) more

-- what was written is the tape of warnings
pub written_all : (ws : List Notice) (xs : List ℕ) → written ws ≡ Ok xs → (all_warnings ws ≡ true) × (encode_all ws ≡ xs)
written_all [] xs e = (refl, cc)
written_all (w ∷ ws) xs e =
    let p = by_parts (judged (outline w)) (encode w) (written ws) xs e in
    let rest = written_all ws p.0 p.2 in
    let right = judged_right (outline w) p.1 in
    let all : all_warnings (w ∷ ws) ≡ true = rw (right, rest.0) in
    (all, ap (λ z. encode w ++ z) rest.1 ∙ p.3)

-- the warning at an index, among those before and after it
pub item_more : (xs : List (Warning (Vec ℕ Global))) (i : ℕ) (x : (Warning (Vec ℕ Global))) (w : Notice) → i < length xs → x ≡ get_or xs i x → w ≡ owned x → map owned (take (i + 1) xs) ≡ map owned (take i xs) ++ (w ∷ [])
item_more xs i x w h e k = map_more owned xs i x h ∙ ap (λ z. map owned (take i xs) ++ (owned z ∷ [])) (sym e) ∙ ap (λ z. map owned (take i xs) ++ (z ∷ [])) (sym k)

pub item_split : (xs : List (Warning (Vec ℕ Global))) (i : ℕ) (x : (Warning (Vec ℕ Global))) (w : Notice) → i < length xs → x ≡ get_or xs i x → w ≡ owned x → map owned xs ≡ map owned (take i xs) ++ (w ∷ map owned (drop (i + 1) xs))
item_split xs i x w h e k =
    ap (map owned) (sym (take-append-drop i xs))
    ∙ map-append owned (take i xs) (drop i xs)
    ∙ ap (λ z. map owned (take i xs) ++ map owned z) (drop_more xs i x h)
    ∙ ap (λ z. map owned (take i xs) ++ (owned z ∷ map owned (drop (i + 1) xs))) (sym e)
    ∙ ap (λ z. map owned (take i xs) ++ (z ∷ map owned (drop (i + 1) xs))) (sym k)

-- an error at a warning is the list's
pub append_err : (ws : List Notice) (w : Notice) (vs all : List Notice) (xs ys : List ℕ) (e : Failure WarningFault) → all ≡ ws ++ (w ∷ vs) → written ws ≡ Ok xs → Appended xs w ys (Err e) → WrittenAs all (Err e)
append_err ws w vs all xs ys (Fault f) k h a = ap written k ∙ written_err ws w vs xs f h a.0
append_err ws w vs all xs ys Memory k h a = tt

-- warnings are written
pub all_written : (ws : List Notice) → all_warnings ws ≡ true → written ws ≡ Ok (encode_all ws)
all_written [] h = refl
all_written (w ∷ ws) h =
    let both = and_parts (is_warning (outline w)) (all_warnings ws) h in
    ap (λ j. written_by j (encode w) (written ws)) (right_judged (outline w) both.0) ∙ ap (written_by (Ok tt) (encode w)) (all_written ws both.1)

-- what a reader has read is written back
pub back_same : (ws : List Notice) (xs : List ℕ) (r : Result (Vec ℕ Global) (Failure WarningFault)) → encode_all ws ≡ xs → WrittenAs ws r → IfOk r (λ v. vec_items v ≡ xs)
back_same ws xs (Ok v) e a = sym (written_all ws (vec_items v) a).1 ∙ e
back_same ws xs (Err f) e a = tt

pub back_wanting : (ws : List Notice) (r : Result (Vec ℕ Global) (Failure WarningFault)) → all_warnings ws ≡ true → WrittenAs ws r → IfErr r (λ e. e ≡ Memory)
back_wanting ws (Ok v) h a = tt
back_wanting ws (Err (Fault f)) h a =
    let both : ◌≡◌ {A = Result (List ℕ) WarningFault} (Ok (encode_all ws)) (Err f) = sym (all_written ws h) ∙ a in
    let z : ◌≡◌ {A = ℕ} 0 1 = cc in absurd (omega arith)
back_wanting ws (Err Memory) h a = refl
