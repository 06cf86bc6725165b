-- The places in use, one more and one less.
use Rattle.std.proofs.Common.{◌≡◌, ℕ, ◌+◌, ◌-◌, ◌%◌, ◌<◌, ◌≤◌, ◌⊎◌, List, [], ◌∷◌, ◌++◌, Some, length, map, get_or, set, sym, ap, ◌∙◌, ap₂, inl, inr, mod-eq_of_lt, arith, length-drop, length-set, get_or-drop, get_or-take}
use native.Mathlib.Nat.{mod-eq-sub-mod, mod-add-mod}
use Rattle.std.proofs.lemmas.List.{same_lists, drop_more, get_or_append_left, get_or-append_right}
use Rattle.std.proofs.lemmas.Bool.{cases_lt}
use Rattle.std.proofs.lemmas.Grind.{common_steps}
use Rattle.std.proofs.lemmas.List.{map-append}
use Rattle.std.proofs.lemmas.Option.{slice_get_within}
use Rattle.std.specs.List.{slice_get}
use Rattle.octets.specs.Octets.{written}
use Rattle.warning.specs.Contents.{octets}
use Rattle.warning.specs.Notice.{Notice}
use Rattle.outlet.specs.Outcomes.{first_copied}
use Rattle.rack.specs.declared.Place.{Place}
use Rattle.rack.specs.declared.Rack.{Rack}
use Rattle.rack.specs.Numbers.{place_count}
use Rattle.rack.specs.Holding.{lies, window, holding}
use Rattle.rack.specs.Laws.{length-window, length-holding}

-- an index below 2 N comes round once at most
wraps_once : (N j : ℕ) → j < N + N → ((j < N) × (j % N ≡ j)) ⊎ ((N ≤ j) × (j % N ≡ j - N))
wraps_once N j below = elim (cases_lt j N) [
  | inl low ↦ inl (low, mod-eq_of_lt low)
  | inr high ↦ inr (high, mod-eq-sub-mod high ∙ mod-eq_of_lt (omega arith))
]

module _ {X : Type 0} (N k n : ℕ) (xs : List X) (low : k < N) (few : n ≤ N) (all : length xs ≡ N) where
  -- item i of the window is at (k + i) % N, before the end or past it
  pub get_or-window : (i : ℕ) (d : X) → i < n → get_or (window k n xs) i d ≡ get_or xs ((k + i) % N) d
  get_or-window i d h =
      let rest = length-drop k xs in
      get_or-take n _ i d h ∙ elim (wraps_once N (k + i) (omega arith)) [
        | inl w ↦ get_or_append_left _ _ d i (omega arith) ∙ get_or-drop k xs i d ∙ ap (λ j. get_or xs j d) (omega arith)
        | inr w ↦ get_or-append_right _ _ (N - k) i d (omega arith) (omega arith) ∙ get_or-take k xs _ d (omega arith) ∙ ap (λ j. get_or xs j d) (omega arith)
      ]

module _ {X : Type 0} (N k n : ℕ) (xs : List X) (low : k < N) (few : n ≤ N) (all : length xs ≡ N) where
  -- one more behind the last one
  pub window_more : (x : X) → n < N → window k (n + 1) (set xs ((k + n) % N) x) ≡ window k n xs ++ x ∷ []
  window_more x room =
      let ys = set xs ((k + n) % N) x in
      let length_ys = length-set xs ((k + n) % N) x ∙ all in
      let length_old = length-window k n xs (omega arith) (omega arith) in
      let length_new = length-window k (n + 1) ys (omega arith) (omega arith) in
      let slot = wraps_once N (k + n) (omega arith) in
      same_lists _ _ (grind (arith, common_steps)) (λ i d h. grind (
        arith,
        common_steps,
        wraps_once N (k + i) (omega arith),
        get_or-window N k n xs low few all i d,
        get_or-window N k (n + 1) ys low (omega arith) length_ys i d,
      ))

  -- the first one, and the others
  pub window_less : (d : X) → 0 < n → window k n xs ≡ get_or xs k d ∷ window ((k + 1) % N) (n - 1) xs
  window_less e some =
      let next : (k + 1) % N < N = grind (arith, wraps_once N (k + 1) (omega arith)) in
      let length_old = length-window k n xs (omega arith) (omega arith) in
      let length_new = length-window ((k + 1) % N) (n - 1) xs (omega arith) (omega arith) in
      let old = get_or-window N k n xs low few all in
      drop_more _ 0 e (omega arith) ∙ ap₂ ◌∷◌ (grind (arith, old 0 e, wraps_once N k)) (same_lists _ _ (simp length-drop (omega arith)) (λ i d h. grind (
        arith,
        length-drop 1 (window k n xs),
        get_or-drop 1 (window k n xs) i d,
        mod-add-mod (k + 1) N i,
        old (1 + i) d,
        get_or-window N _ (n - 1) xs next (omega arith) all i d,
      )))

-- the warnings of the places
pub lies_more : (ps : List Place) (k n : ℕ) (p : Place) (w : Notice) → length ps ≡ place_count → k < place_count → n < place_count → lies p ≡ w → map lies (window k (n + 1) (set ps ((k + n) % place_count) p)) ≡ map lies (window k n ps) ++ w ∷ []
lies_more ps k n p w all low room is =
    ap (map lies) (window_more place_count k n ps low (omega arith) all p room)
    ∙ map-append lies (window k n ps) (p ∷ []) ∙ ap (λ z. map lies (window k n ps) ++ z ∷ []) is

pub first_lies : (r : Rack) (d : Place) → 0 < r.count → holding r ≡ lies (get_or r.places r.oldest d) ∷ map lies (window ((r.oldest + 1) % place_count) (r.count - 1) r.places)
first_lies r d some = ap (map lies) (window_less place_count r.oldest r.count r.places r.low r.few r.all d some)

-- where a first warning is told, something is held
pub some_held : (r : Rack) (w : Notice) → Some w ≡ slice_get (holding r) 0 → 0 < r.count
some_held r w e = omega (arith, slice_get_within (holding r) 0 w (sym e), length-holding r)

pub first-copied : (ws : List Notice) (w : Notice) (m : List ℕ) → Some w ≡ slice_get ws 0 → written 0 (octets w) m ≡ first_copied ws m
first-copied [] w m e = let z : ◌≡◌ {A = ℕ} 0 1 = cc in absurd (omega arith)
first-copied (v ∷ ws) w m e = let z : w ≡ v = cc in ap (λ z. written 0 (octets z) m) z
