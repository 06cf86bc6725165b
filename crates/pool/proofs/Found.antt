-- What a look-up at a place tells of the segment held there.
use Rattle.std.proofs.Common.{◌≡◌, ℕ, ◌+◌, ◌≤◌, List, ◌++◌, length, take, drop, false, is_some, None, Ok, Option, sym, refl, ap, ◌∙◌, arith}
use Rattle.std.proofs.lemmas.List.{length-take-le}
use Rattle.octets.specs.Octets.{written}
use Rattle.store.specs.Meaning.{Held, standing, count_of}
use Rattle.store.specs.Outcomes.{at_place, look_up, copied, judged_place, judged_memory}
use Rattle.store.proofs.Changes.{none_if}
use Rattle.store.proofs.Places.{there, at_there, found, roomy}
use Rattle.store.proofs.Standing.{copied-standing, standing-written}
use Rattle.pool.specs.declared.blocks.Blocks.{Blocks}
use Rattle.pool.specs.declared.stored.Stored.{Stored}
use Rattle.pool.specs.Numbers.{slot_count, blocks_for, pool_shape}
use Rattle.pool.specs.Chains.{links, parts, gathered, stored, segment_of, laid_at, held_in}
use Rattle.pool.specs.Laws.{held_at}
use Rattle.pool.proofs.Held.{enough, held_taken}

-- what stands in the table is held at its place
module _ (octets : List (List ℕ)) (next : List ℕ) (ps : List (Option Stored)) (slot n i : ℕ) (o : Option Stored) (p : Ok i ≡ judged_place slot_count slot n) (is : o ≡ stored ps i) where
  there_held : held_in octets next ps slot n ≡ laid_at octets next o
  there_held = held_at octets next ps slot n i (there slot_count slot n i p) ∙ ap (laid_at octets next) (sym is)

  pub found_at : Ok (laid_at octets next o) ≡ at_place pool_shape slot n (Ok (held_in octets next ps slot n))
  found_at = ap Ok (sym there_held) ∙ at_there pool_shape slot n i (Ok (held_in octets next ps slot n)) (there slot_count slot n i p)

  pub taken_at : is_some (held_in octets next ps slot n) ≡ is_some o
  taken_at = held_taken octets next ps slot n i (there slot_count slot n i p) ∙ ap is_some (sym is)

  pub vacant_at : is_some o ≡ false → held_in octets next ps slot n ≡ None
  vacant_at e = none_if _ (taken_at ∙ e)

-- the octets of a segment, gathered into the front of a memory
module _ (b : Blocks) (q : Stored) (k : ℕ) (m front : List ℕ) (c : k ≡ count_of q.lengths) (e : front ≡ take (length (take k m)) (gathered (parts b) (links b) q.first.block (blocks_for (length (take k m))))) where
  fronted : k ≤ length m → front ++ drop k m ≡ written 0 (take k (gathered (parts b) (links b) q.first.block (blocks_for (count_of q.lengths)))) m
  fronted fits =
      let g = gathered (parts b) (links b) q.first.block (blocks_for (count_of q.lengths)) in
      let n : length (take k m) ≡ k = length-take-le k m fits in
      let f : front ≡ take k g = e ∙ ap (λ z. take z (gathered (parts b) (links b) q.first.block (blocks_for z))) n ∙ ap (λ z. take k (gathered (parts b) (links b) q.first.block (blocks_for z))) c in
      let l = length-take-le k g (omega (arith, enough b q)) in
      let w : k ≡ 0 + length (take k g) = omega arith in
      ap (λ z. z ++ drop k m) f ∙ ap (λ z. take k g ++ drop z m) w

  pub standing_gathered : k ≤ length m → standing q.lengths (front ++ drop k m) ≡ segment_of (parts b) (links b) q
  standing_gathered fits = standing-written q.lengths k _ _ m _ c refl (enough b q) (fronted fits)

  pub copied_gathered : (h : Held) (slot n : ℕ) (u : Unit {0}) → Ok (segment_of (parts b) (links b) q) ≡ look_up pool_shape h slot n → Ok u ≡ judged_memory (length m) k → front ++ drop k m ≡ copied (h slot n) m
  copied_gathered h slot n u p r = copied-standing (h slot n) q.lengths k k _ m _ (found pool_shape h slot n _ p) (enough b q) c refl (fronted (roomy _ _ _ r))
