-- What copying out leaves in a memory.
use Rattle.std.proofs.Common.{◌≡◌, ℕ, List, length, Ok, arith}
use Rattle.store.specs.Meaning.{Content, Held, count, spread}
use Rattle.store.specs.Outcomes.{look_up, copied, judged_memory}
use Rattle.store.proofs.Places.{found, roomy}
use Rattle.store.proofs.Standing.{spread_is}
use Rattle.berths.specs.Numbers.{berths_shape}

pub copied_found : (h : Held) (slot number : ℕ) (seg : Content) (memory : List ℕ) (n : ℕ) (u : Unit {0}) → Ok seg ≡ look_up berths_shape h slot number → n ≡ count seg → Ok u ≡ judged_memory (length memory) n → spread seg memory ≡ copied (h slot number) memory
copied_found h slot number seg memory n u e c r =
    let held = found berths_shape h slot number seg e in
    let room = roomy _ _ _ r in
    rw held (spread_is seg memory (omega arith))
