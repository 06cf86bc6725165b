-- Two segments put one after the other, for a trial.
use Rattle.std.specs.Prelude.{◌≡◌, ℕ, None, Result}
use Rattle.std.specs.Result.{result_and}
use Rattle.store.specs.declared.StoreFault.{StoreFault}
use Rattle.store.specs.Meaning.{Content, Held, Shape, with_segment}
use Rattle.store.specs.Outcomes.{put_outcome}

-- the first refusal, or that both were put
abbrev pub two_outcome : Shape → Held → ℕ → Content → Content → Result (Unit {0}) StoreFault
two_outcome shape h slot x y = result_and (put_outcome shape h slot 0 x) (put_outcome shape (with_segment h slot 0 x) slot 1 y)

-- nothing is held in a slot
abbrev pub Empty : Held → ℕ → Type 0
Empty h slot = (number : ℕ) → h slot number ≡ None
