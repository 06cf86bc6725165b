-- What a reader of a whole tape means: where it stands, and the warnings that it has read.
use Rattle.std.specs.Prelude.{◌≡◌, ℕ, ◌<◌, List, [], ◌∷◌, ◌++◌, map, length, drop, Some, None, Ok, Err, vec_items, Option, Result, Vec}
use Rattle.std.specs.declared.alloc.Global.{Global}
use Rattle.warning.specs.declared.Warning.{Warning}
use Rattle.warning.specs.Notice.{Notice}
use Rattle.warning.specs.Meaning.{owned}
use Rattle.tape.specs.declared.reader.TapeReader.{TapeReader}
use Rattle.tape.specs.declared.fault.TapeFault.{TapeFault}
use Rattle.tape.specs.declared.fault.Failure.{Failure}
use Rattle.tape.specs.declared.fault.Failure.TheVariants.{Fault, Memory}
use Rattle.tape.specs.Reading.{Place, place, entry}

abbrev pub whole_tape : TapeReader → List ℕ
whole_tape r = r.tape.now

-- the place of the next warning
abbrev pub stands_at : TapeReader → Place
stands_at r = place r.at (drop r.at (whole_tape r))

-- the warnings so far
abbrev pub read_so_far : TapeReader → List Notice
read_so_far r = map owned (vec_items r.read)

-- The next warning is added at the end and its offset answered; after the last one there is none.
-- A refusal, and want of memory, leave the reader as it was.
abbrev pub Next : Place → List Notice → Place → List Notice → Result (Option ℕ) (Failure TapeFault) → Type 0
Next p ws q vs (Ok (Some offset)) = (offset ≡ p.at) × (length q.rest < length p.rest) × ((w : Notice) × (entry p ≡ Ok (w, q)) × (vs ≡ ws ++ (w ∷ [])))
Next p ws q vs (Ok None) = (length p.rest ≡ 0) × (q ≡ p) × (vs ≡ ws)
Next p ws q vs (Err (Fault f)) = (0 < length p.rest) × (entry p ≡ Err f) × (q ≡ p) × (vs ≡ ws)
Next p ws q vs (Err Memory) = (q ≡ p) × (vs ≡ ws)

-- a whole tape in memory of its own; where that is wanting, nothing is said
abbrev pub ReadAs : Result (List Notice) TapeFault → Result (Vec (Warning (Vec ℕ Global)) Global) (Failure TapeFault) → Type 0
ReadAs r (Ok ws) = r ≡ Ok (map owned (vec_items ws))
ReadAs r (Err (Fault f)) = r ≡ Err f
ReadAs r (Err Memory) = Unit {0}
