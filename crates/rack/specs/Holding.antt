-- The meaning of a rack as an outlet: the warnings in its places.
use Rattle.std.specs.Prelude.{ℕ, List, ◌++◌, take, drop, map}
use Rattle.warning.specs.Contents.{standing}
use Rattle.warning.specs.Notice.{Notice}
use Rattle.rack.specs.declared.Place.{Place}
use Rattle.rack.specs.declared.Rack.{Rack}

-- a warning stands at the start of its place
abbrev pub lies : Place → Notice
lies p = standing p.outline p.octets

-- the n places from place k on; after the last one comes the first
abbrev pub window : {X : Type 0} → ℕ → ℕ → List X → List X
window k n places = take n (drop k places ++ take k places)

abbrev pub holding : Rack → List Notice
holding r = map lies (window r.oldest r.count r.places)
