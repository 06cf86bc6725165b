-- The length of a part that may be absent, as a word.
use Rattle.std.specs.Prelude.{◌≡◌, ◌≢◌, ℕ, List, Some, None, Ok, Err, Option, Result, codes, decimal}
use Rattle.std.specs.declared.num.ParseIntError.{ParseIntError}
use Rattle.std.specs.Str.Parse.{ParsesUnsigned}
use Rattle.words.specs.declared.PartLength.{PartLength}

-- a dash stands for an absent part
abbrev pub length_text : Option ℕ → List ℕ
length_text None = codes "-"
length_text (Some n) = decimal n

abbrev pub part_text : PartLength → List ℕ
part_text p = length_text p.0

-- a word that is no dash is read as a number
abbrev pub LengthRead : List ℕ → Option ℕ → Type 0
LengthRead word None = word ≡ codes "-"
LengthRead word (Some n) = ParsesUnsigned {E = ParseIntError} 64 10 word (Ok n)

abbrev pub PartRead : List ℕ → Result PartLength ParseIntError → Type 0
PartRead word (Ok p) = LengthRead word p.0
PartRead word (Err e) = (word ≢ codes "-") × ParsesUnsigned 64 10 word (Err e)
