-- The text of each line of a listing.
use Rattle.std.specs.Prelude.{ℕ, Bool, true, false, List, ◌++◌, Some, None, codes, decimal, Option}
use Rattle.warning.specs.declared.Pair.{Pair}
use Rattle.warning.specs.declared.Warning.{Warning}
use Rattle.warning.specs.declared.Warning.TheVariants.{Primary, Message}
use Rattle.words.specs.Parts.{length_text}
use Rattle.tape.specs.declared.fault.TapeFault.{TapeFault}
use Rattle.tape.specs.Refusals.{of_tape, offset_of}
use Rattle.listing.specs.declared.Line.{Line}
use Rattle.listing.specs.declared.Line.TheVariants.{Entry, End, Refused}

-- whether security information is present
abbrev pub security_text : Option ℕ → List ℕ
security_text None = codes "no"
security_text (Some n) = codes "yes"

-- a warning that stands at an offset
abbrev pub primary_text : ℕ → Pair → ℕ → List ℕ → List ℕ
primary_text offset pair warning-type security =
    decimal offset ++ (codes " primary " ++ (decimal pair.identifier ++ (codes " " ++ (decimal pair.serial
    ++ (codes " type " ++ (decimal warning-type ++ (codes " security " ++ security)))))))

abbrev pub message_start : ℕ → ℕ → Pair → List ℕ
message_start offset block pair =
    decimal offset ++ (codes " message " ++ (decimal block ++ (codes " " ++ (decimal pair.identifier ++ (codes " " ++ decimal pair.serial)))))

abbrev pub message_text : List ℕ → ℕ → ℕ → List ℕ → List ℕ
message_text start coding message area =
    start ++ (codes " coding " ++ (decimal coding ++ (codes " octets " ++ (decimal message ++ (codes " area " ++ area)))))

abbrev pub entry_text : ℕ → (Warning ℕ) → List ℕ
entry_text offset (Primary pair warning-type security) = primary_text offset pair warning-type (security_text security)
entry_text offset (Message block pair coding message area) = message_text (message_start offset block pair) coding message (length_text area)

-- whether a tape was written back as it was
abbrev pub same_text : Bool → List ℕ
same_text true = codes "same"
same_text false = codes "different"

-- the end of a tape that could be read
abbrev pub end_text : ℕ → ℕ → Bool → List ℕ
end_text warnings octets same =
    codes "end " ++ (decimal warnings ++ (codes " warnings " ++ (decimal octets ++ (codes " octets " ++ same_text same))))

-- the end of one that could not: the refusal's number, and its offset
abbrev pub numbered_text : ℕ → ℕ → List ℕ
numbered_text number offset = codes "refused " ++ (decimal number ++ (codes " " ++ decimal offset))

abbrev pub refused_text : TapeFault → List ℕ
refused_text fault = numbered_text (of_tape fault).number (offset_of fault)

-- a line of a listing
abbrev pub line_text : Line → List ℕ
line_text (Entry offset outline) = entry_text offset outline
line_text (End warnings octets same) = end_text warnings octets same
line_text (Refused fault) = refused_text fault
