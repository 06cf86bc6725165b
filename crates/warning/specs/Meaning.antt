-- What a warning of the code means: its values, whoever has its octets.
use Rattle.std.specs.Prelude.{ℕ, List, vec_items, Option, Vec}
use Rattle.std.specs.Borrow.{Bor}
use Rattle.std.specs.Option.{option_map}
use Rattle.std.specs.declared.alloc.Global.{Global}
use Rattle.warning.specs.declared.Warning.{Warning}
use Rattle.warning.specs.Notice.{Notice, with_parts}

-- borrowed octets that may be absent
abbrev pub lent : Option (Bor (List ℕ)) → Option (List ℕ)
lent = option_map (λ octets. octets.now)

-- a warning with borrowed octets
abbrev pub said : Warning (Bor (List ℕ)) → Notice
said = with_parts (λ octets. octets.now)

-- octets of one's own that may be absent
abbrev pub kept : Option (Vec ℕ Global) → Option (List ℕ)
kept = option_map (λ octets. vec_items octets)

-- a warning with octets of its own
abbrev pub owned : Warning (Vec ℕ Global) → Notice
owned = with_parts (λ octets. vec_items octets)
