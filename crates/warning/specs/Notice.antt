-- A warning by its values.
use Rattle.std.specs.Prelude.{◌≡◌, ℕ, List, length, Some, None, Option}
use Rattle.std.specs.Option.{option_map}
use Rattle.warning.specs.declared.Warning.{Warning}
use Rattle.warning.specs.declared.Warning.TheVariants.{Primary, Message}

-- a warning with its octets
abbrev pub Notice : Type 0
Notice = Warning (List ℕ)

-- the same warning, each part of it turned into something else
abbrev pub with_parts : {A B : Type 0} → (A → B) → Warning A → Warning B
with_parts turned (Primary pair warning-type security) = Primary pair warning-type (option_map turned security)
with_parts turned (Message block pair coding octets area) = Message block pair coding (turned octets) (option_map turned area)

-- a warning without its octets: their lengths stand in their place
abbrev pub outline : Notice → Warning ℕ
outline = with_parts length

-- each part of a warning and of another are related, and nothing else differs
abbrev pub EachOption : {A B : Type 0} → (A → B → Type 0) → Option A → Option B → Type 0
EachOption P None r = r ≡ None
EachOption {A} {B} P (Some x) r = (y : B) × (r ≡ Some y) × P x y

abbrev pub EachPart : {A B : Type 0} → (A → B → Type 0) → Warning A → Warning B → Type 0
EachPart {A} {B} P (Primary pair warning-type security) r =
    (s : Option B) × (r ≡ Primary pair warning-type s) × EachOption P security s
EachPart {A} {B} P (Message block pair coding octets area) r =
    (m : B) × (a : Option B) × (r ≡ Message block pair coding m a) × P octets m × EachOption P area a
