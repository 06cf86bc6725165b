-- The answers of an outlet.
use Rattle.std.proofs.Common.{◌≡◌, ℕ, ◌≤◌, ltb, List, Ok, sym, ap, ◌∙◌}
use Rattle.std.proofs.lemmas.Bool.{le-ltb, cond-false}
use Rattle.warning.specs.declared.Warning.{Warning}
use Rattle.warning.specs.Notice.{Notice}
use Rattle.warning.specs.Rules.{judged}
use Rattle.outlet.specs.Meaning.{Room, units_free}
use Rattle.outlet.specs.Outcomes.{give_by, give_outcome}

-- giving what is a warning and has room
pub give_done : (room : Room) (ws : List Notice) (o : Warning ℕ) → judged o ≡ Ok tt → room.cost o ≤ units_free room ws → Ok tt ≡ give_outcome room ws o
give_done room ws o j h =
    let free = units_free room ws in
    sym (ap (λ z. give_by z (room.cost o) free) j ∙ cond-false (ltb free (room.cost o)) _ _ (le-ltb free (room.cost o) h))
