-- The number of each refusal and the values that come with it, case by case.
use Rattle.std.specs.Prelude.{ℕ, List, [], ◌++◌, codes, decimal}
use Rattle.warning.specs.declared.Refusal.{Refusal}
use Rattle.warning.specs.declared.Values.{Values}
use Rattle.warning.specs.declared.Values.TheVariants.{Nothing, One, Two}
use Rattle.warning.specs.declared.WarningFault.{WarningFault}
use Rattle.warning.specs.declared.WarningFault.TheVariants.{Block, Area, TooLong, Security}

abbrev pub refusal : ℕ → Values → Refusal
refusal n beside = record { number = n; values = beside }

abbrev pub of_warning : WarningFault → Refusal
of_warning (Block block) = refusal 3 (One block)
of_warning Area = refusal 6 Nothing
of_warning (TooLong count) = refusal 7 (One count)
of_warning (Security length) = refusal 15 (One length)

-- the text of a refusal: its number, and then its values
abbrev pub values_text : Values → List ℕ
values_text Nothing = []
values_text (One first) = codes " " ++ decimal first
values_text (Two first second) = codes " " ++ (decimal first ++ (codes " " ++ decimal second))

abbrev pub refusal_text : Refusal → List ℕ
refusal_text r = codes "refused " ++ (decimal r.number ++ values_text r.values)
