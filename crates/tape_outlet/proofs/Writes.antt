-- What writing on the tape answers, as a tape outlet answers it.
use Rattle.std.proofs.Common.{◌≡◌, ℕ, ◌+◌, ◌≤◌, Bool, true, false, cond, List, Ok, Err, Result, nat_lt, sym, refl, ap, ◌∙◌, arith}
use Rattle.std.proofs.lemmas.Bool.{ltb-false}
use Rattle.std.specs.Result.{MatchResult, IsErrAnd}
use Rattle.warning.specs.declared.Warning.{Warning}
use Rattle.warning.specs.declared.WarningFault.{WarningFault}
use Rattle.warning.specs.Notice.{Notice}
use Rattle.warning.specs.Rules.{judged}
use Rattle.tape.specs.declared.fault.WriteFault.{WriteFault}
use Rattle.tape.specs.declared.fault.WriteFault.TheVariants.{Full as NoRoom}
use Rattle.tape.specs.Format.{cost}
use Rattle.tape.specs.Writing.{cost_by, write_by, write_outcome}
use Rattle.outlet.specs.declared.OutletFault.{OutletFault}
use Rattle.outlet.specs.declared.OutletFault.TheVariants.{Full}
use Rattle.outlet.specs.Meaning.{units_free}
use Rattle.outlet.specs.Outcomes.{give_by, give_outcome}
use Rattle.tape_outlet.specs.Numbers.{tape_room}
use Rattle.tape_outlet.specs.Written.{as_outlet}

-- the answer with the outlet's fault
abbrev turned : Result ℕ WriteFault → Result ℕ OutletFault
turned (Ok end) = Ok end
turned (Err f) = Err (as_outlet f)

-- the same without the place
abbrev pub done : Result ℕ OutletFault → Result (Unit {0}) OutletFault
done (Ok end) = Ok tt
done (Err f) = Err f

turned_is : (r : Result ℕ WriteFault) (q : Result ℕ OutletFault) → MatchResult r (λ x. q ≡ Ok x) (λ f. IsErrAnd q (λ g. g ≡ as_outlet f)) → q ≡ turned r
turned_is (Ok x) q m = m
turned_is (Err f) (Ok x) m = absurd m
turned_is (Err f) (Err g) m = ap Err m

turned_ok : (r : Result ℕ WriteFault) (end : ℕ) → Ok end ≡ turned r → r ≡ Ok end
turned_ok (Ok x) end e = let z : x ≡ end = cc in ap Ok z
turned_ok (Err f) end e = let z : ◌≡◌ {A = ℕ} 0 1 = cc in absurd (omega arith)

given_by : (b : Bool) (n free at : ℕ) → done (turned (cond b (Err (NoRoom n free)) (Ok (at + n)))) ≡ cond b (Err (Full n free)) (Ok tt)
given_by true n free at = refl
given_by false n free at = refl

given : (j : Result (Unit {0}) WarningFault) (n free at : ℕ) → done (turned (write_by (cost_by j n) free at)) ≡ give_by j n free
given (Ok u) n free at = given_by (nat_lt free n) n free at
given (Err f) n free at = refl

placed_by : (b : Bool) (n free at end : ℕ) → Ok end ≡ turned (cond b (Err (NoRoom n free)) (Ok (at + n))) → (b ≡ false) × (end ≡ at + n)
placed_by true n free at end e = let z : ◌≡◌ {A = ℕ} 0 1 = cc in absurd (omega arith)
placed_by false n free at end e = (refl, cc)

placed : (j : Result (Unit {0}) WarningFault) (n free at end : ℕ) → Ok end ≡ turned (write_by (cost_by j n) free at) → (j ≡ Ok tt) × (end ≡ at + n) × (n ≤ free)
placed (Ok tt) n free at end e = let p = placed_by (nat_lt free n) n free at end e in (refl, p.1, ltb-false free n p.0)
placed (Err f) n free at end e = let z : ◌≡◌ {A = ℕ} 0 1 = cc in absurd (omega arith)

module _ (o : Warning ℕ) (free at : ℕ) (r : Result ℕ WriteFault) (q : Result ℕ OutletFault) (value : r ≡ write_outcome o free at) (cases : MatchResult r (λ x. q ≡ Ok x) (λ f. IsErrAnd q (λ g. g ≡ as_outlet f))) where
  answered : q ≡ turned (write_outcome o free at)
  answered = turned_is r q cases ∙ ap turned value

  -- what is given is answered as the tape answers it
  pub gave : (ws : List Notice) → free ≡ units_free tape_room ws → done q ≡ give_outcome tape_room ws o
  gave ws is = ap done answered ∙ given (judged o) (cost o) free at ∙ ap (give_by (judged o) (cost o)) is

  -- what is accepted is a warning, stands behind what is in use, and has room there
  pub wrote : (end : ℕ) → q ≡ Ok end → (judged o ≡ Ok tt) × (end ≡ at + cost o) × (cost o ≤ free) × (r ≡ Ok end)
  wrote end e =
      let p = placed (judged o) (cost o) free at end (sym e ∙ answered) in
      (p.0, p.1, p.2, turned_ok r end (sym e ∙ turned_is r q cases))
