use Rattle.std.proofs.Common.{◌≡◌, ◌+◌, ◌-◌, not, length, sym, refl, ap, arith}
use Rattle.std.proofs.lemmas.Bool.{not_from_true, not_from_false}
use Rattle.std.proofs.lemmas.List.{length-take-le}
use Rattle.std.proofs.lemmas.List.Filters.{FiltersInPlace-more_no, FiltersInPlace-all, length-filter_both}
use Rattle.std.proofs.lemmas.List.Sums.{length-filter}
use Rattle.keys.specs.Entries.{old}
use Rattle.keys.proofs.Slices.{stays_at}
use Rattle.keys.proofs.expire.Goals as goal
use Rattle.keys.proofs.expire.Goals.{then-takes, else-takes}

pub loop-i-preserved : goal.loop-i-preserved
loop-i-preserved g c =
    let i = c.loop-i.i in
    let went = c.loop-i.went in
    let inv = c.loop-i.invariant in
    let len = c.loop-i.auto.xs in
    let gone = old c.args.expiry c.index-xs-i.result in
    let gap : i + 1 - (went + 1) ≡ i - went = omega arith in
    let next : i + 1 - went ≡ i - went + 1 = omega arith in
    elim c.if-takes.branch [
      | then-takes w ↦ (rw (w.xs-is, w.went-is, gap) (FiltersInPlace-more_no inv.0 (omega arith) (not_from_true gone (sym {b = gone} w.if-takes.ensures)) c.index-xs-i.is), omega (arith, w.went-is))
      | else-takes w ↦ (rw (w.xs-is, w.went-is, next) (stays_at inv.0 (omega arith) (not_from_false gone (sym {b = gone} w.if-takes.ensures)) c.index-xs-i.is (omega arith)), omega (arith, w.went-is))
    ]

pub returns : goal.returns
returns g c =
    let expiry = c.args.expiry in
    let xs = c.args.xs.now in
    let inv = c.loop-i.invariant in
    let all = FiltersInPlace-all inv.0 c.loop-i-test.false in
    let stay = ap length all in
    let long = length-take-le (c.loop-i.i - c.loop-i.went) c.loop-i.xs (omega arith) in
    let both = length-filter_both (old expiry) (λ e. not (old expiry e)) (λ _. refl) xs in
    let count = length-filter (old expiry) xs in
    let here : length xs - c.loop-i.went ≡ c.loop-i.i - c.loop-i.went = omega arith in
    record { count = omega arith; within = omega arith; after = rw here all }
