use Rattle.std.proofs.Common.{◌≡◌, ◌-◌, ◌≤◌, cond, length, is_ok, Err, sym, ap, ◌∙◌, arith}
use Rattle.std.proofs.lemmas.Result.{err_from_is_err_and}
use Rattle.octets.specs.Octets.{written}
use Rattle.octets.proofs.Writes.{length-written}
use Rattle.warning.specs.Meaning.{said}
use Rattle.warning.specs.Notice.{outline}
use Rattle.warning.proofs.Judging.{judged_right}
use Rattle.tape.specs.Format.{encode, encode_all}
use Rattle.tape.specs.Promises.{all_warnings}
use Rattle.tape.proofs.Costs.{length-encode}
use Rattle.outlet.specs.Meaning.{units_free}
use Rattle.tape_outlet.specs.Numbers.{tape_room}
use Rattle.tape_outlet.specs.Holding.{holding}
use Rattle.tape_outlet.specs.Kept.{used_costs}
use Rattle.tape_outlet.proofs.Tapes.{held, kept_held, kept_written}
use Rattle.tape_outlet.proofs.Writes.{done, gave, wrote}
use Rattle.tape_outlet.proofs.calls.TapeOutletOutlet.give.Goals as goal

pub returns-in_err-end-clause-value : goal.returns-in_err-end-clause-value
returns-in_err-end-clause-value c =
    let s = c.args.self.now in
    let o = outline (said c.args.w) in
    let free : length s.octets - s.used ≡ units_free tape_room (holding s) = omega (arith, s.all, used_costs s) in
    let p = err_from_is_err_and c.from_residual.result c.from_residual.ensures.1 in
    p.1 ∙ ap Err p.2 ∙ sym (ap done c.in_err-end.was)
    ∙ gave o (length s.octets - s.used) s.used c.write.result c.map_err.result c.write.ensures.value c.map_err.ensures.cases (holding s) free

pub invariant_of-self-2 : goal.invariant_of-self-2
invariant_of-self-2 c =
    let s = c.args.self.now in
    let w = said c.args.w in
    let fit : s.used ≤ length s.octets = omega (arith, s.all, s.within) in
    let p = wrote (outline w) (length s.octets - s.used) s.used c.write.result c.map_err.result c.write.ensures.value c.map_err.ensures.cases c.in_ok-end.end c.in_ok-end.was in
    let right = judged_right (outline w) p.0 in
    let size = length-encode w right in
    let after = c.write.ensures.after ∙ ap (λ z. cond (is_ok z) (written s.used (encode w) s.octets) s.octets) p.3 in
    let k = kept_written s.octets c.write.new.memory (holding s) s.used fit (held s) w c.in_ok-end.end right p.1 after in
    let reads = kept_held _ _ k in
    record { all = ap length after ∙ length-written s.octets (encode w) s.used (omega (arith, fit, p.2, size)) ∙ s.all; within = omega (arith, s.all, s.within, p.1, p.2); right = ap all_warnings reads ∙ k.right; written = ap encode_all reads ∙ k.is }

pub returns-clause-value : goal.returns-clause-value
returns-clause-value c =
    let s = c.args.self.now in
    let o = outline (said c.args.w) in
    let free : length s.octets - s.used ≡ units_free tape_room (holding s) = omega (arith, s.all, used_costs s) in
    sym (ap done c.in_ok-end.was) ∙ gave o (length s.octets - s.used) s.used c.write.result c.map_err.result c.write.ensures.value c.map_err.ensures.cases (holding s) free

pub returns-clause-after : goal.returns-clause-after
returns-clause-after c =
    let s = c.args.self.now in
    let w = said c.args.w in
    let p = wrote (outline w) (length s.octets - s.used) s.used c.write.result c.map_err.result c.write.ensures.value c.map_err.ensures.cases c.in_ok-end.end c.in_ok-end.was in
    let after = c.write.ensures.after ∙ ap (λ z. cond (is_ok z) (written s.used (encode w) s.octets) s.octets) p.3 in
    kept_held _ _ (kept_written s.octets c.write.new.memory (holding s) s.used (omega (arith, s.all, s.within)) (held s) w c.in_ok-end.end (judged_right (outline w) p.0) p.1 after)
