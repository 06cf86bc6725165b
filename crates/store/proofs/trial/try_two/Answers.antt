use Rattle.std.proofs.Common.{◌≡◌, ap, ◌∙◌}
use Rattle.store.specs.Meaning.{units}
use Rattle.store.specs.Trials.{Empty}
use Rattle.store.proofs.Changes.{back}
use Rattle.store.proofs.trial.try_two.Goals as goal

pub returns : goal.returns
returns g c =
    let S = g.S.Store in
    let s₀ = c.args.store.now in
    let s₂ = c.put_two-outcome.new.store in
    let s₃ = c.drop_slot.new.self in
    let law = g.met.S.Store.placed in
    let e = c.put_two-outcome.ensures in
    let d = c.drop_slot.ensures in
    let same : S.shape s₃ ≡ S.shape s₀ = d.same ∙ e.same in
    let held : Empty (S.held s₀) c.args.slot → S.held s₃ ≡ S.held s₀ = λ none. back (S.shape s₂) (S.held s₀) (S.held s₂) (S.held s₃) c.args.slot _ none e.rest (law s₂ c.args.slot) d.value d.after in
    record {
      value = e.value;
      back = held;
      units = λ none. ap (λ z. units z (S.held s₃)) same ∙ ap (λ z. units (S.shape s₀) z) (held none);
      same = same;
    }
