use Rattle.std.proofs.Common.{◌≡◌, ◌*◌, ◌∙◌, length, refl, ap}
use Rattle.hypergraph.specs.SetValue.{SetValue}
use Rattle.hypergraph.proofs.Positions.{below-all, first_bad_in}
use Rattle.hypergraph.proofs.set_data.SetData.first_bad.Goals as goal

pub returns-in_err-index-clause-bad : goal.returns-in_err-index-clause-bad
returns-in_err-index-clause-bad c =
    let set : SetValue = c.args.self.now in
    let whole : length set.endpoints ≡ set.count * set.arity = rw (← c.self.view_is) c.self.invariant.endpoints in
    let ends_is : c.deref.result.now ≡ set.endpoints = c.deref.ensures.value ∙ ap (λ (s : SetValue). s.endpoints) c.self.view_is in
    rw c.from_residual.ensures (below-all set c.args.bound whole (rw ends_is at (c.in_err-index.ensures)))

pub returns-clause-bad : goal.returns-clause-bad
returns-clause-bad c =
    let set : SetValue = c.args.self.now in
    let whole : length set.endpoints ≡ set.count * set.arity = rw (← c.self.view_is) c.self.invariant.endpoints in
    let ends_is : c.deref.result.now ≡ set.endpoints = c.deref.ensures.value ∙ ap (λ (s : SetValue). s.endpoints) c.self.view_is in
    let arity_is : c.self.inside.arity ≡ set.arity = ap (λ (s : SetValue). s.arity) c.self.view_is in
    (refl, rw arity_is (first_bad_in set c.args.bound c.in_ok-index.index whole (rw ends_is at (c.in_ok-index.ensures))))
