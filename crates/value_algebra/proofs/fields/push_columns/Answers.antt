use Rattle.std.proofs.Common.{◌≡◌, List, ℕ, map, subst, ap, ◌∙◌}
use Rattle.std.specs.Prelude.{OnOk}
use Rattle.hypergraph.specs.Sets.{set_at}
use Rattle.value_algebra.proofs.Columns.{columns_read}
use Rattle.value_algebra.proofs.fields.push_columns.Goals as goal

pub returns : goal.returns
returns c = λ number cut.
    let set = set_at c.args.sets.now c.args.set in
    let are = ap (map (λ words. words.now)) c.deref.ensures.value ∙ c.in_ok-columns.ensures number cut in
    subst (λ (l : List ℕ). OnOk c.push_rows.result (c.push_rows.new.words.items ≡ l))
    (columns_read (λ words. words.now) set number c.args.size c.count.result c.deref.result.now c.args.words.now.items are c.count.ensures) c.push_rows.ensures
