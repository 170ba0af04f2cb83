use Rattle.std.proofs.Common.{◌≡◌, ◌+◌, arith}
use Rattle.std.specs.Prelude.{min}
use Rattle.value_algebra.specs.declared.fields.TheConstants.{PAST_COLUMNS}
use Rattle.hypergraph.specs.Sets.{set_at}
use Rattle.value_algebra.proofs.Columns.{next_column}
use Rattle.value_algebra.proofs.fields.columns_from.Goals as goal

pub loop-component-preserved : goal.loop-component-preserved
loop-component-preserved c = λ number cut.
    let n = c.loop-component.component in
    let further : c.further.result ≡ min (c.args.first + n) PAST_COLUMNS = c.further.ensures in
    let here : min (number + n) PAST_COLUMNS ≡ c.further.result = omega (arith, cut, further) in
    next_column (λ words. words.now) (set_at c.args.sets.now c.args.set) number n c.loop-component.columns.items c.push.new.self.items c.column.result
    (c.loop-component.invariant number cut) c.in_ok-push.ensures.items (c.column.ensures (number + n) here)
