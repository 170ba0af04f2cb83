use Rattle.std.proofs.Common.{ℕ, take, ◌∙◌}
use Rattle.typed_tree.specs.Cost.{entries_in}
use Rattle.typed_tree.specs.declared.program.TypedField.{TypedField}
use Rattle.value_algebra.specs.declared.fields.TheConstants.{PAST_COLUMNS}
use Rattle.value_algebra.proofs.Columns.{cut_sum}
use Rattle.value_algebra.proofs.fields.first_column.Goals as goal

pub returns : goal.returns
returns c =
    let size : TypedField → ℕ = λ f. entries_in f.block in
    c.columns_before.ensures ∙ cut_sum PAST_COLUMNS size (take c.args.field c.args.fields.now)
