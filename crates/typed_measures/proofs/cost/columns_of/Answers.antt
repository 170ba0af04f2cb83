use Rattle.std.proofs.Common.{refl, arith}
use Rattle.std.proofs.lemmas.List.Sums.{sum_by-cons}
use Rattle.typed_tree.specs.declared.program.TypedField.{TypedField}
use Rattle.typed_tree.specs.Cost.{entries_in}
use Rattle.typed_tree.specs.Declarations.{columns_of}
use Rattle.typed_measures.proofs.Limits.{part_more, part_none, within_limit}
use Rattle.typed_measures.proofs.cost.columns_of.Goals as goal

pub loop-field-preserved : goal.loop-field-preserved
loop-field-preserved c = record {
  small = within_limit _ _ c.plus-columns.ensures;
  left =
      part_more columns_of columns_of c.args.fields.now c.loop-field.field-index c.field-item.result
      (entries_in c.field-item.result.block) c.loop-field.columns c.plus-columns.result c.entries_in-part.result _
      (sum_by-cons (λ (field : TypedField). entries_in field.block) c.field-item.result)
      c.loop-field-test.true c.field-item.is c.plus-columns.ensures c.entries_in-part.ensures c.loop-field.invariant.left;
}

pub returns : goal.returns
returns c =
    part_none columns_of c.args.fields.now c.loop-field.field-index c.loop-field.columns _
    refl (omega arith) c.loop-field.invariant.small c.loop-field.invariant.left
