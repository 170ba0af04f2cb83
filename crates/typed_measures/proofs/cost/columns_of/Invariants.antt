use Rattle.std.proofs.Common.{◌≡◌, suc, ◌+◌, ◌≤◌, drop}
use Rattle.vocabulary.specs.declared.limits.TheConstants.{MOST_FUNCTION_COST}
use Rattle.typed_tree.specs.Declarations.{columns_of}
use Rattle.typed_measures.specs.Limited.{limited}
use Rattle.typed_measures.proofs.cost.columns_of.Given as goal

-- the columns of the fields so far and of those that are left are those of all
abbrev pub invariant-loop-field : goal.invariant-loop-field
invariant-loop-field l = record {
  small : l.columns ≤ suc MOST_FUNCTION_COST;
  left : limited (l.columns + columns_of (drop l.field-index l.fields)) ≡ limited (columns_of l.fields);
}
