use Rattle.std.proofs.Common.{◌≡◌, drop}
use Rattle.vocabulary.specs.Answers.{fold_result}
use Rattle.typed_tree.specs.Declarations.{with_field}
use Rattle.declaration_types.proofs.elements.with_fields.Given as goal

-- the fields so far and those that are left give what all give
abbrev pub invariant-loop-field : goal.invariant-loop-field
invariant-loop-field l = fold_result with_field (l.typed, l.names) (drop l.field-index l.fields) ≡ fold_result with_field (l.initial.typed, l.initial.names) l.fields
