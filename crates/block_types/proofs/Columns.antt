-- The columns of fields.
use Rattle.std.proofs.Common.{ℕ, ◌≤◌, List, take, arith}
use Rattle.std.proofs.lemmas.List.Sums.{sum_by-take-drop}
use Rattle.typed_tree.specs.declared.program.TypedField.{TypedField}
use Rattle.typed_tree.specs.Cost.{entries_in}
use Rattle.typed_tree.specs.Declarations.{columns_of}

-- the fields before one have no more columns than all
pub columns_before : (fields : List TypedField) (field : ℕ) → columns_of (take field fields) ≤ columns_of fields
columns_before fields field = omega (arith, sum_by-take-drop (λ (f : TypedField). entries_in f.block) fields field)
