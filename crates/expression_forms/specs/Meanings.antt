-- What the definition of values says of each form of typed expression.
use Rattle.std.specs.Prelude.{◌≡◌, ℕ, List, map, Ok}
use Rattle.type_rules.specs.Types.{scale_of}
use Rattle.typed_tree.specs.declared.expression.Node.{Node}
use Rattle.typed_tree.specs.declared.expression.Referent.{Referent}
use Rattle.typed_tree.specs.declared.expression.TypedExpr.{TypedExpr, roll-TypedExpr}
use Rattle.typed_tree.specs.declared.expression.TypedFactor.{TypedFactor}
use Rattle.typed_tree.specs.declared.expression.TypedForm.{TypedForm}
use Rattle.typed_tree.specs.declared.expression.TypedForm.TheVariants as form
use Rattle.typed_tree.specs.declared.expression.TypedTerm.{TypedTerm}
use Rattle.value_algebra.specs.Value.{number}
use Rattle.algebra_meaning.specs.Expression.{Operand, Part, Scope, meaning, reference, sum, product, transposed_part, rescaled_part, quotient, root, scalar_product}

-- an expression of a form at a node
abbrev pub at_node : Node → TypedForm → TypedExpr
at_node node form = roll-TypedExpr (record { node = node; form = form })

-- an expression as a part, a term of a sum and a factor of a product
abbrev pub part_is : Scope → TypedExpr → Part
part_is scope e = record { type = e.node.value_type; meant = meaning scope e }

abbrev pub term_operand : Scope → TypedTerm → Operand
term_operand scope t = record { type = t.node.value_type; sign = t.minus; part = part_is scope t.value }

abbrev pub factor_operand : Scope → TypedFactor → Operand
factor_operand scope f = record { type = f.node.value_type; sign = f.entrywise; part = part_is scope f.value }

pub record MeaningForms : Type 0 where
  pub number_is : (scope : Scope) (node : Node) (word : ℕ) → meaning scope (at_node node (form.Number word)) ≡ Ok (number word)
  pub reference_is : (scope : Scope) (node : Node) (what : Referent) (args indices : List TypedExpr)
      → meaning scope (at_node node (form.Ref what args indices)) ≡ reference scope what (map (part_is scope) args) (map (part_is scope) indices)
  pub sum_is : (scope : Scope) (node : Node) (terms : List TypedTerm) → meaning scope (at_node node (form.Sum terms)) ≡ sum (map (term_operand scope) terms)
  pub product_is : (scope : Scope) (node : Node) (factors : List TypedFactor) → meaning scope (at_node node (form.Product factors)) ≡ product (map (factor_operand scope) factors)
  pub transposed_is : (scope : Scope) (node : Node) (value : TypedExpr) → meaning scope (at_node node (form.Transposed value)) ≡ transposed_part (part_is scope value)
  -- the value at the scale of the node's own type
  pub rescale_is : (scope : Scope) (node : Node) (value : TypedExpr)
      → meaning scope (at_node node (form.Rescale value)) ≡ rescaled_part (scale_of node.value_type) (part_is scope value)
  pub quot_is : (scope : Scope) (node : Node) (dividend divisor : TypedExpr)
      → meaning scope (at_node node (form.Quot dividend divisor)) ≡ quotient (scale_of node.value_type) (part_is scope dividend) (part_is scope divisor)
  pub isqrt_is : (scope : Scope) (node : Node) (value : TypedExpr)
      → meaning scope (at_node node (form.Isqrt value)) ≡ root (scale_of node.value_type) (part_is scope value)
  pub dot_is : (scope : Scope) (node : Node) (left right : TypedExpr)
      → meaning scope (at_node node (form.Dot left right)) ≡ scalar_product (part_is scope left) (part_is scope right)
