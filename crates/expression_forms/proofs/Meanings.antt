-- The forms of typed expressions and their values.
use Rattle.std.proofs.Common.{◌≡◌, ℕ, List, map, Result, Ok, sym, ap, ◌∙◌}
use Rattle.std.proofs.Math.Path.{fun_ext}
use Rattle.ring_words.specs.declared.trap.TrapKind.{TrapKind}
use Rattle.type_rules.specs.Types.{scale_of}
use Rattle.type_rules.specs.declared.types.NodeType.{NodeType}
use Rattle.typed_tree.specs.declared.expression.Node.{Node}
use Rattle.typed_tree.specs.declared.expression.Referent.{Referent}
use Rattle.typed_tree.specs.declared.expression.TypedExpr.{TypedExpr}
use Rattle.typed_tree.specs.declared.expression.TypedFactor.{TypedFactor}
use Rattle.typed_tree.specs.declared.expression.TypedRow.{TypedRow}
use Rattle.typed_tree.specs.declared.expression.TypedForm.{TypedForm}
use Rattle.typed_tree.specs.declared.expression.TypedForm as tree
use Rattle.typed_tree.specs.declared.expression.TypedForm.TheVariants as form
use Rattle.typed_tree.specs.declared.expression.TypedForm.TheOpen.{TypedForm-F}
use Rattle.typed_tree.specs.declared.expression.TypedForm.TheFolds.{fold_out-TypedExpr, fold_out-TypedFactor, fold_out-TypedTerm, fold-roll-TypedForm}
use Rattle.typed_tree.specs.declared.expression.TypedTerm.{TypedTerm}
use Rattle.value_algebra.specs.declared.value.Value.{Value}
use Rattle.value_algebra.specs.Value.{number}
use Rattle.algebra_meaning.specs.Expression as spec
use Rattle.algebra_meaning.specs.Expression.{Meant, Operand, Part, Scope, expression_part, factor_of, form_meaning, form_of, meaning, part_of, reference, row_of, row_values, sum, product, term_of, transposed_part, rescaled_part, quotient, root, scalar_product}
use Rattle.expression_forms.specs.Meanings.{at_node, part_is, term_operand, factor_operand}

module _ (scope : Scope) where
  part_out : (e : TypedExpr) → part_of scope e ≡ record { type = e.node.value_type; meant = form_of scope e.form e.node.value_type }
  part_out e = fold_out-TypedExpr (NodeType → Meant) Part Operand (Result (List Value) TrapKind) Operand (form_meaning scope) expression_part spec.factor_operand row_values spec.term_operand e

  parts_are : part_of scope ≡ part_is scope
  parts_are = fun_ext (λ e. part_out e ∙ sym (ap (λ (p : Part). record { type = e.node.value_type; meant = p.meant }) (part_out e)))

  terms_are : term_of scope ≡ term_operand scope
  terms_are = fun_ext (λ t.
      fold_out-TypedTerm (NodeType → Meant) Part Operand (Result (List Value) TrapKind) Operand (form_meaning scope) expression_part spec.factor_operand row_values spec.term_operand t
      ∙ ap (λ f. record { type = t.node.value_type; sign = t.minus; part = f t.value }) parts_are)

  factors_are : factor_of scope ≡ factor_operand scope
  factors_are = fun_ext (λ f.
      fold_out-TypedFactor (NodeType → Meant) Part Operand (Result (List Value) TrapKind) Operand (form_meaning scope) expression_part spec.factor_operand row_values spec.term_operand f
      ∙ ap (λ g. record { type = f.node.value_type; sign = f.entrywise; part = g f.value }) parts_are)

  -- the value at a node is that of the form
  at_is : (node : Node) (f : TypedForm) → meaning scope (at_node node f) ≡ form_of scope f node.value_type
  at_is node f = ap (λ (p : Part). p.meant) (part_out (at_node node f))

  rolled : (x : TypedForm-F TypedForm TypedExpr TypedFactor TypedRow TypedTerm) (type : NodeType)
      → form_of scope (tree.roll-TypedForm x) type
      ≡ form_meaning scope (tree.map-TypedForm TypedForm TypedExpr TypedFactor TypedRow TypedTerm (NodeType → Meant) Part Operand (Result (List Value) TrapKind) Operand
      (form_of scope) (part_of scope) (factor_of scope) (row_of scope) (term_of scope) x) type
  rolled x type = ap (λ f. f type)
      (fold-roll-TypedForm (NodeType → Meant) Part Operand (Result (List Value) TrapKind) Operand (form_meaning scope) expression_part spec.factor_operand row_values spec.term_operand x)

  pub number_is : (node : Node) (word : ℕ) → meaning scope (at_node node (form.Number word)) ≡ Ok (number word)
  unfolding form_meaning
  number_is node word = at_is node (form.Number word) ∙ ap (λ f. form_of scope f node.value_type) (sym (form.rolls-Number word)) ∙ rolled (TypedForm-F.Number word) node.value_type

  pub reference_is : (node : Node) (what : Referent) (args indices : List TypedExpr)
      → meaning scope (at_node node (form.Ref what args indices)) ≡ reference scope what (map (part_is scope) args) (map (part_is scope) indices)
  unfolding form_meaning
  reference_is node what args indices =
      at_is node (form.Ref what args indices) ∙ ap (λ f. form_of scope f node.value_type) (sym (form.rolls-Ref what args indices))
      ∙ rolled (TypedForm-F.Ref what args indices) node.value_type ∙ ap (λ f. reference scope what (map f args) (map f indices)) parts_are

  pub sum_is : (node : Node) (terms : List TypedTerm) → meaning scope (at_node node (form.Sum terms)) ≡ sum (map (term_operand scope) terms)
  unfolding form_meaning
  sum_is node terms =
      at_is node (form.Sum terms) ∙ ap (λ f. form_of scope f node.value_type) (sym (form.rolls-Sum terms))
      ∙ rolled (TypedForm-F.Sum terms) node.value_type ∙ ap (λ f. sum (map f terms)) terms_are

  pub product_is : (node : Node) (factors : List TypedFactor) → meaning scope (at_node node (form.Product factors)) ≡ product (map (factor_operand scope) factors)
  unfolding form_meaning
  product_is node factors =
      at_is node (form.Product factors) ∙ ap (λ f. form_of scope f node.value_type) (sym (form.rolls-Product factors))
      ∙ rolled (TypedForm-F.Product factors) node.value_type ∙ ap (λ f. product (map f factors)) factors_are

  pub transposed_is : (node : Node) (value : TypedExpr) → meaning scope (at_node node (form.Transposed value)) ≡ transposed_part (part_is scope value)
  unfolding form_meaning
  transposed_is node value =
      at_is node (form.Transposed value) ∙ ap (λ f. form_of scope f node.value_type) (sym (form.rolls-Transposed value))
      ∙ rolled (TypedForm-F.Transposed value) node.value_type ∙ ap (λ f. transposed_part (f value)) parts_are

  pub rescale_is : (node : Node) (value : TypedExpr) → meaning scope (at_node node (form.Rescale value)) ≡ rescaled_part (scale_of node.value_type) (part_is scope value)
  unfolding form_meaning
  rescale_is node value =
      at_is node (form.Rescale value) ∙ ap (λ f. form_of scope f node.value_type) (sym (form.rolls-Rescale value))
      ∙ rolled (TypedForm-F.Rescale value) node.value_type ∙ ap (λ f. rescaled_part (scale_of node.value_type) (f value)) parts_are

  pub quot_is : (node : Node) (dividend divisor : TypedExpr)
      → meaning scope (at_node node (form.Quot dividend divisor)) ≡ quotient (scale_of node.value_type) (part_is scope dividend) (part_is scope divisor)
  unfolding form_meaning
  quot_is node dividend divisor =
      at_is node (form.Quot dividend divisor) ∙ ap (λ f. form_of scope f node.value_type) (sym (form.rolls-Quot dividend divisor))
      ∙ rolled (TypedForm-F.Quot dividend divisor) node.value_type ∙ ap (λ f. quotient (scale_of node.value_type) (f dividend) (f divisor)) parts_are

  pub isqrt_is : (node : Node) (value : TypedExpr) → meaning scope (at_node node (form.Isqrt value)) ≡ root (scale_of node.value_type) (part_is scope value)
  unfolding form_meaning
  isqrt_is node value =
      at_is node (form.Isqrt value) ∙ ap (λ f. form_of scope f node.value_type) (sym (form.rolls-Isqrt value))
      ∙ rolled (TypedForm-F.Isqrt value) node.value_type ∙ ap (λ f. root (scale_of node.value_type) (f value)) parts_are

  pub dot_is : (node : Node) (left right : TypedExpr)
      → meaning scope (at_node node (form.Dot left right)) ≡ scalar_product (part_is scope left) (part_is scope right)
  unfolding form_meaning
  dot_is node left right =
      at_is node (form.Dot left right) ∙ ap (λ f. form_of scope f node.value_type) (sym (form.rolls-Dot left right))
      ∙ rolled (TypedForm-F.Dot left right) node.value_type ∙ ap (λ f. scalar_product (f left) (f right)) parts_are
