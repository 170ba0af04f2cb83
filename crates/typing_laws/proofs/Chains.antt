-- Sums and products: nodes of two, from left to right.
use Rattle.std.proofs.Common.{◌≡◌, ℕ, suc, Bool, true, false, List, Option, Some, None, Ok, refl, ap, subst}
use Rattle.vocabulary.specs.Answers.{◌>>=◌}
use Rattle.type_rules.specs.Rules.{same_rule, product_rule, entrywise_rule}
use Rattle.typed_tree.specs.declared.expression.Node.{Node}
use Rattle.typed_tree.specs.declared.expression.TypedExpr.{TypedExpr}
use Rattle.typed_tree.specs.declared.expression.TypedForm.{TypedForm}
use Rattle.typed_tree.specs.Steps.{at_line}
use Rattle.typed_tree.specs.Expressions.{Chain, chained, sum_node, product_node, type_of}
use Rattle.typing_laws.specs.Expressions.{IsSumNode, IsProductNode, node_at, at_node}
use Rattle.typing_laws.specs.Expressions.IsSumNode.{first_added, first_negated, further_term}
use Rattle.typing_laws.specs.Expressions.IsProductNode.{first_factor, further_product, further_entrywise}
use Rattle.typing_laws.proofs.Steps.{same_Ok, and_then, at_line_Ok}

-- ---- nodes

pub sum_node_is : (line : ℕ) (left : Option Node) (minus : Bool) (v : TypedExpr) (next : ℕ) (n : Node) (after : ℕ)
    → IsSumNode line left minus v next n after → sum_node line left minus v next ≡ Ok (n, after)
unfolding sum_node
sum_node_is line left minus v next n after (first_added v' next') = refl
sum_node_is line left minus v next n after (first_negated v' next') = refl
sum_node_is line left minus v next n after (further_term l m w k type typed) = ap (λ r. at_line line r >>= λ t. Ok (node_at k line t, suc k)) typed

pub sum_node_split : (line : ℕ) (left : Option Node) (minus : Bool) (v : TypedExpr) (next : ℕ) (done : Node × ℕ)
    → sum_node line left minus v next ≡ Ok done → IsSumNode line left minus v next done.0 done.1
unfolding sum_node
sum_node_split line None false v next done is =
    subst (λ d. IsSumNode line None false v next d.0 d.1) (same_Ok (v.node, next) done is) (first_added v next)
sum_node_split line None true v next done is =
    subst (λ d. IsSumNode line None true v next d.0 d.1) (same_Ok (node_at next line (type_of v), suc next) done is) (first_negated v next)
sum_node_split line (Some left) minus v next done is =
    let rule = same_rule left.value_type (type_of v) in
    let t = and_then (at_line line rule) (λ t. Ok (node_at next line t, suc next)) done is in
    subst (λ d. IsSumNode line (Some left) minus v next d.0 d.1) (same_Ok (node_at next line t.0, suc next) done t.2)
    (further_term left minus v next t.0 (at_line_Ok line rule t.0 t.1))

pub product_node_is : (line : ℕ) (left : Option Node) (entrywise : Bool) (v : TypedExpr) (next : ℕ) (n : Node) (after : ℕ)
    → IsProductNode line left entrywise v next n after → product_node line left entrywise v next ≡ Ok (n, after)
unfolding product_node
product_node_is line left entrywise v next n after (first_factor e w k) = refl
product_node_is line left entrywise v next n after (further_product l w k type typed) = ap (λ r. at_line line r >>= λ t. Ok (node_at k line t, suc k)) typed
product_node_is line left entrywise v next n after (further_entrywise l w k type typed) = ap (λ r. at_line line r >>= λ t. Ok (node_at k line t, suc k)) typed

pub product_node_split : (line : ℕ) (left : Option Node) (entrywise : Bool) (v : TypedExpr) (next : ℕ) (done : Node × ℕ)
    → product_node line left entrywise v next ≡ Ok done → IsProductNode line left entrywise v next done.0 done.1
unfolding product_node
product_node_split line None entrywise v next done is =
    subst (λ d. IsProductNode line None entrywise v next d.0 d.1) (same_Ok (v.node, next) done is) (first_factor entrywise v next)
product_node_split line (Some left) false v next done is =
    let rule = product_rule left.value_type (type_of v) in
    let t = and_then (at_line line rule) (λ t. Ok (node_at next line t, suc next)) done is in
    subst (λ d. IsProductNode line (Some left) false v next d.0 d.1) (same_Ok (node_at next line t.0, suc next) done t.2)
    (further_product left v next t.0 (at_line_Ok line rule t.0 t.1))
product_node_split line (Some left) true v next done is =
    let rule = entrywise_rule left.value_type (type_of v) in
    let t = and_then (at_line line rule) (λ t. Ok (node_at next line t, suc next)) done is in
    subst (λ d. IsProductNode line (Some left) true v next d.0 d.1) (same_Ok (node_at next line t.0, suc next) done t.2)
    (further_entrywise left v next t.0 (at_line_Ok line rule t.0 t.1))

-- ---- a chain as an expression

pub chained_is : {A : Type 0} (line : ℕ) (make : List A → TypedForm) (parts : List A) (last : Node) (next : ℕ)
    → chained line make (parts, Some last, next) ≡ Ok (at_node last (make parts), next)
chained_is line make parts last next = refl

pub chained_split : {A : Type 0} (line : ℕ) (make : List A → TypedForm) (chain : Chain A) (done : TypedExpr × ℕ)
    → chained line make chain ≡ Ok done
    → (last : Node) × (chain.1 ≡ Some last) × ((at_node last (make chain.0), chain.2) ≡ done)
chained_split line make (parts, None, next) done is = absurd (cc)
chained_split line make (parts, Some last, next) done is = (last, refl, same_Ok (at_node last (make parts), next) done is)
