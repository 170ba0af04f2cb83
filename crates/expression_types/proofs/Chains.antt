-- Sums and products, part by part.
use Rattle.std.proofs.Common.{◌≡◌, ◌⊎◌, ℕ, ◌+◌, ◌<◌, ◌≤◌, List, [], ◌∷◌, ◌++◌, map, Option, Some, None, Result, Ok, Err, length, drop, get_or, refl, sym, subst, ap, ◌∙◌, inr}
use Rattle.vocabulary.specs.Answers.{◌>>=◌, fold_result}
use Rattle.sim_syntax.specs.declared.expression.Expr.TheFolds.{fold_out-SumTerm, fold_out-ProductFactor}
use Rattle.sim_syntax.specs.declared.expression.SumTerm.{SumTerm}
use Rattle.sim_syntax.specs.declared.expression.ProductFactor.{ProductFactor}
use Rattle.typed_tree.specs.declared.environment.Environment.{Environment}
use Rattle.typed_tree.specs.declared.expression.Node.{Node}
use Rattle.typed_tree.specs.declared.expression.TypedExpr.{TypedExpr}
use Rattle.typed_tree.specs.declared.expression.TypedForm.{TypedForm}
use Rattle.typed_tree.specs.declared.expression.TypedRow.{TypedRow}
use Rattle.typed_tree.specs.declared.expression.TypedTerm.{TypedTerm, roll-TypedTerm}
use Rattle.typed_tree.specs.declared.expression.TypedFactor.{TypedFactor, roll-TypedFactor}
use Rattle.typed_tree.specs.declared.fault.CheckFault.{CheckFault}
use Rattle.typed_tree.specs.declared.fault.CheckFault.TheVariants.{Memory}
use Rattle.typed_tree.specs.Expressions.{Chain, SignedStep, chained, expression, expression_node, factor_step, row_step, term_step, sum_node, with_term, product_node, with_factor}
use Rattle.typed_tree.specs.Steps.{Step, Walks}
use Rattle.expression_types.specs.Parts.{chained_form, factor, term}
use Rattle.expression_types.proofs.Loops.{fault_along, item_taken, item_refused, items_ended}

term_is : (env : Environment) (t : SumTerm) → term env t ≡ (t.minus, expression env t.value)
term_is env t = fold_out-SumTerm (Step ℕ TypedExpr) SignedStep (Step ℕ TypedRow) SignedStep (expression_node env) factor_step row_step term_step t

factor_is : (env : Environment) (f : ProductFactor) → factor env f ≡ (f.entrywise, expression env f.value)
factor_is env f = fold_out-ProductFactor (Step ℕ TypedExpr) SignedStep (Step ℕ TypedRow) SignedStep (expression_node env) factor_step row_step term_step f

-- ---- sums

-- a term, once its value is known
with_term_is : (line : ℕ) (env : Environment) (terms : List TypedTerm) (last : Option Node) (next : ℕ) (t : SumTerm) (value : Result (TypedExpr × ℕ) CheckFault)
    → expression env t.value next ≡ value
    → with_term line (terms, last, next) (term env t)
    ≡ (value >>= λ v. sum_node line last t.minus v.0 v.1 >>= λ n. Ok (terms ++ roll-TypedTerm (record { node = n.0; minus = t.minus; value = v.0 }) ∷ [], Some n.0, n.1))
with_term_is line env terms last next t value is =
    ap (with_term line (terms, last, next)) (term_is env t)
    ∙ ap (λ r. r >>= λ v. sum_node line last t.minus v.0 v.1 >>= λ n. Ok (terms ++ roll-TypedTerm (record { node = n.0; minus = t.minus; value = v.0 }) ∷ [], Some n.0, n.1)) is

pub term_taken : (line : ℕ) (env : Environment) (terms grown : List TypedTerm) (last : Option Node) (next between after : ℕ) (known : Result (Chain TypedTerm) CheckFault) (ts : List SumTerm) (i : ℕ) (t : SumTerm) (value : TypedExpr) (node : Node)
    → i < length ts → t ≡ get_or ts i t → expression env t.value next ≡ Ok (value, between) → sum_node line last t.minus value between ≡ Ok (node, after)
    → grown ≡ terms ++ roll-TypedTerm (record { node = node; minus = t.minus; value = value }) ∷ []
    → fold_result (with_term line) (terms, last, next) (map (term env) (drop i ts)) ≡ known
    → fold_result (with_term line) (grown, Some node, after) (map (term env) (drop (i + 1) ts)) ≡ known
term_taken line env terms grown last next between after known ts i t value node below here value_is node_is more so_far =
    let one = roll-TypedTerm (record { node = node; minus = t.minus; value = value }) in
    ap (λ (l : List TypedTerm). fold_result (with_term line) (l, Some node, after) (map (term env) (drop (i + 1) ts))) more
    ∙ item_taken (with_term line) (term env) (terms, last, next) (terms ++ one ∷ [], Some node, after) known ts i t below here
    (with_term_is line env terms last next t (Ok (value, between)) value_is
    ∙ ap (λ r. r >>= λ n. Ok (terms ++ roll-TypedTerm (record { node = n.0; minus = t.minus; value = value }) ∷ [], Some n.0, n.1)) node_is) so_far

-- the value of a term is refused
pub term_refused : (line : ℕ) (env : Environment) (terms : List TypedTerm) (last : Option Node) (next : ℕ) (known : Result (Chain TypedTerm) CheckFault) (ts : List SumTerm) (i : ℕ) (t : SumTerm) (fault : CheckFault)
    → i < length ts → t ≡ get_or ts i t → (fault ≡ Memory) ⊎ (expression env t.value next ≡ Err fault)
    → fold_result (with_term line) (terms, last, next) (map (term env) (drop i ts)) ≡ known → (fault ≡ Memory) ⊎ (known ≡ Err fault)
term_refused line env terms last next known ts i t fault below here value_is so_far =
    fault_along (expression env t.value next) known fault (λ is.
    item_refused (with_term line) (term env) (terms, last, next) known ts i t fault below here (with_term_is line env terms last next t (Err fault) is) so_far) value_is

-- the node up to a term is refused
pub term_node_refused : (line : ℕ) (env : Environment) (terms : List TypedTerm) (last : Option Node) (next between : ℕ) (known : Result (Chain TypedTerm) CheckFault) (ts : List SumTerm) (i : ℕ) (t : SumTerm) (value : TypedExpr) (fault : CheckFault)
    → i < length ts → t ≡ get_or ts i t → expression env t.value next ≡ Ok (value, between) → (fault ≡ Memory) ⊎ (sum_node line last t.minus value between ≡ Err fault)
    → fold_result (with_term line) (terms, last, next) (map (term env) (drop i ts)) ≡ known → (fault ≡ Memory) ⊎ (known ≡ Err fault)
term_node_refused line env terms last next between known ts i t value fault below here value_is node_is so_far =
    fault_along (sum_node line last t.minus value between) known fault (λ is.
    item_refused (with_term line) (term env) (terms, last, next) known ts i t fault below here
    (with_term_is line env terms last next t (Ok (value, between)) value_is
    ∙ ap (λ r. r >>= λ n. Ok (terms ++ roll-TypedTerm (record { node = n.0; minus = t.minus; value = value }) ∷ [], Some n.0, n.1)) is) so_far) node_is

-- ---- products

with_factor_is : (line : ℕ) (env : Environment) (factors : List TypedFactor) (last : Option Node) (next : ℕ) (f : ProductFactor) (value : Result (TypedExpr × ℕ) CheckFault)
    → expression env f.value next ≡ value
    → with_factor line (factors, last, next) (factor env f)
    ≡ (value >>= λ v. product_node line last f.entrywise v.0 v.1 >>= λ n. Ok (factors ++ roll-TypedFactor (record { node = n.0; entrywise = f.entrywise; value = v.0 }) ∷ [], Some n.0, n.1))
with_factor_is line env factors last next f value is =
    ap (with_factor line (factors, last, next)) (factor_is env f)
    ∙ ap (λ r. r >>= λ v. product_node line last f.entrywise v.0 v.1 >>= λ n. Ok (factors ++ roll-TypedFactor (record { node = n.0; entrywise = f.entrywise; value = v.0 }) ∷ [], Some n.0, n.1)) is

pub factor_taken : (line : ℕ) (env : Environment) (factors grown : List TypedFactor) (last : Option Node) (next between after : ℕ) (known : Result (Chain TypedFactor) CheckFault) (fs : List ProductFactor) (i : ℕ) (f : ProductFactor) (value : TypedExpr) (node : Node)
    → i < length fs → f ≡ get_or fs i f → expression env f.value next ≡ Ok (value, between) → product_node line last f.entrywise value between ≡ Ok (node, after)
    → grown ≡ factors ++ roll-TypedFactor (record { node = node; entrywise = f.entrywise; value = value }) ∷ []
    → fold_result (with_factor line) (factors, last, next) (map (factor env) (drop i fs)) ≡ known
    → fold_result (with_factor line) (grown, Some node, after) (map (factor env) (drop (i + 1) fs)) ≡ known
factor_taken line env factors grown last next between after known fs i f value node below here value_is node_is more so_far =
    let one = roll-TypedFactor (record { node = node; entrywise = f.entrywise; value = value }) in
    ap (λ (l : List TypedFactor). fold_result (with_factor line) (l, Some node, after) (map (factor env) (drop (i + 1) fs))) more
    ∙ item_taken (with_factor line) (factor env) (factors, last, next) (factors ++ one ∷ [], Some node, after) known fs i f below here
    (with_factor_is line env factors last next f (Ok (value, between)) value_is
    ∙ ap (λ r. r >>= λ n. Ok (factors ++ roll-TypedFactor (record { node = n.0; entrywise = f.entrywise; value = value }) ∷ [], Some n.0, n.1)) node_is) so_far

pub factor_refused : (line : ℕ) (env : Environment) (factors : List TypedFactor) (last : Option Node) (next : ℕ) (known : Result (Chain TypedFactor) CheckFault) (fs : List ProductFactor) (i : ℕ) (f : ProductFactor) (fault : CheckFault)
    → i < length fs → f ≡ get_or fs i f → (fault ≡ Memory) ⊎ (expression env f.value next ≡ Err fault)
    → fold_result (with_factor line) (factors, last, next) (map (factor env) (drop i fs)) ≡ known → (fault ≡ Memory) ⊎ (known ≡ Err fault)
factor_refused line env factors last next known fs i f fault below here value_is so_far =
    fault_along (expression env f.value next) known fault (λ is.
    item_refused (with_factor line) (factor env) (factors, last, next) known fs i f fault below here (with_factor_is line env factors last next f (Err fault) is) so_far) value_is

pub factor_node_refused : (line : ℕ) (env : Environment) (factors : List TypedFactor) (last : Option Node) (next between : ℕ) (known : Result (Chain TypedFactor) CheckFault) (fs : List ProductFactor) (i : ℕ) (f : ProductFactor) (value : TypedExpr) (fault : CheckFault)
    → i < length fs → f ≡ get_or fs i f → expression env f.value next ≡ Ok (value, between) → (fault ≡ Memory) ⊎ (product_node line last f.entrywise value between ≡ Err fault)
    → fold_result (with_factor line) (factors, last, next) (map (factor env) (drop i fs)) ≡ known → (fault ≡ Memory) ⊎ (known ≡ Err fault)
factor_node_refused line env factors last next between known fs i f value fault below here value_is node_is so_far =
    fault_along (product_node line last f.entrywise value between) known fault (λ is.
    item_refused (with_factor line) (factor env) (factors, last, next) known fs i f fault below here
    (with_factor_is line env factors last next f (Ok (value, between)) value_is
    ∙ ap (λ r. r >>= λ n. Ok (factors ++ roll-TypedFactor (record { node = n.0; entrywise = f.entrywise; value = value }) ∷ [], Some n.0, n.1)) is) so_far) node_is

-- ---- the whole chain

-- a chain that went through is an expression, if it has a part
chain_made : {A : Type 0} (line : ℕ) (make : List A → TypedForm) (parts : List A) (last : Option Node) (next : ℕ)
    → Walks (chained line make (parts, last, next)) (chained_form line last (make parts)) next
chain_made line make parts None next = inr refl
chain_made line make parts (Some node) next = refl

-- a sum or a product of which no part is left
pub chain_ended : {A B X : Type 0} (step : Chain A → B → Result (Chain A) CheckFault) (f : X → B) (line : ℕ) (make : List A → TypedForm) (parts : List A) (last : Option Node) (next : ℕ) (known : Result (Chain A) CheckFault) (xs : List X) (i : ℕ)
    → length xs ≤ i → fold_result step (parts, last, next) (map f (drop i xs)) ≡ known
    → Walks (known >>= chained line make) (chained_form line last (make parts)) next
chain_ended step f line make parts last next known xs i past so_far =
    subst (λ k. Walks (k >>= chained line make) (chained_form line last (make parts)) next) (sym (items_ended step f (parts, last, next) known xs i past so_far))
    (chain_made line make parts last next)
