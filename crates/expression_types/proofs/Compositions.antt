-- Expressions of each form, once their parts have answered.
use Rattle.std.proofs.Common.{◌≡◌, ◌⊎◌, ℕ, List, map, Option, Result, Ok, Err, refl, sym, subst, ap, ◌∙◌}
use Rattle.vocabulary.specs.Answers.{◌>>=◌}
use Rattle.sim_syntax.specs.declared.expression.Expr.{Expr}
use Rattle.sim_syntax.specs.declared.expression.Expr.TheVariants as expr
use Rattle.sim_syntax.specs.declared.expression.Expr.TheOpen.{Expr-F}
use Rattle.sim_syntax.specs.declared.expression.Expr.TheFolds.{fold-roll-Expr, fold_out-Row}
use Rattle.sim_syntax.specs.declared.expression.Row.{Row}
use Rattle.type_rules.specs.Rules.{rescale_rule, quot_rule, isqrt_rule, dot_rule}
use Rattle.type_rules.specs.declared.types.NodeType.{NodeType}
use Rattle.type_rules.specs.declared.types.TypeKind.{TypeKind}
use Rattle.typed_tree.specs.declared.environment.Environment.{Environment}
use Rattle.typed_tree.specs.declared.expression.TypedExpr.{TypedExpr}
use Rattle.typed_tree.specs.declared.expression.TypedForm.{TypedForm}
use Rattle.typed_tree.specs.declared.expression.TypedForm.TheVariants as form
use Rattle.typed_tree.specs.declared.expression.TypedRow.{TypedRow, roll-TypedRow}
use Rattle.typed_tree.specs.declared.fault.CheckFault.{CheckFault}
use Rattle.typed_tree.specs.declared.fault.CheckFault.TheVariants.{Memory}
use Rattle.typed_tree.specs.Literals.{whole}
use Rattle.typed_tree.specs.Names.{Name}
use Rattle.typed_tree.specs.Expressions.{SignedStep, binary, expression, expression_node, expressions, factor_step, reference, reference_rule, row_step, term_step, type_of, unary}
use Rattle.typed_tree.specs.Steps.{Step, Walks, several}
use Rattle.expression_types.specs.Parts.{made, referred, row}
use Rattle.expression_types.proofs.Loops.{fault_along}

-- what is answered of one thing is answered of its equal
pub along : {A S : Type 0} (known other : Result (A × S) CheckFault) (answer : Result A CheckFault) (after : S) → known ≡ other → Walks other answer after → Walks known answer after
along known other answer after same walks = subst (λ k. Walks k answer after) (sym same) walks

-- ---- two parts

-- the second part and what is made of both
abbrev second : (NodeType → NodeType → Result NodeType TypeKind) → (TypedExpr → TypedExpr → TypedForm) → ℕ → TypedExpr → Result (TypedExpr × ℕ) CheckFault → Result (TypedExpr × ℕ) CheckFault
second rule make line l right = right >>= λ r. made (rule (type_of l) (type_of r.0)) (make l r.0) line r.1

binary_first : (rule : NodeType → NodeType → Result NodeType TypeKind) (make : TypedExpr → TypedExpr → TypedForm) (line : ℕ) (left right : Step ℕ TypedExpr) (next : ℕ) (first : Result (TypedExpr × ℕ) CheckFault)
    → left next ≡ first → binary rule make line left right next ≡ (first >>= λ l. second rule make line l.0 (right l.1))
unfolding binary
binary_first rule make line left right next first is = ap (λ a. a >>= λ l. second rule make line l.0 (right l.1)) is

binary_first_refused : (rule : NodeType → NodeType → Result NodeType TypeKind) (make : TypedExpr → TypedExpr → TypedForm) (line : ℕ) (left right : Step ℕ TypedExpr) (next : ℕ) (fault : CheckFault)
    → (fault ≡ Memory) ⊎ (left next ≡ Err fault) → (fault ≡ Memory) ⊎ (binary rule make line left right next ≡ Err fault)
binary_first_refused rule make line left right next fault is =
    fault_along (left next) (binary rule make line left right next) fault (binary_first rule make line left right next (Err fault)) is

binary_second_refused : (rule : NodeType → NodeType → Result NodeType TypeKind) (make : TypedExpr → TypedExpr → TypedForm) (line : ℕ) (left right : Step ℕ TypedExpr) (next between : ℕ) (l : TypedExpr) (fault : CheckFault)
    → left next ≡ Ok (l, between) → (fault ≡ Memory) ⊎ (right between ≡ Err fault) → (fault ≡ Memory) ⊎ (binary rule make line left right next ≡ Err fault)
binary_second_refused rule make line left right next between l fault first is =
    fault_along (right between) (binary rule make line left right next) fault
    (λ e. binary_first rule make line left right next (Ok (l, between)) first ∙ ap (second rule make line l) e) is

binary_made : (rule : NodeType → NodeType → Result NodeType TypeKind) (make : TypedExpr → TypedExpr → TypedForm) (line : ℕ) (left right : Step ℕ TypedExpr) (next between last : ℕ) (l r : TypedExpr)
    → left next ≡ Ok (l, between) → right between ≡ Ok (r, last) → binary rule make line left right next ≡ made (rule (type_of l) (type_of r)) (make l r) line last
binary_made rule make line left right next between last l r first is =
    binary_first rule make line left right next (Ok (l, between)) first ∙ ap (second rule make line l) is

-- ---- the forms

abbrev Of : Environment → Expr → Step ℕ TypedExpr → Type 0
Of env tree step = expression env tree ≡ step

rescale_is : (env : Environment) (line : ℕ) (value : Expr) (scale : List ℕ) → Of env (expr.Rescale line value scale) (unary (λ type. rescale_rule type (whole scale)) form.Rescale line (expression env value))
unfolding expression_node
rescale_is env line value scale = ap (expression env) (sym (expr.rolls-Rescale line value scale))
    ∙ fold-roll-Expr (Step ℕ TypedExpr) SignedStep (Step ℕ TypedRow) SignedStep (expression_node env) factor_step row_step term_step (Expr-F.Rescale line value scale)

quot_is : (env : Environment) (line : ℕ) (dividend divisor : Expr) (scale : List ℕ) → Of env (expr.Quot line dividend divisor scale) (binary (λ left right. quot_rule left right (whole scale)) form.Quot line (expression env dividend) (expression env divisor))
unfolding expression_node
quot_is env line dividend divisor scale = ap (expression env) (sym (expr.rolls-Quot line dividend divisor scale))
    ∙ fold-roll-Expr (Step ℕ TypedExpr) SignedStep (Step ℕ TypedRow) SignedStep (expression_node env) factor_step row_step term_step (Expr-F.Quot line dividend divisor scale)

isqrt_is : (env : Environment) (line : ℕ) (value : Expr) (scale : List ℕ) → Of env (expr.Isqrt line value scale) (unary (λ type. isqrt_rule type (whole scale)) form.Isqrt line (expression env value))
unfolding expression_node
isqrt_is env line value scale = ap (expression env) (sym (expr.rolls-Isqrt line value scale))
    ∙ fold-roll-Expr (Step ℕ TypedExpr) SignedStep (Step ℕ TypedRow) SignedStep (expression_node env) factor_step row_step term_step (Expr-F.Isqrt line value scale)

dot_is : (env : Environment) (line : ℕ) (left right : Expr) → Of env (expr.Dot line left right) (binary dot_rule form.Dot line (expression env left) (expression env right))
unfolding expression_node
dot_is env line left right = ap (expression env) (sym (expr.rolls-Dot line left right))
    ∙ fold-roll-Expr (Step ℕ TypedExpr) SignedStep (Step ℕ TypedRow) SignedStep (expression_node env) factor_step row_step term_step (Expr-F.Dot line left right)

reference_is : (env : Environment) (line : ℕ) (name : Name) (args : List Expr) (field : Option Name) (field_args : List Expr) (rank : Option ℕ)
    → Of env (expr.Ref line name args field field_args rank) (reference env line name (map (expression env) args) field (map (expression env) field_args) rank)
unfolding expression_node
reference_is env line name args field field_args rank = ap (expression env) (sym (expr.rolls-Ref line name args field field_args rank))
    ∙ fold-roll-Expr (Step ℕ TypedExpr) SignedStep (Step ℕ TypedRow) SignedStep (expression_node env) factor_step row_step term_step (Expr-F.Ref line name args field field_args rank)

-- a fault, or what is made, of the form is one of the expression
of_fault : (env : Environment) (tree : Expr) (step : Step ℕ TypedExpr) (next : ℕ) (fault : CheckFault) → Of env tree step
    → (fault ≡ Memory) ⊎ (step next ≡ Err fault) → (fault ≡ Memory) ⊎ (expression env tree next ≡ Err fault)
of_fault env tree step next fault same is = fault_along (step next) (expression env tree next) fault (λ e. ap (λ (s : Step ℕ TypedExpr). s next) same ∙ e) is

of_made : (env : Environment) (tree : Expr) (step : Step ℕ TypedExpr) (next : ℕ) (known : Result (TypedExpr × ℕ) CheckFault) (answer : Result TypedExpr CheckFault) (after : ℕ) → Of env tree step → step next ≡ known
    → Walks known answer after → Walks (expression env tree next) answer after
of_made env tree step next known answer after same is walks = along (expression env tree next) known answer after (ap (λ (s : Step ℕ TypedExpr). s next) same ∙ is) walks

pub rescale_walks : (env : Environment) (line : ℕ) (value : Expr) (scale : List ℕ) (next : ℕ) (answer : Result TypedExpr CheckFault) (after : ℕ)
    → Walks (unary (λ type. rescale_rule type (whole scale)) form.Rescale line (expression env value) next) answer after → Walks (expression env (expr.Rescale line value scale) next) answer after
rescale_walks env line value scale next answer after walks = of_made env _ _ next _ answer after (rescale_is env line value scale) refl walks

pub isqrt_walks : (env : Environment) (line : ℕ) (value : Expr) (scale : List ℕ) (next : ℕ) (answer : Result TypedExpr CheckFault) (after : ℕ)
    → Walks (unary (λ type. isqrt_rule type (whole scale)) form.Isqrt line (expression env value) next) answer after → Walks (expression env (expr.Isqrt line value scale) next) answer after
isqrt_walks env line value scale next answer after walks = of_made env _ _ next _ answer after (isqrt_is env line value scale) refl walks

pub quot_first_refused : (env : Environment) (line : ℕ) (dividend divisor : Expr) (scale : List ℕ) (next : ℕ) (fault : CheckFault)
    → (fault ≡ Memory) ⊎ (expression env dividend next ≡ Err fault) → (fault ≡ Memory) ⊎ (expression env (expr.Quot line dividend divisor scale) next ≡ Err fault)
quot_first_refused env line dividend divisor scale next fault is =
    of_fault env _ _ next fault (quot_is env line dividend divisor scale)
    (binary_first_refused (λ left right. quot_rule left right (whole scale)) form.Quot line (expression env dividend) (expression env divisor) next fault is)

pub quot_second_refused : (env : Environment) (line : ℕ) (dividend divisor : Expr) (scale : List ℕ) (next between : ℕ) (l : TypedExpr) (fault : CheckFault) → expression env dividend next ≡ Ok (l, between)
    → (fault ≡ Memory) ⊎ (expression env divisor between ≡ Err fault) → (fault ≡ Memory) ⊎ (expression env (expr.Quot line dividend divisor scale) next ≡ Err fault)
quot_second_refused env line dividend divisor scale next between l fault first is =
    of_fault env _ _ next fault (quot_is env line dividend divisor scale)
    (binary_second_refused (λ left right. quot_rule left right (whole scale)) form.Quot line (expression env dividend) (expression env divisor) next between l fault first is)

pub quot_made : (env : Environment) (line : ℕ) (dividend divisor : Expr) (scale : List ℕ) (next between last after : ℕ) (l r : TypedExpr) (answer : Result TypedExpr CheckFault)
    → expression env dividend next ≡ Ok (l, between) → expression env divisor between ≡ Ok (r, last)
    → Walks (made (quot_rule (type_of l) (type_of r) (whole scale)) (form.Quot l r) line last) answer after → Walks (expression env (expr.Quot line dividend divisor scale) next) answer after
quot_made env line dividend divisor scale next between last after l r answer first is walks =
    of_made env _ _ next _ answer after (quot_is env line dividend divisor scale)
    (binary_made (λ left right. quot_rule left right (whole scale)) form.Quot line (expression env dividend) (expression env divisor) next between last l r first is) walks

pub dot_first_refused : (env : Environment) (line : ℕ) (left right : Expr) (next : ℕ) (fault : CheckFault)
    → (fault ≡ Memory) ⊎ (expression env left next ≡ Err fault) → (fault ≡ Memory) ⊎ (expression env (expr.Dot line left right) next ≡ Err fault)
dot_first_refused env line left right next fault is =
    of_fault env _ _ next fault (dot_is env line left right) (binary_first_refused dot_rule form.Dot line (expression env left) (expression env right) next fault is)

pub dot_second_refused : (env : Environment) (line : ℕ) (left right : Expr) (next between : ℕ) (l : TypedExpr) (fault : CheckFault) → expression env left next ≡ Ok (l, between)
    → (fault ≡ Memory) ⊎ (expression env right between ≡ Err fault) → (fault ≡ Memory) ⊎ (expression env (expr.Dot line left right) next ≡ Err fault)
dot_second_refused env line left right next between l fault first is =
    of_fault env _ _ next fault (dot_is env line left right) (binary_second_refused dot_rule form.Dot line (expression env left) (expression env right) next between l fault first is)

pub dot_made : (env : Environment) (line : ℕ) (left right : Expr) (next between last after : ℕ) (l r : TypedExpr) (answer : Result TypedExpr CheckFault)
    → expression env left next ≡ Ok (l, between) → expression env right between ≡ Ok (r, last)
    → Walks (made (dot_rule (type_of l) (type_of r)) (form.Dot l r) line last) answer after → Walks (expression env (expr.Dot line left right) next) answer after
dot_made env line left right next between last after l r answer first is walks =
    of_made env _ _ next _ answer after (dot_is env line left right)
    (binary_made dot_rule form.Dot line (expression env left) (expression env right) next between last l r first is) walks

-- ---- rows

row_is : (env : Environment) (r : Row) (next : ℕ) → row env r next ≡ (expressions env r.entries next >>= λ es. Ok (roll-TypedRow (record { entries = es.0 }), es.1))
row_is env r next = ap (λ (s : Step ℕ TypedRow). s next) (fold_out-Row (Step ℕ TypedExpr) SignedStep (Step ℕ TypedRow) SignedStep (expression_node env) factor_step row_step term_step r)

pub row_made : (env : Environment) (r : Row) (next after : ℕ) (es : List TypedExpr) → expressions env r.entries next ≡ Ok (es, after) → row env r next ≡ Ok (roll-TypedRow (record { entries = es }), after)
row_made env r next after es is = row_is env r next ∙ ap (λ a. a >>= λ es. Ok (roll-TypedRow (record { entries = es.0 }), es.1)) is

-- ---- references

-- the arguments after the point, and what is made of both
abbrev rest : Environment → ℕ → Name → Option Name → Option ℕ → List TypedExpr → Result (List TypedExpr × ℕ) CheckFault → Result (TypedExpr × ℕ) CheckFault
rest env line name field rank a more = more >>= λ f. referred (reference_rule env name a field f.0 rank) a f.0 line f.1

args_first : (env : Environment) (line : ℕ) (name : Name) (args : List (Step ℕ TypedExpr)) (field : Option Name) (field_args : List (Step ℕ TypedExpr)) (rank : Option ℕ) (next : ℕ) (first : Result (List TypedExpr × ℕ) CheckFault)
    → several args next ≡ first → reference env line name args field field_args rank next ≡ (first >>= λ a. rest env line name field rank a.0 (several field_args a.1))
unfolding reference
args_first env line name args field field_args rank next first is = ap (λ r. r >>= λ a. rest env line name field rank a.0 (several field_args a.1)) is

pub args_refused : (env : Environment) (line : ℕ) (name : Name) (args : List Expr) (field : Option Name) (field_args : List Expr) (rank : Option ℕ) (next : ℕ) (fault : CheckFault)
    → (fault ≡ Memory) ⊎ (expressions env args next ≡ Err fault) → (fault ≡ Memory) ⊎ (expression env (expr.Ref line name args field field_args rank) next ≡ Err fault)
args_refused env line name args field field_args rank next fault is =
    of_fault env _ _ next fault (reference_is env line name args field field_args rank)
    (fault_along (expressions env args next) (reference env line name (map (expression env) args) field (map (expression env) field_args) rank next) fault
    (args_first env line name (map (expression env) args) field (map (expression env) field_args) rank next (Err fault)) is)

pub field_args_refused : (env : Environment) (line : ℕ) (name : Name) (args : List Expr) (field : Option Name) (field_args : List Expr) (rank : Option ℕ) (next between : ℕ) (a : List TypedExpr) (fault : CheckFault)
    → expressions env args next ≡ Ok (a, between) → (fault ≡ Memory) ⊎ (expressions env field_args between ≡ Err fault)
    → (fault ≡ Memory) ⊎ (expression env (expr.Ref line name args field field_args rank) next ≡ Err fault)
field_args_refused env line name args field field_args rank next between a fault first is =
    of_fault env _ _ next fault (reference_is env line name args field field_args rank)
    (fault_along (expressions env field_args between) (reference env line name (map (expression env) args) field (map (expression env) field_args) rank next) fault
    (λ e. args_first env line name (map (expression env) args) field (map (expression env) field_args) rank next (Ok (a, between)) first ∙ ap (rest env line name field rank a) e) is)

pub reference_made : (env : Environment) (line : ℕ) (name : Name) (args : List Expr) (field : Option Name) (field_args : List Expr) (rank : Option ℕ) (next between last after : ℕ) (a f : List TypedExpr) (answer : Result TypedExpr CheckFault)
    → expressions env args next ≡ Ok (a, between) → expressions env field_args between ≡ Ok (f, last)
    → Walks (referred (reference_rule env name a field f rank) a f line last) answer after → Walks (expression env (expr.Ref line name args field field_args rank) next) answer after
reference_made env line name args field field_args rank next between last after a f answer first is walks =
    of_made env _ _ next _ answer after (reference_is env line name args field field_args rank)
    (args_first env line name (map (expression env) args) field (map (expression env) field_args) rank next (Ok (a, between)) first ∙ ap (rest env line name field rank a) is) walks
