-- Which typed expressions are typings of an expression: a line for each form, as the grammar has a production for each.
use Rattle.std.specs.Prelude.{◌≡◌, ℕ, suc, Bool, true, false, List, [], ◌∷◌, map, Option, Some, None, Ok}
use Rattle.sim_syntax.specs.declared.expression.Expr as tree
use Rattle.sim_syntax.specs.declared.expression.Expr.TheVariants as expr
use Rattle.sim_syntax.specs.declared.expression.Row.{Row}
use Rattle.sim_syntax.specs.declared.expression.SumTerm.{SumTerm}
use Rattle.sim_syntax.specs.declared.expression.ProductFactor.{ProductFactor}
use Rattle.type_rules.specs.Rules.{literal_rule, same_rule, product_rule, entrywise_rule, dot_rule, rescale_rule, quot_rule, isqrt_rule, transposed_rule, block_rule}
use Rattle.type_rules.specs.declared.types.BlockShape.TheVariants.{Number}
use Rattle.type_rules.specs.declared.types.NodeType.{NodeType}
use Rattle.type_rules.specs.declared.types.NodeType.TheVariants.{Local}
use Rattle.typed_tree.specs.declared.expression.Node.{Node}
use Rattle.typed_tree.specs.declared.expression.Referent.{Referent}
use Rattle.typed_tree.specs.declared.expression.Referent.TheVariants as referent
use Rattle.typed_tree.specs.declared.expression.TypedExpr.{TypedExpr, roll-TypedExpr}
use Rattle.typed_tree.specs.declared.expression.TypedForm.{TypedForm}
use Rattle.typed_tree.specs.declared.expression.TypedForm.TheVariants as form
use Rattle.typed_tree.specs.declared.expression.TypedRow.{TypedRow, roll-TypedRow}
use Rattle.typed_tree.specs.declared.expression.TypedTerm.{TypedTerm, roll-TypedTerm}
use Rattle.typed_tree.specs.declared.expression.TypedFactor.{TypedFactor, roll-TypedFactor}
use Rattle.typed_tree.specs.declared.environment.Environment.{Environment}
use Rattle.typed_tree.specs.declared.environment.Level.TheVariants.{Function}
use Rattle.typed_tree.specs.declared.names.HostSignature.{HostSignature}
use Rattle.typed_tree.specs.declared.names.Meaning.TheVariants as meaning
use Rattle.typed_tree.specs.Names.{Name}
use Rattle.typed_tree.specs.Literals.{decimals_of, literal_word, whole}
use Rattle.typed_tree.specs.Expressions.{type_of, range_of, row_types, scales_of}
use Rattle.typing_laws.specs.References.{Means, StandsFor, IsRanked}

-- a node of this number, line and type
abbrev pub node_at : ℕ → ℕ → NodeType → Node
node_at number line type = record { number = number; line = line; value_type = type }

-- an expression of a form at a node
abbrev pub at_node : Node → TypedForm → TypedExpr
at_node node form = roll-TypedExpr (record { node = node; form = form })

-- the node of a sum up to a term: a first term's own, or its negation; of each further term, the sum or difference of two of one type
pub data IsSumNode (line : ℕ) : Option Node → Bool → TypedExpr → ℕ → Node → ℕ → Type 0 where
  first_added : (v : TypedExpr) (next : ℕ) → IsSumNode line None false v next v.node next
  first_negated : (v : TypedExpr) (next : ℕ) → IsSumNode line None true v next (node_at next line (type_of v)) (suc next)
  further_term : (left : Node) (minus : Bool) (v : TypedExpr) (next : ℕ) (type : NodeType) → same_rule left.value_type (type_of v) ≡ Ok type
      → IsSumNode line (Some left) minus v next (node_at next line type) (suc next)

-- the node of a product up to a factor: a first factor's own; of each further factor, the product of two
pub data IsProductNode (line : ℕ) : Option Node → Bool → TypedExpr → ℕ → Node → ℕ → Type 0 where
  first_factor : (entrywise : Bool) (v : TypedExpr) (next : ℕ) → IsProductNode line None entrywise v next v.node next
  further_product : (left : Node) (v : TypedExpr) (next : ℕ) (type : NodeType) → product_rule left.value_type (type_of v) ≡ Ok type
      → IsProductNode line (Some left) false v next (node_at next line type) (suc next)
  further_entrywise : (left : Node) (v : TypedExpr) (next : ℕ) (type : NodeType) → entrywise_rule left.value_type (type_of v) ≡ Ok type
      → IsProductNode line (Some left) true v next (node_at next line type) (suc next)

-- In an environment, with the numbers of the next node before and after it: a typed expression is a typing of an
-- expression. Its nodes are counted on in post-order, and each has its line and the type that its rule gives of its parts.
mutual
  pub data IsTyping (env : Environment) : tree.Expr → TypedExpr → ℕ → ℕ → Type 0 where
    number : (line : ℕ) (digits : List ℕ) (word : ℕ) (type : NodeType) (from : ℕ)
        → literal_word digits ≡ Some word → literal_rule (decimals_of digits) (Some word) ≡ Ok type
        → IsTyping env (expr.Number line digits) (at_node (node_at from line type) (form.Number word)) from (suc from)
    reference : (line : ℕ) (name : Name) (args : List tree.Expr) (field : Option Name) (field_args : List tree.Expr) (rank : Option ℕ)
        (typed_args typed_field_args : List TypedExpr) (what : Referent) (view type : NodeType) (from middle to : ℕ)
        → AreTypings env args typed_args from middle → AreTypings env field_args typed_field_args middle to
        → StandsFor env name (map range_of typed_args) field (map range_of typed_field_args) what view → IsRanked rank view type
        → IsTyping env (expr.Ref line name args field field_args rank) (at_node (node_at to line type) (form.Ref what typed_args typed_field_args)) from (suc to)
    call : (line : ℕ) (name : Name) (args : List tree.Expr) (rank : Option ℕ) (typed_args : List TypedExpr) (host : HostSignature) (type : NodeType) (from to : ℕ)
        → AreTypings env args typed_args from to → Means env name (meaning.Host host)
        → map type_of typed_args ≡ map (Local Number) (scales_of host.arguments) → IsRanked rank (Local Number host.scale) type
        → IsTyping env (expr.Ref line name args None [] rank) (at_node (node_at to line type) (form.Ref (referent.Host host.number) typed_args [])) from (suc to)
    block : (line : ℕ) (rows : List Row) (rs : List TypedRow) (type : NodeType) (from to : ℕ)
        → AreRowTypings env rows rs from to → env.level ≡ Function → block_rule (map row_types rs) ≡ Ok type
        → IsTyping env (expr.Block line rows) (at_node (node_at to line type) (form.Block rs)) from (suc to)
    sum : (line : ℕ) (terms : List SumTerm) (ts : List TypedTerm) (last : Node) (from to : ℕ)
        → AreTermTypings env line None terms ts (Some last) from to
        → IsTyping env (expr.Sum line terms) (at_node last (form.Sum ts)) from to
    product : (line : ℕ) (factors : List ProductFactor) (fs : List TypedFactor) (last : Node) (from to : ℕ)
        → AreFactorTypings env line None factors fs (Some last) from to
        → IsTyping env (expr.Product line factors) (at_node last (form.Product fs)) from to
    transposed : (line : ℕ) (value : tree.Expr) (v : TypedExpr) (type : NodeType) (from to : ℕ)
        → IsTyping env value v from to → transposed_rule (type_of v) ≡ Ok type
        → IsTyping env (expr.Transposed line value) (at_node (node_at to line type) (form.Transposed v)) from (suc to)
    rescale : (line : ℕ) (value : tree.Expr) (scale : List ℕ) (v : TypedExpr) (type : NodeType) (from to : ℕ)
        → IsTyping env value v from to → rescale_rule (type_of v) (whole scale) ≡ Ok type
        → IsTyping env (expr.Rescale line value scale) (at_node (node_at to line type) (form.Rescale v)) from (suc to)
    quot : (line : ℕ) (dividend divisor : tree.Expr) (scale : List ℕ) (l r : TypedExpr) (type : NodeType) (from middle to : ℕ)
        → IsTyping env dividend l from middle → IsTyping env divisor r middle to → quot_rule (type_of l) (type_of r) (whole scale) ≡ Ok type
        → IsTyping env (expr.Quot line dividend divisor scale) (at_node (node_at to line type) (form.Quot l r)) from (suc to)
    isqrt : (line : ℕ) (value : tree.Expr) (scale : List ℕ) (v : TypedExpr) (type : NodeType) (from to : ℕ)
        → IsTyping env value v from to → isqrt_rule (type_of v) (whole scale) ≡ Ok type
        → IsTyping env (expr.Isqrt line value scale) (at_node (node_at to line type) (form.Isqrt v)) from (suc to)
    dot : (line : ℕ) (left right : tree.Expr) (l r : TypedExpr) (type : NodeType) (from middle to : ℕ)
        → IsTyping env left l from middle → IsTyping env right r middle to → dot_rule (type_of l) (type_of r) ≡ Ok type
        → IsTyping env (expr.Dot line left right) (at_node (node_at to line type) (form.Dot l r)) from (suc to)

  -- expressions one after the other
  pub data AreTypings (env : Environment) : List tree.Expr → List TypedExpr → ℕ → ℕ → Type 0 where
    none : (from : ℕ) → AreTypings env [] [] from from
    one_more : (e : tree.Expr) (es : List tree.Expr) (t : TypedExpr) (ts : List TypedExpr) (from middle to : ℕ)
        → IsTyping env e t from middle → AreTypings env es ts middle to → AreTypings env (e ∷ es) (t ∷ ts) from to

  -- rows of a block
  pub data AreRowTypings (env : Environment) : List Row → List TypedRow → ℕ → ℕ → Type 0 where
    no_row : (from : ℕ) → AreRowTypings env [] [] from from
    another_row : (row : Row) (rows : List Row) (ts : List TypedExpr) (rs : List TypedRow) (from middle to : ℕ)
        → AreTypings env row.entries ts from middle → AreRowTypings env rows rs middle to
        → AreRowTypings env (row ∷ rows) (roll-TypedRow (record { entries = ts }) ∷ rs) from to

  -- terms of a sum of this line, by the node of the sum before them and the one after them
  pub data AreTermTypings (env : Environment) : ℕ → Option Node → List SumTerm → List TypedTerm → Option Node → ℕ → ℕ → Type 0 where
    no_term : (line : ℕ) (left : Option Node) (from : ℕ) → AreTermTypings env line left [] [] left from from
    another_term : (line : ℕ) (left last : Option Node) (term : SumTerm) (terms : List SumTerm) (v : TypedExpr) (up_to : Node) (ts : List TypedTerm)
        (from middle next to : ℕ)
        → IsTyping env term.value v from middle → IsSumNode line left term.minus v middle up_to next → AreTermTypings env line (Some up_to) terms ts last next to
        → AreTermTypings env line left (term ∷ terms) (roll-TypedTerm (record { node = up_to; minus = term.minus; value = v }) ∷ ts) last from to

  -- factors of a product, likewise
  pub data AreFactorTypings (env : Environment) : ℕ → Option Node → List ProductFactor → List TypedFactor → Option Node → ℕ → ℕ → Type 0 where
    no_factor : (line : ℕ) (left : Option Node) (from : ℕ) → AreFactorTypings env line left [] [] left from from
    another_factor : (line : ℕ) (left last : Option Node) (factor : ProductFactor) (factors : List ProductFactor) (v : TypedExpr) (up_to : Node)
        (fs : List TypedFactor) (from middle next to : ℕ)
        → IsTyping env factor.value v from middle → IsProductNode line left factor.entrywise v middle up_to next
        → AreFactorTypings env line (Some up_to) factors fs last next to
        → AreFactorTypings env line left (factor ∷ factors) (roll-TypedFactor (record { node = up_to; entrywise = factor.entrywise; value = v }) ∷ fs) last from to
