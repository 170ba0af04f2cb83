-- The types of expressions.
use Rattle.std.specs.Prelude.{ℕ, suc, zero, ◌==◌, Bool, true, false, not, ◌||◌, List, [], ◌∷◌, ◌++◌, map, Option, Some, None, Result, Ok, Err, if◌then◌else◌}
use Rattle.std.specs.List.{list_any}
use Rattle.vocabulary.specs.Answers.{◌>>=◌, fold_result}
use Rattle.sim_syntax.specs.declared.expression.Expr as tree
use Rattle.sim_syntax.specs.declared.expression.Expr.TheOpen.{Expr-F, Row-F, SumTerm-F, ProductFactor-F}
use Rattle.sim_syntax.specs.declared.expression.Expr.TheFolds.{fold-Expr}
use Rattle.sim_syntax.specs.declared.condition.Cond.{Cond}
use Rattle.sim_syntax.specs.declared.condition.Conjunction.{Conjunction}
use Rattle.sim_syntax.specs.declared.condition.Cmp.{Cmp}
use Rattle.type_rules.specs.Types.{scale_of}
use Rattle.type_rules.specs.Rules.{call_rule, literal_rule, part_rule, is_unknown, is_empty, same_rule, product_rule, entrywise_rule, dot_rule, rescale_rule, quot_rule, isqrt_rule, transposed_rule, block_rule, rank_rule, comparison_rule}
use Rattle.type_rules.specs.declared.types.BlockShape.TheVariants as block
use Rattle.type_rules.specs.declared.types.NodeType.{NodeType}
use Rattle.type_rules.specs.declared.types.NodeType.TheVariants as type
use Rattle.type_rules.specs.declared.types.IndexRange.{IndexRange}
use Rattle.type_rules.specs.declared.types.IndexRange.TheVariants.{NotConstant, UpTo}
use Rattle.type_rules.specs.declared.types.TypeKind.{TypeKind}
use Rattle.type_rules.specs.declared.types.TypeKind.TheVariants as kind
use Rattle.typed_tree.specs.declared.fault.CheckFault.{CheckFault}
use Rattle.typed_tree.specs.declared.fault.CheckFault.TheVariants.{IllTyped}
use Rattle.typed_tree.specs.declared.expression.Node.{Node}
use Rattle.typed_tree.specs.declared.expression.Referent.{Referent}
use Rattle.typed_tree.specs.declared.expression.Referent.TheVariants as referent
use Rattle.typed_tree.specs.declared.expression.TypedExpr.{TypedExpr, roll-TypedExpr}
use Rattle.typed_tree.specs.declared.expression.TypedForm.{TypedForm, out-TypedForm}
use Rattle.typed_tree.specs.declared.expression.TypedForm.TheVariants as form
use Rattle.typed_tree.specs.declared.expression.TypedForm.TheOpen.{TypedForm-F}
use Rattle.typed_tree.specs.declared.expression.TypedRow.{TypedRow, roll-TypedRow, out-TypedRow}
use Rattle.typed_tree.specs.declared.expression.TypedTerm.{TypedTerm, roll-TypedTerm}
use Rattle.typed_tree.specs.declared.expression.TypedFactor.{TypedFactor, roll-TypedFactor}
use Rattle.typed_tree.specs.declared.condition.TypedCond.{TypedCond}
use Rattle.typed_tree.specs.declared.condition.TypedConjunction.{TypedConjunction}
use Rattle.typed_tree.specs.declared.condition.TypedCmp.{TypedCmp}
use Rattle.typed_tree.specs.declared.environment.Environment.{Environment}
use Rattle.typed_tree.specs.declared.environment.Level.{Level}
use Rattle.typed_tree.specs.declared.environment.Level.TheVariants.{Function, Main}
use Rattle.typed_tree.specs.declared.names.HostArguments.{HostArguments}
use Rattle.typed_tree.specs.declared.names.HostArguments.TheVariants as arguments
use Rattle.typed_tree.specs.declared.names.HostSignature.{HostSignature}
use Rattle.typed_tree.specs.declared.names.Meaning.{Meaning}
use Rattle.typed_tree.specs.declared.names.Meaning.TheVariants as meaning
use Rattle.typed_tree.specs.Lookups.{fields_of, element_in, find_field, over_set}
use Rattle.typed_tree.specs.Names.{Name, meaning_of}
use Rattle.typed_tree.specs.Literals.{decimals_of, literal_word, whole}
use Rattle.typed_tree.specs.Steps.{Step, at_line, several}

-- ---- nodes

abbrev pub node : ℕ → ℕ → NodeType → Node
node number line type = record { number = number; line = line; value_type = type }

-- an expression of a form, with the next number
abbrev pub numbered : ℕ → ℕ → NodeType → TypedForm → TypedExpr × ℕ
numbered next line type form = (roll-TypedExpr (record { node = node next line type; form = form }), suc next)

abbrev pub type_of : TypedExpr → NodeType
type_of e = e.node.value_type

-- one part, and two
unfoldable pub unary : (NodeType → Result NodeType TypeKind) → (TypedExpr → TypedForm) → ℕ → Step ℕ TypedExpr → Step ℕ TypedExpr
unary rule make line value next = do
  v ← value next
  type ← at_line line (rule (type_of v.0))
  Ok (numbered v.1 line type (make v.0))

unfoldable pub binary : (NodeType → NodeType → Result NodeType TypeKind) → (TypedExpr → TypedExpr → TypedForm) → ℕ → Step ℕ TypedExpr → Step ℕ TypedExpr → Step ℕ TypedExpr
binary rule make line left right next = do
  l ← left next
  r ← right l.1
  type ← at_line line (rule (type_of l.0) (type_of r.0))
  Ok (numbered r.1 line type (make l.0 r.0))

-- ---- literals

abbrev pub word_or_zero : Option ℕ → ℕ
word_or_zero None = 0
word_or_zero (Some word) = word

unfoldable pub number : ℕ → List ℕ → Step ℕ TypedExpr
number line digits next = do
  type ← at_line line (literal_rule (decimals_of digits) (literal_word digits))
  Ok (numbered next line type (form.Number (word_or_zero (literal_word digits))))

-- ---- names

-- the values that an index takes: a whole number, or a constant loop's variable
abbrev pub range_in : ℕ → TypedForm-F TypedForm TypedExpr TypedFactor TypedRow TypedTerm → IndexRange
range_in zero (TypedForm-F.Number word) = UpTo word
range_in scale (TypedForm-F.Ref (referent.Turn local range) [] []) = range
range_in scale other = NotConstant

abbrev pub range_of : TypedExpr → IndexRange
range_of e = range_in (scale_of (type_of e)) (out-TypedForm e.form)

-- what a name stands for, and its type
abbrev pub Found : Type 0
Found = Result (Referent × NodeType) TypeKind

abbrev pub found : Referent → Result NodeType TypeKind → Found
found what rule = rule >>= λ type. Ok (what, type)

-- the main procedure names whole values alone
abbrev pub whole_rule : NodeType → List IndexRange → Result NodeType TypeKind
whole_rule type indices = if is_empty indices then Ok type else Err kind.Shape

-- an element, endpoints or a result is no value
abbrev pub no_value : List IndexRange → Found
no_value indices = if list_any is_unknown indices then Err kind.NotConstant else Err kind.Shape

-- a name without a field
unfoldable pub value_rule : Option Meaning → List IndexRange → Found
value_rule (Some (meaning.Parameter local scale)) indices = found (referent.Local local) (part_rule None (type.Local block.Number scale) [] indices)
value_rule (Some (meaning.Local local type)) indices = found (referent.Local local) (part_rule None type [] indices)
value_rule (Some (meaning.Turn local range)) indices = found (referent.Turn local range) (part_rule None (type.Local block.Number 0) [] indices)
value_rule (Some (meaning.Variable variable type)) indices = found (referent.Variable variable) (whole_rule type indices)
value_rule (Some (meaning.Counter local)) indices = found (referent.Local local) (whole_rule (type.Local block.Number 0) indices)
value_rule (Some (meaning.Own element)) indices = no_value indices
value_rule (Some (meaning.Ends element count)) indices = no_value indices
value_rule (Some (meaning.Result result type)) indices = no_value indices
value_rule other indices = Err kind.Unknown

-- a field of what a name stands for: of a set in the main procedure, of an element or endpoints in a function
unfoldable pub set_member : Level → ℕ → Option (ℕ × NodeType) → List IndexRange → Found
set_member Main set (Some field) indices = found (referent.Field set field.0) (whole_rule (over_set set field.1) indices)
set_member level set field indices = Err kind.Unknown

unfoldable pub own_member : Option (ℕ × NodeType) → List IndexRange → List IndexRange → Found
own_member (Some field) places indices = found (referent.Own field.0) (part_rule None field.1 places indices)
own_member None places indices = Err kind.Unknown

unfoldable pub end_member : ℕ → Option (ℕ × NodeType) → List IndexRange → List IndexRange → Found
end_member count (Some field) places indices = found (referent.End field.0) (part_rule (Some count) field.1 places indices)
end_member count None places indices = Err kind.Unknown

unfoldable pub member_rule : Environment → Option Meaning → Name → List IndexRange → List IndexRange → Found
member_rule env (Some (meaning.Set set)) name places indices =
    set_member env.level set (find_field (fields_of env.declarations (element_in env.declarations set)) name) (places ++ indices)
member_rule env (Some (meaning.Own element)) name places indices = own_member (find_field (fields_of env.declarations element) name) places indices
member_rule env (Some (meaning.Ends element count)) name places indices = end_member count (find_field (fields_of env.declarations element) name) places indices
member_rule env other name places indices = Err kind.Unknown

unfoldable pub name_rule : Environment → Name → List IndexRange → Option Name → List IndexRange → Found
name_rule env name places None [] = value_rule (meaning_of env.names name) places
name_rule env name places None (i ∷ indices) = Err kind.Shape
name_rule env name places (Some field) indices = member_rule env (meaning_of env.names name) field places indices

-- a reference that was made of an index expression has as many indices as its view
abbrev pub ranked : Option ℕ → Referent × NodeType → Found
ranked None what = Ok what
ranked (Some rank) what = found what.0 (rank_rule what.1 rank)

-- the host function for which a name stands
abbrev pub host_in : Option Meaning → Option HostSignature
host_in (Some (meaning.Host host)) = Some host
host_in other = None

abbrev pub host_named : Environment → Name → Option Name → List TypedExpr → Option HostSignature
host_named env name None [] = host_in (meaning_of env.names name)
host_named env name field field_args = None

-- the scales of the arguments of a host function
abbrev pub scales_of : HostArguments → List ℕ
scales_of (arguments.One scale) = scale ∷ []
scales_of (arguments.Two first second) = first ∷ second ∷ []

-- a host function is called; any other name has a value
unfoldable pub called_or_named : Environment → Option HostSignature → Name → List TypedExpr → Option Name → List TypedExpr → Found
called_or_named env (Some host) name args field field_args = found (referent.Host host.number) (call_rule (scales_of host.arguments) host.scale (map type_of args))
called_or_named env None name args field field_args = name_rule env name (map range_of args) field (map range_of field_args)

abbrev pub reference_rule : Environment → Name → List TypedExpr → Option Name → List TypedExpr → Option ℕ → Found
reference_rule env name args field field_args rank = called_or_named env (host_named env name field field_args) name args field field_args >>= ranked rank

unfoldable pub reference : Environment → ℕ → Name → List (Step ℕ TypedExpr) → Option Name → List (Step ℕ TypedExpr) → Option ℕ → Step ℕ TypedExpr
reference env line name args field field_args rank next = do
  a ← several args next
  f ← several field_args a.1
  what ← at_line line (reference_rule env name a.0 field f.0 rank)
  Ok (numbered f.1 line what.1 (form.Ref what.0 a.0 f.0))

-- ---- blocks

abbrev pub row_types : TypedRow → List NodeType
row_types row = map type_of (out-TypedRow row).entries

-- a block stands in functions alone
abbrev pub block_at : Level → List TypedRow → Result NodeType TypeKind
block_at Function rows = block_rule (map row_types rows)
block_at Main rows = Err kind.Shape

unfoldable pub block_of_rows : Level → ℕ → List (Step ℕ TypedRow) → Step ℕ TypedExpr
block_of_rows level line rows next = do
  rs ← several rows next
  type ← at_line line (block_at level rs.0)
  Ok (numbered rs.1 line type (form.Block rs.0))

-- ---- sums and products: nodes of two, from left to right

-- terms or factors so far, with the node up to the last, and the number of the next node
abbrev pub Chain : Type 0 → Type 0
Chain A = List A × Option Node × ℕ

abbrev pub start : {A : Type 0} → ℕ → Chain A
start next = ([], None, next)

-- a chain as an expression; one without a part is none
abbrev pub chained : {A : Type 0} → ℕ → (List A → TypedForm) → Chain A → Result (TypedExpr × ℕ) CheckFault
chained line make (parts, None, next) = Err (IllTyped line kind.Shape)
chained line make (parts, Some last, next) = Ok (roll-TypedExpr (record { node = last; form = make parts }), next)

abbrev pub SignedStep : Type 0
SignedStep = Bool × Step ℕ TypedExpr

-- the node of a sum up to a term: the term, its negation, or the sum or difference of two
unfoldable pub sum_node : ℕ → Option Node → Bool → TypedExpr → ℕ → Result (Node × ℕ) CheckFault
sum_node line None false value next = Ok (value.node, next)
sum_node line None true value next = Ok (node next line (type_of value), suc next)
sum_node line (Some left) minus value next = do
  type ← at_line line (same_rule left.value_type (type_of value))
  Ok (node next line type, suc next)

abbrev pub with_term : ℕ → Chain TypedTerm → SignedStep → Result (Chain TypedTerm) CheckFault
with_term line (terms, last, next) term = do
  v ← term.1 next
  n ← sum_node line last term.0 v.0 v.1
  Ok (terms ++ roll-TypedTerm (record { node = n.0; minus = term.0; value = v.0 }) ∷ [], Some n.0, n.1)

unfoldable pub sum : ℕ → List SignedStep → Step ℕ TypedExpr
sum line terms next = fold_result (with_term line) (start next) terms >>= chained line form.Sum

abbrev pub times_rule : Bool → NodeType → NodeType → Result NodeType TypeKind
times_rule true = entrywise_rule
times_rule false = product_rule

unfoldable pub product_node : ℕ → Option Node → Bool → TypedExpr → ℕ → Result (Node × ℕ) CheckFault
product_node line None entrywise value next = Ok (value.node, next)
product_node line (Some left) entrywise value next = do
  type ← at_line line (times_rule entrywise left.value_type (type_of value))
  Ok (node next line type, suc next)

abbrev pub with_factor : ℕ → Chain TypedFactor → SignedStep → Result (Chain TypedFactor) CheckFault
with_factor line (factors, last, next) factor = do
  v ← factor.1 next
  n ← product_node line last factor.0 v.0 v.1
  Ok (factors ++ roll-TypedFactor (record { node = n.0; entrywise = factor.0; value = v.0 }) ∷ [], Some n.0, n.1)

unfoldable pub product : ℕ → List SignedStep → Step ℕ TypedExpr
product line factors next = fold_result (with_factor line) (start next) factors >>= chained line form.Product

-- ---- all forms

unfoldable pub expression_node : Environment → Expr-F (Step ℕ TypedExpr) SignedStep (Step ℕ TypedRow) SignedStep → Step ℕ TypedExpr
expression_node env (Expr-F.Number line digits) = number line digits
expression_node env (Expr-F.Ref line name args field field_args rank) = reference env line name args field field_args rank
expression_node env (Expr-F.Block line rows) = block_of_rows env.level line rows
expression_node env (Expr-F.Sum line terms) = sum line terms
expression_node env (Expr-F.Product line factors) = product line factors
expression_node env (Expr-F.Transposed line value) = unary transposed_rule form.Transposed line value
expression_node env (Expr-F.Rescale line value scale) = unary (λ type. rescale_rule type (whole scale)) form.Rescale line value
expression_node env (Expr-F.Quot line dividend divisor scale) = binary (λ left right. quot_rule left right (whole scale)) form.Quot line dividend divisor
expression_node env (Expr-F.Isqrt line value scale) = unary (λ type. isqrt_rule type (whole scale)) form.Isqrt line value
expression_node env (Expr-F.Dot line left right) = binary dot_rule form.Dot line left right

abbrev pub factor_step : ProductFactor-F (Step ℕ TypedExpr) SignedStep (Step ℕ TypedRow) SignedStep → SignedStep
factor_step f = (f.entrywise, f.value)

abbrev pub row_step : Row-F (Step ℕ TypedExpr) SignedStep (Step ℕ TypedRow) SignedStep → Step ℕ TypedRow
row_step row next = several row.entries next >>= λ es. Ok (roll-TypedRow (record { entries = es.0 }), es.1)

abbrev pub term_step : SumTerm-F (Step ℕ TypedExpr) SignedStep (Step ℕ TypedRow) SignedStep → SignedStep
term_step t = (t.minus, t.value)

-- an expression, by what is known where it stands
abbrev pub expression : Environment → tree.Expr → Step ℕ TypedExpr
expression env = fold-Expr (Step ℕ TypedExpr) SignedStep (Step ℕ TypedRow) SignedStep (expression_node env) factor_step row_step term_step

abbrev pub expressions : Environment → List tree.Expr → Step ℕ (List TypedExpr)
expressions env es = several (map (expression env) es)

-- ---- conditions

unfoldable pub comparison : Environment → Cmp → Step ℕ TypedCmp
comparison env cmp next = do
  l ← expression env cmp.left next
  r ← expression env cmp.right l.1
  _ ← at_line cmp.line (comparison_rule (type_of l.0) (type_of r.0))
  Ok (record { negated = cmp.negated; left = l.0; op = cmp.op; right = r.0 }, r.1)

unfoldable pub conjunction : Environment → Conjunction → Step ℕ TypedConjunction
conjunction env parts next = several (map (comparison env) parts.parts) next >>= λ ps. Ok (record { parts = ps.0 }, ps.1)

unfoldable pub condition : Environment → Cond → Step ℕ TypedCond
condition env cond next = several (map (conjunction env) cond.parts) next >>= λ ps. Ok (record { parts = ps.0 }, ps.1)
