-- What expressions mean, and conditions: the value, or the first trap from left to right.
use Rattle.std.specs.Prelude.{ℕ, ◌==◌, Bool, true, false, not, ◌&&◌, ◌||◌, List, [], ◌∷◌, ◌++◌, map, slice_get, Option, Some, None, Result, Ok, Err, if◌then◌else◌, nat_lt}
use Rattle.vocabulary.specs.Answers.{◌>>=◌, fold_result}
use Rattle.ring_words.specs.Word.{add, sub, mul, neg, is_less}
use Rattle.ring_words.specs.declared.trap.TrapKind.{TrapKind}
use Rattle.ring_words.specs.declared.trap.TrapKind.TheVariants.{DivisionByZero, NegativeRoot}
use Rattle.hypergraph.specs.SetValue.{SetValue, endpoint_at}
use Rattle.hypergraph.specs.Sets.{set_at}
use Rattle.sim_syntax.specs.declared.condition.CmpOp.{CmpOp}
use Rattle.sim_syntax.specs.declared.condition.CmpOp.TheVariants as op
use Rattle.type_rules.specs.Types.{scale_of}
use Rattle.type_rules.specs.declared.types.BlockShape.{BlockShape}
use Rattle.type_rules.specs.declared.types.NodeType.{NodeType}
use Rattle.type_rules.specs.declared.types.NodeType.TheVariants as type
use Rattle.typed_tree.specs.declared.expression.Referent.{Referent}
use Rattle.typed_tree.specs.declared.expression.Referent.TheVariants as referent
use Rattle.typed_tree.specs.declared.expression.TypedExpr.{TypedExpr}
use Rattle.typed_tree.specs.declared.expression.TypedForm.{TypedForm}
use Rattle.typed_tree.specs.declared.expression.TypedFactor.{TypedFactor}
use Rattle.typed_tree.specs.declared.expression.TypedRow.{TypedRow}
use Rattle.typed_tree.specs.declared.expression.TypedTerm.{TypedTerm}
use Rattle.typed_tree.specs.declared.expression.TypedForm.TheOpen.{TypedForm-F, TypedExpr-F, TypedFactor-F, TypedRow-F, TypedTerm-F}
use Rattle.typed_tree.specs.declared.expression.TypedForm.TheFolds.{fold-TypedForm, fold-TypedExpr, fold-TypedFactor, fold-TypedRow, fold-TypedTerm}
use Rattle.typed_tree.specs.declared.function.Endpoints.{Endpoints}
use Rattle.typed_tree.specs.declared.program.TypedProgram.{TypedProgram}
use Rattle.typed_tree.specs.declared.program.TypedField.{TypedField}
use Rattle.typed_tree.specs.declared.condition.TypedCond.{TypedCond}
use Rattle.typed_tree.specs.declared.condition.TypedConjunction.{TypedConjunction}
use Rattle.typed_tree.specs.declared.condition.TypedCmp.{TypedCmp}
use Rattle.value_algebra.specs.declared.value.Value.{Value}
use Rattle.algebra_meaning.specs.declared.context.ElementContext.{ElementContext}
use Rattle.algebra_meaning.specs.Linked.{Answer, LinkedProgram, linked}
use Rattle.value_algebra.specs.Scales as scales
use Rattle.value_algebra.specs.Fields.{element_in, field_at, field_over, fields_of}
use Rattle.value_algebra.specs.Value.{word_at, word_of, number, block_value, each, both, times, transposed, dot}

-- what the names of an expression stand for: fields of sets, the variables of the main procedure, locals, host functions, and in a
-- function the element and its endpoints
pub record Scope : Type 0 where
  pub program : LinkedProgram
  pub sets : List SetValue
  pub variables : List Value
  pub locals : List Value
  pub place : Option ElementContext

-- the same but for what host functions answer
pub record Visible : Type 0 where
  pub program : TypedProgram
  pub sets : List SetValue
  pub variables : List Value
  pub locals : List Value
  pub place : Option ElementContext

abbrev pub hosted : Answer → Visible → Scope
hosted answer visible = record {
  program = linked answer visible.program;
  sets = visible.sets;
  variables = visible.variables;
  locals = visible.locals;
  place = visible.place;
}

abbrev pub no_value : Value
no_value = record { rows = 0; columns = 0; words = [] }

abbrev pub found : Option Value → Value
found None = no_value
found (Some value) = value

-- the value of a number in a list
abbrev pub value_at : List Value → ℕ → Value
value_at values number = found (slice_get values number)

abbrev pub Meant : Type 0
Meant = Result Value TrapKind

-- ---- references

-- a whole value, or one of its entries
abbrev pub part : Value → List Value → Value
part value [] = value
part value (i ∷ []) = number (word_at value (word_of i) 0)
part value (i ∷ j ∷ indices) = number (word_at value (word_of i) (word_of j))

-- the index of an endpoint, and the first argument of a call
abbrev pub first_word : List Value → ℕ
first_word [] = 0
first_word (value ∷ values) = word_of value

-- the second argument of a call; 0 where there is none
abbrev pub second_word : List Value → ℕ
second_word [] = 0
second_word (value ∷ values) = first_word values

-- the fields of the elements of a set
abbrev pub set_fields : TypedProgram → ℕ → List TypedField
set_fields program set = fields_of program.elements (element_in program.sets set)

-- a field of a set, as a system vector
abbrev pub set_field : Scope → ℕ → ℕ → Value
set_field scope set field = field_over (set_fields scope.program.typed set) (set_at scope.sets set) field

-- the endpoint of the element at a position; 0 where it has none there
abbrev pub end_in : SetValue → ℕ → ℕ → ℕ
end_in set element position = if nat_lt element set.count && nat_lt position set.arity then endpoint_at set element position else 0

abbrev pub end_of : List SetValue → ElementContext → ℕ → ℕ
end_of sets place position = end_in (set_at sets place.mapped) place.element position

-- a field of the element
abbrev pub own_field : Scope → Option ElementContext → ℕ → Value
own_field scope None field = no_value
own_field scope (Some place) field = field_at (fields_of scope.program.typed.elements place.own) (set_at scope.sets place.mapped) field place.element

-- a field of an element of a set in which endpoints lie
abbrev pub field_in : Scope → ℕ → Option ℕ → ℕ → ℕ → Value
field_in scope type None element field = no_value
field_in scope type (Some over) element field = field_at (fields_of scope.program.typed.elements type) (set_at scope.sets over) field element

-- a field of the endpoint at a position
abbrev pub end_field_of : Scope → ElementContext → Option Endpoints → ℕ → ℕ → Value
end_field_of scope place None position field = no_value
end_field_of scope place (Some ends) position field =
    field_in scope ends.element (set_at scope.sets place.mapped).over (end_of scope.sets place position) field

abbrev pub end_field : Scope → Option ElementContext → ℕ → ℕ → Value
end_field scope None position field = no_value
end_field scope (Some place) position field = end_field_of scope place place.ends position field

abbrev pub referred : Scope → Referent → List Value → List Value → Value
referred scope (referent.Variable variable) args indices = value_at scope.variables variable
referred scope (referent.Local local) args indices = part (value_at scope.locals local) args
referred scope (referent.Turn local range) args indices = value_at scope.locals local
referred scope (referent.Field set field) args indices = set_field scope set field
referred scope (referent.Own field) args indices = part (own_field scope scope.place field) indices
referred scope (referent.End field) args indices = part (end_field scope scope.place (first_word args) field) indices
referred scope (referent.Host host) args indices = number (scope.program.answer host (first_word args) (second_word args))

-- a part with its type
pub record Part : Type 0 where
  pub type : NodeType
  pub meant : Meant

-- the values of parts, or the first trap
abbrev pub with_value : List Value → Part → Result (List Value) TrapKind
with_value values part = part.meant >>= λ value. Ok (values ++ value ∷ [])

abbrev pub all_meant : List Part → Result (List Value) TrapKind
all_meant parts = fold_result with_value [] parts

unfoldable pub reference : Scope → Referent → List Part → List Part → Meant
reference scope what args indices = do
  a ← all_meant args
  i ← all_meant indices
  Ok (referred scope what a i)

-- ---- sums and products

-- a term or a factor, with the type of the node up to it
pub record Operand : Type 0 where
  pub type : NodeType
  pub sign : Bool
  pub part : Part

-- a sum so far, none before its first term, with another term
abbrev pub added : Option Value → Bool → Value → Value
added None minus value = if minus then each neg value else value
added (Some total) minus value = if minus then both sub total value else both add total value

abbrev pub with_term : Option Value → Operand → Result (Option Value) TrapKind
with_term total term = term.part.meant >>= λ value. Ok (Some (added total term.sign value))

abbrev pub total : List Operand → Result (Option Value) TrapKind
total terms = fold_result with_term None terms

unfoldable pub sum : List Operand → Meant
sum terms = total terms >>= λ value. Ok (found value)

-- a product so far with its type, none before its first factor, with another factor
abbrev pub multiplied : Option (NodeType × Value) → Bool → NodeType → Value → Value
multiplied None entrywise type value = value
multiplied (Some (left_type, left)) entrywise type value = if entrywise then both mul left value else times left_type type left value

abbrev pub with_factor : Option (NodeType × Value) → Operand → Result (Option (NodeType × Value)) TrapKind
with_factor so_far factor = factor.part.meant >>= λ value. Ok (Some (factor.type, multiplied so_far factor.sign factor.part.type value))

abbrev pub last_value : Option (NodeType × Value) → Value
last_value None = no_value
last_value (Some (type, value)) = value

abbrev pub chain : List Operand → Result (Option (NodeType × Value)) TrapKind
chain factors = fold_result with_factor None factors

unfoldable pub product : List Operand → Meant
product factors = chain factors >>= λ done. Ok (last_value done)

-- ---- other forms

-- the block of a type
abbrev pub block_in : NodeType → BlockShape
block_in (type.Local block scale) = block
block_in (type.SystemVector set block scale) = block
block_in (type.SystemMatrix rows columns block scale) = block

-- the entries of rows, one row after the other
abbrev pub with_row : List ℕ → Result (List Value) TrapKind → Result (List ℕ) TrapKind
with_row words row = row >>= λ values. Ok (words ++ map word_of values)

abbrev pub entries : List (Result (List Value) TrapKind) → Result (List ℕ) TrapKind
entries rows = fold_result with_row [] rows

unfoldable pub written : NodeType → List (Result (List Value) TrapKind) → Meant
written type rows = entries rows >>= λ words. Ok (block_value (block_in type) words)

unfoldable pub transposed_part : Part → Meant
transposed_part value = value.meant >>= λ v. Ok (transposed v)

unfoldable pub rescaled_part : ℕ → Part → Meant
rescaled_part to value = value.meant >>= λ v. Ok (scales.rescaled (scale_of value.type) to v)

abbrev pub or_trap : TrapKind → Option ℕ → Meant
or_trap trap None = Err trap
or_trap trap (Some word) = Ok (number word)

abbrev pub divided : ℕ → NodeType → NodeType → Value → Value → Meant
divided to left right a b = or_trap DivisionByZero (scales.quotient (word_of a) (scale_of left) (word_of b) (scale_of right) to)

unfoldable pub quotient : ℕ → Part → Part → Meant
quotient to dividend divisor = do
  a ← dividend.meant
  b ← divisor.meant
  divided to dividend.type divisor.type a b

unfoldable pub root : ℕ → Part → Meant
root to value = value.meant >>= λ v. or_trap NegativeRoot (scales.square_root (word_of v) (scale_of value.type) to)

unfoldable pub scalar_product : Part → Part → Meant
scalar_product left right = do
  l ← left.meant
  r ← right.meant
  Ok (dot l r)

-- ---- all forms

unfoldable pub form_meaning : Scope → TypedForm-F (NodeType → Meant) Part Operand (Result (List Value) TrapKind) Operand → NodeType → Meant
form_meaning scope (TypedForm-F.Number word) type = Ok (number word)
form_meaning scope (TypedForm-F.Ref what args indices) type = reference scope what args indices
form_meaning scope (TypedForm-F.Block rows) type = written type rows
form_meaning scope (TypedForm-F.Sum terms) type = sum terms
form_meaning scope (TypedForm-F.Product factors) type = product factors
form_meaning scope (TypedForm-F.Transposed value) type = transposed_part value
form_meaning scope (TypedForm-F.Rescale value) type = rescaled_part (scale_of type) value
form_meaning scope (TypedForm-F.Quot dividend divisor) type = quotient (scale_of type) dividend divisor
form_meaning scope (TypedForm-F.Isqrt value) type = root (scale_of type) value
form_meaning scope (TypedForm-F.Dot left right) type = scalar_product left right

abbrev pub expression_part : TypedExpr-F (NodeType → Meant) Part Operand (Result (List Value) TrapKind) Operand → Part
expression_part e = record { type = e.node.value_type; meant = e.form e.node.value_type }

abbrev pub factor_operand : TypedFactor-F (NodeType → Meant) Part Operand (Result (List Value) TrapKind) Operand → Operand
factor_operand f = record { type = f.node.value_type; sign = f.entrywise; part = f.value }

abbrev pub row_values : TypedRow-F (NodeType → Meant) Part Operand (Result (List Value) TrapKind) Operand → Result (List Value) TrapKind
row_values row = all_meant row.entries

abbrev pub term_operand : TypedTerm-F (NodeType → Meant) Part Operand (Result (List Value) TrapKind) Operand → Operand
term_operand t = record { type = t.node.value_type; sign = t.minus; part = t.value }

-- an expression with its type, a form of a type, and a row, a term or a factor, by what the names stand for
abbrev pub part_of : Scope → TypedExpr → Part
part_of scope = fold-TypedExpr (NodeType → Meant) Part Operand (Result (List Value) TrapKind) Operand (form_meaning scope) expression_part factor_operand row_values term_operand

abbrev pub form_of : Scope → TypedForm → NodeType → Meant
form_of scope = fold-TypedForm (NodeType → Meant) Part Operand (Result (List Value) TrapKind) Operand (form_meaning scope) expression_part factor_operand row_values term_operand

abbrev pub row_of : Scope → TypedRow → Result (List Value) TrapKind
row_of scope = fold-TypedRow (NodeType → Meant) Part Operand (Result (List Value) TrapKind) Operand (form_meaning scope) expression_part factor_operand row_values term_operand

abbrev pub term_of : Scope → TypedTerm → Operand
term_of scope = fold-TypedTerm (NodeType → Meant) Part Operand (Result (List Value) TrapKind) Operand (form_meaning scope) expression_part factor_operand row_values term_operand

abbrev pub factor_of : Scope → TypedFactor → Operand
factor_of scope = fold-TypedFactor (NodeType → Meant) Part Operand (Result (List Value) TrapKind) Operand (form_meaning scope) expression_part factor_operand row_values term_operand

-- what an expression means, by what its names stand for
abbrev pub meaning : Scope → TypedExpr → Meant
meaning scope e = (part_of scope e).meant

abbrev pub meanings : Scope → List TypedExpr → Result (List Value) TrapKind
meanings scope es = all_meant (map (part_of scope) es)

-- ---- conditions: all comparisons are made

abbrev pub compared : CmpOp → ℕ → ℕ → Bool
compared op.Equal a b = a == b
compared op.Differs a b = not (a == b)
compared op.Less a b = is_less a b
compared op.AtMost a b = not (is_less b a)
compared op.Greater a b = is_less b a
compared op.AtLeast a b = not (is_less a b)

-- a comparison, or its opposite
abbrev pub held : Bool → CmpOp → ℕ → ℕ → Bool
held negated op a b = if negated then not (compared op a b) else compared op a b

unfoldable pub comparison : Scope → TypedCmp → Result Bool TrapKind
comparison scope cmp = do
  l ← meaning scope cmp.left
  r ← meaning scope cmp.right
  Ok (held cmp.negated cmp.op (word_of l) (word_of r))

-- what held so far, and one more
abbrev pub and_also : Bool → Result Bool TrapKind → Result Bool TrapKind
and_also all one = one >>= λ holds. Ok (all && holds)

abbrev pub or_else : Bool → Result Bool TrapKind → Result Bool TrapKind
or_else any one = one >>= λ holds. Ok (any || holds)

unfoldable pub conjunction : Scope → TypedConjunction → Result Bool TrapKind
conjunction scope parts = fold_result and_also true (map (comparison scope) parts.parts)

-- whether a condition holds
unfoldable pub holds : Scope → TypedCond → Result Bool TrapKind
holds scope cond = fold_result or_else false (map (conjunction scope) cond.parts)
