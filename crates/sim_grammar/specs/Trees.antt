-- Which node is made of the parts that its tokens state, and of the line of the first of them.
use Rattle.std.specs.Prelude.{ℕ, Bool, true, false, List, [], ◌∷◌, Option, Some, None}
use Rattle.sim_syntax.specs.declared.expression.Expr.{Expr}
use Rattle.sim_syntax.specs.declared.expression.Expr.TheVariants as expr
use Rattle.sim_syntax.specs.declared.expression.Row.{Row, roll-Row}
use Rattle.sim_syntax.specs.declared.expression.SumTerm.{SumTerm, roll-SumTerm}
use Rattle.sim_syntax.specs.declared.expression.ProductFactor.{ProductFactor, roll-ProductFactor}
use Rattle.sim_syntax.specs.declared.condition.Cond.{Cond}
use Rattle.sim_syntax.specs.declared.condition.Conjunction.{Conjunction}
use Rattle.sim_syntax.specs.declared.condition.Cmp.{Cmp}
use Rattle.sim_syntax.specs.declared.condition.CmpOp.{CmpOp}
use Rattle.sim_syntax.specs.declared.statement.Stmt.{Stmt}
use Rattle.sim_syntax.specs.declared.statement.Stmt.TheVariants as stmt
use Rattle.sim_syntax.specs.declared.statement.Target.{Target}
use Rattle.sim_syntax.specs.declared.statement.Place.{Place}
use Rattle.sim_syntax.specs.declared.statement.Index.{Index}
use Rattle.sim_syntax.specs.declared.statement.Index.TheVariants as index
use Rattle.sim_syntax.specs.declared.statement.Right.{Right}
use Rattle.sim_syntax.specs.declared.statement.Right.TheVariants as right
use Rattle.sim_syntax.specs.declared.statement.IxTerm.{IxTerm}
use Rattle.sim_syntax.specs.declared.statement.IxAtom.{IxAtom}
use Rattle.sim_syntax.specs.declared.statement.IxAtom.TheVariants as ix_atom
use Rattle.sim_syntax.specs.declared.declaration.Decl.{Decl}
use Rattle.sim_syntax.specs.declared.declaration.Decl.TheVariants as decl
use Rattle.sim_syntax.specs.declared.declaration.Field.{Field}
use Rattle.sim_syntax.specs.declared.declaration.Local.{Local}
use Rattle.sim_syntax.specs.declared.declaration.Local.TheVariants as local
use Rattle.sim_syntax.specs.declared.declaration.Param.{Param}
use Rattle.sim_syntax.specs.declared.declaration.ParamKind.{ParamKind}
use Rattle.sim_syntax.specs.declared.declaration.ParamKind.TheVariants as kind
use Rattle.sim_syntax.specs.declared.declaration.ResultDecl.{ResultDecl}
use Rattle.sim_syntax.specs.declared.program.Program.{Program}

-- a text, of a name or of a number
abbrev pub Text : Type 0
Text = List ℕ

-- ---- expressions

abbrev pub number_of : ℕ → Text → Expr
number_of line digits = expr.Number line digits

abbrev pub ref_of : ℕ → Text × (List Expr × (Option Text × List Expr)) → Expr
ref_of line v = expr.Ref line v.0 v.1.0 v.1.1.0 v.1.1.1 None

abbrev pub field_of_ref : Text × List Expr → Option Text × List Expr
field_of_ref v = (Some v.0, v.1)

abbrev pub row_of : ℕ → List Expr → Row
row_of line entries = roll-Row (record { line = line; entries = entries })

abbrev pub block_of : ℕ → List Row → Expr
block_of line rows = expr.Block line rows

abbrev pub rescale_of : ℕ → Expr × Text → Expr
rescale_of line v = expr.Rescale line v.0 v.1

abbrev pub quot_of : ℕ → Expr × (Expr × Text) → Expr
quot_of line v = expr.Quot line v.0 v.1.0 v.1.1

abbrev pub isqrt_of : ℕ → Expr × Text → Expr
isqrt_of line v = expr.Isqrt line v.0 v.1

abbrev pub dot_of : ℕ → Expr × Expr → Expr
dot_of line v = expr.Dot line v.0 v.1

abbrev pub post_of : ℕ → Expr × Bool → Expr
post_of line (value, true) = expr.Transposed line value
post_of line (value, false) = value

abbrev pub factor_of : ℕ → Bool × Expr → ProductFactor
factor_of line v = roll-ProductFactor (record { line = line; entrywise = v.0; value = v.1 })

-- a product of one factor is that factor
abbrev pub product_of : ℕ → Expr × List ProductFactor → Expr
product_of line (value, []) = value
product_of line (value, others) = expr.Product line (factor_of line (false, value) ∷ others)

abbrev pub term_of : ℕ → Bool × Expr → SumTerm
term_of line v = roll-SumTerm (record { line = line; minus = v.0; value = v.1 })

-- a sum of one term without a minus is that term
abbrev pub sum_of : ℕ → Bool × (Expr × List SumTerm) → Expr
sum_of line (false, (value, [])) = value
sum_of line (minus, (value, others)) = expr.Sum line (term_of line (minus, value) ∷ others)

-- ---- conditions

abbrev pub cmp_of : ℕ → Bool × (Expr × (CmpOp × Expr)) → Cmp
cmp_of line v = record { line = line; negated = v.0; left = v.1.0; op = v.1.1.0; right = v.1.1.1 }

abbrev pub conjunction_of : ℕ → List Cmp → Conjunction
conjunction_of line parts = record { line = line; parts = parts }

abbrev pub cond_of : ℕ → List Conjunction → Cond
cond_of line parts = record { line = line; parts = parts }

-- ---- statements of both kinds

abbrev pub if_of : ℕ → Cond × (List Stmt × List Stmt) → Stmt
if_of line v = stmt.If line v.0 v.1.0 v.1.1

abbrev pub assert_of : ℕ → Cond → Stmt
assert_of line cond = stmt.Assert line cond

-- ---- statements of functions

abbrev pub literal_of : ℕ → Text → Index
literal_of line digits = index.Literal line digits

abbrev pub named_of : ℕ → Text → Index
named_of line name = index.Named line name

abbrev pub place_of : ℕ → Text × Option Index → Place
place_of line v = record { line = line; name = v.0; index = v.1 }

abbrev pub local_var_of : ℕ → Text × Expr → Stmt
local_var_of line v = stmt.Var line (v.0 ∷ []) (right.Value v.1)

-- a name with places is a result to which is written; one without is assigned
abbrev pub named_stmt_of : ℕ → Text × (Option (List Place) × Expr) → Stmt
named_stmt_of line (name, (Some places, value)) = stmt.Write line name places value
named_stmt_of line (name, (None, value)) = stmt.Assign line (record { line = line; name = name; field = None } ∷ []) (right.Value value)

abbrev pub const_for_of : ℕ → Text × (Text × (Text × List Stmt)) → Stmt
const_for_of line v = stmt.ConstFor line v.0 v.1.0 v.1.1.0 v.1.1.1

-- ---- statements of the main procedure

abbrev pub target_of : ℕ → Text × Option Text → Target
target_of line v = record { line = line; name = v.0; field = v.1 }

abbrev pub map_of : ℕ → Text × (List Expr × Text) → Right
map_of line v = right.Map line v.0 v.1.0 v.1.1

abbrev pub value_of : Expr → Right
value_of value = right.Value value

abbrev pub var_of : ℕ → Text × (List Text × Right) → Stmt
var_of line v = stmt.Var line (v.0 ∷ v.1.0) v.1.1

abbrev pub assign_of : ℕ → Target × (List Target × Right) → Stmt
assign_of line v = stmt.Assign line (v.0 ∷ v.1.0) v.1.1

abbrev pub while_of : ℕ → Cond × List Stmt → Stmt
while_of line v = stmt.While line v.0 v.1

abbrev pub for_of : ℕ → Text × (Expr × (Expr × List Stmt)) → Stmt
for_of line v = stmt.For line v.0 v.1.0 v.1.1.0 v.1.1.1

-- ---- index expressions

abbrev pub ix_number_of : ℕ → Text → IxAtom
ix_number_of line digits = ix_atom.Number line digits

abbrev pub ix_named_of : ℕ → Text × (Option Text × List Text) → IxAtom
ix_named_of line v = ix_atom.Named line v.0 v.1.0 v.1.1

abbrev pub ix_term_of : ℕ → Bool × List IxAtom → IxTerm
ix_term_of line v = record { line = line; minus = v.0; atoms = v.1 }

abbrev pub ix_of : ℕ → List Text × List IxTerm → Right
ix_of line v = right.Ix line v.0 v.1

-- ---- declarations

abbrev pub int_of : ℕ → Text → Local
int_of line scale = local.Int line scale

abbrev pub vector_of : ℕ → Text × Text → Local
vector_of line v = local.Vector line v.0 v.1

abbrev pub matrix_of : ℕ → Text × (Text × Text) → Local
matrix_of line v = local.Matrix line v.0 v.1.0 v.1.1

abbrev pub int_kind_of : ℕ → Text → ParamKind
int_kind_of line scale = kind.Int line scale

abbrev pub element_kind_of : ℕ → Text → ParamKind
element_kind_of line element = kind.Element line element

abbrev pub ends_kind_of : ℕ → Text × Text → ParamKind
ends_kind_of line v = kind.Ends line v.0 v.1

abbrev pub param_of : ℕ → Text × ParamKind → Param
param_of line v = record { line = line; name = v.0; kind = v.1 }

abbrev pub vector_result_of : Text × Local → Text × (Option Text × Local)
vector_result_of v = (v.0, (None, v.1))

abbrev pub matrix_result_of : Text × (Text × Local) → Text × (Option Text × Local)
matrix_result_of v = (v.0, (Some v.1.0, v.1.1))

abbrev pub result_of : ℕ → Text × (Text × (Option Text × Local)) → ResultDecl
result_of line v = record { line = line; name = v.0; rows = v.1.0; columns = v.1.1.0; block = v.1.1.1 }

abbrev pub field_of : ℕ → Text × Local → Field
field_of line v = record { line = line; name = v.0; local = v.1 }

abbrev pub element_of : ℕ → Text × List Field → Decl
element_of line v = decl.Element line v.0 v.1

abbrev pub set_of : ℕ → Text × (Text × List Text) → Decl
set_of line v = decl.Set line v.0 v.1.0 v.1.1

abbrev pub host_of : ℕ → Text × (List Text × Text) → Decl
host_of line v = decl.Host line v.0 v.1.0 v.1.1

abbrev pub func_of : ℕ → Text × (List Param × (List ResultDecl × List Stmt)) → Decl
func_of line v = decl.Func line v.0 v.1.0 v.1.1.0 v.1.1.1

abbrev pub program_of : ℕ → List Decl × List Stmt → Program
program_of line v = record { line = line; decls = v.0; body = v.1 }
