-- FirstLine: a tree with the first line at each of its nodes, and all else as it is.
use Rattle.std.specs.Prelude.{map, Option, Some, None}
use Rattle.sim_syntax.specs.declared.expression.Expr.{Expr}
use Rattle.sim_syntax.specs.declared.expression.Expr.TheVariants as expr
use Rattle.sim_syntax.specs.declared.expression.Expr.TheOpen.{Expr-F, Row-F, SumTerm-F, ProductFactor-F}
use Rattle.sim_syntax.specs.declared.expression.Expr.TheFolds.{fold-Expr, fold-Row, fold-SumTerm, fold-ProductFactor}
use Rattle.sim_syntax.specs.declared.expression.Row.{Row, roll-Row}
use Rattle.sim_syntax.specs.declared.expression.SumTerm.{SumTerm, roll-SumTerm}
use Rattle.sim_syntax.specs.declared.expression.ProductFactor.{ProductFactor, roll-ProductFactor}
use Rattle.sim_syntax.specs.declared.condition.Cond.{Cond}
use Rattle.sim_syntax.specs.declared.condition.Conjunction.{Conjunction}
use Rattle.sim_syntax.specs.declared.condition.Cmp.{Cmp}
use Rattle.sim_syntax.specs.declared.statement.Stmt.{Stmt}
use Rattle.sim_syntax.specs.declared.statement.Stmt.TheVariants as stmt
use Rattle.sim_syntax.specs.declared.statement.Stmt.TheOpen.{Stmt-F}
use Rattle.sim_syntax.specs.declared.statement.Stmt.TheFolds.{fold-Stmt}
use Rattle.sim_syntax.specs.declared.statement.Target.{Target}
use Rattle.sim_syntax.specs.declared.statement.Place.{Place}
use Rattle.sim_syntax.specs.declared.statement.Index.{Index}
use Rattle.sim_syntax.specs.declared.statement.Index.TheVariants as index_variant
use Rattle.sim_syntax.specs.declared.statement.Right.{Right}
use Rattle.sim_syntax.specs.declared.statement.Right.TheVariants as right_variant
use Rattle.sim_syntax.specs.declared.statement.IxTerm.{IxTerm}
use Rattle.sim_syntax.specs.declared.statement.IxAtom.{IxAtom}
use Rattle.sim_syntax.specs.declared.statement.IxAtom.TheVariants as ix_atom_variant
use Rattle.sim_syntax.specs.declared.declaration.Decl.{Decl}
use Rattle.sim_syntax.specs.declared.declaration.Decl.TheVariants as decl
use Rattle.sim_syntax.specs.declared.declaration.Field.{Field}
use Rattle.sim_syntax.specs.declared.declaration.Local.{Local}
use Rattle.sim_syntax.specs.declared.declaration.Local.TheVariants as local_variant
use Rattle.sim_syntax.specs.declared.declaration.Param.{Param}
use Rattle.sim_syntax.specs.declared.declaration.ParamKind.{ParamKind}
use Rattle.sim_syntax.specs.declared.declaration.ParamKind.TheVariants as kind
use Rattle.sim_syntax.specs.declared.declaration.ResultDecl.{ResultDecl}
use Rattle.sim_syntax.specs.declared.program.Program.{Program}

-- ---- expressions

unfoldable pub node : Expr-F Expr ProductFactor Row SumTerm → Expr
node (Expr-F.Number line digits) = expr.Number 1 digits
node (Expr-F.Ref line name args field field_args rank) = expr.Ref 1 name args field field_args rank
node (Expr-F.Block line rows) = expr.Block 1 rows
node (Expr-F.Sum line terms) = expr.Sum 1 terms
node (Expr-F.Product line factors) = expr.Product 1 factors
node (Expr-F.Transposed line value) = expr.Transposed 1 value
node (Expr-F.Rescale line value scale) = expr.Rescale 1 value scale
node (Expr-F.Quot line dividend divisor scale) = expr.Quot 1 dividend divisor scale
node (Expr-F.Isqrt line value scale) = expr.Isqrt 1 value scale
node (Expr-F.Dot line left right) = expr.Dot 1 left right

abbrev pub factor_node : ProductFactor-F Expr ProductFactor Row SumTerm → ProductFactor
factor_node factor = roll-ProductFactor (record { line = 1; entrywise = factor.entrywise; value = factor.value })

abbrev pub row_node : Row-F Expr ProductFactor Row SumTerm → Row
row_node row = roll-Row (record { line = 1; entries = row.entries })

abbrev pub term_node : SumTerm-F Expr ProductFactor Row SumTerm → SumTerm
term_node term = roll-SumTerm (record { line = 1; minus = term.minus; value = term.value })

abbrev pub expression : Expr → Expr
expression = fold-Expr Expr ProductFactor Row SumTerm node factor_node row_node term_node

abbrev pub row : Row → Row
row = fold-Row Expr ProductFactor Row SumTerm node factor_node row_node term_node

abbrev pub sum_term : SumTerm → SumTerm
sum_term = fold-SumTerm Expr ProductFactor Row SumTerm node factor_node row_node term_node

abbrev pub product_factor : ProductFactor → ProductFactor
product_factor = fold-ProductFactor Expr ProductFactor Row SumTerm node factor_node row_node term_node

-- ---- conditions

abbrev pub cmp : Cmp → Cmp
cmp c = record { line = 1; negated = c.negated; left = expression c.left; op = c.op; right = expression c.right }

abbrev pub conjunction : Conjunction → Conjunction
conjunction c = record { line = 1; parts = map cmp c.parts }

abbrev pub cond : Cond → Cond
cond c = record { line = 1; parts = map conjunction c.parts }

-- ---- statements

abbrev pub target : Target → Target
target t = record { line = 1; name = t.name; field = t.field }

abbrev pub index : Index → Index
index (index_variant.Literal line digits) = index_variant.Literal 1 digits
index (index_variant.Named line name) = index_variant.Named 1 name

abbrev pub optional_index : Option Index → Option Index
optional_index None = None
optional_index (Some i) = Some (index i)

abbrev pub place : Place → Place
place p = record { line = 1; name = p.name; index = optional_index p.index }

abbrev pub ix_atom : IxAtom → IxAtom
ix_atom (ix_atom_variant.Number line digits) = ix_atom_variant.Number 1 digits
ix_atom (ix_atom_variant.Named line name field indices) = ix_atom_variant.Named 1 name field indices

abbrev pub ix_term : IxTerm → IxTerm
ix_term t = record { line = 1; minus = t.minus; atoms = map ix_atom t.atoms }

abbrev pub right : Right → Right
right (right_variant.Map line func args set) = right_variant.Map 1 func (map expression args) set
right (right_variant.Ix line free terms) = right_variant.Ix 1 free (map ix_term terms)
right (right_variant.Value value) = right_variant.Value (expression value)

unfoldable pub statement_node : Stmt-F Stmt → Stmt
statement_node (Stmt-F.Var line names side) = stmt.Var 1 names (right side)
statement_node (Stmt-F.Assign line targets side) = stmt.Assign 1 (map target targets) (right side)
statement_node (Stmt-F.Write line result places value) = stmt.Write 1 result (map place places) (expression value)
statement_node (Stmt-F.ConstFor line name from to body) = stmt.ConstFor 1 name from to body
statement_node (Stmt-F.For line name from to body) = stmt.For 1 name (expression from) (expression to) body
statement_node (Stmt-F.While line condition body) = stmt.While 1 (cond condition) body
statement_node (Stmt-F.If line condition body otherwise) = stmt.If 1 (cond condition) body otherwise
statement_node (Stmt-F.Assert line condition) = stmt.Assert 1 (cond condition)

abbrev pub statement : Stmt → Stmt
statement = fold-Stmt Stmt statement_node

-- ---- declarations

abbrev pub local : Local → Local
local (local_variant.Int line scale) = local_variant.Int 1 scale
local (local_variant.Vector line side scale) = local_variant.Vector 1 side scale
local (local_variant.Matrix line rows columns scale) = local_variant.Matrix 1 rows columns scale

abbrev pub param_kind : ParamKind → ParamKind
param_kind (kind.Int line scale) = kind.Int 1 scale
param_kind (kind.Element line element) = kind.Element 1 element
param_kind (kind.Ends line element count) = kind.Ends 1 element count

abbrev pub param : Param → Param
param p = record { line = 1; name = p.name; kind = param_kind p.kind }

abbrev pub result : ResultDecl → ResultDecl
result r = record { line = 1; name = r.name; rows = r.rows; columns = r.columns; block = local r.block }

abbrev pub field : Field → Field
field f = record { line = 1; name = f.name; local = local f.local }

abbrev pub declaration : Decl → Decl
declaration (decl.Element line name fields) = decl.Element 1 name (map field fields)
declaration (decl.Set line name element ends) = decl.Set 1 name element ends
declaration (decl.Host line name args scale) = decl.Host 1 name args scale
declaration (decl.Func line name params results body) = decl.Func 1 name (map param params) (map result results) (map statement body)

-- a program with the first line at each of its nodes
abbrev pub on_first_line : Program → Program
on_first_line program = record { line = 1; decls = map declaration program.decls; body = map statement program.body }
