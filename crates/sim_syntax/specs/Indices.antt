-- The index expressions of a program.
use Rattle.std.specs.Prelude.{Bool, true, false, ◌||◌, List, map}
use Rattle.std.specs.List.{list_any}
use Rattle.sim_syntax.specs.declared.declaration.Decl.{Decl}
use Rattle.sim_syntax.specs.declared.declaration.Decl.TheVariants as decl
use Rattle.sim_syntax.specs.declared.statement.Right.{Right}
use Rattle.sim_syntax.specs.declared.statement.Right.TheVariants as right
use Rattle.sim_syntax.specs.declared.statement.Stmt.{Stmt}
use Rattle.sim_syntax.specs.declared.statement.Stmt.TheOpen.{Stmt-F}
use Rattle.sim_syntax.specs.declared.statement.Stmt.TheFolds.{fold-Stmt}
use Rattle.sim_syntax.specs.declared.program.Program.{Program}

-- whether a right side is an index expression
abbrev pub is_index_expression : Right → Bool
is_index_expression (right.Ix line free terms) = true
is_index_expression other = false

-- whether one of these is true
abbrev pub any_true : List Bool → Bool
any_true = list_any (λ holds. holds)

-- one statement, with whether an index expression stands in it in place of each statement inside
abbrev pub in_node : Stmt-F Bool → Bool
in_node (Stmt-F.Var line names e) = is_index_expression e
in_node (Stmt-F.Assign line targets e) = is_index_expression e
in_node (Stmt-F.ConstFor line name from to body) = any_true body
in_node (Stmt-F.For line name from to body) = any_true body
in_node (Stmt-F.While line cond body) = any_true body
in_node (Stmt-F.If line cond body otherwise) = any_true body || any_true otherwise
in_node (Stmt-F.Write line result places value) = false
in_node (Stmt-F.Assert line cond) = false

-- whether an index expression stands in a statement, at any depth
abbrev pub in_statement : Stmt → Bool
in_statement = fold-Stmt Bool in_node

abbrev pub in_statements : List Stmt → Bool
in_statements statements = any_true (map in_statement statements)

-- the statements of a declaration are those of a function's body
abbrev pub in_declaration : Decl → Bool
in_declaration (decl.Func line name params results body) = in_statements body
in_declaration other = false

abbrev pub in_declarations : List Decl → Bool
in_declarations = list_any in_declaration

-- whether an index expression stands in a program: in a function or in the main procedure
abbrev pub has_index_expression : Program → Bool
has_index_expression program = in_declarations program.decls || in_statements program.body
