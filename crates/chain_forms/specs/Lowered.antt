-- The program that a program is lowered to: each index expression that stands in it is the sum of its lowered terms, and all
-- else is as it was. Where some index expression isn't in chain form, the first one's line.
use Rattle.std.specs.Prelude.{ℕ, if◌then◌else◌, List, [], ◌∷◌, map, Option, Some, None, Result, Ok, Err}
use Rattle.std.specs.Option.{option_map}
use Rattle.vocabulary.specs.Answers.{◌>>=◌, all_ok}
use Rattle.sim_syntax.specs.declared.declaration.Decl.{Decl}
use Rattle.sim_syntax.specs.declared.declaration.Decl.TheVariants as decl
use Rattle.sim_syntax.specs.declared.expression.Expr.{Expr}
use Rattle.sim_syntax.specs.declared.expression.Expr.TheVariants as expr
use Rattle.sim_syntax.specs.declared.expression.SumTerm.{SumTerm, roll-SumTerm, out-SumTerm}
use Rattle.sim_syntax.specs.declared.program.Program.{Program}
use Rattle.sim_syntax.specs.declared.statement.IxAtom.{IxAtom}
use Rattle.sim_syntax.specs.declared.statement.IxTerm.{IxTerm}
use Rattle.sim_syntax.specs.declared.statement.Right.{Right}
use Rattle.sim_syntax.specs.declared.statement.Right.TheVariants as right
use Rattle.sim_syntax.specs.declared.statement.Stmt.{Stmt}
use Rattle.sim_syntax.specs.declared.statement.Stmt.TheVariants as stmt
use Rattle.sim_syntax.specs.declared.statement.Stmt.TheOpen.{Stmt-F}
use Rattle.sim_syntax.specs.declared.statement.Stmt.TheFolds.{fold-Stmt}
use Rattle.chain_forms.specs.declared.chain.Chain.{Chain}
use Rattle.chain_forms.specs.Atoms.{Name}
use Rattle.chain_forms.specs.Following.{ordering}
use Rattle.chain_forms.specs.Lowering.{line_of, lowered_by}

-- ---- index expressions

-- the line of a term's first atom
abbrev pub first_line : ℕ → List IxAtom → ℕ
first_line line [] = line
first_line line (a ∷ atoms) = line_of a

abbrev pub term_line : IxTerm → ℕ
term_line term = first_line term.line term.atoms

-- a lowered term with its sign
abbrev pub signed : IxTerm → Chain → SumTerm
signed term ordering =
    roll-SumTerm (record { line = term_line term; minus = term.minus; value = lowered_by ordering (term_line term) term.atoms })

abbrev pub or_fault : {A : Type 0} → ℕ → Option A → Result A ℕ
or_fault line None = Err line
or_fault line (Some x) = Ok x

unfoldable pub lowered_term : List Name → ℕ → IxTerm → Result SumTerm ℕ
lowered_term free line term = or_fault line (option_map (signed term) (ordering free term.atoms))

-- a sum of one term without a minus is that term
unfoldable pub sum : ℕ → List SumTerm → Expr
sum line (term ∷ []) = if (out-SumTerm term).minus then expr.Sum line (term ∷ []) else (out-SumTerm term).value
sum line terms = expr.Sum line terms

unfoldable pub lowered_ix : List Name → ℕ → List IxTerm → Result Expr ℕ
lowered_ix free line terms = all_ok (map (lowered_term free line) terms) >>= λ terms. Ok (sum line terms)

-- ---- statements

unfoldable pub lowered_right : Right → Result Right ℕ
lowered_right (right.Ix line free terms) = lowered_ix free line terms >>= λ e. Ok (right.Value e)
lowered_right other = Ok other

-- one statement, with what each statement inside is lowered to
unfoldable pub lowered_node : Stmt-F (Result Stmt ℕ) → Result Stmt ℕ
lowered_node (Stmt-F.Var line names e) = lowered_right e >>= λ e. Ok (stmt.Var line names e)
lowered_node (Stmt-F.Assign line targets e) = lowered_right e >>= λ e. Ok (stmt.Assign line targets e)
lowered_node (Stmt-F.Write line result places value) = Ok (stmt.Write line result places value)
lowered_node (Stmt-F.ConstFor line name from to body) = all_ok body >>= λ body. Ok (stmt.ConstFor line name from to body)
lowered_node (Stmt-F.For line name from to body) = all_ok body >>= λ body. Ok (stmt.For line name from to body)
lowered_node (Stmt-F.While line cond body) = all_ok body >>= λ body. Ok (stmt.While line cond body)
lowered_node (Stmt-F.If line cond body otherwise) =
    all_ok body >>= λ body. all_ok otherwise >>= λ otherwise. Ok (stmt.If line cond body otherwise)
lowered_node (Stmt-F.Assert line cond) = Ok (stmt.Assert line cond)

abbrev pub lowered_statement : Stmt → Result Stmt ℕ
lowered_statement = fold-Stmt (Result Stmt ℕ) lowered_node

unfoldable pub lowered_statements : List Stmt → Result (List Stmt) ℕ
lowered_statements statements = all_ok (map lowered_statement statements)

-- ---- programs

unfoldable pub lowered_declaration : Decl → Result Decl ℕ
lowered_declaration (decl.Func line name params results body) =
    lowered_statements body >>= λ body. Ok (decl.Func line name params results body)
lowered_declaration other = Ok other

unfoldable pub lowered : Program → Result Program ℕ
lowered program =
    all_ok (map lowered_declaration program.decls) >>= λ decls.
    lowered_statements program.body >>= λ body. Ok (record { line = program.line; decls = decls; body = body })
