-- The walk over the statements of a program: what a statement makes known, and where it ends.
use Rattle.std.specs.Prelude.{ℕ, suc, ◌+◌, ◌==◌, Bool, true, false, not, ◌&&◌, ◌||◌, nat_lt, List, [], ◌∷◌, ◌++◌, length, take, Option, Some, None, Result, Ok, Err, if◌then◌else◌}
use Rattle.vocabulary.specs.Answers.{◌>>=◌}
use Rattle.vocabulary.specs.declared.limits.TheConstants.{MOST_STATEMENTS}
use Rattle.sim_syntax.specs.declared.expression.Expr as tree
use Rattle.sim_syntax.specs.declared.condition.Cond.{Cond}
use Rattle.type_rules.specs.declared.types.TypeKind.{TypeKind}
use Rattle.type_rules.specs.declared.types.TypeKind.TheVariants as kind
use Rattle.typed_tree.specs.declared.fault.CheckFault.{CheckFault}
use Rattle.typed_tree.specs.declared.fault.CheckFault.TheVariants.{IllTyped}
use Rattle.typed_tree.specs.declared.expression.TypedExpr.{TypedExpr}
use Rattle.typed_tree.specs.declared.condition.TypedCond.{TypedCond}
use Rattle.typed_tree.specs.declared.environment.Declarations.{Declarations}
use Rattle.typed_tree.specs.declared.environment.Environment.{Environment}
use Rattle.typed_tree.specs.declared.environment.Walk.{Walk}
use Rattle.typed_tree.specs.declared.names.Meaning.{Meaning}
use Rattle.typed_tree.specs.declared.names.Meaning.TheVariants as meaning
use Rattle.typed_tree.specs.Names.{Known, Name, is_known, with_meaning}
use Rattle.typed_tree.specs.Steps.{Step, several}
use Rattle.typed_tree.specs.Expressions.{expression, expressions, condition}

-- ---- parts of the walk replaced

abbrev pub with_nodes : Walk → ℕ → Walk
with_nodes walk nodes = record { environment = walk.environment; nodes = nodes; statements = walk.statements; locals = walk.locals }

abbrev pub with_names : Environment → Known → Environment
with_names env names = record { level = env.level; declarations = env.declarations; names = names }

abbrev pub with_declarations : Environment → Declarations → Environment
with_declarations env declarations = record { level = env.level; declarations = declarations; names = env.names }

-- a name stands for something from here on
abbrev pub naming : Walk → Name → Meaning → Walk
naming walk name meaning = record {
  environment = with_names walk.environment (with_meaning walk.environment.names name meaning);
  nodes = walk.nodes;
  statements = walk.statements;
  locals = walk.locals;
}

-- a name stands for the next local
abbrev pub naming_local : Walk → Name → Meaning → Walk
naming_local walk name meaning = record {
  environment = with_names walk.environment (with_meaning walk.environment.names name meaning);
  nodes = walk.nodes;
  statements = walk.statements;
  locals = suc walk.locals;
}

abbrev pub is_visible : Walk → Name → Bool
is_visible walk name = is_known walk.environment.names name

-- ---- expressions in a statement

unfoldable pub value : tree.Expr → Step Walk TypedExpr
value e walk = expression walk.environment e walk.nodes >>= λ v. Ok (v.0, with_nodes walk v.1)

unfoldable pub values : List tree.Expr → Step Walk (List TypedExpr)
values es walk = expressions walk.environment es walk.nodes >>= λ vs. Ok (vs.0, with_nodes walk vs.1)

unfoldable pub cond : Cond → Step Walk TypedCond
cond c walk = condition walk.environment c walk.nodes >>= λ t. Ok (t.0, with_nodes walk t.1)

-- ---- statements

-- a statement ends: with the kind of its fault, or as one more, within the limit
unfoldable pub counted : ℕ → Option TypeKind → Walk → Result Walk CheckFault
counted line (Some fault) walk = Err (IllTyped line fault)
counted line None walk =
    if nat_lt walk.statements MOST_STATEMENTS
    then Ok (record { environment = walk.environment; nodes = walk.nodes; statements = suc walk.statements; locals = walk.locals })
    else Err (IllTyped line kind.TooLarge)

-- a statement that doesn't stand here by the grammar
abbrev pub misplaced : {A : Type 0} → ℕ → Step Walk A
misplaced line walk = Err (IllTyped line kind.Shape)

-- so many names and locals are visible, those that were declared first
abbrev pub cut_back : ℕ → ℕ → Walk → Walk
cut_back names locals walk = record {
  environment = with_names walk.environment (take names walk.environment.names);
  nodes = walk.nodes;
  statements = walk.statements;
  locals = locals;
}

-- the end of a list of statements: what was declared in it is no longer visible
abbrev pub ended : Walk → Walk → Walk
ended before after = cut_back (length before.environment.names) before.locals after

-- the statements of a list, which begins with some names of its own
unfoldable pub inside : {A : Type 0} → (Walk → Walk) → List (Step Walk A) → Step Walk (List A)
inside begin steps walk = several steps (begin walk) >>= λ done. Ok (done.0, ended walk done.1)

abbrev pub scoped : {A : Type 0} → List (Step Walk A) → Step Walk (List A)
scoped = inside (λ walk. walk)
