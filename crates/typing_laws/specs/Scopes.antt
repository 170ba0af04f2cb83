-- Names that are declared in lists of statements, and what a statement leaves.
use Rattle.std.specs.Prelude.{◌≡◌, suc, ◌<◌, None}
use Rattle.vocabulary.specs.declared.limits.TheConstants.{MOST_STATEMENTS}
use Rattle.typed_tree.specs.declared.environment.Walk.{Walk}
use Rattle.typed_tree.specs.Names.{Name, meaning_of}
use Rattle.typed_tree.specs.Walking.{with_declarations}

-- a name that isn't visible
abbrev pub IsNew : Walk → Name → Type 0
IsNew walk name = meaning_of walk.environment.names name ≡ None

-- another statement may stand here
abbrev pub HasRoom : Walk → Type 0
HasRoom walk = walk.statements < MOST_STATEMENTS

-- after another statement
abbrev pub past : Walk → Walk
past walk = record { environment = walk.environment; nodes = walk.nodes; statements = suc walk.statements; locals = walk.locals }

-- after a list of statements: just the names are visible that were visible before it
abbrev pub leaving : Walk → Walk → Walk
leaving before after = record {
  environment = with_declarations before.environment after.environment.declarations;
  nodes = after.nodes;
  statements = after.statements;
  locals = before.locals;
}
