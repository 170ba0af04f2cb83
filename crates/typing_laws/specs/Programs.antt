-- Which typed programs are typings of a program.
use Rattle.std.specs.Prelude.{List, []}
use Rattle.host_table.specs.declared.table.HostName.{HostName}
use Rattle.sim_syntax.specs.declared.program.Program.{Program}
use Rattle.typed_tree.specs.declared.environment.Declarations.{Declarations}
use Rattle.typed_tree.specs.declared.environment.Level.TheVariants.{Function, Main}
use Rattle.typed_tree.specs.declared.environment.Walk.{Walk}
use Rattle.typed_tree.specs.declared.main_procedure.MainStmt.{MainStmt}
use Rattle.typed_tree.specs.declared.program.TypedProgram.{TypedProgram}
use Rattle.typing_laws.specs.Declarations.{AreDeclarations}
use Rattle.typing_laws.specs.MainStatements.{IsMainBodyTyping}

-- before a program nothing is known
abbrev pub at_first : Walk
at_first = record {
  environment = record { level = Function; declarations = record { elements = []; sets = []; functions = []; variables = [] }; names = [] };
  nodes = 0;
  statements = 0;
  locals = 0;
}

-- before the main procedure what the declarations make known is known, and from here on whole values are named alone
abbrev pub before_main : Walk → Walk
before_main walk = record {
  environment = record { level = Main; declarations = walk.environment.declarations; names = walk.environment.names };
  nodes = walk.nodes;
  statements = walk.statements;
  locals = walk.locals;
}

-- the typed program of a tree: what is declared in it, and its statements
abbrev pub program_with : Program → Declarations → List MainStmt → TypedProgram
program_with tree known body = record {
  tree = tree;
  elements = known.elements;
  sets = known.sets;
  functions = known.functions;
  variables = known.variables;
  body = body;
}

-- a program, by what the host offers: its declarations, and its main procedure after them
pub data IsProgramTyping (hosts : List HostName) : Program → TypedProgram → Type 0 where
  program : (tree : Program) (declared after : Walk) (body : List MainStmt)
      → AreDeclarations hosts tree.decls at_first declared → IsMainBodyTyping tree.body body (before_main declared) after
      → IsProgramTyping hosts tree (program_with tree after.environment.declarations body)
