-- The typed program of a program's tree, or the first fault of it in post-order.
use Rattle.std.specs.Prelude.{ℕ, List, [], Result, Ok, Err}
use Rattle.vocabulary.specs.Answers.{◌>>=◌, fold_result}
use Rattle.host_table.specs.declared.table.HostName.{HostName}
use Rattle.sim_syntax.specs.declared.declaration.Decl.{Decl}
use Rattle.sim_syntax.specs.declared.program.Program.{Program}
use Rattle.typed_tree.specs.declared.fault.CheckFault.{CheckFault}
use Rattle.typed_tree.specs.declared.main_procedure.MainStmt.{MainStmt}
use Rattle.typed_tree.specs.declared.environment.Level.TheVariants.{Function, Main}
use Rattle.typed_tree.specs.declared.environment.Walk.{Walk}
use Rattle.typed_tree.specs.declared.program.TypedProgram.{TypedProgram}
use Rattle.typed_tree.specs.Declarations.{declaration}
use Rattle.typed_tree.specs.MainProcedure.{main_statements}

-- nothing is known
abbrev pub beginning : Walk
beginning = record {
  environment = record { level = Function; declarations = record { elements = []; sets = []; functions = []; variables = [] }; names = [] };
  nodes = 0;
  statements = 0;
  locals = 0;
}

-- the walk over declarations, by what the host offers
abbrev pub declared : List HostName → List Decl → Result Walk CheckFault
declared hosts decls = fold_result (declaration hosts) beginning decls

-- the walk comes to the main procedure
abbrev pub at_main : Walk → Walk
at_main walk = record {
  environment = record { level = Main; declarations = walk.environment.declarations; names = walk.environment.names };
  nodes = walk.nodes;
  statements = walk.statements;
  locals = walk.locals;
}

unfoldable pub program_of : Program → List MainStmt × Walk → TypedProgram
program_of tree done = record {
  tree = tree;
  elements = done.1.environment.declarations.elements;
  sets = done.1.environment.declarations.sets;
  functions = done.1.environment.declarations.functions;
  variables = done.1.environment.declarations.variables;
  body = done.0;
}

unfoldable pub typed : List HostName → Program → Result TypedProgram CheckFault
typed hosts tree = do
  walk ← declared hosts tree.decls
  done ← main_statements tree.body (at_main walk)
  Ok (program_of tree done)
