-- A program's tree and what was typed of it.
use Rattle.std.specs.Prelude.{◌≡◌, ◌⊎◌, List, Result, Ok, Err}
use Rattle.host_table.specs.declared.table.HostName.{HostName}
use Rattle.sim_syntax.specs.declared.program.Program.{Program}
use Rattle.typed_tree.specs.declared.fault.CheckFault.{CheckFault}
use Rattle.typed_tree.specs.declared.fault.CheckFault.TheVariants.{Memory}
use Rattle.typed_tree.specs.declared.program.TypedProgram.{TypedProgram}
use Rattle.typed_tree.specs.Typed.{typed}
use Rattle.block_types.specs.declared.program.Parts.{Parts}

abbrev pub whole : Program → Parts → TypedProgram
whole tree parts = record {
  tree = tree;
  elements = parts.declarations.elements;
  sets = parts.declarations.sets;
  functions = parts.declarations.functions;
  variables = parts.declarations.variables;
  body = parts.body;
}

-- with its tree, the parts are the typed program; a fault is its own, or out of memory
abbrev pub ArePartsOf : List HostName → Program → Result Parts CheckFault → Type 0
ArePartsOf hosts tree (Ok parts) = typed hosts tree ≡ Ok (whole tree parts)
ArePartsOf hosts tree (Err fault) = (fault ≡ Memory) ⊎ (typed hosts tree ≡ Err fault)
