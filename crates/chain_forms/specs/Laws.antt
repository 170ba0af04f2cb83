-- The laws of lowering.
use Rattle.std.specs.Prelude.{◌≡◌, false, Ok}
use Rattle.sim_syntax.specs.Indices.{has_index_expression}
use Rattle.sim_syntax.specs.declared.program.Program.{Program}
use Rattle.chain_forms.specs.Lowered.{lowered}

-- no index expression is left
abbrev pub LeavesNoIndex : Type 0
LeavesNoIndex = (program after : Program) → lowered program ≡ Ok after → has_index_expression after ≡ false
