use Rattle.std.proofs.Common.{take}
use Rattle.std.specs.List.{flat_map}
use Rattle.sim_printer.specs.Printed as spec
use Rattle.sim_printer.specs.Grown.{Grown}
use Rattle.sim_printer.proofs.declarations.fields.Given as goal

-- those so far are printed
abbrev pub invariant-loop-one : goal.invariant-loop-one
invariant-loop-one l = Grown l.initial.line l.line (flat_map spec.field_decl_words (take l.one-index l.all))
