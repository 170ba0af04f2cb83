use Rattle.std.proofs.Common.{◌≡◌, drop}
use Rattle.typed_tree.specs.Declarations.{signature_of}
use Rattle.declaration_types.specs.Functions.{prepended}
use Rattle.declaration_types.proofs.functions.signature_of.Given as goal

-- the scalars so far stand before the signature of what is left
abbrev pub invariant-loop-index : goal.invariant-loop-index
invariant-loop-index l = prepended l.arguments (signature_of (drop l.index l.parameters)) ≡ signature_of l.parameters
