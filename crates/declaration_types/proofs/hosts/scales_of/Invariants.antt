use Rattle.std.proofs.Common.{◌≡◌, ◌++◌, map, drop}
use Rattle.typed_tree.specs.Literals.{whole}
use Rattle.declaration_types.proofs.hosts.scales_of.Given as goal

-- the scales so far and those that are left are all scales
abbrev pub invariant-loop-digits : goal.invariant-loop-digits
invariant-loop-digits l = l.scales ++ map whole (drop l.digits-index l.args) ≡ map whole l.args
