use Rattle.std.proofs.Common.{◌≡◌, ◌++◌, map, drop}
use Rattle.typed_tree.specs.Lookups.{set_named}
use Rattle.declaration_types.proofs.sets.ends_of.Given as goal

-- the endpoints so far and those that are left are all endpoints
abbrev pub invariant-loop-name : goal.invariant-loop-name
invariant-loop-name l = l.ends ++ map (set_named l.environment) (drop l.name-index l.names) ≡ map (set_named l.environment) l.names
