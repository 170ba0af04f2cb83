use Rattle.std.proofs.Common.{◌≡◌, map, take}
use Rattle.host_table.specs.Hosts.{name_of}
use Rattle.host_table.proofs.table.HostTable.names.Given as goal

abbrev pub invariant-loop-function : goal.invariant-loop-function
invariant-loop-function g l = l.names.items ≡ map name_of (take l.function-index l.function-items)
