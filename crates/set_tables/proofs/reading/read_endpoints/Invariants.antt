use Rattle.set_tables.proofs.ElementsRead.{HasEndpoints}
use Rattle.set_tables.proofs.reading.read_endpoints.Given as goal

abbrev pub invariant-loop-position : goal.invariant-loop-position
invariant-loop-position l = HasEndpoints l.bound l.arity l.row l.records.row l.position l.initial.endpoints.items l.endpoints.items
