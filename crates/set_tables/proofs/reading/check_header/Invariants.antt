use Rattle.set_tables.specs.Schema.{headings}
use Rattle.set_tables.proofs.Headings.{Agrees}
use Rattle.set_tables.proofs.reading.check_header.Given as goal

abbrev pub invariant-loop-column : goal.invariant-loop-column
invariant-loop-column l = Agrees l.records.row (headings l.schema) l.column
