use Rattle.std.proofs.Common.{All, length}
use Rattle.set_tables.specs.Records.{AreShort}
use Rattle.set_tables.proofs.RowsRead.{HasRead}
use Rattle.set_tables.proofs.reading.read_rows.Given as goal

abbrev pub invariant-loop-records : goal.invariant-loop-records
invariant-loop-records l = record {
  read : HasRead l.schema l.bound l.initial.records.left l.records.left l.count l.endpoints.items l.columns.items;
  short : All AreShort l.records.left;
}

abbrev pub decreases-loop-records : goal.decreases-loop-records
decreases-loop-records l = length l.records.left
