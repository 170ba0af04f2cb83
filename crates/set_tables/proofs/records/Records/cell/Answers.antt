use Rattle.std.proofs.Common.{sym, ap}
use Rattle.csv.proofs.RecordFacts.{field-get, field-there}
use Rattle.csv.specs.Records.{fields_of}
use Rattle.set_tables.specs.Cursor.{Cursor}
use Rattle.set_tables.proofs.records.Records.cell.Goals as goal

pub returns : goal.returns
returns c =
    rw (← ap (λ (cursor : Cursor). cursor.row) c.self.view_is)
    (sym (field-get (fields_of c.self.inside.row) c.args.k c.in-Some.cell.now (sym c.in-Some.ensures.value)))

pub unreachable-requires : goal.unreachable-requires
unreachable-requires c =
    let row = ap (λ (cursor : Cursor). cursor.row) c.self.view_is in
    field-there (fields_of c.self.inside.row) c.args.k (rw row c.requires) (sym c.in-None.ensures.value)
