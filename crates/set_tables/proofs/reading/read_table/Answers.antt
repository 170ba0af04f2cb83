use Rattle.set_tables.specs.Table.{table_set}
use Rattle.set_tables.proofs.TableRead.{table-made}
use Rattle.set_tables.proofs.reading.read_table.Goals as goal

pub returns-clause-reads : goal.returns-clause-reads
unfolding table_set
returns-clause-reads c = rw c.of-records.ensures.left at c.read_records.ensures

pub returns-clause-fits : goal.returns-clause-fits
returns-clause-fits c set stated = (table-made c.args.schema.now c.args.over c.args.bound c.args.bytes.now set stated).fits

pub returns-clause-over : goal.returns-clause-over
returns-clause-over c set stated = (table-made c.args.schema.now c.args.over c.args.bound c.args.bytes.now set stated).over_is

pub returns-clause-endpoints_below : goal.returns-clause-endpoints_below
returns-clause-endpoints_below c set stated = (table-made c.args.schema.now c.args.over c.args.bound c.args.bytes.now set stated).endpoints_below
