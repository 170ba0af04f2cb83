use Rattle.set_tables.proofs.RecordsLeft.{are-short}
use Rattle.set_tables.proofs.records.Records.of.Goals as goal

pub returns-clause-short : goal.returns-clause-short
returns-clause-short c = rw (c.from_reader.ensures.state, c.from_reader.ensures.source) (are-short c.args.bytes.now c.requires)
