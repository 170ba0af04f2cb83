use Rattle.set_tables.proofs.RecordsLeft.{reads-row}
use Rattle.set_tables.proofs.records.read_record.Goals as goal

pub returns-in-Ok-clause-goes : goal.returns-in-Ok-clause-goes
returns-in-Ok-clause-goes c =
    reads-row c.args.reader.now c.read_byte_record.new.self _ c.in-Ok.found (λ e. cc (c.in-Ok.ensures.failed e)) c.requires c.in-Ok.ensures.reads
