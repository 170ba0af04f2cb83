use Rattle.set_tables.proofs.ElementsRead.{HasWords}
use Rattle.set_tables.proofs.reading.read_words.Given as goal

abbrev pub invariant-loop-k : goal.invariant-loop-k
invariant-loop-k l = HasWords l.arity l.schema l.row l.records.row l.k l.initial.columns.items l.columns.items
