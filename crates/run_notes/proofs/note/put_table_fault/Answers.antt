use Rattle.run_notes.proofs.note.put_table_fault.Goals as goal

pub returns-in-Memory-clause-note : goal.returns-in-Memory-clause-note
returns-in-Memory-clause-note g c = rw c.in-Memory.is c.put_three-in-Memory.ensures.note
