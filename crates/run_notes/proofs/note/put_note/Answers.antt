use Rattle.run_notes.proofs.note.put_note.Goals as goal

pub returns-in-ReadFault-clause-note : goal.returns-in-ReadFault-clause-note
returns-in-ReadFault-clause-note g c = rw (c.in-ReadFault.is, ← c.file_name.ensures) c.put_three.ensures.note
