use Rattle.run_notes.proofs.note.put_dense_words.Goals as goal

pub returns-clause-note : goal.returns-clause-note
returns-clause-note g c = rw c.format.ensures.text at c.put_three.ensures.note
