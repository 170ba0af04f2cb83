use Rattle.run_notes.proofs.note.put_place.Goals as goal

pub returns-clause-note : goal.returns-clause-note
returns-clause-note g c = rw (c.format.ensures.text, c.format-2.ensures.text) at c.put_five.ensures.note
