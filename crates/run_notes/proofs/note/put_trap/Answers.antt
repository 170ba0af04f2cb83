use Rattle.run_notes.proofs.note.put_trap.Goals as goal

pub returns-in-None-clause-note : goal.returns-in-None-clause-note
returns-in-None-clause-note g c = rw c.in-None.is (rw (c.format-line.ensures.text, c.trap_words-words.ensures) at c.put_three.ensures.note)

pub returns-in-Some-clause-note : goal.returns-in-Some-clause-note
returns-in-Some-clause-note g c = rw c.in-Some.is (rw (c.format-line.ensures.text, c.format-element.ensures.text, c.trap_words-words.ensures) at c.put_five.ensures.note)
