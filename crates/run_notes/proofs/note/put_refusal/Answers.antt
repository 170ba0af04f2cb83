use Rattle.run_notes.proofs.note.put_refusal.Goals as goal

pub returns-in-Syntax-clause-note : goal.returns-in-Syntax-clause-note
returns-in-Syntax-clause-note g c = rw c.in-Syntax.is c.put_place-in-Syntax.ensures.note

pub returns-in-NoSuchSet-clause-note : goal.returns-in-NoSuchSet-clause-note
returns-in-NoSuchSet-clause-note g c = rw (c.in-NoSuchSet.is, ← c.only_name.ensures) c.put_three.ensures.note

pub returns-in-DenseWords-clause-note : goal.returns-in-DenseWords-clause-note
returns-in-DenseWords-clause-note g c = rw c.in-DenseWords.is c.put_dense_words.ensures.note
