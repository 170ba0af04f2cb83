use Rattle.run_notes.proofs.note.put_cell_fault.Goals as goal

pub returns-in-Empty-clause-note : goal.returns-in-Empty-clause-note
returns-in-Empty-clause-note g c = rw c.in-Empty.is c.put_in_cell.ensures.note

pub returns-in-BadByte-clause-note : goal.returns-in-BadByte-clause-note
returns-in-BadByte-clause-note g c = rw c.in-BadByte.is c.put_bad_byte.ensures.note

pub returns-in-TooFine-clause-note : goal.returns-in-TooFine-clause-note
returns-in-TooFine-clause-note g c = rw c.in-TooFine.is c.put_in_cell-in-TooFine.ensures.note

pub returns-in-TooLarge-clause-note : goal.returns-in-TooLarge-clause-note
returns-in-TooLarge-clause-note g c = rw c.in-TooLarge.is c.put_in_cell-in-TooLarge.ensures.note
