use Rattle.sim_grammar.proofs.Law.{reads_what_is_derived, reads_the_place, stuck_few, unambiguous}
use Rattle.sim_grammar.proofs.reading.reading_law.Goals as goal

pub returns-clause-derived : goal.returns-clause-derived
returns-clause-derived c = reads_what_is_derived

pub returns-clause-place : goal.returns-clause-place
returns-clause-place c = reads_the_place

pub returns-clause-few : goal.returns-clause-few
returns-clause-few c = stuck_few

pub returns-clause-unambiguous : goal.returns-clause-unambiguous
returns-clause-unambiguous c = unambiguous
