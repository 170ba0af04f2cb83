use Rattle.run_laws.proofs.Shapes.{leaves_shapes, changes_words, statements_change_words}
use Rattle.run_laws.proofs.shape_law.Goals as goal

pub returns-clause-shapes : goal.returns-clause-shapes
returns-clause-shapes c = leaves_shapes

pub returns-clause-sets : goal.returns-clause-sets
returns-clause-sets c = changes_words

pub returns-clause-statements : goal.returns-clause-statements
returns-clause-statements c = statements_change_words
