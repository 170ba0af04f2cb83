use Rattle.assembly_sums.specs.Added.{WordsAdded}
use Rattle.assembly_sums.proofs.row.add_words.Given as goal

abbrev pub invariant-loop-index : goal.invariant-loop-index
invariant-loop-index l = WordsAdded l.start l.index l.words l.initial.sums l.sums
