use Rattle.std.proofs.Common.{◌≡◌, ◌++◌, drop, map, take}
use Rattle.value_algebra.specs.Scales.{rescaled_word}
use Rattle.value_algebra.proofs.scales.rescale_each.Given as goal

abbrev pub invariant-loop-word : goal.invariant-loop-word
invariant-loop-word l = l.words ≡ map (rescaled_word l.from l.to) (take l.word-index l.initial.words) ++ drop l.word-index l.initial.words
