use Rattle.std.proofs.Common.{◌≡◌, ◌++◌, drop, map, take}
use Rattle.std.specs.List.{zip}
use Rattle.ring_words.specs.Word.{sub}
use Rattle.value_algebra.proofs.slices.subtract_each.Given as goal

abbrev pub invariant-loop-i : goal.invariant-loop-i
invariant-loop-i l = l.left ≡ map (λ pair. sub pair.0 pair.1) (zip (take l.i l.initial.left) (take l.i l.right)) ++ drop l.i l.initial.left
