use Rattle.std.proofs.Common.{◌≡◌, ◌++◌, drop}
use Rattle.algebra_meaning.specs.Assembled.{all_assembled}
use Rattle.plain_maps.proofs.assembly.all_assembled.Given as goal

-- those that are assembled, and those that are left
abbrev pub invariant-loop-number : goal.invariant-loop-number
invariant-loop-number l =
    l.values ++ all_assembled l.sets l.contributed l.number (drop l.number l.results) ≡ all_assembled l.sets l.contributed 0 l.results
