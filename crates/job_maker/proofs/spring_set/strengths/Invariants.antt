use Rattle.std.proofs.Common.{◌≡◌, map, vec_len, vec_capacity}
use Rattle.std.specs.List.{range_with_len}
use Rattle.job_maker.specs.Job as spec
use Rattle.job_maker.proofs.spring_set.strengths.Given as goal

abbrev pub invariant-loop-j : goal.invariant-loop-j
invariant-loop-j l =
    (l.column.items ≡ map spec.strength (range_with_len 0 l.j))
    × (vec_len l.column ≡ l.j) × (vec_capacity l.column ≡ l.count)
