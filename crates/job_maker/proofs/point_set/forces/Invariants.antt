use Rattle.std.proofs.Common.{◌≡◌, map, vec_len, vec_capacity}
use Rattle.std.specs.List.{range_with_len}
use Rattle.job_maker.specs.Job as spec
use Rattle.job_maker.proofs.point_set.forces.Given as goal

abbrev pub invariant-loop-i : goal.invariant-loop-i
invariant-loop-i l =
    (l.column.items ≡ map spec.force (range_with_len 0 l._i))
    × (vec_len l.column ≡ l._i) × (vec_capacity l.column ≡ l.n)
