use Rattle.std.proofs.Common.{◌≡◌, ◌*◌, vec_len, vec_capacity}
use Rattle.std.specs.List.{flat_map, range_with_len}
use Rattle.job_maker.specs.Job as spec
use Rattle.job_maker.proofs.spring_set.endpoints.Given as goal

abbrev pub invariant-loop-j : goal.invariant-loop-j
invariant-loop-j l =
    (l.ends.items ≡ flat_map (spec.joined l.seed l.n) (range_with_len 0 l.j))
    × (vec_len l.ends ≡ 2 * l.j) × (vec_capacity l.ends ≡ 4 * l.n)
