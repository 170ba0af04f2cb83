use Rattle.std.proofs.Common.{rules, ◌≡◌, [], ◌∷◌, map}
use Rattle.std.specs.List.{range_with_len}
use Rattle.job_maker.specs.Job as spec
use Rattle.job_maker.proofs.Sets.{are_points}
use Rattle.job_maker.proofs.point_set.points.Goals as goal

pub new-requires-2 : goal.new-requires-2
new-requires-2 c =
    let ends : c.new.result.items ≡ [] = search rules in
    let columns : c.of.result
    ≡ map (spec.position c.args.seed) (range_with_len 0 c.args.n) ∷ map spec.force (range_with_len 0 c.args.n) ∷ [] = search rules in
    rw (ends, columns) (are_points c.args.seed c.args.n c.requires)
