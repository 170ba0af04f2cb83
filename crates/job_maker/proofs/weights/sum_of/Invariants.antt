use Rattle.std.proofs.Common.{◌≡◌, ◌%◌, ◌^◌}
use Rattle.std.specs.Prelude.{sum_by}
use Rattle.std.specs.List.{range_with_len}
use Rattle.job_maker.specs.Weighted.{weighed}
use Rattle.job_maker.proofs.weights.sum_of.Given as goal

abbrev pub invariant-loop-i : goal.invariant-loop-i
invariant-loop-i l = l.sum ≡ sum_by (weighed l.words) (range_with_len 0 l.i) % 2 ^ 64
