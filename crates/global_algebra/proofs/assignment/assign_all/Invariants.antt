use Rattle.std.proofs.Common.{◌≡◌, drop, length}
use Rattle.std.specs.List.{zip}
use Rattle.std.specs.Vec.Iter.{into_iter_items, into_iter_len}
use Rattle.algebra_meaning.specs.Run.{all_assigned}
use Rattle.algebra_meaning.specs.Linked.{linked}
use Rattle.global_algebra.proofs.assignment.assign_all.Given as goal

-- the targets that are left, with the values that are left, give what all give
abbrev pub invariant-loop-value : goal.invariant-loop-value
invariant-loop-value g l = record {
  number : l.number ≡ length l.yielded;
  values : into_iter_len l.value-iterator ≡ length (into_iter_items l.value-iterator);
  left : all_assigned (linked g.H.HostMeaning.answer l.program) l.state (zip (drop l.number l.targets) (into_iter_items l.value-iterator)) ≡ all_assigned (linked g.H.HostMeaning.answer l.program) l.fn.start (zip l.targets l.fn.values);
}
