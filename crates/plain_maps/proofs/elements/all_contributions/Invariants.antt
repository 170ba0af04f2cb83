use Rattle.std.proofs.Common.{◌≡◌, ◌-◌}
use Rattle.std.specs.List.{range_with_len}
use Rattle.vocabulary.specs.Answers.{fold_result}
use Rattle.hypergraph.specs.Sets.{set_at}
use Rattle.algebra_meaning.specs.Assembled.{all_contributions, with_element}
use Rattle.algebra_meaning.specs.Linked.{linked}
use Rattle.plain_maps.proofs.elements.all_contributions.Given as goal

-- the contributions so far and the elements that are left give all
abbrev pub invariant-loop-element : goal.invariant-loop-element
invariant-loop-element g l =
    fold_result (with_element (linked g.H.HostMeaning.answer l.program) l.sets l.set l.function l.args) l.so_far (range_with_len l.element ((set_at l.sets l.set).count - l.element))
    ≡ all_contributions (linked g.H.HostMeaning.answer l.program) l.sets l.set l.function l.args
