use Rattle.std.proofs.Common.{◌≡◌, ◌-◌, Ok}
use Rattle.std.specs.List.{range_with_len}
use Rattle.vocabulary.specs.Answers.{fold_result}
use Rattle.hypergraph.specs.Sets.{set_at}
use Rattle.algebra_meaning.specs.Assembled.{all_assembled, all_contributions, with_element}
use Rattle.algebra_meaning.specs.Linked.{linked}
use Rattle.proc_engine.specs.Sums.{below, contributed_below}
use Rattle.proc_engine.proofs.word_maps.all_sums.Given as goal

-- what the elements so far contribute is added, and with those that are left it is all
abbrev pub invariant-loop-element : goal.invariant-loop-element
invariant-loop-element g l = record {
  sums : l.sums ≡ all_assembled l.sets (contributed_below (linked g.H.HostMeaning.answer l.program) l.sets l.set l.function l.args l.element) 0 l.function.results;
  taken : below (linked g.H.HostMeaning.answer l.program) l.sets l.set l.function l.args l.element ≡ Ok (contributed_below (linked g.H.HostMeaning.answer l.program) l.sets l.set l.function l.args l.element);
  left : fold_result (with_element (linked g.H.HostMeaning.answer l.program) l.sets l.set l.function l.args) (contributed_below (linked g.H.HostMeaning.answer l.program) l.sets l.set l.function l.args l.element)
      (range_with_len l.element ((set_at l.sets l.set).count - l.element)) ≡ all_contributions (linked g.H.HostMeaning.answer l.program) l.sets l.set l.function l.args;
}
