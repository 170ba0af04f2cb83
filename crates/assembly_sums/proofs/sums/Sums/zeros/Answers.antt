use Rattle.std.proofs.Common.{◌≤◌, [], length, map, ap, ◌∙◌, arith}
use Rattle.std.proofs.lemmas.List.{take_all}
use Rattle.algebra_meaning.specs.Assembled.{assembled}
use Rattle.assembly_sums.proofs.Contributed.{none_added}
use Rattle.assembly_sums.proofs.sums.Sums.zeros.Goals as goal

pub returns : goal.returns
returns c =
    let past : length c.args.results.now ≤ c.loop-typed.typed-index = omega arith in
    c.loop-typed.invariant ∙ ap (map (assembled c.args.sets.now [] 0)) (take_all c.loop-typed.typed-index c.args.results.now past) ∙ none_added c.args.sets.now 0 c.args.results.now
