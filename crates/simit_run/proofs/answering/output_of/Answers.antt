use Rattle.std.proofs.Common.{◌∙◌, List, subst}
use Rattle.hypergraph.specs.SetValue.{SetValue}
use Rattle.run_laws.specs.Shapes.{DifferInWords}
use Rattle.simit_run.proofs.SetsRead.{have-tables, over-earlier, sets-fit}
use Rattle.simit_run.proofs.Chosen.{among}
use Rattle.simit_run.proofs.answering.output_of.Goals as goal

pub sets_of-requires-clause-over_earlier : goal.sets_of-requires-clause-over_earlier
sets_of-requires-clause-over_earlier g c = over-earlier c.args.typed.now c.args.list.items c.requires.runnable.declared c.requires.read

pub of-requires-clause-tables : goal.of-requires-clause-tables
of-requires-clause-tables g c =
    let after = c.in_ok-after.after in
    let words : DifferInWords c.args.list.items after = subst (λ (sets : List SetValue). DifferInWords sets after) c.sets_of.ensures c.in_ok-after.ensures.words in
    rw c.requires.schemas (have-tables c.args.typed.now after c.requires.runnable (sets-fit c.args.typed.now c.args.list.items after c.requires.read c.requires.all words))

pub of-requires-clause-chosen : goal.of-requires-clause-chosen
of-requires-clause-chosen g c =
    let after = c.in_ok-after.after in
    let words : DifferInWords c.args.list.items after = subst (λ (sets : List SetValue). DifferInWords sets after) c.sets_of.ensures c.in_ok-after.ensures.words in
    among c.args.chosen (words.count ∙ c.requires.all) c.requires.chosen
