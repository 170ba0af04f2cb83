use Rattle.std.proofs.Common.{List, ℕ, Ok, Err}
use Rattle.std.proofs.lemmas.Result.{err_from_is_err_and}
use Rattle.simit_io.specs.Inputs.{Rose}
use Rattle.algebra_meaning.specs.Linked.{linked}
use Rattle.simit_run.proofs.Reading.{none_chosen, typed_shows}
use Rattle.simit_run.proofs.answering.run_typed.Goals as goal

pub returns-in_err-chosen-clause-shows : goal.returns-in_err-chosen-clause-shows
returns-in_err-chosen-clause-shows g c =
    let p = err_from_is_err_and c.from_residual.result c.from_residual.ensures.1 in
    let before = g.I.Inputs.faults c.args.inputs.now in
    rw (p.1, p.2)
    (none_chosen (g.I.Inputs.holds c.args.inputs.now) (linked g.H.HostMeaning.answer c.args.typed.now) c.args.manner.turns c.args.only.now c.args.names.now (Rose before before) c.in_err-chosen.field-0.0 c.in_err-chosen.ensures.value)

pub returns-in_err-output-clause-shows : goal.returns-in_err-output-clause-shows
returns-in_err-output-clause-shows g c =
    let p = err_from_is_err_and c.from_residual-in_err-output.result c.from_residual-in_err-output.ensures.1 in
    rw (p.1, p.2)
    (typed_shows (g.I.Inputs.holds c.args.inputs.now) (linked g.H.HostMeaning.answer c.args.typed.now) c.args.manner.turns c.args.only.now c.args.names.now (λ (output : List ℕ). output) (Rose (g.I.Inputs.faults c.args.inputs.now) (g.I.Inputs.faults c.run_on_tables.new.inputs))
    c.in_ok-chosen.chosen (Err c.in_err-output.field-0.0) c.in_ok-chosen.ensures.value c.in_err-output.ensures.shows)

pub returns-clause-shows : goal.returns-clause-shows
returns-clause-shows g c =
    typed_shows (g.I.Inputs.holds c.args.inputs.now) (linked g.H.HostMeaning.answer c.args.typed.now) c.args.manner.turns c.args.only.now c.args.names.now (λ (output : List ℕ). output) (Rose (g.I.Inputs.faults c.args.inputs.now) (g.I.Inputs.faults c.run_on_tables.new.inputs))
    c.in_ok-chosen.chosen (Ok c.in_ok-output.output) c.in_ok-chosen.ensures.value c.in_ok-output.ensures.shows
