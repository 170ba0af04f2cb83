use Rattle.std.proofs.Common.{arith, ℕ, List, Ok, Err}
use Rattle.std.proofs.lemmas.Result.{err_from_is_err_and}
use Rattle.simit_run.specs.Hosts.{hosts_of}
use Rattle.simit_run.proofs.Reading.{files_fail_first, files_show}
use Rattle.simit_run.proofs.answering.run_files.Goals as goal

pub returns-in_err-typed-clause-shows : goal.returns-in_err-typed-clause-shows
returns-in_err-typed-clause-shows g c =
    let p = err_from_is_err_and c.from_residual.result c.from_residual.ensures.1 in
    let before = g.I.Inputs.faults c.args.inputs.now in
    let now = g.I.Inputs.faults c.read_program.new.inputs in
    rw (p.1, p.2)
    (files_fail_first (hosts_of g.H.HostMeaning.answer c.args.hosts.now) (g.I.Inputs.holds c.args.inputs.now) c.args.program.now c.args.manner.turns c.args.only.now c.args.tables.now before now now c.in_err-typed.field-0.0 (omega arith)
    (rw c.as_str.ensures at c.in_err-typed.ensures.shows))

pub returns-in_err-output-clause-shows : goal.returns-in_err-output-clause-shows
returns-in_err-output-clause-shows g c =
    let p = err_from_is_err_and c.from_residual-in_err-output.result c.from_residual-in_err-output.ensures.1 in
    rw (p.1, p.2)
    (files_show (hosts_of g.H.HostMeaning.answer c.args.hosts.now) (g.I.Inputs.holds c.args.inputs.now) c.args.program.now c.args.manner.turns c.args.only.now c.args.tables.now (λ (output : List ℕ). output) (g.I.Inputs.holds c.read_program.new.inputs)
    (g.I.Inputs.faults c.args.inputs.now) (g.I.Inputs.faults c.read_program.new.inputs) (g.I.Inputs.faults c.run_typed.new.inputs)
    c.in_ok-typed.typed (Err c.in_err-output.field-0.0) (rw c.as_str.ensures at c.in_ok-typed.ensures.shows) c.in_ok-typed.ensures.same_files c.in_ok-typed.ensures.counted c.in_err-output.ensures.shows)

pub returns-clause-shows : goal.returns-clause-shows
returns-clause-shows g c =
    files_show (hosts_of g.H.HostMeaning.answer c.args.hosts.now) (g.I.Inputs.holds c.args.inputs.now) c.args.program.now c.args.manner.turns c.args.only.now c.args.tables.now (λ (output : List ℕ). output) (g.I.Inputs.holds c.read_program.new.inputs)
    (g.I.Inputs.faults c.args.inputs.now) (g.I.Inputs.faults c.read_program.new.inputs) (g.I.Inputs.faults c.run_typed.new.inputs)
    c.in_ok-typed.typed (Ok c.in_ok-output.output) (rw c.as_str.ensures at c.in_ok-typed.ensures.shows) c.in_ok-typed.ensures.same_files c.in_ok-typed.ensures.counted c.in_ok-output.ensures.shows
