use Rattle.std.specs.Prelude.{map}
use Rattle.std.proofs.lemmas.Result.{err_from_is_err_and}
use Rattle.host_table.specs.Hosts.{name_of}
use Rattle.simit_io.specs.Inputs.{Rose}
use Rattle.simit_run.proofs.Reading.{program_fails_first, program_fails, program_given}
use Rattle.simit_run.proofs.front.read_program.Goals as goal

pub returns-in_err-source-clause-shows : goal.returns-in_err-source-clause-shows
returns-in_err-source-clause-shows g c =
    let p = err_from_is_err_and c.from_residual.result c.from_residual.ensures.1 in
    rw (p.1, p.2)
    (program_fails_first (map name_of c.args.hosts.now) (g.I.Inputs.holds c.args.inputs.now) (Rose (g.I.Inputs.faults c.args.inputs.now) (g.I.Inputs.faults c.read_file.new.inputs)) c.args.name.now c.in_err-source.field-0.0 c.in_err-source.ensures.shows)

pub returns-in_err-program-clause-shows : goal.returns-in_err-program-clause-shows
returns-in_err-program-clause-shows g c =
    let p = err_from_is_err_and c.from_residual-in_err-program.result c.from_residual-in_err-program.ensures.1 in
    rw (p.1, p.2)
    (program_fails (map name_of c.args.hosts.now) (g.I.Inputs.holds c.args.inputs.now) (Rose (g.I.Inputs.faults c.args.inputs.now) (g.I.Inputs.faults c.read_file.new.inputs)) c.args.name.now c.in_ok-source.source.items c.in_err-program.field-0.0
    c.in_ok-source.ensures.shows (rw c.deref.ensures.value at c.in_err-program.ensures))

pub returns-clause-shows : goal.returns-clause-shows
returns-clause-shows g c =
    program_given (map name_of c.args.hosts.now) (g.I.Inputs.holds c.args.inputs.now) (Rose (g.I.Inputs.faults c.args.inputs.now) (g.I.Inputs.faults c.read_file.new.inputs)) c.args.name.now c.in_ok-source.source.items c.in_ok-program.program
    c.in_ok-source.ensures.shows (rw c.deref.ensures.value at c.in_ok-program.ensures)
