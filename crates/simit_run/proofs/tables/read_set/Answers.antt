use Rattle.std.proofs.lemmas.Result.{err_from_is_err_and}
use Rattle.simit_io.specs.Inputs.{Rose}
use Rattle.simit_run.proofs.Reading.{set_fails_first, set_fails, set_given}
use Rattle.simit_run.proofs.tables.read_set.Goals as goal

pub returns-in_err-bytes-clause-shows : goal.returns-in_err-bytes-clause-shows
returns-in_err-bytes-clause-shows g c =
    let p = err_from_is_err_and c.from_residual.result c.from_residual.ensures.1 in
    rw (p.1, p.2)
    (set_fails_first (g.I.Inputs.holds c.args.inputs.now) (Rose (g.I.Inputs.faults c.args.inputs.now) (g.I.Inputs.faults c.read_file.new.inputs)) c.args.typed.now c.args.sets.now c.args.name.now
    c.in_err-bytes.field-0.0 c.in_err-bytes.ensures.shows)

pub returns-in_err-set-clause-shows : goal.returns-in_err-set-clause-shows
returns-in_err-set-clause-shows g c =
    let p = err_from_is_err_and c.from_residual-in_err-set.result c.from_residual-in_err-set.ensures.1 in
    rw (p.1, p.2)
    (set_fails (g.I.Inputs.holds c.args.inputs.now) (Rose (g.I.Inputs.faults c.args.inputs.now) (g.I.Inputs.faults c.read_file.new.inputs)) c.args.typed.now c.args.sets.now c.args.name.now
    c.in_ok-bytes.bytes.items c.in_err-set.field-0.0 c.in_ok-bytes.ensures.shows (rw c.deref.ensures.value at c.in_err-set.ensures.value))

pub returns-clause-shows : goal.returns-clause-shows
returns-clause-shows g c =
    set_given (g.I.Inputs.holds c.args.inputs.now) (Rose (g.I.Inputs.faults c.args.inputs.now) (g.I.Inputs.faults c.read_file.new.inputs)) c.args.typed.now c.args.sets.now c.args.name.now
    c.in_ok-bytes.bytes.items c.in_ok-set.set c.in_ok-bytes.ensures.shows (rw c.deref.ensures.value at c.in_ok-set.ensures.value)
