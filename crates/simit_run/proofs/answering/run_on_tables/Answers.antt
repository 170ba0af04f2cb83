use Rattle.std.proofs.Common.{◌≡◌, ◌∙◌, length, sym, ap}
use Rattle.std.proofs.lemmas.Result.{err_from_is_err_and}
use Rattle.simit_io.specs.Inputs.{Rose}
use Rattle.typed_tree.specs.declared.program.TypedProgram.{TypedProgram}
use Rattle.algebra_meaning.specs.Linked.{linked}
use Rattle.simit_run.proofs.Reading.{count_differs, output_fails, output_given, tables_fail}
use Rattle.simit_run.proofs.answering.run_on_tables.Goals as goal

pub returns-then-names-sets-clause-shows : goal.returns-then-names-sets-clause-shows
returns-then-names-sets-clause-shows g c =
    let program = c.args.typed.now in
    let many : length c.items-sets.result.now ≡ length program.sets = ap length c.items-sets.ensures ∙ ap (λ (p : TypedProgram). length p.sets) c.typed_program.ensures.value in
    rw many
    (count_differs (g.I.Inputs.holds c.args.inputs.now) (Rose (g.I.Inputs.faults c.args.inputs.now) (g.I.Inputs.faults c.args.inputs.now)) (linked g.H.HostMeaning.answer program) c.args.manner.turns c.args.chosen c.args.names.now
    (λ same. c.if-names-sets.true (same ∙ sym many)))

pub returns-in_err-read-clause-shows : goal.returns-in_err-read-clause-shows
returns-in_err-read-clause-shows g c =
    let program = c.args.typed.now in
    let names = c.args.names.now in
    let many : length c.items-sets.result.now ≡ length program.sets = ap length c.items-sets.ensures ∙ ap (λ (p : TypedProgram). length p.sets) c.typed_program.ensures.value in
    let as-many : length names ≡ length program.sets = c.if-names-sets.false ∙ many in
    let p = err_from_is_err_and c.from_residual-in_err-read.result c.from_residual-in_err-read.ensures.1 in
    rw (p.1, p.2)
    (tables_fail (g.I.Inputs.holds c.args.inputs.now) (Rose (g.I.Inputs.faults c.args.inputs.now) (g.I.Inputs.faults c.read_sets.new.inputs)) (linked g.H.HostMeaning.answer program) c.args.manner.turns c.args.chosen names as-many c.in_err-read.field-0.0 c.in_err-read.ensures.shows)

pub returns-in_err-output-clause-shows : goal.returns-in_err-output-clause-shows
returns-in_err-output-clause-shows g c =
    let program = c.args.typed.now in
    let names = c.args.names.now in
    let many : length c.items-sets.result.now ≡ length program.sets = ap length c.items-sets.ensures ∙ ap (λ (p : TypedProgram). length p.sets) c.typed_program.ensures.value in
    let as-many : length names ≡ length program.sets = c.if-names-sets.false ∙ many in
    let p = err_from_is_err_and c.from_residual-in_err-output.result c.from_residual-in_err-output.ensures.1 in
    rw (p.1, p.2)
    (output_fails (g.I.Inputs.holds c.args.inputs.now) (Rose (g.I.Inputs.faults c.args.inputs.now) (g.I.Inputs.faults c.read_sets.new.inputs)) (linked g.H.HostMeaning.answer program) c.args.manner.turns c.args.chosen names as-many c.in_ok-read.read.items c.in_ok-read.ensures.shows
    c.in_err-output.field-0.0 c.in_err-output.ensures)

pub returns-clause-shows : goal.returns-clause-shows
returns-clause-shows g c =
    let program = c.args.typed.now in
    let names = c.args.names.now in
    let many : length c.items-sets.result.now ≡ length program.sets = ap length c.items-sets.ensures ∙ ap (λ (p : TypedProgram). length p.sets) c.typed_program.ensures.value in
    let as-many : length names ≡ length program.sets = c.if-names-sets.false ∙ many in
    output_given (g.I.Inputs.holds c.args.inputs.now) (Rose (g.I.Inputs.faults c.args.inputs.now) (g.I.Inputs.faults c.read_sets.new.inputs)) (linked g.H.HostMeaning.answer program) c.args.manner.turns c.args.chosen names as-many c.in_ok-read.read.items c.in_ok-read.ensures.shows
    c.in_ok-output.output c.in_ok-output.ensures
