use Rattle.std.proofs.Common.{ap, slice_set, ◌∙◌}
use Rattle.hypergraph.specs.Sets.{set_at}
use Rattle.block_types.specs.Readings.{set_fields}
use Rattle.value_algebra.specs.Fields as fields
use Rattle.write_back.proofs.Assigned.{is_assigned}
use Rattle.write_back.proofs.assigning.assign.Goals as goal

pub returns-clause-columns : goal.returns-clause-columns
returns-clause-columns c =
    let sets = c.args.sets.now in
    let set = c.args.set in
    is_assigned sets c.with_field.new.sets set (set_fields c.args.typed.now set) c.args.field c.args.words c.requires.set
    (c.in_ok-with_field.ensures.assigned ∙ ap (λ fs. slice_set sets set (fields.with_field fs (set_at sets set) c.args.field c.args.words)) c.fields.ensures)
