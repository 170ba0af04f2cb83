use Rattle.std.proofs.Common.{◌^◌, ◌<◌, All, ap, length, List, subst, ◌∙◌}
use Rattle.std.specs.List.{flat_map}
use Rattle.set_tables.specs.declared.schema.Column.{Column}
use Rattle.write_back.specs.Schemas.{field_columns}
use Rattle.write_back.proofs.SchemasRead.{count, few, made, readable}
use Rattle.write_back.proofs.schemas.schema.Goals as goal

pub returns-clause-readable : goal.returns-clause-readable
returns-clause-readable c =
    readable c.args.typed.now c.args.set _
    (made c.args.typed.now c.args.set _ _ _ c.in_ok-name.ensures c.arity.ensures.value (c.in_ok-columns.ensures ∙ ap (flat_map field_columns) c.fields.ensures))
    c.arity.ensures.declared c.if-not-is_short.ensures
    (subst (λ (columns : List Column). All (λ column. length column.heading < 2 ^ 32) columns) c.items.ensures c.if-not-are_short.ensures)

pub returns-clause-few_columns : goal.returns-clause-few_columns
returns-clause-few_columns c =
    few c.args.typed.now c.args.set _
    (made c.args.typed.now c.args.set c.in_ok-name.name c.arity.result c.in_ok-columns.columns c.in_ok-name.ensures c.arity.ensures.value (c.in_ok-columns.ensures ∙ ap (flat_map field_columns) c.fields.ensures))
    c.arity.ensures.declared

pub returns-clause-columns : goal.returns-clause-columns
returns-clause-columns c =
    count c.args.typed.now c.args.set _
    (made c.args.typed.now c.args.set c.in_ok-name.name c.arity.result c.in_ok-columns.columns c.in_ok-name.ensures c.arity.ensures.value (c.in_ok-columns.ensures ∙ ap (flat_map field_columns) c.fields.ensures))
