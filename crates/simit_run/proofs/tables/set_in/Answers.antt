use Rattle.std.proofs.Common.{length, ap, ◌∙◌}
use Rattle.simit_run.proofs.SetsRead.{schema-arity}
use Rattle.simit_run.proofs.tables.set_in.Goals as goal

pub read_table-requires-clause-over_none : goal.read_table-requires-clause-over_none
read_table-requires-clause-over_none c =
    rw (c.over-over.ensures, c.requires.schema, schema-arity c.args.typed.now (length c.args.sets.now)) c.requires.declared.over_none

pub returns-in-Ok-clause-declared : goal.returns-in-Ok-clause-declared
returns-in-Ok-clause-declared c =
    let fits = c.read_table.ensures.fits c.in-Ok.set c.in-Ok.ensures.reads in
    let schema = c.requires.schema in
    record {
      same_arity = fits.same_arity ∙ ap (λ s. s.arity) schema ∙ schema-arity c.args.typed.now (length c.args.sets.now);
      same_over = c.read_table.ensures.over c.in-Ok.set c.in-Ok.ensures.reads ∙ c.over-over.ensures;
      columns = fits.as_many ∙ ap (λ s. length s.columns) schema ∙ c.requires.readable.columns;
    }
