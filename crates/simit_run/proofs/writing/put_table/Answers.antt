use Rattle.std.proofs.Common.{◌≡◌, ◌∙◌, ◌++◌, ◌<◌, ℕ, List, length, ap, arith}
use Rattle.hypergraph.specs.Sets.{set_at}
use Rattle.set_tables.specs.Output.{table_text}
use Rattle.set_tables.specs.declared.schema.Schema.{Schema}
use Rattle.std.proofs.lemmas.List.{get_or_default}
use Rattle.simit_run.specs.Schemas.{schema_at}
use Rattle.simit_run.proofs.Texts.{no_schema}
use Rattle.simit_run.proofs.writing.put_table.Goals as goal

pub returns-clause-whole : goal.returns-clause-whole
returns-clause-whole g c =
    let k = c.args.number in
    let schemas = c.args.schemas.now in
    let sets = c.args.sets.now in
    let within : k < length schemas = omega (arith, c.requires.tables.as_many) in
    let schema : c.index-schemas-number.result ≡ schema_at schemas k = c.index-schemas-number.is ∙ get_or_default schemas k c.index-schemas-number.result no_schema within in
    let text : c.deref.result.now ≡ table_text (schema_at schemas k) (set_at sets k) =
    c.deref.ensures.value ∙ c.write_table.ensures.items ∙ ap (λ (v : List ℕ). v ++ table_text c.index-schemas-number.result (set_at sets k)) c.clear.ensures.items
    ∙ ap (λ (s : Schema). table_text s (set_at sets k)) schema in
    rw text at c.put_all.ensures.whole

pub returns-clause-prefix : goal.returns-clause-prefix
returns-clause-prefix g c =
    let k = c.args.number in
    let schemas = c.args.schemas.now in
    let sets = c.args.sets.now in
    let within : k < length schemas = omega (arith, c.requires.tables.as_many) in
    let schema : c.index-schemas-number.result ≡ schema_at schemas k = c.index-schemas-number.is ∙ get_or_default schemas k c.index-schemas-number.result no_schema within in
    let text : c.deref.result.now ≡ table_text (schema_at schemas k) (set_at sets k) =
    c.deref.ensures.value ∙ c.write_table.ensures.items ∙ ap (λ (v : List ℕ). v ++ table_text c.index-schemas-number.result (set_at sets k)) c.clear.ensures.items
    ∙ ap (λ (s : Schema). table_text s (set_at sets k)) schema in
    rw text at c.put_all.ensures.prefix
