use Rattle.std.proofs.Common.{◌≡◌, ◌+◌, ◌*◌, ◌∙◌, ap, length}
use Rattle.hypergraph.specs.Sets.{set_at}
use Rattle.set_tables.specs.WritingSteps.{endpoint_headings_size, endpoints_size}
use Rattle.set_tables.proofs.TextSizes.{text-size}
use Rattle.set_tables.proofs.lengths.text_len.Goals as goal

pub returns : goal.returns
returns c =
    let value = set_at c.args.sets.now c.args.set in
    let schema = c.args.schema.now in
    let columns : c.columns.result ≡ length schema.columns = c.columns.ensures.value ∙ c.requires.fits.as_many in
    text-size schema value c.name_len.result ((1 + c.count.result) * c.marks_len.result) (c.endpoint_headings_len.result + c.column_headings_len.result) (c.endpoints_len.result + c.columns_len.result)
    c.requires.fits c.columns_len.ensures.one_each
    (rw c.as_str.ensures at c.name_len.ensures.value)
    (ap (λ n. (1 + n) * c.marks_len.result) c.count.ensures.value ∙ ap (λ n. (1 + value.count) * n) (rw columns at c.marks_len.ensures.value))
    (ap (λ n. n + c.column_headings_len.result) c.endpoint_headings_len.ensures.value ∙ ap (λ n. endpoint_headings_size schema.arity + n) (rw c.items-columns.ensures at c.column_headings_len.ensures.value))
    (ap (λ n. n + c.columns_len.result) c.endpoints_len.ensures.value ∙ ap (λ n. endpoints_size schema.arity value + n) (rw c.items-columns.ensures at c.columns_len.ensures.value))
