use Rattle.std.proofs.Common.{[], ◌∷◌}
use Rattle.vocabulary.specs.declared.marks.TheConstants.{LINE_FEED}
use Rattle.hypergraph.specs.Sets.{set_at}
use Rattle.set_tables.specs.Output.{element_cells, line}
use Rattle.set_tables.specs.WritingSteps.{endpoints_text, words_text}
use Rattle.set_tables.proofs.Appending.{capacity-first, capacity-second, capacity-third, three}
use Rattle.set_tables.proofs.LinesWritten.{element-parts}
use Rattle.set_tables.proofs.writing.write_element.Goals as goal

pub write_endpoints-requires-clause-capacity : goal.write_endpoints-requires-clause-capacity
write_endpoints-requires-clause-capacity c =
    let value = set_at c.args.sets.now c.args.set in
    let schema = c.args.schema.now in
    capacity-first c.args.to.now (endpoints_text schema.arity value c.args.element) (words_text schema.arity schema.columns value.columns c.args.element) (LINE_FEED ∷ [])
    (line (element_cells schema value c.args.element)) (element-parts schema value c.args.element) c.requires.capacity

pub write_words-requires-clause-capacity : goal.write_words-requires-clause-capacity
write_words-requires-clause-capacity c =
    let value = set_at c.args.sets.now c.args.set in
    let schema = c.args.schema.now in
    rw (c.items.ensures, c.requires.words.same)
    (capacity-second c.args.to.now c.write_endpoints.new.to (endpoints_text schema.arity value c.args.element) (words_text schema.arity schema.columns value.columns c.args.element) (LINE_FEED ∷ [])
    (line (element_cells schema value c.args.element)) (element-parts schema value c.args.element) c.requires.capacity c.write_endpoints.ensures)

pub append-requires : goal.append-requires
append-requires c =
    let value = set_at c.args.sets.now c.args.set in
    let schema = c.args.schema.now in
    capacity-third c.args.to.now c.write_endpoints.new.to c.write_words.new.to (endpoints_text schema.arity value c.args.element) (words_text schema.arity schema.columns value.columns c.args.element) (LINE_FEED ∷ [])
    (line (element_cells schema value c.args.element)) (element-parts schema value c.args.element) c.requires.capacity c.write_endpoints.ensures
    (rw (c.items.ensures, c.requires.words.same) at c.write_words.ensures)

pub returns : goal.returns
returns c =
    let value = set_at c.args.sets.now c.args.set in
    let schema = c.args.schema.now in
    three c.args.to.now c.write_endpoints.new.to c.write_words.new.to c.append.new.to (endpoints_text schema.arity value c.args.element) (words_text schema.arity schema.columns value.columns c.args.element) (LINE_FEED ∷ [])
    (line (element_cells schema value c.args.element)) (element-parts schema value c.args.element) c.write_endpoints.ensures
    (rw (c.items.ensures, c.requires.words.same) at c.write_words.ensures) c.append.ensures
