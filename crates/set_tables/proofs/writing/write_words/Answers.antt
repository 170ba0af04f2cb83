use Rattle.std.proofs.Common.{◌+◌, ℕ, List, get_or, map, arith}
use Rattle.std.specs.Borrow.{Bor}
use Rattle.std.specs.List.{enumerate_from, zip}
use Rattle.set_tables.proofs.Appending.{each-end, each-capacity, each-step}
use Rattle.set_tables.proofs.LinesWritten.{fetched-at, length-fetched, word_piece}
use Rattle.set_tables.proofs.writing.write_words.Goals as goal

pub write_word-requires-clause-capacity : goal.write_word-requires-clause-capacity
write_word-requires-clause-capacity c =
    let all = map (λ (column : Bor (List ℕ)). column.now) c.args.words.now in
    let k = c.loop-k.k in
    each-capacity (word_piece c.args.element) (enumerate_from c.args.arity (zip c.args.columns.now all)) k (c.args.arity + k, (c.index-columns-k.result, (get_or c.args.words.now k _).now)) c.args.to.now c.loop-k.to
    (omega (arith, length-fetched c.args.arity c.args.columns.now c.args.words.now c.requires.as_many))
    (fetched-at c.args.arity c.args.columns.now c.args.words.now k c.index-columns-k.result _ c.requires.as_many c.loop-k-test.true c.index-columns-k.is) c.requires.capacity c.loop-k.invariant

pub loop-k-preserved : goal.loop-k-preserved
loop-k-preserved c =
    let all = map (λ (column : Bor (List ℕ)). column.now) c.args.words.now in
    let k = c.loop-k.k in
    each-step (word_piece c.args.element) (enumerate_from c.args.arity (zip c.args.columns.now all)) k (c.args.arity + k, (c.index-columns-k.result, (get_or c.args.words.now k _).now)) c.args.to.now c.loop-k.to c.write_word.new.to
    (omega (arith, length-fetched c.args.arity c.args.columns.now c.args.words.now c.requires.as_many))
    (fetched-at c.args.arity c.args.columns.now c.args.words.now k c.index-columns-k.result _ c.requires.as_many c.loop-k-test.true c.index-columns-k.is) c.loop-k.invariant c.write_word.ensures

pub returns : goal.returns
returns c =
    let all = map (λ (column : Bor (List ℕ)). column.now) c.args.words.now in
    each-end (word_piece c.args.element) (enumerate_from c.args.arity (zip c.args.columns.now all)) c.loop-k.k c.args.to.now c.loop-k.to
    (omega (arith, length-fetched c.args.arity c.args.columns.now c.args.words.now c.requires.as_many)) c.loop-k.invariant
