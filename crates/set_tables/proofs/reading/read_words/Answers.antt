use Rattle.std.proofs.Common.{◌≡◌, ◌<◌, ◌+◌, [], ◌∷◌, ◌++◌, Ok, Err, length, get_or, rules, arith, inr, ◌∙◌}
use Rattle.std.proofs.lemmas.Result.{err_from_is_err_and}
use Rattle.std.proofs.lemmas.List.{get_or_default}
use Rattle.set_tables.specs.Table.{word_of}
use Rattle.set_tables.proofs.ElementsRead.{words-end, words-fail, words-start, words-step}
use Rattle.set_tables.proofs.reading.read_words.Goals as goal

pub loop-k-init : goal.loop-k-init
loop-k-init c = words-start c.args.arity c.args.schema.now c.args.row c.args.records.now.row c.args.columns.now.items

pub returns-in_err-word : goal.returns-in_err-word
returns-in_err-word c =
    let p = err_from_is_err_and c.from_residual.result c.from_residual.ensures.1 in
    let stated : word_of c.args.row (c.args.arity + c.loop-k.k) c.index-schema-k.result.scale (get_or c.args.records.now.row (c.args.arity + c.loop-k.k) []) ≡ Err c.in_err-word.field-0.0 = cc (c.cell.ensures, c.in_err-word.ensures) in
    rw (p.1, p.2)
    (inr (words-fail c.args.arity c.args.schema.now c.args.row c.args.records.now.row c.loop-k.k c.in_err-word.field-0.0 c.index-schema-k.result c.args.columns.now.items c.loop-k.columns.items
    c.loop-k.invariant c.loop-k-test.true c.index-schema-k.is stated))

pub loop-k-preserved : goal.loop-k-preserved
loop-k-preserved c =
    let stated : word_of c.args.row (c.args.arity + c.loop-k.k) c.index-schema-k.result.scale (get_or c.args.records.now.row (c.args.arity + c.loop-k.k) []) ≡ Ok c.in_ok-word.word = cc (c.cell.ensures, c.in_ok-word.ensures) in
    let grown : c.push.new.self ≡ c.index_mut.result.now ++ c.in_ok-word.word ∷ [] = search rules in
    let in' : c.loop-k.k < length c.loop-k.columns.items = omega (arith, c.loop-k.invariant.as_many, c.requires.as_many) in
    let stands : c.index_mut.result.now ≡ get_or c.loop-k.columns.items c.loop-k.k [] = c.index_mut.ensures.value ∙ get_or_default c.loop-k.columns.items c.loop-k.k c.index_mut.result.now [] in' in
    words-step c.args.arity c.args.schema.now c.args.row c.args.records.now.row c.loop-k.k c.in_ok-word.word c.index-schema-k.result c.args.columns.now.items c.loop-k.columns.items c.push.new.self
    c.loop-k.invariant c.loop-k-test.true (omega (arith, c.requires.as_many)) c.index-schema-k.is stated (rw stands at grown)

pub returns : goal.returns
returns c =
    words-end c.args.arity c.args.schema.now c.args.row c.args.records.now.row c.loop-k.k c.args.columns.now.items c.loop-k.columns.items c.loop-k.invariant c.requires.as_many (omega (arith))
