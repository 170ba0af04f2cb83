use Rattle.sim_lexer.specs.Words.{words_of}
use Rattle.sim_parser.proofs.Answering.{answer-derived, derived-answer, answer-refused, answer-place, has_one_end}
use Rattle.sim_parser.proofs.parser.parse.Goals as goal

pub returns-clause-derived : goal.returns-clause-derived
returns-clause-derived c =
    let words = words_of c.args.source.now c.args.tokens.now in
    let reads = c.reading_law.ensures.derived words (has_one_end c.args.source.now c.args.tokens.now c.requires.ends) in
    answer-derived words reads c.program_in.result (rw c.list.ensures at c.program_in.ensures)

pub returns-clause-only : goal.returns-clause-only
returns-clause-only c =
    let words = words_of c.args.source.now c.args.tokens.now in
    let reads = c.reading_law.ensures.derived words (has_one_end c.args.source.now c.args.tokens.now c.requires.ends) in
    derived-answer words reads c.program_in.result (rw c.list.ensures at c.program_in.ensures)

pub returns-clause-place : goal.returns-clause-place
returns-clause-place c =
    let words = words_of c.args.source.now c.args.tokens.now in
    let place = c.reading_law.ensures.place words (has_one_end c.args.source.now c.args.tokens.now c.requires.ends) in
    answer-place words place c.program_in.result (rw c.list.ensures at c.program_in.ensures)

pub returns-clause-begins : goal.returns-clause-begins
returns-clause-begins c n is = (c.cut_law.ensures.places (words_of c.args.source.now c.args.tokens.now) n).0 (returns-clause-place c n is)

pub returns-clause-refused : goal.returns-clause-refused
returns-clause-refused c =
    let words = words_of c.args.source.now c.args.tokens.now in
    let reads = c.reading_law.ensures.derived words (has_one_end c.args.source.now c.args.tokens.now c.requires.ends) in
    answer-refused words reads c.program_in.result (rw c.list.ensures at c.program_in.ensures)

pub returns-clause-unambiguous : goal.returns-clause-unambiguous
returns-clause-unambiguous c = c.reading_law.ensures.unambiguous

pub returns-clause-reads_grammar : goal.returns-clause-reads_grammar
returns-clause-reads_grammar c p =
    c.reading_law.ensures.derived (words_of c.args.source.now c.args.tokens.now) (has_one_end c.args.source.now c.args.tokens.now c.requires.ends) p

pub returns-clause-reads_place : goal.returns-clause-reads_place
returns-clause-reads_place c n =
    c.reading_law.ensures.place (words_of c.args.source.now c.args.tokens.now) (has_one_end c.args.source.now c.args.tokens.now c.requires.ends) n
