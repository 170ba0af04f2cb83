use Rattle.std.proofs.Common.{◌∙◌, ap, length, arith}
use Rattle.std.proofs.lemmas.List.{length-map}
use Rattle.sim_lexer.specs.Words.{word_of}
use Rattle.sim_parser.proofs.parser.program_in.Goals as goal

pub overflow_sub-token : goal.overflow_sub-token
overflow_sub-token c =
    let stuck = rw (c.in-Err-Syntax.is, c.in-Err-Syntax.field-0-is) at c.program_text.ensures in
    let few = c.reading_law.ensures.few (length c.args.tokens.now) c.of-cursor.result c.program_text.new.cursor stuck in
    let size = ap length c.of-cursor.ensures ∙ length-map c.args.tokens.now (word_of c.args.source.now) in
    omega (arith, c.left.ensures)
