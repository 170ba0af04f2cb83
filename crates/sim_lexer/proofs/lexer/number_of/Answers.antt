use Rattle.std.proofs.Common.{◌≡◌, ◌∙◌, ap, rules, tests}
use Rattle.std.specs.Prelude.{option_map, bytes_eq}
use Rattle.std.proofs.lemmas.Iterator.{YieldsList-from_slice}
use Rattle.std.proofs.lemmas.Iterator.Search.{find_from_yields_List}
use Rattle.sim_lexer.proofs.LexingTables.{Row, spelling, number, first_number}
use Rattle.sim_lexer.proofs.lexer.number_of.Goals as goal

pub returns : goal.returns
returns c =
    let found = find_from_yields_List (λ (row : Row). bytes_eq (spelling row) c.args.word.now) _ _ c.find.result c.find.ensures.ran (YieldsList-from_slice c.args.rows.now cc) (λ x b q k. search (rules, tests)) in
    let mapped : c.map.result ≡ option_map number (option_map (λ x. x.now) c.find.result) = search (rules, tests) in
    mapped ∙ ap (option_map number) found ∙ first_number (λ s. bytes_eq s c.args.word.now) c.args.rows.now c.requires
