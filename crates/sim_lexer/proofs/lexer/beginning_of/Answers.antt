use Rattle.std.proofs.Common.{◌≡◌, ◌∙◌, ◌≤◌, ap, sym, subst, ℕ, Option, rules, tests}
use Rattle.std.specs.Prelude.{IfSome, length, map, option_map, nat_eq}
use Rattle.std.specs.List.{starts_with}
use Rattle.std.proofs.lemmas.Iterator.{YieldsList-from_slice}
use Rattle.std.proofs.lemmas.Iterator.Search.{find_from_yields_List}
use Rattle.sim_lexer.proofs.LexingTables.{Row, spelling, number_and_length, first_number_and_length, found_within}
use Rattle.sim_lexer.proofs.lexer.beginning_of.Goals as goal

pub returns : goal.returns
returns c =
    let found = find_from_yields_List (λ (row : Row). starts_with nat_eq c.args.text.now (spelling row)) _ _ c.find.result c.find.ensures.ran (YieldsList-from_slice c.args.rows.now cc) (λ x b q k. search (rules, tests)) in
    let mapped : c.map.result ≡ option_map number_and_length (option_map (λ x. x.now) c.find.result) = search (rules, tests) in
    let exact = mapped ∙ ap (option_map number_and_length) found ∙ first_number_and_length (starts_with nat_eq c.args.text.now) c.args.rows.now c.requires in
    record {
      exact = exact;
      within = let P : Option (ℕ × ℕ) → Type 0 = λ o. IfSome o (λ at. at.1 ≤ length c.args.text.now) in subst P (sym exact) (found_within c.args.text.now (map spelling c.args.rows.now));
    }
