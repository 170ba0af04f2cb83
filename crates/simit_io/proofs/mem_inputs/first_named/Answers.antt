use Rattle.std.proofs.Common.{rules, tests, ◌≡◌, ◌∙◌, ap, sym, bytes_eq, position, option_map}
use Rattle.std.proofs.lemmas.Iterator.{YieldsList-from_slice}
use Rattle.std.proofs.lemmas.Iterator.Search.{position_from_yields_List}
use Rattle.simit_io.specs.MemInputs.{bytes_at}
use Rattle.simit_io.proofs.FileNames.{file_named-position}
use Rattle.simit_io.proofs.mem_inputs.first_named.Goals as goal

pub returns-clause-named : goal.returns-clause-named
returns-clause-named c =
    let first : c.position.result ≡ position (λ file. bytes_eq file.name c.args.name.now) c.args.files.now =
    position_from_yields_List (λ file. bytes_eq file.name c.args.name.now) _ _ _ c.position.ensures.ran (YieldsList-from_slice c.args.files.now cc) (λ x b q k. search (rules, tests)) in
    file_named-position c.args.files.now c.args.name.now ∙ ap (option_map (λ index. bytes_at c.args.files.now index)) (sym first)
