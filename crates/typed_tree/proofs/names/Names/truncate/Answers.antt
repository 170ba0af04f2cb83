use Rattle.std.proofs.Common.{map, take, sym, ap, ◌∙◌}
use Rattle.std.proofs.lemmas.List.{take-map}
use Rattle.typed_tree.proofs.names.Names.truncate.Goals as goal

pub returns : goal.returns
returns c =
    ap (map (λ entry. (entry.0.now, entry.1))) c.truncate.ensures.entries
    ∙ sym (take-map _ c.args.len c.self.inside.meanings.entries)
    ∙ ap (take c.args.len) c.self.view_is
