use Rattle.std.proofs.Common.{◌≡◌, List, [], ◌∷◌, map, Bor, refl, ap, ◌∙◌}
use Rattle.std.specs.Cmp.Lexicographic.{nat_list_eq_equiv}
use Rattle.std.specs.Map.{lookup}
use Rattle.std.specs.Str.{bytes_eq}
use Rattle.typed_tree.specs.declared.names.Meaning.{Meaning}
use Rattle.typed_tree.specs.Names.{Name, meaning_of}
use Rattle.typed_tree.proofs.names.Names.find.Goals as goal

-- what a name stands for among references to names
lookup-names : (name : Name) (entries : List (Bor Name × Meaning))
    → lookup (λ key. bytes_eq name key.now) entries ≡ meaning_of (map (λ entry. (entry.0.now, entry.1)) entries) name
lookup-names name [] = refl
lookup-names name (entry ∷ entries) = rw (nat_list_eq_equiv.symm name entry.0.now, lookup-names name entries) refl

pub returns : goal.returns
returns c =
    c.copied.ensures ∙ c.get.ensures.value
    ∙ lookup-names c.args.name.now c.self.inside.meanings.entries
    ∙ ap (λ known. meaning_of known c.args.name.now) c.self.view_is
