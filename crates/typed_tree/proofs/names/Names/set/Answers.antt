use Rattle.std.proofs.Common.{◌≡◌, List, [], ◌∷◌, map, Bor, Bool, true, false, if◌then◌else◌, refl, ap, ◌∙◌}
use Rattle.std.specs.Cmp.Lexicographic.{nat_list_eq_equiv}
use Rattle.std.specs.Str.{bytes_eq}
use Rattle.indexmap.specs.IndexMap.{insert_entry}
use Rattle.typed_tree.specs.declared.names.Meaning.{Meaning}
use Rattle.typed_tree.specs.Names.{Known, Name, with_meaning}
use Rattle.typed_tree.proofs.names.Names.set.Goals as goal
use Rattle.typed_tree.proofs.names.Names.set.Goals.{in-Ok, in-Err}

-- references to names, as the names
abbrev named : List (Bor Name × Meaning) → Known
named entries = map (λ entry. (entry.0.now, entry.1)) entries

named-choice : (first : Bool) (one other : List (Bor Name × Meaning))
    → named (if first then one else other) ≡ (if first then named one else named other)
named-choice true one other = refl
named-choice false one other = refl

-- a meaning that is set among references to names is set among the names
named-insert : (name : Bor Name) (meaning : Meaning) (entries : List (Bor Name × Meaning))
    → named (insert_entry (λ one other. bytes_eq one.now other.now) entries name meaning) ≡ with_meaning (named entries) name.now meaning
named-insert name meaning [] = refl
named-insert name meaning (entry ∷ entries) =
    named-choice (bytes_eq name.now entry.0.now) _ _
    ∙ rw (nat_list_eq_equiv.symm name.now entry.0.now, named-insert name meaning entries) refl

pub returns : goal.returns
returns c = elim c.match-insert.branch [
  | in-Ok w ↦ rw w.result-is (ap named w.in-Ok.ensures.entries
      ∙ named-insert c.args.name c.args.meaning c.self.inside.meanings.entries
      ∙ ap (λ known. with_meaning known c.args.name.now c.args.meaning) c.self.view_is)
  | in-Err w ↦ rw w.result-is tt
]
