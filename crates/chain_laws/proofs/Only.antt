-- Each ordering by which the term is in chain form, and which is in the order of the text, is the one that the definition gives.
use Rattle.std.proofs.Common.{◌≡◌, ℕ, List, ◌∷◌, Some, None, ap, ◌∙◌}
use Rattle.std.specs.Prelude.{if◌then◌else◌}
use Rattle.std.specs.Option.{option_and_then}
use Rattle.sim_syntax.specs.declared.statement.IxAtom.{IxAtom}
use Rattle.chain_forms.specs.declared.chain.Chain.{Chain}
use Rattle.chain_forms.specs.Atoms.{Name, indices_at}
use Rattle.chain_forms.specs.ChainForm.{Beside, Ordered, IsSimple, links_of, InTextOrder}
use Rattle.chain_forms.specs.Following.{by_free, some_groups, if_all, ordering}
use Rattle.chain_laws.specs.Laws.{IsOnly}
use Rattle.chain_laws.proofs.Counts.{paired}
use Rattle.chain_laws.proofs.Ends.{Times, Twice, passes, two_found, no_vector, between_found}
use Rattle.chain_laws.proofs.Grouped.{groups_found}

found : (atoms : List IxAtom) (free : List Name) (c : Chain) → ((p : ℕ) → IsSimple (indices_at atoms p)) → Twice atoms free → Times atoms (links_of c)
    → Ordered atoms free c → InTextOrder c → by_free free atoms ≡ Some c
found atoms free c simple twice times Ordered.no_factors order = no_vector atoms times
found atoms free c simple twice times (Ordered.between_vectors first rest i (Beside.vector p j are) lead) order =
    between_found atoms p j rest simple twice are lead times order
found atoms free c simple twice times (Ordered.in_groups i group others lead) order =
    ap (option_and_then some_groups) (groups_found atoms i (group ∷ others) simple twice times lead order)
found atoms free c simple twice times (Ordered.between_indices i j links differ lead) order = two_found atoms i j links simple twice differ lead times

pub only : IsOnly
unfolding ordering
only free atoms c is order =
    ap (λ b. if b then option_and_then (if_all atoms) (by_free free atoms) else None) (paired free atoms is.simple is.twice)
    ∙ ap (option_and_then (if_all atoms)) (found atoms free c is.simple is.twice is.all is.ordered order)
    ∙ ap (λ b. if b then Some c else None) (passes atoms (links_of c) is.all)
