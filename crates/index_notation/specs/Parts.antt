-- Words that contracts inside this crate alone use.
use Rattle.std.specs.Prelude.{ℕ, ◌==◌, Bool, ◌&&◌, not, false, List, [], ◌∷◌, Option, Some, None}
use Rattle.std.specs.Option.{option_and_then}
use Rattle.sim_syntax.specs.declared.expression.SumTerm.{SumTerm, out-SumTerm}
use Rattle.sim_syntax.specs.declared.statement.IxAtom.{IxAtom}
use Rattle.chain_forms.specs.declared.chain.Chain.{Chain}
use Rattle.chain_forms.specs.declared.chain.Link.{Link}
use Rattle.chain_forms.specs.Atoms.{Name, indices_at, indices_of, is_among}
use Rattle.chain_forms.specs.Following.{after_vector, groups_from, some_groups}

-- whether an atom has an index, and stands at another position than one
abbrev pub is_other_with : Name → ℕ → ℕ → IxAtom → Bool
is_other_with i but position a = is_among i (indices_of a) && not (position == but)

-- links to a vector, where no free index is the end
abbrev pub to_vector : Option Name → List Link → Option (List Link)
to_vector None links = Some links
to_vector (Some i) links = None

-- with no free index, from a first vector on to the other
abbrev pub after_first : List IxAtom → ℕ → Option Chain
after_first atoms first = after_vector atoms first (indices_at atoms first)

-- with one: at least one group
abbrev pub in_groups : Name → List IxAtom → Option Chain
in_groups i atoms = option_and_then some_groups (groups_from i atoms 0 atoms [])

-- whether terms are one without a minus
abbrev pub is_plain : List SumTerm → Bool
is_plain (term ∷ []) = not (out-SumTerm term).minus
is_plain other = false
