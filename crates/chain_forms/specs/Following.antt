-- The one ordering of a term's factors, found by following shared indices: after a factor comes the other one that has the
-- index by which it is left.
use Rattle.std.specs.Prelude.{ℕ, zero, suc, ◌+◌, ◌==◌, Bool, true, false, ◌&&◌, ◌||◌, not, List, [], ◌∷◌, length, nat_lt, Option, Some, None, if◌then◌else◌}
use Rattle.std.specs.List.{list_all, range_with_len}
use Rattle.std.specs.Option.{option_map, option_and_then}
use Rattle.std.specs.Str.{bytes_eq}
use Rattle.sim_syntax.specs.declared.statement.IxAtom.{IxAtom}
use Rattle.chain_forms.specs.declared.chain.Chain.{Chain}
use Rattle.chain_forms.specs.declared.chain.Chain.TheVariants as chain
use Rattle.chain_forms.specs.declared.chain.Link.{Link}
use Rattle.chain_forms.specs.Atoms.{Name, indices_of, indices_at, is_factor, is_among, one_if, atoms_with}
use Rattle.chain_forms.specs.ChainForm.{link, links_of, times_in, first_of}

-- ---- tests of a term's indices

abbrev pub is_simple : List Name → Bool
is_simple [] = true
is_simple (i ∷ []) = true
is_simple (i ∷ j ∷ []) = not (bytes_eq i j)
is_simple more = false

-- an index that isn't free stands in just two references
abbrev pub is_paired : List Name → List IxAtom → Name → Bool
is_paired free atoms i = is_among i free || (atoms_with i atoms == 2)

abbrev pub is_paired_reference : List Name → List IxAtom → List Name → Bool
is_paired_reference free atoms indices = is_simple indices && list_all (is_paired free atoms) indices

-- no index stands twice in one reference, and each summed one in just two
unfoldable pub are_paired : List Name → List IxAtom → Bool
are_paired free atoms = list_all (λ a. is_paired_reference free atoms (indices_of a)) atoms

-- ---- following

-- the first atom with an index, but for one position; the positions of the atoms are counted from a number on
unfoldable pub other_with : Name → ℕ → ℕ → List IxAtom → Option ℕ
other_with i but position [] = None
other_with i but position (a ∷ atoms) =
    if is_among i (indices_of a) && not (position == but) then Some position else other_with i but (position + 1) atoms

-- a reference with these indices that is entered by an index
abbrev pub link_at : Name → ℕ → List Name → Option Link
link_at i factor (j ∷ []) = if bytes_eq i j then Some (link factor false) else None
link_at i factor (j ∷ k ∷ []) = if bytes_eq i j then Some (link factor false) else if bytes_eq i k then Some (link factor true) else None
link_at i factor other = None

-- the index by which it is left; a vector has none
abbrev pub leaving : Link → List Name → Option Name
leaving l (j ∷ k ∷ []) = Some (if l.against then j else k)
leaving l other = None

-- whether this is the free index at which a chain of matrices ends
abbrev pub is_end : Option Name → Name → Bool
is_end None i = false
is_end (Some j) i = bytes_eq i j

-- what comes after a link: nothing where it is the last, or what is found from the other factor on that has its index
abbrev pub onward : List Name → Option Name → List IxAtom → (ℕ → Name → Option (List Link)) → Link → Option Name → Option (List Link)
onward free None atoms from_there l None = Some (l ∷ [])
onward free (Some j) atoms from_there l None = None
onward free end atoms from_there l (Some i) =
    if is_end end i then Some (l ∷ [])
    else if is_among i free then None
    else option_map (λ rest. l ∷ rest) (option_and_then (λ next. from_there next i) (other_with i l.factor 0 atoms))

-- at most so many links from a factor on, which is entered by an index, to a vector or to the end
unfoldable pub followed : List Name → Option Name → List IxAtom → ℕ → ℕ → Name → Option (List Link)
followed free end atoms zero factor i = None
followed free end atoms (suc most) factor i =
    option_and_then (λ l. onward free end atoms (followed free end atoms most) l (leaving l (indices_at atoms factor)))
    (link_at i factor (indices_at atoms factor))

-- ---- by the number of free indices

-- the first atom with just one index
abbrev pub is_vector : List Name → Bool
is_vector (i ∷ []) = true
is_vector other = false

unfoldable pub first_vector : ℕ → List IxAtom → Option ℕ
first_vector position [] = None
first_vector position (a ∷ atoms) = if is_vector (indices_of a) then Some position else first_vector (position + 1) atoms

-- with none: from the first vector on to the other
abbrev pub after_vector : List IxAtom → ℕ → List Name → Option Chain
after_vector atoms first (i ∷ []) =
    option_map (λ rest. chain.Between (link first false) rest)
    (option_and_then (λ next. followed [] None atoms (length atoms) next i) (other_with i first 0 atoms))
after_vector atoms first other = None

abbrev pub from_vector : List IxAtom → Option ℕ → Option Chain
from_vector atoms None = Some chain.Empty
from_vector atoms (Some first) = after_vector atoms first (indices_at atoms first)

-- groups in the order of their first factors, with another one
unfoldable pub with_group : List Link → List (List Link) → List (List Link)
with_group group [] = group ∷ []
with_group group (g ∷ groups) = if nat_lt (first_of group) (first_of g) then group ∷ g ∷ groups else g ∷ with_group group groups

-- with one: groups, and those that begin with the atoms from a position on that have the free index
unfoldable pub groups_from : Name → List IxAtom → ℕ → List IxAtom → List (List Link) → Option (List (List Link))
groups_from i all position [] groups = Some groups
groups_from i all position (a ∷ atoms) groups =
    if is_among i (indices_of a)
    then option_and_then (λ group. groups_from i all (position + 1) atoms (with_group group groups)) (followed (i ∷ []) None all (length all) position i)
    else groups_from i all (position + 1) atoms groups

-- at least one
abbrev pub some_groups : List (List Link) → Option Chain
some_groups [] = None
some_groups (group ∷ groups) = Some (chain.Groups (group ∷ groups))

-- with two that differ: from the first atom with the one on to the other
abbrev pub between_free : Name → Name → List IxAtom → Option Chain
between_free i j atoms =
    if bytes_eq i j then None
    else option_map chain.Matrices
    (option_and_then (λ first. followed (i ∷ j ∷ []) (Some j) atoms (length atoms) first i) (other_with i (length atoms) 0 atoms))

abbrev pub by_free : List Name → List IxAtom → Option Chain
by_free [] atoms = from_vector atoms (first_vector 0 atoms)
by_free (i ∷ []) atoms = option_and_then some_groups (groups_from i atoms 0 atoms [])
by_free (i ∷ j ∷ []) atoms = between_free i j atoms
by_free more atoms = None

-- ---- the ordering

-- whether each factor is ordered once
abbrev pub is_ordered : List IxAtom → List Link → ℕ → Bool
is_ordered atoms links position = times_in position links == one_if (is_factor (indices_at atoms position))

unfoldable pub are_ordered : List IxAtom → List Link → Bool
are_ordered atoms links = list_all (is_ordered atoms links) (range_with_len 0 (length atoms))

abbrev pub if_all : List IxAtom → Chain → Option Chain
if_all atoms chain = if are_ordered atoms (links_of chain) then Some chain else None

-- the ordering of a term's factors that is in the order of the text; none where the term isn't in chain form
unfoldable pub ordering : List Name → List IxAtom → Option Chain
ordering free atoms = if are_paired free atoms then option_and_then (if_all atoms) (by_free free atoms) else None
