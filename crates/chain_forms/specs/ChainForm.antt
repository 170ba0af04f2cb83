-- The chain form: in which order the factors of a term may stand, so that each shares a summed index with the next.
use Rattle.std.specs.Prelude.{◌≡◌, ◌⊎◌, ℕ, ◌<◌, Bool, true, false, ◌==◌, List, [], ◌∷◌, map, min, sum_by}
use Rattle.std.specs.List.{flat_map}
use Rattle.sim_syntax.specs.declared.statement.IxAtom.{IxAtom}
use Rattle.chain_forms.specs.declared.chain.Chain.{Chain}
use Rattle.chain_forms.specs.declared.chain.Chain.TheVariants as chain
use Rattle.chain_forms.specs.declared.chain.Link.{Link}
use Rattle.chain_forms.specs.Atoms.{Name, indices_at, is_factor, is_among, one_if, atoms_with}

abbrev pub link : ℕ → Bool → Link
link factor against = record { factor = factor; against = against }

-- ---- one term's indices

-- a scalar has no index, a vector one, a matrix two; no index stands twice in one reference
pub data IsSimple : List Name → Type 0 where
  scalar : IsSimple []
  vector : (i : Name) → IsSimple (i ∷ [])
  matrix : (i j : Name) → (i ≡ j → ⊥) → IsSimple (i ∷ j ∷ [])

-- an index that isn't free is summed
abbrev pub IsSummed : List Name → Name → Type 0
IsSummed free i = is_among i free ≡ false

-- ---- following shared indices

-- a factor that is entered by an index, and what it has beside that index: nothing, as a vector, or another index, as a
-- matrix, which is used from its first index to its second, or against that order
pub data Beside (atoms : List IxAtom) : Link → Name → List Name → Type 0 where
  vector : (factor : ℕ) (i : Name) → indices_at atoms factor ≡ i ∷ [] → Beside atoms (link factor false) i []
  straight : (factor : ℕ) (i j : Name) → indices_at atoms factor ≡ i ∷ j ∷ [] → Beside atoms (link factor false) i (j ∷ [])
  against : (factor : ℕ) (i j : Name) → indices_at atoms factor ≡ j ∷ i ∷ [] → Beside atoms (link factor true) i (j ∷ [])

-- factors of which the first is entered by an index, each shares a summed index with the next, and the last has an end
-- beside the index by which it is entered: nothing, or a free index
pub data Leads (atoms : List IxAtom) (free end : List Name) : Name → List Link → Type 0 where
  last : (l : Link) (i : Name) → Beside atoms l i end → Leads atoms free end i (l ∷ [])
  further : (l : Link) (rest : List Link) (i j : Name) → Beside atoms l i (j ∷ []) → IsSummed free j → Leads atoms free end j rest
      → Leads atoms free end i (l ∷ rest)

-- each of some groups leads from an index to a vector
pub data AllLead (atoms : List IxAtom) (free : List Name) (i : Name) : List (List Link) → Type 0 where
  none : AllLead atoms free i []
  one_more : (group : List Link) (groups : List (List Link)) → Leads atoms free [] i group → AllLead atoms free i groups
      → AllLead atoms free i (group ∷ groups)

-- by the free indices: nothing, or a chain from vector to vector; one or more groups that lead from the free index to a
-- vector, in which so the free index stands once; matrices that lead from one free index to the other
pub data Ordered (atoms : List IxAtom) : List Name → Chain → Type 0 where
  no_factors : Ordered atoms [] chain.Empty
  between_vectors : (first : Link) (rest : List Link) (i : Name) → Beside atoms first i [] → Leads atoms [] [] i rest
      → Ordered atoms [] (chain.Between first rest)
  in_groups : (i : Name) (group : List Link) (others : List (List Link)) → AllLead atoms (i ∷ []) i (group ∷ others)
      → Ordered atoms (i ∷ []) (chain.Groups (group ∷ others))
  between_indices : (i j : Name) (links : List Link) → (i ≡ j → ⊥) → Leads atoms (i ∷ j ∷ []) (j ∷ []) i links
      → Ordered atoms (i ∷ j ∷ []) (chain.Matrices links)

-- ---- chains

abbrev pub links_of : Chain → List Link
links_of chain.Empty = []
links_of (chain.Between first rest) = first ∷ rest
links_of (chain.Groups groups) = flat_map (λ group. group) groups
links_of (chain.Matrices links) = links

-- how often a position stands among links
unfoldable pub times_in : ℕ → List Link → ℕ
times_in position links = sum_by (λ l. one_if (l.factor == position)) links

-- a term in chain form, by an ordering of its factors
pub record IsChain (atoms : List IxAtom) (free : List Name) (ordering : Chain) : Type 0 where
  pub simple : (position : ℕ) → IsSimple (indices_at atoms position)
  -- each summed index stands in just two references
  pub twice : (i : Name) → IsSummed free i → (atoms_with i atoms ≡ 0) ⊎ (atoms_with i atoms ≡ 2)
  -- each factor is ordered once, and nothing else is
  pub all : (position : ℕ) → times_in position (links_of ordering) ≡ one_if (is_factor (indices_at atoms position))
  pub ordered : Ordered atoms free ordering

-- ---- the order of the text

-- the least of a number and the factors of some links
unfoldable pub least : ℕ → List Link → ℕ
least m [] = m
least m (l ∷ rest) = least (min m l.factor) rest

-- the factor of some that stands first in the text
abbrev pub first_of : List Link → ℕ
first_of [] = 0
first_of (l ∷ rest) = least l.factor rest

abbrev pub last_of : Link → List Link → ℕ
last_of l [] = l.factor
last_of l (k ∷ rest) = last_of k rest

pub data Ascending : List ℕ → Type 0 where
  none : Ascending []
  one : (m : ℕ) → Ascending (m ∷ [])
  one_more : (m n : ℕ) (rest : List ℕ) → m < n → Ascending (n ∷ rest) → Ascending (m ∷ n ∷ rest)

-- a chain between two vectors begins with the one that stands first in the text, and groups stand in the order of their
-- first factors
abbrev pub InTextOrder : Chain → Type 0
InTextOrder chain.Empty = Unit {0}
InTextOrder (chain.Between first rest) = first.factor < last_of first rest
InTextOrder (chain.Groups groups) = Ascending (map first_of groups)
InTextOrder (chain.Matrices links) = Unit {0}
