-- What an index term means: the sum over all values of its summed indices of the product of its atoms. An index ranges over the
-- pairs of an element and a component of its block, which are counted as the rows and columns of values are.
use Rattle.std.specs.Prelude.{ℕ, not, List, [], ◌∷◌, if◌then◌else◌}
use Rattle.std.specs.List.{filter, flat_map}
use Rattle.sim_syntax.specs.declared.statement.IxAtom.{IxAtom}
use Rattle.index_sums.specs.IndexSums.{Name, Values, over_all, product_by}
use Rattle.chain_forms.specs.Atoms.{indices_of, is_among}
use Rattle.value_algebra.specs.declared.value.Value.{Value}
use Rattle.value_algebra.specs.Value.{word_at, word_of}

-- the word of a value at values of its indices: of a scalar, of a vector, of a matrix
abbrev pub entry_of : Value → List Name → Values → ℕ
entry_of value [] at = word_of value
entry_of value (i ∷ []) at = word_at value (at i) 0
entry_of value (i ∷ j ∷ more) at = word_at value (at i) (at j)

-- the product of all atoms at values of their indices
unfoldable pub term_product : (IxAtom → Value) → List IxAtom → Values → ℕ
term_product value atoms at = product_by (λ a. entry_of (value a) (indices_of a) at) atoms

-- some names, each once
abbrev pub once : List Name → List Name
once [] = []
once (name ∷ names) = if is_among name names then once names else name ∷ once names

-- the indices of a term that are not free
unfoldable pub summed : List Name → List IxAtom → List Name
summed free atoms = once (filter (λ i. not (is_among i free)) (flat_map indices_of atoms))

-- the sum, at values of the free indices, by what atoms stand for and how many values an index has
unfoldable pub term_sum : (IxAtom → Value) → (Name → ℕ) → List Name → List IxAtom → Values → ℕ
term_sum value size free atoms at = over_all size (summed free atoms) (term_product value atoms) at
