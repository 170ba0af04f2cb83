-- The law of index terms: what a term is lowered to has the entries that the term's sum has.
use Rattle.std.specs.Prelude.{◌≡◌, ℕ, pos, ◌<◌, List, [], ◌∷◌}
use Rattle.ring_words.specs.Word.{word}
use Rattle.sim_syntax.specs.declared.statement.IxAtom.{IxAtom}
use Rattle.index_sums.specs.IndexSums.{Name, Values}
use Rattle.chain_forms.specs.declared.chain.Chain.{Chain}
use Rattle.chain_forms.specs.Atoms.{indices_of}
use Rattle.chain_forms.specs.ChainForm.{IsChain}
use Rattle.value_algebra.specs.declared.value.Value.{Value}
use Rattle.value_laws.specs.Laws.{IsWhole}
use Rattle.index_meaning.specs.Agreement.{HaveShapes, ChainAgrees}
use Rattle.index_meaning.specs.TermSums.{entry_of, term_sum}
use Rattle.index_meaning.specs.LoweredValues.{term_value}

-- a value has a row, and a matrix a column, for each value of its indices
pub data HasSizes (size : Name → ℕ) : List Name → Value → Type 0 where
  scalar : (v : Value) → IsWhole v → v.rows ≡ 1 → v.columns ≡ 1 → HasSizes size [] v
  vector : (i : Name) (v : Value) → IsWhole v → v.rows ≡ size i → v.columns ≡ 1 → HasSizes size (i ∷ []) v
  matrix : (i j : Name) (v : Value) → IsWhole v → v.rows ≡ size i → v.columns ≡ size j → HasSizes size (i ∷ j ∷ []) v

-- so has each atom's value
pub data HaveSizes (size : Name → ℕ) (value : IxAtom → Value) : List IxAtom → Type 0 where
  none : HaveSizes size value []
  one_more : (a : IxAtom) (atoms : List IxAtom) → HasSizes size (indices_of a) (value a) → HaveSizes size value atoms → HaveSizes size value (a ∷ atoms)

-- each of some indices is below its size
pub data AreWithin (size : Name → ℕ) (at : Values) : List Name → Type 0 where
  none : AreWithin size at []
  one_more : (i : Name) (names : List Name) → at i < size i → AreWithin size at names → AreWithin size at (i ∷ names)

-- sizes of the indices that the values of a term's atoms have
pub record Sized (value : IxAtom → Value) (atoms : List IxAtom) : Type 0 where
  pub size : Name → ℕ
  pub sizes : HaveSizes size value atoms

pub record IndexTermLaw : Type 0 where
  -- where the sizes of values agree along a chain, each index has one
  pub sized : (value : IxAtom → Value) (free : List Name) (atoms : List IxAtom) (ordering : Chain)
      → IsChain atoms free ordering → HaveShapes value atoms → ChainAgrees value atoms ordering → Sized value atoms
  pub sizes : (value : IxAtom → Value) (size : Name → ℕ) (free : List Name) (atoms : List IxAtom) (ordering : Chain)
      → IsChain atoms free ordering → HaveSizes size value atoms → HasSizes size free (term_value value atoms ordering)
  pub sum : (value : IxAtom → Value) (size : Name → ℕ) (free : List Name) (atoms : List IxAtom) (ordering : Chain) (at : Values)
      → IsChain atoms free ordering → HaveSizes size value atoms → AreWithin size at free
      → word (pos (entry_of (term_value value atoms ordering) free at)) ≡ word (pos (term_sum value size free atoms at))
