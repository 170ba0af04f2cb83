-- What index expressions mean in a program: the typed expression that a term is lowered to has a value, and at each value of the
-- free indices its entry is the sum over all values of the summed indices of the product of the term's atoms.
use Rattle.std.specs.Prelude.{◌≡◌, ℕ, pos, List, Ok}
use Rattle.ring_words.specs.Word.{word}
use Rattle.sim_syntax.specs.declared.expression.Expr as tree
use Rattle.sim_syntax.specs.declared.statement.IxAtom.{IxAtom}
use Rattle.sim_syntax.specs.declared.statement.IxTerm.{IxTerm}
use Rattle.typed_tree.specs.declared.environment.Environment.{Environment}
use Rattle.typed_tree.specs.declared.expression.TypedExpr.{TypedExpr}
use Rattle.typed_tree.specs.Expressions.{expression}
use Rattle.value_algebra.specs.declared.value.Value.{Value}
use Rattle.algebra_meaning.specs.Expression.{Scope, meaning}
use Rattle.index_sums.specs.IndexSums.{Name, Values}
use Rattle.chain_forms.specs.declared.chain.Chain.{Chain}
use Rattle.chain_forms.specs.ChainForm.{IsChain}
use Rattle.chain_forms.specs.Lowered.{lowered_ix}
use Rattle.chain_forms.specs.Lowering.{lowered_by}
use Rattle.index_meaning.specs.Laws.{HasSizes, HaveSizes, AreWithin}
use Rattle.index_meaning.specs.TermSums.{entry_of, term_sum}
use Rattle.index_laws.specs.AtomValues.{atom_value}
use Rattle.index_laws.specs.Fits.{NamesFit}
use Rattle.index_laws.specs.SignedSums.{HaveTermSizes, signed_sum}

-- a typed expression means the sum of a term: each index has a size, which the values of all atoms have, and so has the value
pub record MeansTerm (env : Environment) (scope : Scope) (free : List Name) (atoms : List IxAtom) (t : TypedExpr) : Type 0 where
  pub size : Name → ℕ
  pub sizes : HaveSizes size (atom_value env scope) atoms
  pub value : Value
  pub meant : meaning scope t ≡ Ok value
  pub has_sizes : HasSizes size free value
  pub sum : (at : Values) → AreWithin size at free → word (pos (entry_of value free at)) ≡ word (pos (term_sum (atom_value env scope) size free atoms at))

-- so does what a term is lowered to by any ordering by which it is in chain form, wherever that has a type
abbrev pub IsTermMeant : Type 0
IsTermMeant = (env : Environment) (scope : Scope) (free : List Name) (line : ℕ) (atoms : List IxAtom) (ordering : Chain) (next : ℕ) (done : TypedExpr × ℕ)
    → NamesFit env scope → IsChain atoms free ordering → expression env (lowered_by ordering line atoms) next ≡ Ok done → MeansTerm env scope free atoms done.0

-- a typed expression means an index expression: at each value of the free indices its entry is the sum of the terms' sums, with their signs
pub record MeansSum (env : Environment) (scope : Scope) (free : List Name) (terms : List IxTerm) (t : TypedExpr) : Type 0 where
  -- of the free indices, and of those of each term
  pub size : Name → ℕ
  pub term_sizes : List (Name → ℕ)
  pub sizes : HaveTermSizes (atom_value env scope) size free terms term_sizes
  pub value : Value
  pub meant : meaning scope t ≡ Ok value
  pub has_sizes : HasSizes size free value
  pub sum : (at : Values) → AreWithin size at free
      → word (pos (entry_of value free at)) ≡ word (signed_sum (atom_value env scope) free terms term_sizes at)

-- so does what an index expression is lowered to, wherever that has a type
abbrev pub IsSumMeant : Type 0
IsSumMeant = (env : Environment) (scope : Scope) (free : List Name) (line : ℕ) (terms : List IxTerm) (e : tree.Expr) (next : ℕ) (done : TypedExpr × ℕ)
    → NamesFit env scope → lowered_ix free line terms ≡ Ok e → expression env e next ≡ Ok done → MeansSum env scope free terms done.0
