-- What an index expression means: the sum of its terms' sums, each with its sign.
use Rattle.std.specs.Prelude.{◌≡◌, ℕ, ℤ, pos, neg_ℤ, ◌+ℤ◌, Bool, true, false, List, [], ◌∷◌}
use Rattle.sim_syntax.specs.declared.statement.IxAtom.{IxAtom}
use Rattle.sim_syntax.specs.declared.statement.IxTerm.{IxTerm}
use Rattle.index_sums.specs.IndexSums.{Name, Values}
use Rattle.value_algebra.specs.declared.value.Value.{Value}
use Rattle.index_meaning.specs.Laws.{HaveSizes}
use Rattle.index_meaning.specs.TermSums.{term_sum}

-- a number as a whole number, negated where it has a minus
abbrev pub with_sign : Bool → ℕ → ℤ
with_sign false n = pos n
with_sign true n = neg_ℤ (pos n)

-- the sum, at values of the free indices, of the terms' sums with their signs; how many values an index has is said term by term, since
-- an index that is summed is summed in its term alone
unfoldable pub signed_sum : (IxAtom → Value) → List Name → List IxTerm → List (Name → ℕ) → Values → ℤ
signed_sum value free [] sizes at = pos 0
signed_sum value free (term ∷ terms) [] at = pos 0
signed_sum value free (term ∷ terms) (size ∷ sizes) at =
    with_sign term.minus (term_sum value size free term.atoms at) +ℤ signed_sum value free terms sizes at

-- some indices have as many values by the one as by the other
abbrev pub AreAlike : (Name → ℕ) → (Name → ℕ) → List Name → Type 0
AreAlike size other [] = Unit {0}
AreAlike size other (i ∷ names) = (size i ≡ other i) × AreAlike size other names

-- sizes of the indices of each term, which the values of its atoms have; a free index has in each term as many values as in the whole
pub data HaveTermSizes (value : IxAtom → Value) (size : Name → ℕ) (free : List Name) : List IxTerm → List (Name → ℕ) → Type 0 where
  none : HaveTermSizes value size free [] []
  one_more : (term : IxTerm) (terms : List IxTerm) (own : Name → ℕ) (others : List (Name → ℕ))
      → HaveSizes own value term.atoms → AreAlike size own free → HaveTermSizes value size free terms others
      → HaveTermSizes value size free (term ∷ terms) (own ∷ others)
