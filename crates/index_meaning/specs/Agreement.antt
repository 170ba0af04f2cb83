-- Values whose sizes agree along a chain.
use Rattle.std.specs.Prelude.{◌≡◌, ℕ, List, [], ◌∷◌}
use Rattle.sim_syntax.specs.declared.statement.IxAtom.{IxAtom}
use Rattle.index_sums.specs.IndexSums.{Name}
use Rattle.chain_forms.specs.declared.chain.Chain.{Chain}
use Rattle.chain_forms.specs.declared.chain.Chain.TheVariants as chain
use Rattle.chain_forms.specs.declared.chain.Link.{Link}
use Rattle.chain_forms.specs.Atoms.{indices_of}
use Rattle.value_algebra.specs.declared.value.Value.{Value}
use Rattle.value_laws.specs.Laws.{IsWhole}
use Rattle.index_meaning.specs.LoweredValues.{used_value}

-- a value is a number, a column or a matrix, by the number of indices
pub data HasShape : List Name → Value → Type 0 where
  scalar : (v : Value) → IsWhole v → v.rows ≡ 1 → v.columns ≡ 1 → HasShape [] v
  vector : (i : Name) (v : Value) → IsWhole v → v.columns ≡ 1 → HasShape (i ∷ []) v
  matrix : (i j : Name) (v : Value) → IsWhole v → HasShape (i ∷ j ∷ []) v

pub data HaveShapes (value : IxAtom → Value) : List IxAtom → Type 0 where
  none : HaveShapes value []
  one_more : (a : IxAtom) (atoms : List IxAtom) → HasShape (indices_of a) (value a) → HaveShapes value atoms → HaveShapes value (a ∷ atoms)

-- the rows of the first of some links, as it is used
abbrev pub first_rows : (IxAtom → Value) → List IxAtom → List Link → ℕ
first_rows value atoms [] = 0
first_rows value atoms (l ∷ links) = (used_value value atoms l).rows

-- a link has as many columns as the next has rows
abbrev pub NextAgrees : (IxAtom → Value) → List IxAtom → Link → List Link → Type 0
NextAgrees value atoms l [] = Unit {0}
NextAgrees value atoms l (k ∷ links) = (used_value value atoms l).columns ≡ (used_value value atoms k).rows

abbrev pub LinksAgree : (IxAtom → Value) → List IxAtom → List Link → Type 0
LinksAgree value atoms [] = Unit {0}
LinksAgree value atoms (l ∷ links) = NextAgrees value atoms l links × LinksAgree value atoms links

-- groups that begin with so many rows
abbrev pub GroupsAgree : (IxAtom → Value) → List IxAtom → ℕ → List (List Link) → Type 0
GroupsAgree value atoms rows [] = Unit {0}
GroupsAgree value atoms rows (group ∷ groups) = (first_rows value atoms group ≡ rows) × LinksAgree value atoms group × GroupsAgree value atoms rows groups

abbrev pub ChainAgrees : (IxAtom → Value) → List IxAtom → Chain → Type 0
ChainAgrees value atoms chain.Empty = Unit {0}
ChainAgrees value atoms (chain.Between first rest) = ((used_value value atoms first).rows ≡ first_rows value atoms rest) × LinksAgree value atoms rest
ChainAgrees value atoms (chain.Groups []) = Unit {0}
ChainAgrees value atoms (chain.Groups (group ∷ groups)) =
    LinksAgree value atoms group × GroupsAgree value atoms (first_rows value atoms group) groups
ChainAgrees value atoms (chain.Matrices links) = LinksAgree value atoms links
