-- What the tests of a term's indices mean.
use Rattle.std.proofs.Common.{◌≡◌, ℕ, zero, suc, ◌+◌, Bool, true, false, ◌||◌, List, [], ◌∷◌, refl, sym, ap, ◌∙◌, subst, arith, inl, inr}
use Rattle.std.specs.Prelude.{◌==◌, ◌⊎◌, not}
use Rattle.std.specs.List.{list_all}
use Rattle.std.specs.Str.{bytes_eq}
use Rattle.std.proofs.lemmas.Bool.{eqb-true}
use Rattle.std.proofs.lemmas.List.Sums.{sum_by-cons}
use Rattle.sim_syntax.specs.declared.statement.IxAtom.{IxAtom}
use Rattle.chain_forms.specs.Atoms.{Name, indices_of, indices_at, is_among, one_if, atoms_with}
use Rattle.chain_forms.specs.ChainForm.{IsSimple, IsSummed}
use Rattle.chain_forms.specs.Following.{is_simple, is_paired, is_paired_reference, are_paired}
use Rattle.chain_laws.proofs.Names.{true_or_false, both_true, name_is, same_name}

-- ---- references

simple : (indices : List Name) → is_simple indices ≡ true → IsSimple indices
simple [] is = IsSimple.scalar
simple (i ∷ []) is = IsSimple.vector i
simple (i ∷ j ∷ []) is = IsSimple.matrix i j (λ same. differ (bytes_eq i j) (same_name i j same) is)
  where
    differ : (b : Bool) → b ≡ true → not b ≡ true → ⊥
    differ true is not_is = cc not_is
    differ false is not_is = cc is
simple (i ∷ j ∷ k ∷ more) is = cc is

-- the atoms that have an index: none, or one at some position
pub with_more : (i : Name) (a : IxAtom) (atoms : List IxAtom) → atoms_with i (a ∷ atoms) ≡ one_if (is_among i (indices_of a)) + atoms_with i atoms
unfolding atoms_with
with_more i a atoms = sum_by-cons (λ a. one_if (is_among i (indices_of a))) a atoms

with_none : (i : Name) → atoms_with i [] ≡ 0
unfolding atoms_with
with_none i = refl

abbrev Somewhere : Name → List IxAtom → Type 0
Somewhere i atoms = (p : ℕ) × (is_among i (indices_at atoms p) ≡ true)

none_or_some : (i : Name) (atoms : List IxAtom) → (atoms_with i atoms ≡ 0) ⊎ Somewhere i atoms
none_or_some i [] = inl (with_none i)
none_or_some i (a ∷ atoms) = elim (true_or_false (is_among i (indices_of a))) [
  | inl is ↦ inr (0, is)
  | inr is ↦ elim (none_or_some i atoms) [
    | inl none ↦ inl (with_more i a atoms ∙ ap (λ b. one_if b + atoms_with i atoms) is ∙ none_more (atoms_with i atoms) none)
    | inr some ↦ inr (suc some.0, some.1)
  ]
]
  where
    none_more : (n : ℕ) → n ≡ 0 → 0 + n ≡ 0
    none_more n is = omega arith

-- ---- all references

module _ (free : List Name) (all : List IxAtom) where
  abbrev AllPaired : List IxAtom → Type 0
  AllPaired atoms = list_all (λ a. is_paired_reference free all (indices_of a)) atoms ≡ true

  at_position : (atoms : List IxAtom) (p : ℕ) → AllPaired atoms → is_paired_reference free all (indices_at atoms p) ≡ true
  at_position [] p are = refl
  at_position (a ∷ atoms) zero are = (both_true (is_paired_reference free all (indices_of a)) _ are).0
  at_position (a ∷ atoms) (suc p) are = at_position atoms p (both_true (is_paired_reference free all (indices_of a)) _ are).1

  one_paired : (indices : List Name) (i : Name) → list_all (is_paired free all) indices ≡ true → is_among i indices ≡ true → is_paired free all i ≡ true
  one_paired [] i are among = cc among
  one_paired (j ∷ indices) i are among =
      let both = both_true (is_paired free all j) (list_all (is_paired free all) indices) are in
      elim (true_or_false (bytes_eq i j)) [
        | inl same ↦ subst (λ k. is_paired free all k ≡ true) (sym (name_is i j same)) both.0
        | inr other ↦ one_paired indices i both.1 (sym (ap (λ b. b || is_among i indices) other) ∙ among)
      ]

  two : (i : Name) → is_among i free ≡ false → is_paired free all i ≡ true → atoms_with i all ≡ 2
  two i summed paired = eqb-true (atoms_with i all) 2 (sym (ap (λ b. b || (atoms_with i all == 2)) summed) ∙ paired)

pub are_simple : (free : List Name) (atoms : List IxAtom) → are_paired free atoms ≡ true → (p : ℕ) → IsSimple (indices_at atoms p)
unfolding are_paired
are_simple free atoms are p =
    simple (indices_at atoms p) (both_true (is_simple (indices_at atoms p)) _ (at_position free atoms atoms p are)).0

pub are_twice : (free : List Name) (atoms : List IxAtom) → are_paired free atoms ≡ true → (i : Name) → IsSummed free i
    → (atoms_with i atoms ≡ 0) ⊎ (atoms_with i atoms ≡ 2)
unfolding are_paired
are_twice free atoms are i summed = elim (none_or_some i atoms) [
  | inl none ↦ inl none
  | inr some ↦ inr (two free atoms i summed (one_paired free atoms (indices_at atoms some.0) i
      (both_true (is_simple (indices_at atoms some.0)) _ (at_position free atoms atoms some.0 are)).1 some.1))
]
