-- How many atoms have an index, and which is the other one.
use Rattle.std.proofs.Common.{◌≡◌, ℕ, zero, suc, ◌+◌, ◌≤◌, Bool, true, false, ◌||◌, ◌&&◌, List, [], ◌∷◌, Option, Some, None, refl, sym, ap, ◌∙◌, subst, arith, inl, inr}
use Rattle.std.specs.Prelude.{◌==◌, ◌⊎◌, not, if◌then◌else◌}
use Rattle.std.specs.List.{list_all}
use Rattle.std.proofs.lemmas.Bool.{eq-eqb, eqb-true, cases_eq}
use Rattle.sim_syntax.specs.declared.statement.IxAtom.{IxAtom}
use Rattle.chain_forms.specs.Atoms.{Name, indices_of, indices_at, is_among, one_if, atoms_with}
use Rattle.chain_forms.specs.ChainForm.{IsSimple, IsSummed}
use Rattle.chain_forms.specs.Following.{is_simple, is_paired, is_paired_reference, are_paired, other_with}
use Rattle.chain_laws.proofs.Names.{true_or_false, other_name, first_among, later_among, some_is}
use Rattle.chain_laws.proofs.Pairs.{with_more}

abbrev pub Has : Name → List IxAtom → ℕ → Type 0
Has i atoms p = is_among i (indices_at atoms p) ≡ true

no_atom : (i : Name) (p : ℕ) → Has i [] p → ⊥
no_atom i p has = let none : false ≡ true = has in cc none

at_first : (i : Name) (a : IxAtom) (atoms : List IxAtom) → is_among i (indices_of a) ≡ true → atoms_with i (a ∷ atoms) ≡ 1 + atoms_with i atoms
at_first i a atoms has = with_more i a atoms ∙ ap (λ b. one_if b + atoms_with i atoms) has

no_fewer : (i : Name) (a : IxAtom) (atoms : List IxAtom) → atoms_with i atoms ≤ atoms_with i (a ∷ atoms)
no_fewer i a atoms = let more = with_more i a atoms in omega arith

pub one_with : (i : Name) (atoms : List IxAtom) (p : ℕ) → Has i atoms p → 1 ≤ atoms_with i atoms
one_with i [] p has = absurd (no_atom i p has)
one_with i (a ∷ atoms) zero has = let first = at_first i a atoms has in omega arith
one_with i (a ∷ atoms) (suc p) has = let rest = one_with i atoms p has in let more = no_fewer i a atoms in omega arith

two_with : (i : Name) (atoms : List IxAtom) (p q : ℕ) → (p ≡ q → ⊥) → Has i atoms p → Has i atoms q → 2 ≤ atoms_with i atoms
two_with i [] p q differ has has' = absurd (no_atom i p has)
two_with i (a ∷ atoms) zero zero differ has has' = absurd (differ refl)
two_with i (a ∷ atoms) zero (suc q) differ has has' = let first = at_first i a atoms has in let rest = one_with i atoms q has' in omega arith
two_with i (a ∷ atoms) (suc p) zero differ has has' = let first = at_first i a atoms has' in let rest = one_with i atoms p has in omega arith
two_with i (a ∷ atoms) (suc p) (suc q) differ has has' =
    let rest = two_with i atoms p q (λ same. differ (ap suc same)) has has' in let more = no_fewer i a atoms in omega arith

three_with : (i : Name) (atoms : List IxAtom) (p q r : ℕ) → (p ≡ q → ⊥) → (p ≡ r → ⊥) → (q ≡ r → ⊥) → Has i atoms p → Has i atoms q → Has i atoms r
    → 3 ≤ atoms_with i atoms
three_with i [] p q r pq pr qr hp hq hr = absurd (no_atom i p hp)
three_with i (a ∷ atoms) zero zero r pq pr qr hp hq hr = absurd (pq refl)
three_with i (a ∷ atoms) zero (suc q) zero pq pr qr hp hq hr = absurd (pr refl)
three_with i (a ∷ atoms) zero (suc q) (suc r) pq pr qr hp hq hr =
    let first = at_first i a atoms hp in let rest = two_with i atoms q r (λ same. qr (ap suc same)) hq hr in omega arith
three_with i (a ∷ atoms) (suc p) zero zero pq pr qr hp hq hr = absurd (qr refl)
three_with i (a ∷ atoms) (suc p) zero (suc r) pq pr qr hp hq hr =
    let first = at_first i a atoms hq in let rest = two_with i atoms p r (λ same. pr (ap suc same)) hp hr in omega arith
three_with i (a ∷ atoms) (suc p) (suc q) zero pq pr qr hp hq hr =
    let first = at_first i a atoms hr in let rest = two_with i atoms p q (λ same. pq (ap suc same)) hp hq in omega arith
three_with i (a ∷ atoms) (suc p) (suc q) (suc r) pq pr qr hp hq hr =
    let rest = three_with i atoms p q r (λ same. pq (ap suc same)) (λ same. pr (ap suc same)) (λ same. qr (ap suc same)) hp hq hr in
    let more = no_fewer i a atoms in omega arith

-- ---- the other atom with an index

passes : (b c : Bool) → (b && not c) ≡ true → (b ≡ true) × (c ≡ false)
passes true true is = cc is
passes true false is = (refl, refl)
passes false c is = cc is

fails : (b c : Bool) → (b && not c) ≡ false → b ≡ true → c ≡ true
fails true true is has = refl
fails true false is has = cc is
fails false c is has = cc has

pub other_is : (i : Name) (but k : ℕ) (atoms : List IxAtom) (q : ℕ) → other_with i but k atoms ≡ Some q → (r : ℕ) × ((q ≡ k + r) × Has i atoms r × (q ≡ but → ⊥))
unfolding other_with
other_is i but k [] q found = cc found
other_is i but k (a ∷ atoms) q found = elim (true_or_false (is_among i (indices_of a) && not (k == but))) [
  | inl is ↦
      let here = some_is k q (sym (ap (λ b. if b then Some k else other_with i but (k + 1) atoms) is) ∙ found) in
      let both = passes (is_among i (indices_of a)) (k == but) is in
      (0, (nothing_more here, both.0, λ same. not_both (k == but) (eq-eqb k but (here ∙ same)) both.1))
  | inr is ↦
      let rest = other_is i but (k + 1) atoms q (sym (ap (λ b. if b then Some k else other_with i but (k + 1) atoms) is) ∙ found) in
      (suc rest.0, (one_later rest.0 rest.1.0, rest.1.1, rest.1.2))
]
  where
    nothing_more : k ≡ q → q ≡ k + 0
    nothing_more same = omega arith

    one_later : (r : ℕ) → q ≡ k + 1 + r → q ≡ k + suc r
    one_later r is = omega arith

    not_both : (b : Bool) → b ≡ true → b ≡ false → ⊥
    not_both true is not_is = cc not_is
    not_both false is not_is = cc is

pub no_other : (i : Name) (but k : ℕ) (atoms : List IxAtom) → other_with i but k atoms ≡ None → (r : ℕ) → Has i atoms r → k + r ≡ but
unfolding other_with
no_other i but k [] none r has = absurd (no_atom i r has)
no_other i but k (a ∷ atoms) none r has = elim (true_or_false (is_among i (indices_of a) && not (k == but))) [
  | inl is ↦ let no' : Some k ≡ None = sym (ap (λ b. if b then Some k else other_with i but (k + 1) atoms) is) ∙ none in cc no'
  | inr is ↦ by_position r is has (sym (ap (λ b. if b then Some k else other_with i but (k + 1) atoms) is) ∙ none) (no_other i but (k + 1) atoms)
]
  where
    by_position : (r : ℕ) → (is_among i (indices_of a) && not (k == but)) ≡ false → Has i (a ∷ atoms) r → other_with i but (k + 1) atoms ≡ None
        → (other_with i but (k + 1) atoms ≡ None → (r : ℕ) → Has i atoms r → k + 1 + r ≡ but) → k + r ≡ but
    by_position zero is has none rest = let here = eqb-true k but (fails (is_among i (indices_of a)) (k == but) is has) in omega (arith, here)
    by_position (suc r) is has none rest = let later = rest none r has in omega (arith, later)

-- an index that two atoms have
pub the_other : (i : Name) (atoms : List IxAtom) (p q : ℕ) → atoms_with i atoms ≡ 2 → (p ≡ q → ⊥) → Has i atoms p → Has i atoms q
    → other_with i p 0 atoms ≡ Some q
the_other i atoms p q two differ hp hq = by_found (other_with i p 0 atoms) refl
  where
    by_found : (o : Option ℕ) → other_with i p 0 atoms ≡ o → o ≡ Some q
    by_found None none = absurd (differ (sym (let same = no_other i p 0 atoms none q hq in let e : q ≡ p = omega (arith, same) in e)))
    by_found (Some r) found =
        let other = other_is i p 0 atoms r found in
        let here : other.0 ≡ r = omega (arith, other.1.0) in
        let has : Has i atoms r = subst (Has i atoms) here other.1.1 in
        elim (cases_eq q r) [
          | inl same ↦ ap Some (sym same)
          | inr differs ↦ let three = three_with i atoms p q r differ (λ same. other.1.2 (sym same)) differs hp hq has in absurd (omega (arith, three, two))
        ]

-- ---- the tests of a term's indices pass

simple_passes : (indices : List Name) → IsSimple indices → is_simple indices ≡ true
simple_passes [] IsSimple.scalar = refl
simple_passes (i ∷ []) (IsSimple.vector j) = refl
simple_passes (i ∷ j ∷ []) (IsSimple.matrix k m differ) = ap not (other_name i j differ)
simple_passes (i ∷ j ∷ k ∷ more) is = elim is [ ]

all_pass : (test : Name → Bool) (names : List Name) → ((j : Name) → is_among j names ≡ true → test j ≡ true) → list_all test names ≡ true
all_pass test [] pass = refl
all_pass test (j ∷ names) pass =
    ap (λ b. b && list_all test names) (pass j (first_among j names)) ∙ all_pass test names (λ k among. pass k (later_among k j names among))

each_pass : (test : List Name → Bool) (atoms : List IxAtom) → ((p : ℕ) → test (indices_at atoms p) ≡ true) → list_all (λ a. test (indices_of a)) atoms ≡ true
each_pass test [] pass = refl
each_pass test (a ∷ atoms) pass = ap (λ b. b && list_all (λ a. test (indices_of a)) atoms) (pass 0) ∙ each_pass test atoms (λ p. pass (suc p))

pub paired : (free : List Name) (atoms : List IxAtom) → ((p : ℕ) → IsSimple (indices_at atoms p))
    → ((i : Name) → IsSummed free i → (atoms_with i atoms ≡ 0) ⊎ (atoms_with i atoms ≡ 2)) → are_paired free atoms ≡ true
unfolding are_paired
paired free atoms simple twice =
    each_pass (is_paired_reference free atoms) atoms
    (λ p. ap (λ b. b && list_all (is_paired free atoms) (indices_at atoms p)) (simple_passes (indices_at atoms p) (simple p))
    ∙ all_pass (is_paired free atoms) (indices_at atoms p) (one_pass p))
  where
    one_pass : (p : ℕ) (j : Name) → Has j atoms p → is_paired free atoms j ≡ true
    one_pass p j has = elim (true_or_false (is_among j free)) [
      | inl is ↦ ap (λ b. b || (atoms_with j atoms == 2)) is
      | inr summed ↦ ap (λ b. b || (atoms_with j atoms == 2)) summed ∙ elim (twice j summed) [
        | inl none ↦ let one = one_with j atoms p has in absurd (omega (arith, none))
        | inr two ↦ eq-eqb (atoms_with j atoms) 2 two
      ]
    ]
