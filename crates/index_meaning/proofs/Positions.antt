-- The factors of a term by their positions, and in the order of a chain.
use Rattle.std.proofs.Common.{◌≡◌, ℕ, zero, suc, ◌+◌, ◌*◌, ◌<◌, Bool, true, false, List, [], ◌∷◌, refl, sym, ap, ◌∙◌, inl, inr, arith}
use Rattle.std.specs.Prelude.{◌⊎◌, ◌==◌, not, map, sum_by, if◌then◌else◌}
use Rattle.std.specs.List.{filter}
use Rattle.std.proofs.lemmas.Bool.{cases_eq, eq-eqb, ne_eqb}
use Rattle.std.proofs.lemmas.Bool.Decides.{Decides-eqb}
use Rattle.std.proofs.lemmas.List.Sums.{sum_by-cons}
use Rattle.sim_syntax.specs.declared.statement.IxAtom.{IxAtom}
use Rattle.index_sums.specs.IndexSums.{Name, Values, product_by, times, IsReordered}
use Rattle.index_sums.specs.Laws.{ProductLaws, ReorderLaws}
use Rattle.chain_forms.specs.declared.chain.Link.{Link}
use Rattle.chain_forms.specs.Atoms.{indices_of, indices_at, is_factor, is_among, one_if, atoms_with}
use Rattle.chain_forms.specs.ChainForm.{times_in}
use Rattle.value_algebra.specs.declared.value.Value.{Value}
use Rattle.index_meaning.specs.TermSums.{entry_of, term_product}
use Rattle.index_meaning.proofs.Basics.{counted}
use Rattle.index_meaning.proofs.Links.{entry_at, links_product, stands_in}

-- the positions of factors, counted from a number on
abbrev pub factors_from : ℕ → List IxAtom → List ℕ
factors_from start [] = []
factors_from start (a ∷ atoms) = if is_factor (indices_of a) then start ∷ factors_from (start + 1) atoms else factors_from (start + 1) atoms

counted_eq : (p q : ℕ) → p ≡ q → counted (p == q) ≡ 1
counted_eq p q same = ap counted (eq-eqb p q same)

counted_ne : (p q : ℕ) → (p ≡ q → ⊥) → counted (p == q) ≡ 0
counted_ne p q differ = ap counted (ne_eqb p q differ)

none_before : (p start : ℕ) (atoms : List IxAtom) → p < start → times (λ a b. a == b) p (factors_from start atoms) ≡ 0
none_before p start [] below = refl
none_before p start (a ∷ atoms) below = by_case (is_factor (indices_of a)) (none_before p (start + 1) atoms (omega arith))
  where
    by_case : (b : Bool) → times (λ a b. a == b) p (factors_from (start + 1) atoms) ≡ 0
        → times (λ a b. a == b) p (if b then start ∷ factors_from (start + 1) atoms else factors_from (start + 1) atoms) ≡ 0
    by_case true rest = let no : counted (p == start) ≡ 0 = counted_ne p start (λ same. omega (arith, same)) in omega (arith, no, rest)
    by_case false rest = rest

-- each factor's position stands there once, and no other
pub once_each : (q start : ℕ) (atoms : List IxAtom) → times (λ a b. a == b) (start + q) (factors_from start atoms) ≡ one_if (is_factor (indices_at atoms q))
once_each q start [] = refl
once_each zero start (a ∷ atoms) = by_case (is_factor (indices_of a)) (none_before (start + 0) (start + 1) atoms (omega arith))
  where
    by_case : (b : Bool) → times (λ a b. a == b) (start + 0) (factors_from (start + 1) atoms) ≡ 0
        → times (λ a b. a == b) (start + 0) (if b then start ∷ factors_from (start + 1) atoms else factors_from (start + 1) atoms) ≡ one_if b
    by_case true rest = let here : counted (start + 0 == start) ≡ 1 = counted_eq (start + 0) start (omega arith) in omega (arith, here, rest)
    by_case false rest = rest
once_each (suc q) start (a ∷ atoms) =
    let later : start + suc q ≡ start + 1 + q = omega arith in
    by_case (is_factor (indices_of a)) (ap (λ p. times (λ a b. a == b) p (factors_from (start + 1) atoms)) later ∙ once_each q (start + 1) atoms)
  where
    by_case : (b : Bool) → times (λ a b. a == b) (start + suc q) (factors_from (start + 1) atoms) ≡ one_if (is_factor (indices_at atoms q))
        → times (λ a b. a == b) (start + suc q) (if b then start ∷ factors_from (start + 1) atoms else factors_from (start + 1) atoms) ≡ one_if (is_factor (indices_at atoms q))
    by_case true rest = let no : counted (start + suc q == start) ≡ 0 = counted_ne (start + suc q) start (λ same. omega (arith, same)) in omega (arith, no, rest)
    by_case false rest = rest

-- ---- links by their positions

abbrev pub link_positions : List Link → List ℕ
link_positions links = map (λ l. l.factor) links

same_either_way : (p q : ℕ) → counted (p == q) ≡ one_if (q == p)
same_either_way p q = by_case (cases_eq p q)
  where
    by_case : (p ≡ q) ⊎ (p ≡ q → ⊥) → counted (p == q) ≡ one_if (q == p)
    by_case (inl same) = counted_eq p q same ∙ sym (ap one_if (eq-eqb q p (sym same)))
    by_case (inr differ) = counted_ne p q differ ∙ sym (ap one_if (ne_eqb q p (λ same. differ (sym same))))

times_positions : (p : ℕ) (links : List Link) → times (λ a b. a == b) p (link_positions links) ≡ times_in p links
unfolding times_in
times_positions p [] = refl
times_positions p (l ∷ links) =
    ap (λ n. n + times (λ a b. a == b) p (link_positions links)) (same_either_way p l.factor)
    ∙ ap (λ n. one_if (l.factor == p) + n) (times_positions p links)
    ∙ sym (sum_by-cons (λ k. one_if (k.factor == p)) l links)

-- links that have each factor once, and no other, are the factors in another order
pub factors_reordered : (laws : ReorderLaws ℕ) (atoms : List IxAtom) (links : List Link)
    → ((position : ℕ) → times_in position links ≡ one_if (is_factor (indices_at atoms position))) → IsReordered (link_positions links) (factors_from 0 atoms)
factors_reordered laws atoms links all =
    laws.by_times (λ a b. a == b) (λ x y. Decides-eqb x y) (link_positions links) (factors_from 0 atoms)
    (λ p. let start : 0 + p ≡ p = omega arith in
    times_positions p links ∙ all p ∙ sym (once_each p 0 atoms) ∙ ap (λ q. times (λ a b. a == b) q (factors_from 0 atoms)) start)

-- ---- products

module _ (value : IxAtom → Value) (at : Values) where
  abbrev pub atom_entry : IxAtom → ℕ
  atom_entry a = entry_of (value a) (indices_of a) at

  by_position : (G : ℕ → ℕ) (start : ℕ) (atoms : List IxAtom) → ((q : ℕ) → G (start + q) ≡ entry_at value atoms q at)
      → product_by G (factors_from start atoms) ≡ product_by atom_entry (filter (λ a. is_factor (indices_of a)) atoms)
  by_position G start [] same = refl
  by_position G start (a ∷ atoms) same =
      by_case (is_factor (indices_of a)) (by_position G (start + 1) atoms (λ q. ap G (further q) ∙ same (suc q)))
    where
      further : (q : ℕ) → start + 1 + q ≡ start + suc q
      further q = omega arith

      here : (n : ℕ) → n ≡ n + 0
      here n = omega arith

      first : G start ≡ atom_entry a
      first = ap G (here start) ∙ same 0

      by_case : (b : Bool) → product_by G (factors_from (start + 1) atoms) ≡ product_by atom_entry (filter (λ a. is_factor (indices_of a)) atoms)
          → product_by G (if b then start ∷ factors_from (start + 1) atoms else factors_from (start + 1) atoms)
          ≡ product_by atom_entry (if b then a ∷ filter (λ a. is_factor (indices_of a)) atoms else filter (λ a. is_factor (indices_of a)) atoms)
      by_case true rest = ap (λ n. n * product_by G (factors_from (start + 1) atoms)) first ∙ ap (λ n. atom_entry a * n) rest
      by_case false rest = rest

  abbrev scalars_of : List IxAtom → List IxAtom
  scalars_of atoms = filter (λ a. not (is_factor (indices_of a))) atoms

  abbrev factors_of : List IxAtom → List IxAtom
  factors_of atoms = filter (λ a. is_factor (indices_of a)) atoms

  -- a product over atoms is that of scalars and that of factors
  parted : (atoms : List IxAtom) → product_by atom_entry atoms ≡ product_by atom_entry (scalars_of atoms) * product_by atom_entry (factors_of atoms)
  parted [] = refl
  parted (a ∷ atoms) = by_case (is_factor (indices_of a)) (parted atoms)
    where
      moved : (x s f : ℕ) → x * (s * f) ≡ s * (x * f)
      moved x s f = grind (arith)

      joined : (x s f : ℕ) → x * (s * f) ≡ x * s * f
      joined x s f = grind (arith)

      by_case : (b : Bool) → product_by atom_entry atoms ≡ product_by atom_entry (scalars_of atoms) * product_by atom_entry (factors_of atoms)
          → atom_entry a * product_by atom_entry atoms
          ≡ product_by atom_entry (if not b then a ∷ scalars_of atoms else scalars_of atoms) * product_by atom_entry (if b then a ∷ factors_of atoms else factors_of atoms)
      by_case true rest = ap (λ n. atom_entry a * n) rest ∙ moved (atom_entry a) (product_by atom_entry (scalars_of atoms)) (product_by atom_entry (factors_of atoms))
      by_case false rest = ap (λ n. atom_entry a * n) rest ∙ joined (atom_entry a) (product_by atom_entry (scalars_of atoms)) (product_by atom_entry (factors_of atoms))

  links_by_position : (atoms : List IxAtom) (links : List Link) → links_product value atoms links at ≡ product_by (λ p. entry_at value atoms p at) (link_positions links)
  links_by_position atoms [] = refl
  links_by_position atoms (l ∷ links) = ap (λ n. entry_at value atoms l.factor at * n) (links_by_position atoms links)

  -- the product of a term, by its scalars and by its links
  pub term_product_is : (reorder : ReorderLaws ℕ) (products : ProductLaws ℕ) (atoms : List IxAtom) (links : List Link)
      → ((position : ℕ) → times_in position links ≡ one_if (is_factor (indices_at atoms position)))
      → term_product value atoms at ≡ product_by atom_entry (filter (λ a. not (is_factor (indices_of a))) atoms) * links_product value atoms links at
  unfolding term_product
  term_product_is reorder products atoms links all =
      parted atoms
      ∙ ap (λ n. product_by atom_entry (filter (λ a. not (is_factor (indices_of a))) atoms) * n)
      (sym (by_position (λ p. entry_at value atoms p at) 0 atoms (λ q. ap (λ p. entry_at value atoms p at) (start q)))
      ∙ sym (products.any_order (λ p. entry_at value atoms p at) (link_positions links) (factors_from 0 atoms) (factors_reordered reorder atoms links all))
      ∙ sym (links_by_position atoms links))
    where
      start : (q : ℕ) → 0 + q ≡ q
      start q = omega arith

-- ---- how often an index stands

with_from : (z : Name) (start : ℕ) (G : ℕ → ℕ) (atoms : List IxAtom) → ((q : ℕ) → G (start + q) ≡ one_if (is_among z (indices_at atoms q)))
    → sum_by G (factors_from start atoms) ≡ sum_by (λ a. one_if (is_among z (indices_of a))) atoms
with_from z start G [] same = refl
with_from z start G (a ∷ atoms) same =
    by_case (indices_of a) (with_from z (start + 1) G atoms (λ q. ap G (further q) ∙ same (suc q))) first
    ∙ sym (sum_by-cons (λ a. one_if (is_among z (indices_of a))) a atoms)
  where
    further : (q : ℕ) → start + 1 + q ≡ start + suc q
    further q = omega arith

    here : (n : ℕ) → n ≡ n + 0
    here n = omega arith

    first : G start ≡ one_if (is_among z (indices_of a))
    first = ap G (here start) ∙ same 0

    by_case : (names : List Name) → sum_by G (factors_from (start + 1) atoms) ≡ sum_by (λ a. one_if (is_among z (indices_of a))) atoms
        → G start ≡ one_if (is_among z names)
        → sum_by G (if is_factor names then start ∷ factors_from (start + 1) atoms else factors_from (start + 1) atoms)
        ≡ one_if (is_among z names) + sum_by (λ a. one_if (is_among z (indices_of a))) atoms
    by_case [] rest is = rest ∙ omega arith
    by_case (i ∷ names) rest is =
        sum_by-cons G start (factors_from (start + 1) atoms) ∙ ap (λ n. n + sum_by G (factors_from (start + 1) atoms)) is
        ∙ ap (λ n. one_if (is_among z (i ∷ names)) + n) rest

stands_by_position : (atoms : List IxAtom) (z : Name) (links : List Link) → stands_in atoms z links ≡ sum_by (λ p. one_if (is_among z (indices_at atoms p))) (link_positions links)
stands_by_position atoms z [] = refl
stands_by_position atoms z (l ∷ links) =
    ap (λ n. one_if (is_among z (indices_at atoms l.factor)) + n) (stands_by_position atoms z links)
    ∙ sym (sum_by-cons (λ p. one_if (is_among z (indices_at atoms p))) l.factor (link_positions links))

pub stands_as_often : (reorder : ReorderLaws ℕ) (atoms : List IxAtom) (z : Name) (links : List Link)
    → ((position : ℕ) → times_in position links ≡ one_if (is_factor (indices_at atoms position)))
    → stands_in atoms z links ≡ atoms_with z atoms
unfolding atoms_with
stands_as_often reorder atoms z links all =
    stands_by_position atoms z links
    ∙ reorder.sums (λ p. one_if (is_among z (indices_at atoms p))) (link_positions links) (factors_from 0 atoms) (factors_reordered reorder atoms links all)
    ∙ with_from z 0 (λ p. one_if (is_among z (indices_at atoms p))) atoms (λ q. ap (λ p. one_if (is_among z (indices_at atoms p))) (start q))
  where
    start : (q : ℕ) → 0 + q ≡ q
    start q = omega arith
