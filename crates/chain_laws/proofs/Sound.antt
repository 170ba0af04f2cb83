-- The ordering that the definition gives is one by which the term is in chain form.
use Rattle.std.proofs.Common.{◌≡◌, ℕ, zero, suc, ◌+◌, ◌<◌, ◌≤◌, Bool, true, false, List, [], ◌∷◌, length, Some, refl, sym, ap, ◌∙◌, subst, arith, inl, inr}
use Rattle.std.specs.Prelude.{if◌then◌else◌}
use Rattle.std.specs.List.{list_all, flat_map, range_with_len}
use Rattle.std.specs.Option.{option_map_or}
use Rattle.std.proofs.lemmas.Bool.{eqb-true, cases_eq, cases_lt}
use Rattle.std.proofs.lemmas.List.Concat.{flat_map-cons}
use Rattle.std.proofs.lemmas.Option.{slice_get_past}
use Rattle.sim_syntax.specs.declared.statement.IxAtom.{IxAtom}
use Rattle.chain_forms.specs.declared.chain.Chain.{Chain}
use Rattle.chain_forms.specs.declared.chain.Link.{Link}
use Rattle.chain_forms.specs.Atoms.{Name, indices_of, indices_at, is_factor, one_if}
use Rattle.chain_forms.specs.ChainForm.{Beside, Leads, AllLead, Ordered, links_of, times_in, last_of}
use Rattle.chain_forms.specs.Following.{is_vector, first_vector, is_ordered, are_ordered, ordering}
use Rattle.chain_laws.proofs.Names.{both_true, true_or_false, some_is}
use Rattle.chain_laws.proofs.Times.{times_joined, times_none, elsewhere, never, has_indices}

-- ---- each factor once

all_below : (test : ℕ → Bool) (a n : ℕ) → list_all test (range_with_len a n) ≡ true → (p : ℕ) → a ≤ p → p < a + n → test p ≡ true
all_below test a zero pass p from below = absurd (omega arith)
all_below test a (suc n) pass p from below =
    let both = both_true (test a) (list_all test (range_with_len (a + 1) n)) pass in
    elim (cases_eq a p) [
      | inl same ↦ subst (λ q. test q ≡ true) same both.0
      | inr other ↦ all_below test (a + 1) n both.1 p (omega (arith, other)) (omega arith)
    ]

pub past_end : (atoms : List IxAtom) (p : ℕ) → length atoms ≤ p → indices_at atoms p ≡ []
past_end atoms p past = ap (λ o. option_map_or indices_of o []) (slice_get_past atoms p past)

groups_never : (atoms : List IxAtom) (free : List Name) (i : Name) (groups : List (List Link)) (p : ℕ) → AllLead atoms free i groups → indices_at atoms p ≡ []
    → times_in p (flat_map (λ group. group) groups) ≡ 0
groups_never atoms free i [] p AllLead.none none = times_none p
groups_never atoms free i (group ∷ groups) p (AllLead.one_more g gs lead others) none =
    let first = never atoms free [] i group p lead none in
    let rest = groups_never atoms free i groups p others none in
    ap (times_in p) (flat_map-cons (λ group. group) group groups) ∙ times_joined p group (flat_map (λ group. group) groups) ∙ sum_none _ _ first rest
  where
    sum_none : (m n : ℕ) → m ≡ 0 → n ≡ 0 → m + n ≡ 0
    sum_none m n first rest = omega arith

not_first : (atoms : List IxAtom) (p : ℕ) (l : Link) (i : Name) (out : List Name) → Beside atoms l i out → indices_at atoms p ≡ [] → l.factor ≡ p → ⊥
not_first atoms p l i out beside none is = has_indices atoms l i out beside (ap (indices_at atoms) is ∙ none)

chain_never : (atoms : List IxAtom) (free : List Name) (ordering : Chain) (p : ℕ) → Ordered atoms free ordering → indices_at atoms p ≡ []
    → times_in p (links_of ordering) ≡ 0
chain_never atoms free ordering p Ordered.no_factors none = times_none p
chain_never atoms free ordering p (Ordered.between_vectors first rest i beside lead) none =
    elsewhere p first rest (not_first atoms p first i [] beside none) ∙ never atoms [] [] i rest p lead none
chain_never atoms free ordering p (Ordered.in_groups i group others lead) none = groups_never atoms (i ∷ []) i (group ∷ others) p lead none
chain_never atoms free ordering p (Ordered.between_indices i j links differ lead) none = never atoms (i ∷ j ∷ []) (j ∷ []) i links p lead none

pub all_once : (atoms : List IxAtom) (free : List Name) (ordering : Chain) → Ordered atoms free ordering → are_ordered atoms (links_of ordering) ≡ true
    → (p : ℕ) → times_in p (links_of ordering) ≡ one_if (is_factor (indices_at atoms p))
unfolding are_ordered
all_once atoms free ordering ordered are p = elim (cases_lt p (length atoms)) [
  | inl below ↦ eqb-true (times_in p (links_of ordering)) (one_if (is_factor (indices_at atoms p)))
      (all_below (is_ordered atoms (links_of ordering)) 0 (length atoms) are p (omega arith) (omega (arith, below)))
  | inr past ↦ let none = past_end atoms p past in
      chain_never atoms free ordering p ordered none ∙ sym (ap (λ indices. one_if (is_factor indices)) none)
]

pub at_most_once : (b : Bool) (n : ℕ) → n ≡ one_if b → n ≤ 1
at_most_once true n is = omega arith
at_most_once false n is = omega arith

-- ---- with no free index

abbrev pub Vector : List IxAtom → ℕ → Type 0
Vector atoms p = is_vector (indices_at atoms p) ≡ true

abbrev pub NoneBefore : List IxAtom → ℕ → Type 0
NoneBefore atoms p = (q : ℕ) → q < p → is_vector (indices_at atoms q) ≡ false

pub first_is : (atoms : List IxAtom) (k u : ℕ) → first_vector k atoms ≡ Some u → (r : ℕ) × ((u ≡ k + r) × Vector atoms r × NoneBefore atoms r)
unfolding first_vector
first_is [] k u found = cc found
first_is (a ∷ atoms) k u found = elim (true_or_false (is_vector (indices_of a))) [
  | inl is ↦ (0, (here_it_is (some_is k u (sym (ap (λ b. if b then Some k else first_vector (k + 1) atoms) is) ∙ found)), is, λ q below. absurd (omega (arith, below))))
  | inr is ↦ let rest = first_is atoms (k + 1) u (sym (ap (λ b. if b then Some k else first_vector (k + 1) atoms) is) ∙ found) in
      (suc rest.0, (one_later rest.0 rest.1.0, rest.1.1, none_before is rest.0 rest.1.2))
]
  where
    here_it_is : k ≡ u → u ≡ k + 0
    here_it_is same = omega arith

    one_later : (r : ℕ) → u ≡ k + 1 + r → u ≡ k + suc r
    one_later r is = omega arith

    none_before : is_vector (indices_of a) ≡ false → (r : ℕ) → NoneBefore atoms r → NoneBefore (a ∷ atoms) (suc r)
    none_before is r before zero below = is
    none_before is r before (suc q) below = before q (omega arith)

abbrev pub last_factor : List Link → ℕ
last_factor [] = 0
last_factor (l ∷ rest) = last_of l rest

pub not_empty : (atoms : List IxAtom) (free end : List Name) (i : Name) (links : List Link) → Leads atoms free end i links
    → (l : Link) × (rest : List Link) × (links ≡ l ∷ rest)
not_empty atoms free end i links (Leads.last l j beside) = (l, [], refl)
not_empty atoms free end i links (Leads.further l rest j k beside summed others) = (l, rest, refl)

vector_beside : (atoms : List IxAtom) (l : Link) (i : Name) → Beside atoms l i [] → Vector atoms l.factor
vector_beside atoms l i (Beside.vector p j are) = ap is_vector are

pub last_is_vector : (atoms : List IxAtom) (free : List Name) (i : Name) (links : List Link) → Leads atoms free [] i links → Vector atoms (last_factor links)
last_is_vector atoms free i links (Leads.last l j beside) = vector_beside atoms l j beside
last_is_vector atoms free i links (Leads.further l rest j k beside summed others) =
    let some = not_empty atoms free [] k rest others in
    subst (λ r. Vector atoms (last_of l r)) (sym some.2) (subst (λ r. Vector atoms (last_factor r)) some.2 (last_is_vector atoms free k rest others))
