-- By the number of free indices: what is found is an ordering, and it is in the order of the text.
use Rattle.std.proofs.Common.{◌≡◌, ℕ, ◌+◌, ◌<◌, ◌≤◌, Bool, true, false, List, [], ◌∷◌, length, Option, Some, None, refl, sym, ap, ◌∙◌, subst, arith, inl, inr}
use Rattle.std.specs.Prelude.{if◌then◌else◌}
use Rattle.std.specs.Option.{option_and_then}
use Rattle.std.specs.Str.{bytes_eq}
use Rattle.std.proofs.lemmas.Bool.{cases_lt, cases_eq}
use Rattle.sim_syntax.specs.declared.statement.IxAtom.{IxAtom}
use Rattle.chain_forms.specs.declared.chain.Chain.{Chain}
use Rattle.chain_forms.specs.declared.chain.Chain.TheVariants as chain
use Rattle.chain_forms.specs.declared.chain.Link.{Link}
use Rattle.chain_forms.specs.Atoms.{Name, indices_of, indices_at, is_factor, is_among}
use Rattle.chain_forms.specs.ChainForm.{link, Beside, Leads, AllLead, Ordered, links_of, times_in, last_of, IsChain, InTextOrder}
use Rattle.chain_forms.specs.Following.{are_paired, other_with, followed, is_vector, first_vector, after_vector, from_vector, with_group, groups_from, some_groups, between_free, by_free, are_ordered, if_all, ordering}
use Rattle.chain_laws.specs.Laws.{IsOrdering}
use Rattle.chain_laws.proofs.Names.{same_name, true_or_false, and_then_some, map_some, if_some, if_not_some, some_is}
use Rattle.chain_laws.proofs.Leading.{leads}
use Rattle.chain_laws.proofs.Pairs.{are_simple, are_twice}
use Rattle.chain_laws.proofs.Sorting.{Sorted, sorted_put, leads_put, ascending}
use Rattle.chain_laws.proofs.Sound.{all_once, at_most_once, first_is, last_factor, last_is_vector, not_empty}
use Rattle.chain_laws.proofs.Times.{times_more, times_none, here, last_stands}

abbrev Holds : List IxAtom → List Name → Chain → Type 0
Holds atoms free ordering = Ordered atoms free ordering × InTextOrder ordering

abbrev Once : List IxAtom → Chain → Type 0
Once atoms ordering = are_ordered atoms (links_of ordering) ≡ true

-- ---- with no free index

abbrev FromFirst : List IxAtom → ℕ → Chain → Type 0
FromFirst atoms u ordering =
    (i : Name) × (rest : List Link) × (Beside atoms (link u false) i [] × Leads atoms [] [] i rest × (chain.Between (link u false) rest ≡ ordering))

after_is : (atoms : List IxAtom) (u : ℕ) (indices : List Name) (ordering : Chain) → indices_at atoms u ≡ indices → after_vector atoms u indices ≡ Some ordering
    → FromFirst atoms u ordering
after_is atoms u [] ordering are found = cc found
after_is atoms u (i ∷ []) ordering are found =
    let rest = map_some (option_and_then (λ next. followed [] None atoms (length atoms) next i) (other_with i u 0 atoms)) (λ rest. chain.Between (link u false) rest) ordering found in
    let next = and_then_some (other_with i u 0 atoms) (λ next. followed [] None atoms (length atoms) next i) rest.0 rest.1.0 in
    (i, rest.0, (Beside.vector u i are, leads atoms [] None (length atoms) next.0 i rest.0 next.1.1, rest.1.1))
after_is atoms u (i ∷ j ∷ more) ordering are found = cc found

before_last : (atoms : List IxAtom) (u : ℕ) (i : Name) (rest : List Link) → first_vector 0 atoms ≡ Some u → Leads atoms [] [] i rest
    → times_in u (link u false ∷ rest) ≤ 1 → u < last_of (link u false) rest
before_last atoms u i rest found lead once =
    let some = not_empty atoms [] [] i rest lead in
    let first = first_is atoms 0 u found in
    let vector = last_is_vector atoms [] i rest lead in
    subst (λ l. u < last_of (link u false) l) (sym some.2)
    (later (last_of some.0 some.1) first.0 first.1.0 (λ below. differ (is_vector (indices_at atoms (last_of some.0 some.1)))
    (subst (λ l. is_vector (indices_at atoms (last_factor l)) ≡ true) some.2 vector) (first.1.2 (last_of some.0 some.1) below))
    (λ same. let twice = times_more u (link u false) rest in
    let one = here u (link u false) [] refl in
    let here_too : 1 ≤ times_in u rest = subst (λ l. 1 ≤ times_in u l) (sym some.2) (subst (λ q. 1 ≤ times_in q (some.0 ∷ some.1)) same (last_stands some.0 some.1)) in
    let alone = times_more u (link u false) [] in
    let none = times_nothing u in
    omega arith))
  where
    differ : (b : Bool) → b ≡ true → b ≡ false → ⊥
    differ true is not_is = cc not_is
    differ false is not_is = cc is

    later : (v r : ℕ) → u ≡ 0 + r → (v < r → ⊥) → (v ≡ u → ⊥) → u < v
    later v r is not_before differ = elim (cases_lt v r) [
      | inl below ↦ absurd (not_before below)
      | inr past ↦ elim (cases_eq v u) [ inl same ↦ absurd (differ same) | inr other ↦ omega (arith, other) ]
    ]

    times_nothing : (p : ℕ) → times_in p [] ≡ 0
    times_nothing p = times_none p

first_holds : (atoms : List IxAtom) (u : ℕ) (ordering : Chain) → first_vector 0 atoms ≡ Some u → Once atoms ordering → FromFirst atoms u ordering → Holds atoms [] ordering
first_holds atoms u o found once (i, rest, (beside, lead, is)) =
    let ordered = Ordered.between_vectors (link u false) rest i beside lead in
    let times = all_once atoms [] (chain.Between (link u false) rest) ordered (subst (Once atoms) (sym is) once) in
    subst (Holds atoms []) is
    (ordered, before_last atoms u i rest found lead (at_most_once (is_factor (indices_at atoms u)) (times_in u (link u false ∷ rest)) (times u)))

vectors_hold : (atoms : List IxAtom) (ordering : Chain) (first : Option ℕ) → first_vector 0 atoms ≡ first → Once atoms ordering → from_vector atoms first ≡ Some ordering
    → Holds atoms [] ordering
vectors_hold atoms ordering None none once found = subst (Holds atoms []) (some_is chain.Empty ordering found) (Ordered.no_factors, tt)
vectors_hold atoms ordering (Some u) is once found = first_holds atoms u ordering is once (after_is atoms u (indices_at atoms u) ordering refl found)

-- ---- with one

groups_hold : (i : Name) (all : List IxAtom) (k : ℕ) (atoms : List IxAtom) (groups found : List (List Link)) → groups_from i all k atoms groups ≡ Some found
    → AllLead all (i ∷ []) i groups → Sorted groups → AllLead all (i ∷ []) i found × Sorted found
unfolding groups_from
groups_hold i all k [] groups found is lead sorted =
    (subst (AllLead all (i ∷ []) i) (some_is groups found is) lead, subst Sorted (some_is groups found is) sorted)
groups_hold i all k (a ∷ atoms) groups found is lead sorted = elim (true_or_false (is_among i (indices_of a))) [
  | inl among ↦
      let group = and_then_some (followed (i ∷ []) None all (length all) k i) (λ group. groups_from i all (k + 1) atoms (with_group group groups)) found
      (sym (ap (λ b. if b then option_and_then (λ group. groups_from i all (k + 1) atoms (with_group group groups)) (followed (i ∷ []) None all (length all) k i)
      else groups_from i all (k + 1) atoms groups) among) ∙ is) in
      groups_hold i all (k + 1) atoms (with_group group.0 groups) found group.1.1
      (leads_put all (i ∷ []) i group.0 groups (leads all (i ∷ []) None (length all) k i group.0 group.1.0) lead) (sorted_put group.0 groups sorted)
  | inr other ↦
      groups_hold i all (k + 1) atoms groups found
      (sym (ap (λ b. if b then option_and_then (λ group. groups_from i all (k + 1) atoms (with_group group groups)) (followed (i ∷ []) None all (length all) k i)
      else groups_from i all (k + 1) atoms groups) other) ∙ is) lead sorted
]

some_hold : (atoms : List IxAtom) (i : Name) (groups : List (List Link)) (ordering : Chain) → AllLead atoms (i ∷ []) i groups → Sorted groups
    → some_groups groups ≡ Some ordering → Once atoms ordering → Holds atoms (i ∷ []) ordering
some_hold atoms i [] ordering lead sorted found once = cc found
some_hold atoms i (group ∷ groups) ordering lead sorted found once =
    let is = some_is (chain.Groups (group ∷ groups)) ordering found in
    let ordered = Ordered.in_groups i group groups lead in
    let times = all_once atoms (i ∷ []) (chain.Groups (group ∷ groups)) ordered (subst (Once atoms) (sym is) once) in
    subst (Holds atoms (i ∷ [])) is
    (ordered, ascending atoms (i ∷ []) i (group ∷ groups) sorted lead (λ p. at_most_once (is_factor (indices_at atoms p)) _ (times p)))

-- ---- with two

two_hold : (atoms : List IxAtom) (i j : Name) (ordering : Chain) → between_free i j atoms ≡ Some ordering → Holds atoms (i ∷ j ∷ []) ordering
two_hold atoms i j ordering found =
    let differ = if_not_some (bytes_eq i j) _ ordering found in
    let links = map_some (option_and_then (λ first. followed (i ∷ j ∷ []) (Some j) atoms (length atoms) first i) (other_with i (length atoms) 0 atoms)) chain.Matrices ordering differ.1 in
    let first = and_then_some (other_with i (length atoms) 0 atoms) (λ first. followed (i ∷ j ∷ []) (Some j) atoms (length atoms) first i) links.0 links.1.0 in
    subst (Holds atoms (i ∷ j ∷ [])) links.1.1 (
      Ordered.between_indices i j links.0 (λ same. not_both (bytes_eq i j) (same_name i j same) differ.0)
          (leads atoms (i ∷ j ∷ []) (Some j) (length atoms) first.0 i links.0 first.1.1),
      tt,
    )
  where
    not_both : (b : Bool) → b ≡ true → b ≡ false → ⊥
    not_both true is not_is = cc not_is
    not_both false is not_is = cc is

-- ---- all

by_free_holds : (atoms : List IxAtom) (free : List Name) (ordering : Chain) → by_free free atoms ≡ Some ordering → Once atoms ordering → Holds atoms free ordering
by_free_holds atoms [] ordering found once = vectors_hold atoms ordering (first_vector 0 atoms) refl once found
by_free_holds atoms (i ∷ []) ordering found once =
    let groups = and_then_some (groups_from i atoms 0 atoms []) some_groups ordering found in
    let hold = groups_hold i atoms 0 atoms [] groups.0 groups.1.0 AllLead.none Sorted.none in
    some_hold atoms i groups.0 ordering hold.0 hold.1 groups.1.1 once
by_free_holds atoms (i ∷ j ∷ []) ordering found once = two_hold atoms i j ordering found
by_free_holds atoms (i ∷ j ∷ k ∷ more) ordering found once = cc found

pub holds : IsOrdering
unfolding ordering
holds free atoms c found =
    let paired = if_some (are_paired free atoms) (option_and_then (if_all atoms) (by_free free atoms)) c found in
    let only = and_then_some (by_free free atoms) (if_all atoms) c paired.1 in
    let once = if_some (are_ordered atoms (links_of only.0)) (Some only.0) c only.1.1 in
    let is = some_is only.0 c once.1 in
    let hold = by_free_holds atoms free only.0 only.1.0 once.0 in
    subst (λ o. IsChain atoms free o × InTextOrder o) is (
      record {
        simple = are_simple free atoms paired.0;
        twice = are_twice free atoms paired.0;
        all = all_once atoms free only.0 hold.0 once.0;
        ordered = hold.0;
      },
      hold.1,
    )
