-- The indices that a chain shares are the summed ones of its term, each once.
use Rattle.std.proofs.Common.{◌≡◌, ℕ, ◌+◌, ◌*◌, ◌<◌, Bool, true, false, List, [], ◌∷◌, refl, sym, ap, ◌∙◌, inl, inr, subst, arith}
use Rattle.std.specs.Prelude.{◌⊎◌, ◌||◌, not, sum_by, if◌then◌else◌}
use Rattle.std.specs.List.{filter, flat_map}
use Rattle.std.specs.Str.{bytes_eq}
use Rattle.std.proofs.lemmas.Bool.{cases_Bool, or_parts, true≢false}
use Rattle.std.proofs.lemmas.List.Concat.{flat_map-cons}
use Rattle.std.proofs.lemmas.List.Folds.{list_any-append}
use Rattle.std.proofs.lemmas.List.Sums.{sum_by-cons}
use Rattle.std.proofs.lemmas.Slice.Eq.{bytes_eq-Decides}
use Rattle.sim_syntax.specs.declared.statement.IxAtom.{IxAtom}
use Rattle.index_sums.specs.IndexSums.{Name, times, IsReordered}
use Rattle.index_sums.specs.Laws.{ReorderLaws}
use Rattle.chain_forms.specs.declared.chain.Chain.{Chain}
use Rattle.chain_forms.specs.declared.chain.Link.{Link}
use Rattle.chain_forms.specs.Atoms.{indices_of, indices_at, is_factor, is_among, one_if, atoms_with}
use Rattle.chain_forms.specs.ChainForm.{IsSimple, IsSummed, Leads, AllLead, Ordered, IsChain, links_of, times_in}
use Rattle.chain_forms.specs.ChainForm.Leads.{last, further}
use Rattle.chain_forms.specs.ChainForm.Ordered.{no_factors, between_vectors, in_groups, between_indices}
use Rattle.index_meaning.specs.TermSums.{once, summed}
use Rattle.index_meaning.proofs.Basics.{counted, counted_is, one_if-false, times-append}
use Rattle.index_meaning.proofs.Links.{stands_in, shared, link_stands, links_stand, group_names, groups_stand}
use Rattle.index_meaning.proofs.Paths.{Different}
use Rattle.index_meaning.proofs.Positions.{stands_as_often}

-- the indices that a chain shares
abbrev pub chain_names : {atoms : List IxAtom} {free : List Name} {ordering : Chain} → Ordered atoms free ordering → List Name
chain_names no_factors = []
chain_names (between_vectors first rest i is leads) = i ∷ shared leads
chain_names (in_groups i group others all) = group_names all
chain_names (between_indices i j links apart leads) = shared leads

-- ---- none of them is free

alone : (b : Bool) → (b || false) ≡ b
alone true = refl
alone false = refl

shared_summed : (atoms : List IxAtom) (free end : List Name) (z i : Name) (links : List Link) (leads : Leads atoms free end i links) → is_among z free ≡ true
    → times bytes_eq z (shared leads) ≡ 0
shared_summed atoms free end z k links (last l i is) among = refl
shared_summed atoms free end z k links (further l rest i j is summed more) among =
    let rest_none : times bytes_eq z (shared more) ≡ 0 = shared_summed atoms free end z j rest more among in
    let no : counted (bytes_eq z j) ≡ 0 = by_case j summed (cases_Bool (bytes_eq z j)) in
    omega (arith, rest_none, no)
  where
    by_case : (j : Name) → IsSummed free j → (bytes_eq z j ≡ true) ⊎ (bytes_eq z j ≡ false) → counted (bytes_eq z j) ≡ 0
    by_case j summed (inl same) =
        absurd (true≢false (sym among ∙ ap (λ n. is_among n free) ((bytes_eq-Decides z j).0 same) ∙ summed))
    by_case j summed (inr differ) = ap counted differ

groups_summed : (atoms : List IxAtom) (free : List Name) (z i : Name) (groups : List (List Link)) (all : AllLead atoms free i groups) → is_among z free ≡ true
    → times bytes_eq z (group_names all) ≡ 0
groups_summed atoms free z i none_left (AllLead.none) among = refl
groups_summed atoms free z i all (AllLead.one_more group groups leads more) among =
    let first : times bytes_eq z (shared leads) ≡ 0 = shared_summed atoms free [] z i group leads among in
    let rest : times bytes_eq z (group_names more) ≡ 0 = groups_summed atoms free z i groups more among in
    times-append bytes_eq z (shared leads) (group_names more) ∙ omega (arith, first, rest)

pub free_never : (atoms : List IxAtom) (free : List Name) (ordering : Chain) (z : Name) (ordered : Ordered atoms free ordering) → is_among z free ≡ true
    → times bytes_eq z (chain_names ordered) ≡ 0
free_never atoms free ordering z no_factors among = refl
free_never atoms free ordering z (between_vectors first rest i is leads) among = absurd (true≢false (sym among))
free_never atoms free ordering z (in_groups i group others all) among = groups_summed atoms (i ∷ []) z i (group ∷ others) all among
free_never atoms free ordering z (between_indices i j links apart leads) among = shared_summed atoms (i ∷ j ∷ []) (j ∷ []) z i links leads among

-- ---- each summed one stands in two factors

half : (reorder : ReorderLaws ℕ) (atoms : List IxAtom) (free : List Name) (ordering : Chain) (z : Name)
    → ((position : ℕ) → IsSimple (indices_at atoms position))
    → ((position : ℕ) → times_in position (links_of ordering) ≡ one_if (is_factor (indices_at atoms position)))
    → (ordered : Ordered atoms free ordering) → is_among z free ≡ false → 2 * times bytes_eq z (chain_names ordered) ≡ atoms_with z atoms
half reorder atoms free ordering z simple all no_factors lacks = stands_as_often reorder atoms z [] all
half reorder atoms free ordering z simple all (between_vectors first rest i is leads) lacks =
    let one : one_if (is_among z (indices_at atoms first.factor)) ≡ one_if (bytes_eq z i) + one_if (is_among z []) = link_stands atoms simple z first i [] is in
    let later : stands_in atoms z rest ≡ one_if (bytes_eq z i) + 2 * times bytes_eq z (shared leads) + one_if (is_among z []) = links_stand atoms simple z [] [] i rest leads in
    let same : counted (bytes_eq z i) ≡ one_if (bytes_eq z i) = counted_is (bytes_eq z i) in
    let both : stands_in atoms z (first ∷ rest) ≡ 2 * times bytes_eq z (i ∷ shared leads) = omega (arith, one, later, same) in
    sym both ∙ stands_as_often reorder atoms z (first ∷ rest) all
half reorder atoms free ordering z simple all (in_groups i group others leads) lacks =
    sym (groups_stand atoms simple (i ∷ []) i z (group ∷ others) leads (sym (alone (bytes_eq z i)) ∙ lacks))
    ∙ stands_as_often reorder atoms z (links_of ordering) all
half reorder atoms free ordering z simple all (between_indices i j links apart leads) lacks =
    let parts : (bytes_eq z i ≡ false) × ((bytes_eq z j || false) ≡ false) = or_parts (bytes_eq z i) (bytes_eq z j || false) lacks in
    let no : one_if (bytes_eq z i) ≡ 0 = ap one_if parts.0 in
    let end : one_if (bytes_eq z j || false) ≡ 0 = ap one_if parts.1 in
    let count : stands_in atoms z links ≡ one_if (bytes_eq z i) + 2 * times bytes_eq z (shared leads) + one_if (is_among z (j ∷ [])) =
    links_stand atoms simple z (i ∷ j ∷ []) (j ∷ []) i links leads in
    let both : stands_in atoms z links ≡ 2 * times bytes_eq z (shared leads) = omega (arith, no, end, count) in
    sym both ∙ stands_as_often reorder atoms z links all

-- ---- the summed indices of a term

times_once : (z : Name) (names : List Name) → times bytes_eq z (once names) ≡ one_if (is_among z names)
times_once z [] = refl
times_once z (n ∷ names) = by_case (is_among n names) (cases_Bool (bytes_eq z n)) refl (times_once z names)
  where
    by_case : (b : Bool) → (bytes_eq z n ≡ true) ⊎ (bytes_eq z n ≡ false) → is_among n names ≡ b → times bytes_eq z (once names) ≡ one_if (is_among z names)
        → times bytes_eq z (if b then once names else n ∷ once names) ≡ one_if (bytes_eq z n || is_among z names)
    by_case true (inl same) is rest =
        rest ∙ ap (λ m. one_if (is_among m names)) ((bytes_eq-Decides z n).0 same) ∙ ap one_if is ∙ sym (ap (λ b. one_if (b || is_among z names)) same)
    by_case true (inr differ) is rest = rest ∙ sym (ap (λ b. one_if (b || is_among z names)) differ)
    by_case false (inl same) is rest =
        let none : one_if (is_among z names) ≡ 0 = ap (λ m. one_if (is_among m names)) ((bytes_eq-Decides z n).0 same) ∙ ap one_if is in
        let here : counted (bytes_eq z n) ≡ 1 = ap counted same in
        omega (arith, rest, none, here) ∙ sym (ap (λ b. one_if (b || is_among z names)) same)
    by_case false (inr differ) is rest =
        let no : counted (bytes_eq z n) ≡ 0 = ap counted differ in
        omega (arith, rest, no) ∙ sym (ap (λ b. one_if (b || is_among z names)) differ)

kept : (p : Name → Bool) (z : Name) (names : List Name) → p z ≡ true → is_among z (filter p names) ≡ is_among z names
kept p z [] holds = refl
kept p z (n ∷ names) holds = by_case (p n) refl (cases_Bool (bytes_eq z n)) (kept p z names holds)
  where
    by_case : (b : Bool) → p n ≡ b → (bytes_eq z n ≡ true) ⊎ (bytes_eq z n ≡ false) → is_among z (filter p names) ≡ is_among z names
        → is_among z (if b then n ∷ filter p names else filter p names) ≡ (bytes_eq z n || is_among z names)
    by_case true is other rest = ap (λ b. bytes_eq z n || b) rest
    by_case false is (inl same) rest = absurd (true≢false (sym holds ∙ ap p ((bytes_eq-Decides z n).0 same) ∙ is))
    by_case false is (inr differ) rest = rest ∙ sym (ap (λ b. b || is_among z names) differ)

dropped : (p : Name → Bool) (z : Name) (names : List Name) → p z ≡ false → is_among z (filter p names) ≡ false
dropped p z [] fails = refl
dropped p z (n ∷ names) fails = by_case (p n) refl (cases_Bool (bytes_eq z n)) (dropped p z names fails)
  where
    by_case : (b : Bool) → p n ≡ b → (bytes_eq z n ≡ true) ⊎ (bytes_eq z n ≡ false) → is_among z (filter p names) ≡ false
        → is_among z (if b then n ∷ filter p names else filter p names) ≡ false
    by_case true is (inl same) rest = absurd (true≢false (sym is ∙ ap p (sym ((bytes_eq-Decides z n).0 same)) ∙ fails))
    by_case true is (inr differ) rest = ap (λ b. b || is_among z (filter p names)) differ ∙ rest
    by_case false is other rest = rest

-- an index stands among those of all atoms exactly where some atom has it
among_none : (z : Name) (atoms : List IxAtom) → sum_by (λ a. one_if (is_among z (indices_of a))) atoms ≡ 0 → is_among z (flat_map indices_of atoms) ≡ false
among_none z [] none = refl
among_none z (a ∷ atoms) none =
    let split : one_if (is_among z (indices_of a)) + sum_by (λ a. one_if (is_among z (indices_of a))) atoms ≡ 0 = sym (sum_by-cons (λ a. one_if (is_among z (indices_of a))) a atoms) ∙ none in
    let first : is_among z (indices_of a) ≡ false = one_if-false (is_among z (indices_of a)) (omega (arith, split)) in
    ap (is_among z) (flat_map-cons indices_of a atoms) ∙ list_any-append (bytes_eq z) (indices_of a) (flat_map indices_of atoms)
    ∙ ap (λ b. b || is_among z (flat_map indices_of atoms)) first ∙ among_none z atoms (omega (arith, split))

among_some : (z : Name) (atoms : List IxAtom) → 0 < sum_by (λ a. one_if (is_among z (indices_of a))) atoms → is_among z (flat_map indices_of atoms) ≡ true
among_some z [] some = absurd (omega (arith, some))
among_some z (a ∷ atoms) some =
    ap (is_among z) (flat_map-cons indices_of a atoms) ∙ list_any-append (bytes_eq z) (indices_of a) (flat_map indices_of atoms)
    ∙ by_case (is_among z (indices_of a)) (subst (λ n. 0 < n) (sum_by-cons (λ a. one_if (is_among z (indices_of a))) a atoms) some) (among_some z atoms)
  where
    by_case : (b : Bool) → 0 < one_if b + sum_by (λ a. one_if (is_among z (indices_of a))) atoms
        → (0 < sum_by (λ a. one_if (is_among z (indices_of a))) atoms → is_among z (flat_map indices_of atoms) ≡ true) → (b || is_among z (flat_map indices_of atoms)) ≡ true
    by_case true some rest = refl
    by_case false some rest = rest (omega (arith, some))

pub names_as_often : (reorder : ReorderLaws ℕ) (atoms : List IxAtom) (free : List Name) (ordering : Chain) (c : IsChain atoms free ordering) (z : Name)
    → times bytes_eq z (chain_names c.ordered) ≡ times bytes_eq z (summed free atoms)
unfolding summed atoms_with
names_as_often reorder atoms free ordering c z = by_free (cases_Bool (is_among z free))
  where
    p : Name → Bool
    p i = not (is_among i free)

    all : List Name
    all = flat_map indices_of atoms

    by_count : (is_among z free ≡ false) → (atoms_with z atoms ≡ 0) ⊎ (atoms_with z atoms ≡ 2) → times bytes_eq z (chain_names c.ordered) ≡ one_if (is_among z all)
    by_count lacks (inl none) =
        let both : 2 * times bytes_eq z (chain_names c.ordered) ≡ atoms_with z atoms = half reorder atoms free ordering z c.simple c.all c.ordered lacks in
        omega (arith, both, none) ∙ sym (ap one_if (among_none z atoms none))
    by_count lacks (inr two) =
        let both : 2 * times bytes_eq z (chain_names c.ordered) ≡ atoms_with z atoms = half reorder atoms free ordering z c.simple c.all c.ordered lacks in
        omega (arith, both, two) ∙ sym (ap one_if (among_some z atoms (subst (λ n. 0 < n) (sym two) (omega arith))))

    by_free : (is_among z free ≡ true) ⊎ (is_among z free ≡ false) → times bytes_eq z (chain_names c.ordered) ≡ times bytes_eq z (once (filter p all))
    by_free (inl among) =
        free_never atoms free ordering z c.ordered among ∙ sym (times_once z (filter p all) ∙ ap one_if (dropped p z all (ap not among)))
    by_free (inr lacks) =
        by_count lacks (c.twice z lacks) ∙ sym (times_once z (filter p all) ∙ ap one_if (kept p z all (ap not lacks)))

-- so they are the same, in another order, and each stands once
pub names_reordered : (reorder : ReorderLaws ℕ) (names : ReorderLaws Name) (atoms : List IxAtom) (free : List Name) (ordering : Chain) (c : IsChain atoms free ordering)
    → IsReordered (chain_names c.ordered) (summed free atoms)
names_reordered reorder names atoms free ordering c =
    names.by_times bytes_eq bytes_eq-Decides (chain_names c.ordered) (summed free atoms) (names_as_often reorder atoms free ordering c)

few : (b : Bool) → one_if b < 2
few true = omega arith
few false = omega arith

pub names_differ : (reorder : ReorderLaws ℕ) (atoms : List IxAtom) (free : List Name) (ordering : Chain) (c : IsChain atoms free ordering) → Different (chain_names c.ordered)
unfolding summed
names_differ reorder atoms free ordering c z =
    subst (λ n. n < 2)
    (sym (names_as_often reorder atoms free ordering c z ∙ times_once z (filter (λ i. not (is_among i free)) (flat_map indices_of atoms))))
    (few (is_among z (filter (λ i. not (is_among i free)) (flat_map indices_of atoms))))
