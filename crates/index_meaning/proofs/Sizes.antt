-- Sizes of indices, where those of values agree along a chain.
use Rattle.std.proofs.Common.{◌≡◌, ℕ, zero, suc, ◌+◌, ◌<◌, Bool, true, false, List, [], ◌∷◌, ◌++◌, refl, sym, ap, ◌∙◌, inl, inr, subst, arith}
use Rattle.std.specs.Prelude.{◌⊎◌, ◌||◌, ◌==◌, if◌then◌else◌, sum_by}
use Rattle.std.specs.Str.{bytes_eq}
use Rattle.std.proofs.lemmas.Bool.{cases_Bool}
use Rattle.std.proofs.lemmas.Bool.Decides.{Decides-eqb}
use Rattle.std.proofs.lemmas.List.Concat.{flat_map-cons}
use Rattle.std.proofs.lemmas.List.Sums.{sum_by-cons}
use Rattle.std.proofs.lemmas.Slice.Eq.{bytes_eq-Decides}
use Rattle.sim_syntax.specs.declared.statement.IxAtom.{IxAtom}
use Rattle.index_sums.specs.IndexSums.{Name, times}
use Rattle.index_sums.specs.Laws.{ReorderLaws}
use Rattle.chain_forms.specs.declared.chain.Chain.{Chain}
use Rattle.chain_forms.specs.declared.chain.Chain.TheVariants as chain
use Rattle.chain_forms.specs.declared.chain.Link.{Link}
use Rattle.chain_forms.specs.Atoms.{indices_of, indices_at, is_among, is_factor, one_if}
use Rattle.chain_forms.specs.ChainForm.{IsSimple, Beside, Leads, AllLead, Ordered, IsChain, links_of, times_in}
use Rattle.chain_forms.specs.ChainForm.Leads.{last, further}
use Rattle.chain_forms.specs.ChainForm.Ordered.{no_factors, between_vectors, in_groups, between_indices}
use Rattle.value_algebra.specs.declared.value.Value.{Value}
use Rattle.value_algebra.specs.Value.{number, transposed}
use Rattle.value_laws.specs.Laws.{IsWhole}
use Rattle.index_meaning.specs.Agreement.{HasShape, HaveShapes, first_rows, NextAgrees, LinksAgree, GroupsAgree, ChainAgrees}
use Rattle.index_meaning.specs.Laws.{HasSizes, HaveSizes, Sized}
use Rattle.index_meaning.specs.LoweredValues.{value_at, used_value}
use Rattle.index_meaning.proofs.Basics.{counted, same_name, other_order, times-append}
use Rattle.index_meaning.proofs.Links.{shared, simple_matrix, group_names, all_links}
use Rattle.index_meaning.proofs.Names.{chain_names, names_differ, free_never}
use Rattle.index_meaning.proofs.Paths.{Different, different_rest, front_differs}

if_true : {A : Type 0} (b : Bool) (x y : A) → b ≡ true → (if b then x else y) ≡ x
if_true b x y holds = ap (λ c. if c then x else y) holds

if_false : {A : Type 0} (b : Bool) (x y : A) → b ≡ false → (if b then x else y) ≡ y
if_false b x y fails = ap (λ c. if c then x else y) fails

counted-false : (b : Bool) → counted b ≡ 0 → b ≡ false
counted-false true zero_is = absurd (omega (arith, zero_is))
counted-false false zero_is = refl

transposed_rows : (v : Value) → (transposed v).rows ≡ v.columns
unfolding transposed
transposed_rows v = refl

transposed_columns : (v : Value) → (transposed v).columns ≡ v.rows
unfolding transposed
transposed_columns v = refl

-- each link's value has the sizes of its indices
data AllSized (value : IxAtom → Value) (atoms : List IxAtom) (size : Name → ℕ) : List Link → Type 0 where
  no_link : AllSized value atoms size []
  one_more : (l : Link) (links : List Link) → HasSizes size (indices_at atoms l.factor) (value_at value atoms l.factor) → AllSized value atoms size links
      → AllSized value atoms size (l ∷ links)

all_append : (value : IxAtom → Value) (atoms : List IxAtom) (size : Name → ℕ) (links others : List Link) → AllSized value atoms size links → AllSized value atoms size others
    → AllSized value atoms size (links ++ others)
all_append value atoms size none_left others AllSized.no_link more = more
all_append value atoms size all others (AllSized.one_more l links has rest) more = AllSized.one_more l (links ++ others) has (all_append value atoms size links others rest more)

-- the size of an index of a path, and that of others
abbrev end_size : (IxAtom → Value) → List IxAtom → List Name → Link → (Name → ℕ) → Name → ℕ
end_size value atoms [] l other z = other z
end_size value atoms (e ∷ more) l other z = if bytes_eq e z then (used_value value atoms l).columns else other z

abbrev path_size : (value : IxAtom → Value) {atoms : List IxAtom} {free end : List Name} {i : Name} {links : List Link} → Leads atoms free end i links → (Name → ℕ) → Name → ℕ
path_size value {atoms = atoms} {end = end} (last l i is) other z = if bytes_eq i z then (used_value value atoms l).rows else end_size value atoms end l other z
path_size value {atoms = atoms} (further l rest i j is summed more) other z = if bytes_eq i z then (used_value value atoms l).rows else path_size value more other z

module _ (value : IxAtom → Value) (atoms : List IxAtom) (simple : (position : ℕ) → IsSimple (indices_at atoms position))
    (shapes : (position : ℕ) → HasShape (indices_at atoms position) (value_at value atoms position)) where
  vector_shape : (i : Name) (v : Value) → HasShape (i ∷ []) v → IsWhole v × (v.columns ≡ 1)
  vector_shape k v (HasShape.vector i w whole columns) = (whole, columns)

  matrix_shape : (i j : Name) (v : Value) → HasShape (i ∷ j ∷ []) v → IsWhole v
  matrix_shape k n v (HasShape.matrix i j w whole) = whole

  ends_sized : (size : Name → ℕ) (l : Link) (i : Name) → Beside atoms l i [] → size i ≡ (used_value value atoms l).rows
      → HasSizes size (indices_at atoms l.factor) (value_at value atoms l.factor)
  ends_sized size l k (Beside.vector factor i is) rows =
      let known = vector_shape i (value_at value atoms factor) (subst (λ names. HasShape names (value_at value atoms factor)) is (shapes factor)) in
      subst (λ names. HasSizes size names (value_at value atoms factor)) (sym is) (HasSizes.vector i (value_at value atoms factor) known.0 (sym rows) known.1)

  passes_sized : (size : Name → ℕ) (l : Link) (i j : Name) → Beside atoms l i (j ∷ []) → size i ≡ (used_value value atoms l).rows → size j ≡ (used_value value atoms l).columns
      → HasSizes size (indices_at atoms l.factor) (value_at value atoms l.factor)
  passes_sized size l k n (Beside.straight factor i j is) rows columns =
      let known = matrix_shape i j (value_at value atoms factor) (subst (λ names. HasShape names (value_at value atoms factor)) is (shapes factor)) in
      subst (λ names. HasSizes size names (value_at value atoms factor)) (sym is) (HasSizes.matrix i j (value_at value atoms factor) known (sym rows) (sym columns))
  passes_sized size l k n (Beside.against factor i j is) rows columns =
      let known = matrix_shape j i (value_at value atoms factor) (subst (λ names. HasShape names (value_at value atoms factor)) is (shapes factor)) in
      subst (λ names. HasSizes size names (value_at value atoms factor)) (sym is)
      (HasSizes.matrix j i (value_at value atoms factor) known (sym (columns ∙ transposed_columns (value_at value atoms factor))) (sym (rows ∙ transposed_rows (value_at value atoms factor))))

  link_differs : (l : Link) (i j : Name) → Beside atoms l i (j ∷ []) → bytes_eq i j ≡ false
  link_differs l k n (Beside.straight factor i j is) = simple_matrix i j (subst IsSimple is (simple factor))
  link_differs l k n (Beside.against factor i j is) = other_order j i (simple_matrix j i (subst IsSimple is (simple factor)))

  -- the size of the index by which a path is entered
  entered_size : (free end : List Name) (i : Name) (links : List Link) (leads : Leads atoms free end i links) (other : Name → ℕ)
      → path_size value leads other i ≡ first_rows value atoms links
  entered_size free end k links (last l i is) other = if_true (bytes_eq i i) (used_value value atoms l).rows (end_size value atoms end l other i) (same_name i)
  entered_size free end k links (further l rest i j is summed more) other =
      if_true (bytes_eq i i) (used_value value atoms l).rows (path_size value more other i) (same_name i)

  next_agrees : (free end : List Name) (j : Name) (l : Link) (rest : List Link) → Leads atoms free end j rest → NextAgrees value atoms l rest
      → (used_value value atoms l).columns ≡ first_rows value atoms rest
  next_agrees free end k l links (last m j is) agrees = agrees
  next_agrees free end k l links (further m rest j n is summed more) agrees = agrees

  -- a path to a vector, with sizes that are those along it
  vector_path : (free : List Name) (i : Name) (links : List Link) (leads : Leads atoms free [] i links) (other size : Name → ℕ) → LinksAgree value atoms links
      → Different (i ∷ shared leads) → ((z : Name) → 0 < times bytes_eq z (i ∷ shared leads) → size z ≡ path_size value leads other z)
      → AllSized value atoms size links
  vector_path free k links (last l i is) other size agrees differ same =
      AllSized.one_more l [] (ends_sized size l i is (same i (here i) ∙ entered_size free [] i (l ∷ []) (last l i is) other)) AllSized.no_link
    where
      here : (i : Name) → 0 < times bytes_eq i (i ∷ [])
      here i = let one : counted (bytes_eq i i) ≡ 1 = ap counted (same_name i) in omega (arith, one)
  vector_path free k links (further l rest i j is summed more) other size agrees differ same =
      let apart : bytes_eq i j ≡ false = front_differs i j (shared more) differ in
      let one : counted (bytes_eq i i) ≡ 1 = ap counted (same_name i) in
      let two : counted (bytes_eq j j) ≡ 1 = ap counted (same_name j) in
      let rows : size i ≡ (used_value value atoms l).rows = same i (omega (arith, one)) ∙ entered_size free [] i (l ∷ rest) (further l rest i j is summed more) other in
      let columns : size j ≡ (used_value value atoms l).columns =
      same j (omega (arith, two)) ∙ if_false (bytes_eq i j) (used_value value atoms l).rows (path_size value more other j) apart
      ∙ entered_size free [] j rest more other ∙ sym (next_agrees free [] j l rest more agrees.0) in
      AllSized.one_more l rest (passes_sized size l i j is rows columns)
      (vector_path free j rest more other size agrees.1 (different_rest i (j ∷ shared more) differ)
      (λ z stands.
      let no : counted (bytes_eq z i) ≡ 0 = omega (arith, stands, differ z) in
      same z (omega (arith, stands)) ∙ if_false (bytes_eq i z) (used_value value atoms l).rows (path_size value more other z) (other_order z i (counted-false (bytes_eq z i) no))))

  -- a path of matrices to a free index
  matrix_path : (free : List Name) (e i : Name) (links : List Link) (leads : Leads atoms free (e ∷ []) i links) (other size : Name → ℕ) → LinksAgree value atoms links
      → Different (i ∷ shared leads) → times bytes_eq e (i ∷ shared leads) ≡ 0
      → ((z : Name) → 0 < times bytes_eq z (e ∷ i ∷ shared leads) → size z ≡ path_size value leads other z) → AllSized value atoms size links
  matrix_path free e k links (last l i is) other size agrees differ none same =
      let one : counted (bytes_eq i i) ≡ 1 = ap counted (same_name i) in
      let two : counted (bytes_eq e e) ≡ 1 = ap counted (same_name e) in
      let apart : bytes_eq i e ≡ false = other_order e i (counted-false (bytes_eq e i) (omega (arith, none))) in
      let rows : size i ≡ (used_value value atoms l).rows = same i (omega (arith, one)) ∙ entered_size free (e ∷ []) i (l ∷ []) (last l i is) other in
      let columns : size e ≡ (used_value value atoms l).columns =
      same e (omega (arith, two)) ∙ if_false (bytes_eq i e) (used_value value atoms l).rows (end_size value atoms (e ∷ []) l other e) apart
      ∙ if_true (bytes_eq e e) (used_value value atoms l).columns (other e) (same_name e) in
      AllSized.one_more l [] (passes_sized size l i e is rows columns) AllSized.no_link
  matrix_path free e k links (further l rest i j is summed more) other size agrees differ none same =
      let apart : bytes_eq i j ≡ false = front_differs i j (shared more) differ in
      let one : counted (bytes_eq i i) ≡ 1 = ap counted (same_name i) in
      let two : counted (bytes_eq j j) ≡ 1 = ap counted (same_name j) in
      let rows : size i ≡ (used_value value atoms l).rows = same i (omega (arith, one)) ∙ entered_size free (e ∷ []) i (l ∷ rest) (further l rest i j is summed more) other in
      let columns : size j ≡ (used_value value atoms l).columns =
      same j (omega (arith, two)) ∙ if_false (bytes_eq i j) (used_value value atoms l).rows (path_size value more other j) apart
      ∙ entered_size free (e ∷ []) j rest more other ∙ sym (next_agrees free (e ∷ []) j l rest more agrees.0) in
      AllSized.one_more l rest (passes_sized size l i j is rows columns)
      (matrix_path free e j rest more other size agrees.1 (different_rest i (j ∷ shared more) differ) (omega (arith, none))
      (λ z stands.
      same z (omega (arith, stands)) ∙ if_false (bytes_eq i z) (used_value value atoms l).rows (path_size value more other z)
      (other_order z i (not_entered z i e (j ∷ shared more) (cases_Bool (bytes_eq z e)) differ none stands))))
    where
      not_entered : (z i e : Name) (names : List Name) → (bytes_eq z e ≡ true) ⊎ (bytes_eq z e ≡ false) → Different (i ∷ names) → times bytes_eq e (i ∷ names) ≡ 0
          → 0 < times bytes_eq z (e ∷ names) → bytes_eq z i ≡ false
      not_entered z i e names (inl same) differ none stands =
          ap (λ n. bytes_eq n i) ((bytes_eq-Decides z e).0 same) ∙ counted-false (bytes_eq e i) (omega (arith, none))
      not_entered z i e names (inr other) differ none stands =
          let no : counted (bytes_eq z e) ≡ 0 = ap counted other in counted-false (bytes_eq z i) (omega (arith, no, stands, differ z))

  -- an index that doesn't stand on a path has its other size
  path_other : (free : List Name) (i z : Name) (links : List Link) (leads : Leads atoms free [] i links) (other : Name → ℕ) → times bytes_eq z (i ∷ shared leads) ≡ 0
      → path_size value leads other z ≡ other z
  path_other free k z links (last l i is) other none =
      if_false (bytes_eq i z) (used_value value atoms l).rows (other z) (other_order z i (counted-false (bytes_eq z i) (omega (arith, none))))
  path_other free k z links (further l rest i j is summed more) other none =
      if_false (bytes_eq i z) (used_value value atoms l).rows (path_size value more other z) (other_order z i (counted-false (bytes_eq z i) (omega (arith, none))))
      ∙ path_other free j z rest more other (omega (arith, none))

  -- ---- groups

  abbrev groups_size : {free : List Name} {i : Name} {groups : List (List Link)} → AllLead atoms free i groups → Name → ℕ
  groups_size (AllLead.none) z = 0
  groups_size (AllLead.one_more group groups leads more) z = path_size value leads (groups_size more) z

  group_path : (free : List Name) (i : Name) (groups : List (List Link)) (all : AllLead atoms free i groups) (size : Name → ℕ) (rows : ℕ) → size i ≡ rows
      → GroupsAgree value atoms rows groups → Different (i ∷ group_names all)
      → ((z : Name) → bytes_eq z i ≡ false → 0 < times bytes_eq z (group_names all) → size z ≡ groups_size all z) → AllSized value atoms size (all_links groups)
  group_path free i none_left (AllLead.none) size rows first agree differ same = AllSized.no_link
  group_path free i all (AllLead.one_more group groups leads more) size rows first agree differ same =
      subst (AllSized value atoms size) (sym (flat_map-cons (λ g. g) group groups))
      (all_append value atoms size group (all_links groups)
      (vector_path free i group leads (groups_size more) size agree.1 (λ z. omega (arith, names z, differ z))
      (λ z stands. in_first z stands (cases_Bool (bytes_eq z i))))
      (group_path free i groups more size rows first agree.2 (λ z. omega (arith, names z, differ z))
      (λ z apart stands. same z apart (omega (arith, names z, stands))
      ∙ path_other free i z group leads (groups_size more) (later z apart stands))))
    where
      names : (z : Name) → times bytes_eq z (shared leads ++ group_names more) ≡ times bytes_eq z (shared leads) + times bytes_eq z (group_names more)
      names z = times-append bytes_eq z (shared leads) (group_names more)

      later : (z : Name) → bytes_eq z i ≡ false → 0 < times bytes_eq z (group_names more) → times bytes_eq z (i ∷ shared leads) ≡ 0
      later z apart stands = let no : counted (bytes_eq z i) ≡ 0 = ap counted apart in omega (arith, no, names z, stands, differ z)

      in_first : (z : Name) → 0 < times bytes_eq z (i ∷ shared leads) → (bytes_eq z i ≡ true) ⊎ (bytes_eq z i ≡ false) → size z ≡ path_size value leads (groups_size more) z
      in_first z stands (inl here) =
          let is : z ≡ i = (bytes_eq-Decides z i).0 here in
          ap size is ∙ first ∙ sym agree.0 ∙ sym (entered_size free [] i group leads (groups_size more)) ∙ ap (path_size value leads (groups_size more)) (sym is)
      in_first z stands (inr apart) = let no : counted (bytes_eq z i) ≡ 0 = ap counted apart in same z apart (omega (arith, no, names z, stands))

  -- a name that stands nowhere goes in front
  in_front : (i : Name) (names : List Name) → Different names → times bytes_eq i names ≡ 0 → Different (i ∷ names)
  in_front i names differ nowhere z = by_case (cases_Bool (bytes_eq z i))
    where
      by_case : (bytes_eq z i ≡ true) ⊎ (bytes_eq z i ≡ false) → times bytes_eq z (i ∷ names) < 2
      by_case (inl same) =
          let here : counted (bytes_eq z i) ≡ 1 = ap counted same in
          let there : times bytes_eq z names ≡ 0 = ap (λ n. times bytes_eq n names) ((bytes_eq-Decides z i).0 same) ∙ nowhere in
          omega (arith, here, there)
      by_case (inr other) = let no : counted (bytes_eq z i) ≡ 0 = ap counted other in omega (arith, no, differ z)

  not_same : (i j : Name) → (i ≡ j → ⊥) → bytes_eq i j ≡ false
  not_same i j differ = by_case (cases_Bool (bytes_eq i j))
    where
      by_case : (bytes_eq i j ≡ true) ⊎ (bytes_eq i j ≡ false) → bytes_eq i j ≡ false
      by_case (inl same) = absurd (differ ((bytes_eq-Decides i j).0 same))
      by_case (inr other) = other

  second_among : (i j : Name) → is_among j (i ∷ j ∷ []) ≡ true
  second_among i j = ap (λ b. bytes_eq j i || (b || false)) (same_name j) ∙ or_true (bytes_eq j i)
    where
      or_true : (b : Bool) → (b || true) ≡ true
      or_true true = refl
      or_true false = refl

  groups_sized : (i : Name) (group : List Link) (others : List (List Link)) (all : AllLead atoms (i ∷ []) i (group ∷ others)) → ChainAgrees value atoms (chain.Groups (group ∷ others))
      → Different (i ∷ group_names all) → (size : Name → ℕ) × AllSized value atoms size (all_links (group ∷ others))
  groups_sized i g gs (AllLead.one_more group groups leads more) agrees differ =
      let size : Name → ℕ = groups_size (AllLead.one_more group groups leads more) in
      let rows : size i ≡ first_rows value atoms group = entered_size (i ∷ []) [] i group leads (groups_size more) in (
        size,
        group_path (i ∷ []) i (group ∷ groups) (AllLead.one_more group groups leads more) size (first_rows value atoms group) rows (refl, agrees.0, agrees.1) differ
            (λ z apart stands. refl),
      )

  -- ---- the whole chain

  chain_size : (free : List Name) (ordering : Chain) (ordered : Ordered atoms free ordering) → Different (chain_names ordered) → ChainAgrees value atoms ordering
      → (size : Name → ℕ) × AllSized value atoms size (links_of ordering)
  chain_size free ordering no_factors differ agrees = (λ z. 0, AllSized.no_link)
  chain_size free ordering (between_vectors first rest i is leads) differ agrees =
      let size : Name → ℕ = path_size value leads (λ z. 0) in (
        size,
        AllSized.one_more first rest (ends_sized size first i is (entered_size [] [] i rest leads (λ z. 0) ∙ sym agrees.0))
            (vector_path [] i rest leads (λ z. 0) size agrees.1 differ (λ z stands. refl)),
      )
  chain_size free ordering (in_groups i group others all) differ agrees =
      let front : times bytes_eq i (group_names all) ≡ 0 = free_never atoms (i ∷ []) (chain.Groups (group ∷ others)) i (in_groups i group others all) (front_among i) in
      groups_sized i group others all agrees (in_front i (group_names all) differ front)
    where
      front_among : (i : Name) → is_among i (i ∷ []) ≡ true
      front_among i = ap (λ b. b || false) (same_name i)
  chain_size free ordering (between_indices i j links apart leads) differ agrees =
      let front : times bytes_eq i (shared leads) ≡ 0 = free_never atoms (i ∷ j ∷ []) (chain.Matrices links) i (between_indices i j links apart leads) (first_among i j) in
      let back : times bytes_eq j (shared leads) ≡ 0 = free_never atoms (i ∷ j ∷ []) (chain.Matrices links) j (between_indices i j links apart leads) (second_among i j) in
      let no : counted (bytes_eq j i) ≡ 0 = ap counted (not_same j i (λ same. apart (sym same))) in
      let size : Name → ℕ = path_size value leads (λ z. 0) in
      (size, matrix_path (i ∷ j ∷ []) j i links leads (λ z. 0) size agrees (in_front i (shared leads) differ front) (omega (arith, back, no)) (λ z stands. refl))
    where
      first_among : (i j : Name) → is_among i (i ∷ j ∷ []) ≡ true
      first_among i j = ap (λ b. b || (bytes_eq i j || false)) (same_name i)

-- ---- the sizes of all atoms

-- a factor that links have is sized
factor_sized : (value : IxAtom → Value) (atoms : List IxAtom) (size : Name → ℕ) (position : ℕ) (links : List Link) → AllSized value atoms size links
    → 0 < times_in position links → HasSizes size (indices_at atoms position) (value_at value atoms position)
unfolding times_in
factor_sized value atoms size position none_left AllSized.no_link stands = absurd (omega (arith, stands))
factor_sized value atoms size position all (AllSized.one_more l links has more) stands =
    by_case (cases_Bool (l.factor == position)) (factor_sized value atoms size position links more)
    (subst (λ n. 0 < n) (sum_by-cons (λ k. one_if (k.factor == position)) l links) stands)
  where
    by_case : (l.factor == position ≡ true) ⊎ (l.factor == position ≡ false)
        → (0 < sum_by (λ k. one_if (k.factor == position)) links → HasSizes size (indices_at atoms position) (value_at value atoms position))
        → 0 < one_if (l.factor == position) + sum_by (λ k. one_if (k.factor == position)) links → HasSizes size (indices_at atoms position) (value_at value atoms position)
    by_case (inl here) later stands = subst (λ p. HasSizes size (indices_at atoms p) (value_at value atoms p)) ((Decides-eqb l.factor position).0 here) has
    by_case (inr elsewhere) later stands = let no : one_if (l.factor == position) ≡ 0 = ap one_if elsewhere in later (omega (arith, no, stands))

have_sizes : (value : IxAtom → Value) (size : Name → ℕ) (atoms : List IxAtom) → HaveShapes value atoms
    → ((position : ℕ) → is_factor (indices_at atoms position) ≡ true → HasSizes size (indices_at atoms position) (value_at value atoms position)) → HaveSizes size value atoms
have_sizes value size none_left HaveShapes.none factors = HaveSizes.none
have_sizes value size all (HaveShapes.one_more a atoms has more) factors =
    HaveSizes.one_more a atoms (by_shape (indices_of a) has (factors 0)) (have_sizes value size atoms more (λ position. factors (suc position)))
  where
    by_shape : (names : List Name) → HasShape names (value a) → (is_factor names ≡ true → HasSizes size names (value a)) → HasSizes size names (value a)
    by_shape names (HasShape.scalar v whole rows columns) factor = HasSizes.scalar v whole rows columns
    by_shape names (HasShape.vector i v whole columns) factor = factor refl
    by_shape names (HasShape.matrix i j v whole) factor = factor refl

shapes_at : (value : IxAtom → Value) (atoms : List IxAtom) → HaveShapes value atoms → (position : ℕ) → HasShape (indices_at atoms position) (value_at value atoms position)
shapes_at value atoms HaveShapes.none position = HasShape.scalar (number 0) refl refl refl
shapes_at value all (HaveShapes.one_more a atoms has more) zero = has
shapes_at value all (HaveShapes.one_more a atoms has more) (suc position) = shapes_at value atoms more position

pub sized : (reorder : ReorderLaws ℕ) (value : IxAtom → Value) (free : List Name) (atoms : List IxAtom) (ordering : Chain)
    → IsChain atoms free ordering → HaveShapes value atoms → ChainAgrees value atoms ordering → Sized value atoms
sized reorder value free atoms ordering c shapes agrees =
    let known = chain_size value atoms c.simple (shapes_at value atoms shapes) free ordering c.ordered (names_differ reorder atoms free ordering c) agrees in
    record {
      size = known.0;
      sizes = have_sizes value known.0 atoms shapes
          (λ position is. factor_sized value atoms known.0 position (links_of ordering) known.1 (subst (λ n. 0 < n) (sym (c.all position ∙ ap one_if is)) (omega arith)));
    }
