-- What a term is lowered to has the entries that the term's sum has.
use Rattle.std.proofs.Common.{◌≡◌, ℕ, ◌+◌, ◌*◌, ◌%◌, ◌^◌, ◌<◌, Bool, true, false, List, [], ◌∷◌, ◌++◌, refl, sym, ap, ◌∙◌, inl, inr, subst, arith}
use Rattle.std.specs.Prelude.{◌⊎◌, ◌||◌, map}
use Rattle.std.specs.Str.{bytes_eq}
use Rattle.std.proofs.Math.Path.{fun_ext}
use Rattle.std.proofs.lemmas.Bool.{cases_Bool}
use Rattle.std.proofs.lemmas.List.{append-nil}
use Rattle.std.proofs.lemmas.Slice.Eq.{bytes_eq-Decides}
use Rattle.vocabulary.specs.Sums.{SumLaws, DoubleSumLaws, RangeSumLaws}
use Rattle.sim_syntax.specs.declared.statement.IxAtom.{IxAtom}
use Rattle.index_sums.specs.IndexSums.{Name, Values, over_all, product_by, times}
use Rattle.index_sums.specs.Laws.{LacksAll, IndexSumLaws, ProductLaws, ReorderLaws}
use Rattle.chain_forms.specs.declared.chain.Chain.{Chain}
use Rattle.chain_forms.specs.declared.chain.Chain.TheVariants as chain
use Rattle.chain_forms.specs.declared.chain.Link.{Link}
use Rattle.chain_forms.specs.Atoms.{indices_at, is_among}
use Rattle.chain_forms.specs.ChainForm.{IsSimple, Beside, Leads, AllLead, Ordered, IsChain, links_of}
use Rattle.chain_forms.specs.ChainForm.Leads.{last, further}
use Rattle.chain_forms.specs.ChainForm.Ordered.{no_factors, between_vectors, in_groups, between_indices}
use Rattle.value_algebra.specs.declared.value.Value.{Value}
use Rattle.value_algebra.specs.Value.{word_at, word_of, dot}
use Rattle.value_laws.specs.Laws.{EntryLaws}
use Rattle.index_meaning.specs.Laws.{HasSizes, HaveSizes, AreWithin}
use Rattle.index_meaning.specs.LoweredValues.{used_value, used_values, product_from, entrywise_from, group_value, chain_values, scalar_values, product_of_all, term_value}
use Rattle.index_meaning.specs.TermSums.{entry_of, term_product, term_sum, summed}
use Rattle.index_meaning.proofs.Basics.{times_congruent, counted, same_name, times-append}
use Rattle.index_meaning.proofs.Links.{Sized, sizes_at, links_product, shared, group_names, all_links}
use Rattle.index_meaning.proofs.Names.{chain_names, names_reordered, names_differ, free_never}
use Rattle.index_meaning.proofs.Paths.{Different, path_sum, nested_column, nested_sum, between_sum, matrices_block, matrices_sum, group_sums, groups_sum, entrywise_column, entrywise_sum}
use Rattle.index_meaning.proofs.Positions.{term_product_is}
use Rattle.index_meaning.proofs.Scalars.{AreScalars, scalars_are, scalars_product, all_sizes, all_entry, scalars_sizes, scalars_word}

constant_lacks : (names : List Name) (n : ℕ) → LacksAll names (λ v. n)
constant_lacks [] n = tt
constant_lacks (z ∷ names) n = (λ at k. refl, constant_lacks names n)

-- a name that stands nowhere goes in front
front_different : (i : Name) (names : List Name) → Different names → times bytes_eq i names ≡ 0 → Different (i ∷ names)
front_different i names differ none z = by_case (cases_Bool (bytes_eq z i))
  where
    by_case : (bytes_eq z i ≡ true) ⊎ (bytes_eq z i ≡ false) → times bytes_eq z (i ∷ names) < 2
    by_case (inl same) =
        let here : counted (bytes_eq z i) ≡ 1 = ap counted same in
        let there : times bytes_eq z names ≡ 0 = ap (λ n. times bytes_eq n names) ((bytes_eq-Decides z i).0 same) ∙ none in
        omega (arith, here, there)
    by_case (inr other) = let no : counted (bytes_eq z i) ≡ 0 = ap counted other in omega (arith, no, differ z)

not_same : (i j : Name) → (i ≡ j → ⊥) → bytes_eq i j ≡ false
not_same i j differ = by_case (cases_Bool (bytes_eq i j))
  where
    by_case : (bytes_eq i j ≡ true) ⊎ (bytes_eq i j ≡ false) → bytes_eq i j ≡ false
    by_case (inl same) = absurd (differ ((bytes_eq-Decides i j).0 same))
    by_case (inr other) = other

first_among : (i : Name) (names : List Name) → is_among i (i ∷ names) ≡ true
first_among i names = ap (λ b. b || is_among i names) (same_name i)

second_among : (i j : Name) → is_among j (i ∷ j ∷ []) ≡ true
second_among i j = ap (λ b. bytes_eq j i || (b || false)) (same_name j) ∙ or_true (bytes_eq j i)
  where
    or_true : (b : Bool) → (b || true) ≡ true
    or_true true = refl
    or_true false = refl

within_first : (size : Name → ℕ) (at : Values) (i : Name) (names : List Name) → AreWithin size at (i ∷ names) → (at i < size i) × AreWithin size at names
within_first size at n names (AreWithin.one_more i rest below more) = (below, more)

dot_sizes : (size : Name → ℕ) (u w : Value) → HasSizes size [] (dot u w)
unfolding dot
dot_sizes size u w = HasSizes.scalar (dot u w) refl refl refl

-- what a chain makes, where it has factors: its sizes, and its entries
record IsMade (size : Name → ℕ) (free : List Name) (at : Values) (sum : ℕ) (v : Value) : Type 0 where
  sizes : HasSizes size free v
  entry : AreWithin size at free → entry_of v free at % 2 ^ 64 ≡ sum % 2 ^ 64

data AreMade (size : Name → ℕ) : List Name → Values → ℕ → List Value → Type 0 where
  nothing : (at : Values) (sum : ℕ) → sum ≡ 1 → AreMade size [] at sum []
  made : (free : List Name) (at : Values) (sum : ℕ) (v : Value) → IsMade size free at sum v → AreMade size free at sum (v ∷ [])

module _ (sums : SumLaws ℕ) (double : DoubleSumLaws ℕ ℕ) (ranges : RangeSumLaws) (index : IndexSumLaws) (products : ProductLaws Link) (numbers : ProductLaws ℕ)
    (entries : EntryLaws) (reorder : ReorderLaws ℕ) (names : ReorderLaws Name) where
  module _ (value : IxAtom → Value) (size : Name → ℕ) (atoms : List IxAtom) (sized : Sized value size atoms) (simple : (position : ℕ) → IsSimple (indices_at atoms position)) where
    matrices_made : (i j : Name) (links : List Link) (leads : Leads atoms (i ∷ j ∷ []) (j ∷ []) i links) (at : Values) → Different (shared leads)
        → times bytes_eq i (shared leads) ≡ 0 → times bytes_eq j (i ∷ shared leads) ≡ 0
        → AreMade size (i ∷ j ∷ []) at (path_sum sums double ranges index products entries value size atoms sized simple leads at) (chain_values value atoms (chain.Matrices links))
    matrices_made i j links leads at differ first second = by_leads links leads differ first second
      where
        block : (l : Link) (rest : List Link) (leads : Leads atoms (i ∷ j ∷ []) (j ∷ []) i (l ∷ rest)) → Different (shared leads)
            → times bytes_eq i (shared leads) ≡ 0 → times bytes_eq j (i ∷ shared leads) ≡ 0
            → AreMade size (i ∷ j ∷ []) at (path_sum sums double ranges index products entries value size atoms sized simple leads at)
            (product_from (used_value value atoms l) (used_values value atoms rest) ∷ [])
        block l rest leads differ first second =
            let shape = matrices_block sums double ranges index products entries value size atoms sized simple (i ∷ j ∷ []) j i l rest leads in
            AreMade.made (i ∷ j ∷ []) at (path_sum sums double ranges index products entries value size atoms sized simple leads at) (product_from (used_value value atoms l) (used_values value atoms rest))
            (record {
              sizes = HasSizes.matrix i j (product_from (used_value value atoms l) (used_values value atoms rest)) shape.whole shape.rows shape.columns;
              entry = λ within.
                  let one = within_first size at i (j ∷ []) within in
                  matrices_sum sums double ranges index products entries value size atoms sized simple (i ∷ j ∷ []) j i l rest leads at one.0 (within_first size at j [] one.1).0
                  (front_different i (shared leads) differ first) second;
            })

        by_leads : (links : List Link) (leads : Leads atoms (i ∷ j ∷ []) (j ∷ []) i links) → Different (shared leads)
            → times bytes_eq i (shared leads) ≡ 0 → times bytes_eq j (i ∷ shared leads) ≡ 0
            → AreMade size (i ∷ j ∷ []) at (path_sum sums double ranges index products entries value size atoms sized simple leads at) (chain_values value atoms (chain.Matrices links))
        by_leads links (last l n is) differ first second = block l [] (last l n is) differ first second
        by_leads links (further l rest n m is summed more) differ first second = block l rest (further l rest n m is summed more) differ first second

    between_made : (first : Link) (rest : List Link) (i : Name) (is : Beside atoms first i []) (leads : Leads atoms [] [] i rest) (at : Values) → Different (i ∷ shared leads)
        → AreMade size [] at (over_all size (i ∷ shared leads) (links_product value atoms (first ∷ rest)) at) (chain_values value atoms (chain.Between first rest))
    between_made first rest i is leads at differ =
        AreMade.made [] at (over_all size (i ∷ shared leads) (links_product value atoms (first ∷ rest)) at) (dot (used_value value atoms first) (group_value value atoms rest))
        (record {
          sizes = dot_sizes size (used_value value atoms first) (group_value value atoms rest);
          entry = λ within. between_sum sums double ranges index products entries value size atoms sized simple [] first i rest is leads at differ;
        })

    rest_differ : (i : Name) (ns ms : List Name) → Different (i ∷ ns ++ ms) → Different (i ∷ ms)
    rest_differ i ns ms differ z =
        let both : times bytes_eq z (ns ++ ms) ≡ times bytes_eq z ns + times bytes_eq z ms = times-append bytes_eq z ns ms in omega (arith, both, differ z)

    first_differ : (i : Name) (ns ms : List Name) → Different (i ∷ ns ++ ms) → Different (i ∷ ns)
    first_differ i ns ms differ z =
        let both : times bytes_eq z (ns ++ ms) ≡ times bytes_eq z ns + times bytes_eq z ms = times-append bytes_eq z ns ms in omega (arith, both, differ z)

    groups_made : (i : Name) (first : List Link) (others : List (List Link)) (all : AllLead atoms (i ∷ []) i (first ∷ others)) (at : Values) → Different (i ∷ group_names all)
        → AreMade size (i ∷ []) at (over_all size (group_names all) (links_product value atoms (all_links (first ∷ others))) at) (chain_values value atoms (chain.Groups (first ∷ others)))
    groups_made i g gs (AllLead.one_more group groups leads more) at differ =
        let first = nested_column sums double ranges index products entries value size atoms sized simple (i ∷ []) i group leads in
        let column = entrywise_column sums double ranges index products entries value size atoms sized simple (i ∷ []) i groups more (group_value value atoms group) first in
        AreMade.made (i ∷ []) at (over_all size (shared leads ++ group_names more) (links_product value atoms (all_links (group ∷ groups))) at)
        (entrywise_from (group_value value atoms group) (map (group_value value atoms) groups))
        (record {
          sizes = HasSizes.vector i (entrywise_from (group_value value atoms group) (map (group_value value atoms) groups)) column.whole column.rows column.columns;
          entry = λ within.
              let i_in = (within_first size at i [] within).0 in
              entrywise_sum sums double ranges index products entries value size atoms sized simple (i ∷ []) i groups more at (group_value value atoms group) first i_in
              (rest_differ i (shared leads) (group_names more) differ)
              ∙ times_congruent (2 ^ 64) (word_at (group_value value atoms group) (at i) 0)
              (path_sum sums double ranges index products entries value size atoms sized simple leads at)
              (group_sums sums double ranges index products entries value size atoms sized simple more at)
              (group_sums sums double ranges index products entries value size atoms sized simple more at)
              (nested_sum sums double ranges index products entries value size atoms sized simple (i ∷ []) i group leads at i_in
              (first_differ i (shared leads) (group_names more) differ)) refl
              ∙ ap (λ n. n % 2 ^ 64)
              (sym (groups_sum sums double ranges index products entries value size atoms sized simple (i ∷ []) i (group ∷ groups) (AllLead.one_more group groups leads more) at differ));
        })

    chain_made : (free : List Name) (ordering : Chain) (ordered : Ordered atoms free ordering) (at : Values) → Different (chain_names ordered)
        → AreMade size free at (over_all size (chain_names ordered) (links_product value atoms (links_of ordering)) at) (chain_values value atoms ordering)
    chain_made free ordering no_factors at differ = AreMade.nothing at 1 refl
    chain_made free ordering (between_vectors first rest i is leads) at differ = between_made first rest i is leads at differ
    chain_made free ordering (in_groups i group others all) at differ =
        groups_made i group others all at
        (front_different i (group_names all) differ (free_never atoms (i ∷ []) (chain.Groups (group ∷ others)) i (in_groups i group others all) (first_among i [])))
    chain_made free ordering (between_indices i j links apart leads) at differ =
        matrices_made i j links leads at differ
        (free_never atoms (i ∷ j ∷ []) (chain.Matrices links) i (between_indices i j links apart leads) (first_among i (j ∷ [])))
        (other_front (shared leads) (free_never atoms (i ∷ j ∷ []) (chain.Matrices links) j (between_indices i j links apart leads) (second_among i j)))
      where
        other_front : (ns : List Name) → times bytes_eq j ns ≡ 0 → times bytes_eq j (i ∷ ns) ≡ 0
        other_front ns none =
            let no : counted (bytes_eq j i) ≡ 0 = ap counted (not_same j i (λ same. apart (sym same))) in omega (arith, no, none)

  -- ---- the whole term

  whole_term : (value : IxAtom → Value) (size : Name → ℕ) (free : List Name) (atoms : List IxAtom) (ordering : Chain) (at : Values) (c : IsChain atoms free ordering)
      → term_sum value size free atoms at
      ≡ product_by word_of (scalar_values value atoms) * over_all size (chain_names c.ordered) (links_product value atoms (links_of ordering)) at
  unfolding term_sum
  whole_term value size free atoms ordering at c =
      sym (index.any_order size (chain_names c.ordered) (summed free atoms) (term_product value atoms) at (names_reordered reorder names atoms free ordering c))
      ∙ ap (λ f. over_all size (chain_names c.ordered) f at)
      (fun_ext (λ v. term_product_is value v reorder numbers atoms (links_of ordering) c.all
      ∙ ap (λ n. n * links_product value atoms (links_of ordering) v) (scalars_product size value v atoms)))
      ∙ index.scaled size (chain_names c.ordered) (λ v. product_by word_of (scalar_values value atoms)) (links_product value atoms (links_of ordering)) at
      (constant_lacks (chain_names c.ordered) (product_by word_of (scalar_values value atoms)))

  by_made : (size : Name → ℕ) (free : List Name) (at : Values) (sum : ℕ) (scalars chained : List Value) → AreScalars size scalars → AreMade size free at sum chained
      → IsMade size free at (product_by word_of scalars * sum) (product_of_all (scalars ++ chained))
  by_made size free here sum scalars chained are (AreMade.nothing at one is) =
      subst (λ values. IsMade size [] at (product_by word_of scalars * one) (product_of_all values)) (sym (append-nil scalars))
      (record {
        sizes = scalars_sizes entries size scalars are;
        entry = λ within. scalars_word entries size scalars are ∙ ap (λ n. n % 2 ^ 64) (times_one (product_by word_of scalars) ∙ ap (λ n. product_by word_of scalars * n) (sym is));
      })
    where
      times_one : (n : ℕ) → n ≡ n * 1
      times_one n = omega arith
  by_made size names here total scalars chained are (AreMade.made free at sum v is) =
      record {
        sizes = all_sizes entries size free v is.sizes scalars are;
        entry = λ within.
            all_entry entries size free v at is.sizes within scalars are
            ∙ times_congruent (2 ^ 64) (product_by word_of scalars) (product_by word_of scalars) (entry_of v free at) sum refl (is.entry within);
      }

  term_made : (value : IxAtom → Value) (size : Name → ℕ) (free : List Name) (atoms : List IxAtom) (ordering : Chain) (at : Values)
      → IsChain atoms free ordering → HaveSizes size value atoms → IsMade size free at (term_sum value size free atoms at) (term_value value atoms ordering)
  unfolding term_value
  term_made value size free atoms ordering at c have =
      subst (λ n. IsMade size free at n (product_of_all (scalar_values value atoms ++ chain_values value atoms ordering))) (sym (whole_term value size free atoms ordering at c))
      (by_made size free at (over_all size (chain_names c.ordered) (links_product value atoms (links_of ordering)) at) (scalar_values value atoms) (chain_values value atoms ordering)
      (scalars_are size value atoms have)
      (chain_made value size atoms (sizes_at size value atoms have) c.simple free ordering c.ordered at (names_differ reorder atoms free ordering c)))

  pub sizes : (value : IxAtom → Value) (size : Name → ℕ) (free : List Name) (atoms : List IxAtom) (ordering : Chain)
      → IsChain atoms free ordering → HaveSizes size value atoms → HasSizes size free (term_value value atoms ordering)
  sizes value size free atoms ordering c have = (term_made value size free atoms ordering (λ name. 0) c have).sizes

  pub sum : (value : IxAtom → Value) (size : Name → ℕ) (free : List Name) (atoms : List IxAtom) (ordering : Chain) (at : Values)
      → IsChain atoms free ordering → HaveSizes size value atoms → AreWithin size at free
      → entry_of (term_value value atoms ordering) free at % 2 ^ 64 ≡ term_sum value size free atoms at % 2 ^ 64
  sum value size free atoms ordering at c have within = (term_made value size free atoms ordering at c have).entry within
