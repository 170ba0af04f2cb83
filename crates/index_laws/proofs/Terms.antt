-- What a term is lowered to, as an expression that has its value wherever it has a type.
use Rattle.std.proofs.Common.{◌≡◌, ℕ, suc, ◌+◌, ◌<◌, true, false, List, [], ◌∷◌, ◌++◌, map, None, Ok, refl, sym, ap, ◌∙◌, inl, inr, subst, arith}
use Rattle.std.specs.Prelude.{◌⊎◌, ◌==◌, not, length, sum_by, if◌then◌else◌}
use Rattle.std.specs.List.{filter}
use Rattle.std.proofs.lemmas.Bool.{cases_Bool}
use Rattle.std.proofs.lemmas.Bool.Decides.{Decides-eqb}
use Rattle.std.proofs.lemmas.List.{append-nil}
use Rattle.std.proofs.lemmas.List.Sums.{sum_by-cons}
use Rattle.vocabulary.specs.Answers.{◌>>=◌, fold_result}
use Rattle.ring_words.specs.Word.{mul}
use Rattle.sim_syntax.specs.declared.expression.Expr as tree
use Rattle.sim_syntax.specs.declared.statement.IxAtom.{IxAtom}
use Rattle.typed_tree.specs.declared.environment.Environment.{Environment}
use Rattle.typed_tree.specs.declared.expression.TypedExpr.{TypedExpr}
use Rattle.typed_tree.specs.declared.expression.TypedForm.TheVariants as form
use Rattle.typed_tree.specs.Expressions as typed
use Rattle.typed_tree.specs.Expressions.{expression, type_of}
use Rattle.value_algebra.specs.declared.value.Value.{Value}
use Rattle.value_algebra.specs.Value.{word_of, each}
use Rattle.value_laws.specs.Laws.{EntryLaws}
use Rattle.algebra_meaning.specs.Expression.{Scope}
use Rattle.chain_forms.specs.declared.chain.Chain.{Chain}
use Rattle.chain_forms.specs.declared.chain.Chain.TheVariants as chain
use Rattle.chain_forms.specs.declared.chain.Link.{Link}
use Rattle.chain_forms.specs.Atoms.{Name, indices_of, indices_at, is_factor, one_if}
use Rattle.chain_forms.specs.ChainForm.{IsChain, IsSimple, Leads, AllLead, Ordered, links_of, times_in}
use Rattle.chain_forms.specs.ChainForm.Leads.{last, further}
use Rattle.chain_forms.specs.ChainForm.Ordered.{no_factors, between_vectors, in_groups, between_indices}
use Rattle.chain_forms.specs.Lowering as lowering
use Rattle.chain_forms.specs.Lowering.{factor, made, used, nested, chained, scalars, lowered_by}
use Rattle.expression_forms.specs.Meanings.{MeaningForms}
use Rattle.expression_forms.specs.Typings.{TypingForms}
use Rattle.index_meaning.specs.Agreement.{HasShape, HaveShapes}
use Rattle.index_meaning.specs.LoweredValues.{value_at, scaled_from, chain_values, product_of_all, term_value}
use Rattle.index_laws.specs.AtomValues.{atom_value}
use Rattle.index_laws.specs.Fits.{Fits, NamesFit}
use Rattle.index_laws.specs.Laws.{IsTermMeant, MeansTerm}
use Rattle.index_meaning.specs.Laws.{IndexTermLaw}
use Rattle.index_laws.proofs.Atoms.{shaped_sound}
use Rattle.index_laws.proofs.Chains.{AllShaped, with_fact, link_expr, used_leading, used_more, beside_atom, product_one, product_more, ChainHolds, between_sound, groups_sound, matrices_sound}
use Rattle.index_laws.proofs.Products.{Sound, Combines, Factors, Facts, product_sound, product_unfolds}

-- atoms without an index
data AreScalars : List IxAtom → Type 0 where
  no_scalar : AreScalars []
  another_scalar : (a : IxAtom) (atoms : List IxAtom) → indices_of a ≡ [] → AreScalars atoms → AreScalars (a ∷ atoms)

abbrev scalars_of : List IxAtom → List IxAtom
scalars_of atoms = filter (λ a. not (is_factor (indices_of a))) atoms

scalars_are : (atoms : List IxAtom) → AreScalars (scalars_of atoms)
scalars_are [] = AreScalars.no_scalar
scalars_are (a ∷ atoms) = by_case (indices_of a) refl (scalars_are atoms)
  where
    by_case : (names : List Name) → indices_of a ≡ names → AreScalars (scalars_of atoms) → AreScalars (if not (is_factor names) then a ∷ scalars_of atoms else scalars_of atoms)
    by_case [] is rest = AreScalars.another_scalar a (scalars_of atoms) is rest
    by_case (i ∷ names) is rest = rest

-- the values of some atoms have their shapes
data ScalarShapes (value : IxAtom → Value) : List IxAtom → Type 0 where
  no_shape : ScalarShapes value []
  another_shape : (a : IxAtom) (atoms : List IxAtom) → HasShape [] (value a) → ScalarShapes value atoms → ScalarShapes value (a ∷ atoms)

module _ (typing : TypingForms) (meanings : MeaningForms) (entries : EntryLaws) (env : Environment) (scope : Scope) (fit : NamesFit env scope) where
  scalar_sound : (a : IxAtom) → indices_of a ≡ [] → Sound env scope 0 (made a) (atom_value env scope a) (HasShape [] (atom_value env scope a))
  scalar_sound a is =
      subst (λ names. Sound env scope (lowering.rank_of names) (made a) (atom_value env scope a) (HasShape names (atom_value env scope a))) is
      (shaped_sound typing meanings entries env scope fit a (subst IsSimple (sym is) IsSimple.scalar))

  -- ---- factors after the first, from left to right

  list_sound : (line r n : ℕ) (e : tree.Expr) (es : List tree.Expr) (v u : Value) (fact : Type 0) → Sound env scope r e v fact → (f : Factors env scope false r v es n u)
      → Sound env scope n (lowering.product line false (e ∷ es)) u (fact × Facts f)
  list_sound line r n e es v u fact sound (Factors.ended q w) =
      subst (λ o. Sound env scope q o w (fact × Unit {0})) (sym (product_one line e)) (with_fact env scope q e w fact (fact × Unit {0}) (λ holds. (holds, tt)) sound)
  list_sound line r n e all v u fact sound (Factors.another p s q m x w z f es other c more rest) =
      subst (λ o. Sound env scope m o z (fact × Facts (Factors.another p s q m x w z f es other c more rest))) (sym (product_more line e f es))
      (product_sound typing meanings entries env scope line false p m e (f ∷ es) x z fact sound (Factors.another p s q m x w z f es other c more rest))

  with_last : (some : List IxAtom) → AreScalars some → (n : ℕ) (c : tree.Expr) (v : Value) (fact : Type 0) → Sound env scope n c v fact → (acc : Value)
      → Factors env scope false 0 acc (map made some ++ c ∷ []) n (scaled_from acc (map (atom_value env scope) some ++ v ∷ []))
  with_last none_left AreScalars.no_scalar n c v fact sound acc =
      Factors.another 0 n n n acc v (each (mul (word_of acc)) v) c [] fact (Combines.scaling n) sound (Factors.ended n (each (mul (word_of acc)) v))
  with_last all (AreScalars.another_scalar a some is more) n c v fact sound acc =
      Factors.another 0 0 0 n acc (atom_value env scope a) (scaled_from (each (mul (word_of acc)) (atom_value env scope a)) (map (atom_value env scope) some ++ v ∷ [])) (made a) (map made some ++ c ∷ [])
      (HasShape [] (atom_value env scope a)) (Combines.scaling 0) (scalar_sound a is) (with_last some more n c v fact sound (each (mul (word_of acc)) (atom_value env scope a)))

  last_holds : (some : List IxAtom) (are : AreScalars some) (n : ℕ) (c : tree.Expr) (v : Value) (fact : Type 0) (sound : Sound env scope n c v fact) (acc : Value)
      → Facts (with_last some are n c v fact sound acc) → ScalarShapes (atom_value env scope) some × fact
  unfolding with_last
  last_holds none_left AreScalars.no_scalar n c v fact sound acc facts = (ScalarShapes.no_shape, facts.0)
  last_holds all (AreScalars.another_scalar a some is more) n c v fact sound acc facts =
      let later = last_holds some more n c v fact sound (each (mul (word_of acc)) (atom_value env scope a)) facts.2 in
      (ScalarShapes.another_shape a some facts.0 later.0, later.1)

  alone : (some : List IxAtom) → AreScalars some → (acc : Value) → Factors env scope false 0 acc (map made some) 0 (scaled_from acc (map (atom_value env scope) some))
  alone none_left AreScalars.no_scalar acc = Factors.ended 0 acc
  alone all (AreScalars.another_scalar a some is more) acc =
      Factors.another 0 0 0 0 acc (atom_value env scope a) (scaled_from (each (mul (word_of acc)) (atom_value env scope a)) (map (atom_value env scope) some)) (made a) (map made some)
      (HasShape [] (atom_value env scope a)) (Combines.scaling 0) (scalar_sound a is) (alone some more (each (mul (word_of acc)) (atom_value env scope a)))

  alone_holds : (some : List IxAtom) (are : AreScalars some) (acc : Value) → Facts (alone some are acc) → ScalarShapes (atom_value env scope) some
  unfolding alone
  alone_holds none_left AreScalars.no_scalar acc facts = ScalarShapes.no_shape
  alone_holds all (AreScalars.another_scalar a some is more) acc facts =
      ScalarShapes.another_shape a some facts.0 (alone_holds some more (each (mul (word_of acc)) (atom_value env scope a)) facts.2)

  -- a product without factors has no type
  empty_product : (line next : ℕ) (done : TypedExpr × ℕ) → expression env (lowering.product line false []) next ≡ Ok done → ⊥
  unfolding lowering.product
  empty_product line next done is =
      nothing (sym (product_unfolds line next []) ∙ ap (λ s. s next) (sym (typing.product_is env line [])) ∙ is)
    where
      nothing : (fold_result (typed.with_factor line) ([], None, next) [] >>= typed.chained line form.Product) ≡ Ok done → ⊥
      nothing is = cc

  -- ---- what a chain makes

  module _ (atoms : List IxAtom) (simple : (position : ℕ) → IsSimple (indices_at atoms position)) where
    abbrev Holds : Chain → Type 0
    Holds ordering = ChainHolds typing meanings entries env scope fit atoms simple ordering

    data IsChained : List Name → Chain → List tree.Expr → List Value → Type 0 where
      nothing : IsChained [] chain.Empty [] []
      one : (free : List Name) (ordering : Chain) (c : tree.Expr) (v : Value) → Sound env scope (length free) c v (Holds ordering) → IsChained free ordering (c ∷ []) (v ∷ [])

    groups_used : (line : ℕ) (free : List Name) (i : Name) (groups : List (List Link)) → AllLead atoms free i groups
        → map (λ group. nested line (used atoms group)) groups ≡ map (λ group. nested line (map (link_expr atoms) group)) groups
    groups_used line free i none_left (AllLead.none) = refl
    groups_used line free i all (AllLead.one_more group groups leads more) =
        ap (λ es. nested line es ∷ map (λ group. nested line (used atoms group)) groups) (used_leading atoms free [] i group leads)
        ∙ ap (λ es. nested line (map (link_expr atoms) group) ∷ es) (groups_used line free i groups more)

    chain_is : (line : ℕ) (free : List Name) (ordering : Chain) → Ordered atoms free ordering → IsChained free ordering (chained line atoms ordering) (chain_values (atom_value env scope) atoms ordering)
    unfolding chained
    chain_is line free ordering no_factors = IsChained.nothing
    chain_is line free ordering (between_vectors first rest i is leads) =
        let a = beside_atom atoms first i [] is in
        let all : used atoms (first ∷ rest) ≡ map (link_expr atoms) (first ∷ rest) = used_more atoms first rest a.0 a.1 ∙ ap (λ es. link_expr atoms first ∷ es) (used_leading atoms [] [] i rest leads) in
        subst (λ es. IsChained [] (chain.Between first rest) (lowering.dot line es ∷ []) (chain_values (atom_value env scope) atoms (chain.Between first rest))) (sym all)
        (IsChained.one [] (chain.Between first rest) (lowering.dot line (map (link_expr atoms) (first ∷ rest))) _
        (between_sound typing meanings entries env scope fit atoms simple line first rest i is leads))
    chain_is line free ordering (in_groups i group others all) =
        subst (λ es. IsChained (i ∷ []) (chain.Groups (group ∷ others)) (lowering.product line true es ∷ []) (chain_values (atom_value env scope) atoms (chain.Groups (group ∷ others))))
        (sym (groups_used line (i ∷ []) i (group ∷ others) all))
        (IsChained.one (i ∷ []) (chain.Groups (group ∷ others)) (lowering.product line true (map (λ group. nested line (map (link_expr atoms) group)) (group ∷ others))) _
        (groups_sound typing meanings entries env scope fit atoms simple line i group others all))
    chain_is line free ordering (between_indices i j links apart leads) =
        subst (λ es. IsChained (i ∷ j ∷ []) (chain.Matrices links) (lowering.product line false es ∷ []) (chain_values (atom_value env scope) atoms (chain.Matrices links)))
        (sym (used_leading atoms (i ∷ j ∷ []) (j ∷ []) i links leads)) (by_leads links leads)
      where
        by_leads : (links : List Link) → Leads atoms (i ∷ j ∷ []) (j ∷ []) i links
            → IsChained (i ∷ j ∷ []) (chain.Matrices links) (lowering.product line false (map (link_expr atoms) links) ∷ []) (chain_values (atom_value env scope) atoms (chain.Matrices links))
        by_leads links (last l k is) =
            IsChained.one (i ∷ j ∷ []) (chain.Matrices (l ∷ [])) (lowering.product line false (map (link_expr atoms) (l ∷ []))) _
            (matrices_sound typing meanings entries env scope fit atoms simple line (i ∷ j ∷ []) j i l [] (last l k is))
        by_leads links (further l rest k m is summed more) =
            IsChained.one (i ∷ j ∷ []) (chain.Matrices (l ∷ rest)) (lowering.product line false (map (link_expr atoms) (l ∷ rest))) _
            (matrices_sound typing meanings entries env scope fit atoms simple line (i ∷ j ∷ []) j i l rest (further l rest k m is summed more))

    -- ---- scalars and a chain

    joined_sound : (line : ℕ) (free : List Name) (ordering : Chain) (some : List IxAtom) → AreScalars some → (es : List tree.Expr) (vs : List Value) → IsChained free ordering es vs
        → Sound env scope (length free) (lowering.product line false (map made some ++ es)) (product_of_all (map (atom_value env scope) some ++ vs)) (ScalarShapes (atom_value env scope) some × Holds ordering)
    joined_sound line free ordering none_left AreScalars.no_scalar no_es no_vs IsChained.nothing = λ next done is. absurd (empty_product line next done is)
    joined_sound line free ordering all (AreScalars.another_scalar a some is more) no_es no_vs IsChained.nothing =
        subst (λ es. Sound env scope 0 (lowering.product line false (made a ∷ es)) (product_of_all (atom_value env scope a ∷ map (atom_value env scope) some ++ []))
        (ScalarShapes (atom_value env scope) (a ∷ some) × Holds chain.Empty)) (sym (append-nil (map made some)))
        (subst (λ vs. Sound env scope 0 (lowering.product line false (made a ∷ map made some)) (scaled_from (atom_value env scope a) vs)
        (ScalarShapes (atom_value env scope) (a ∷ some) × Holds chain.Empty)) (sym (append-nil (map (atom_value env scope) some)))
        (with_fact env scope 0 (lowering.product line false (made a ∷ map made some)) (scaled_from (atom_value env scope a) (map (atom_value env scope) some))
        (HasShape [] (atom_value env scope a) × Facts (alone some more (atom_value env scope a))) (ScalarShapes (atom_value env scope) (a ∷ some) × Holds chain.Empty)
        (λ facts. (ScalarShapes.another_shape a some facts.0 (alone_holds some more (atom_value env scope a) facts.1), (AllShaped.no_link, tt)))
        (list_sound line 0 0 (made a) (map made some) (atom_value env scope a) (scaled_from (atom_value env scope a) (map (atom_value env scope) some)) (HasShape [] (atom_value env scope a))
        (scalar_sound a is) (alone some more (atom_value env scope a)))))
    joined_sound line names order none_left AreScalars.no_scalar es vs (IsChained.one free ordering c v sound) =
        subst (λ o. Sound env scope (length free) o v (ScalarShapes (atom_value env scope) [] × Holds ordering)) (sym (product_one line c))
        (with_fact env scope (length free) c v (Holds ordering) (ScalarShapes (atom_value env scope) [] × Holds ordering) (λ holds. (ScalarShapes.no_shape, holds)) sound)
    joined_sound line names order all (AreScalars.another_scalar a some is more) es vs (IsChained.one free ordering c v sound) =
        with_fact env scope (length free) (lowering.product line false (made a ∷ map made some ++ c ∷ [])) (scaled_from (atom_value env scope a) (map (atom_value env scope) some ++ v ∷ []))
        (HasShape [] (atom_value env scope a) × Facts (with_last some more (length free) c v (Holds ordering) sound (atom_value env scope a)))
        (ScalarShapes (atom_value env scope) (a ∷ some) × Holds ordering)
        (λ facts. let later = last_holds some more (length free) c v (Holds ordering) sound (atom_value env scope a) facts.1 in
        (ScalarShapes.another_shape a some facts.0 later.0, later.1))
        (list_sound line 0 (length free) (made a) (map made some ++ c ∷ []) (atom_value env scope a) (scaled_from (atom_value env scope a) (map (atom_value env scope) some ++ v ∷ []))
        (HasShape [] (atom_value env scope a)) (scalar_sound a is) (with_last some more (length free) c v (Holds ordering) sound (atom_value env scope a)))

    term_sound : (line : ℕ) (free : List Name) (ordering : Chain) → Ordered atoms free ordering
        → Sound env scope (length free) (lowered_by ordering line atoms) (term_value (atom_value env scope) atoms ordering)
        (ScalarShapes (atom_value env scope) (scalars_of atoms) × Holds ordering)
    unfolding lowered_by scalars term_value
    term_sound line free ordering ordered =
        joined_sound line free ordering (scalars_of atoms) (scalars_are atoms) (chained line atoms ordering) (chain_values (atom_value env scope) atoms ordering)
        (chain_is line free ordering ordered)

-- ---- the shapes of all atoms

factor_shaped : (value : IxAtom → Value) (atoms : List IxAtom) (position : ℕ) (links : List Link) → AllShaped value atoms links
    → 0 < times_in position links → HasShape (indices_at atoms position) (value_at value atoms position)
unfolding times_in
factor_shaped value atoms position none_left AllShaped.no_link stands = absurd (omega (arith, stands))
factor_shaped value atoms position all (AllShaped.another_link l links has more) stands =
    by_case (cases_Bool (l.factor == position)) (factor_shaped value atoms position links more)
    (subst (λ n. 0 < n) (sum_by-cons (λ k. one_if (k.factor == position)) l links) stands)
  where
    by_case : (l.factor == position ≡ true) ⊎ (l.factor == position ≡ false)
        → (0 < sum_by (λ k. one_if (k.factor == position)) links → HasShape (indices_at atoms position) (value_at value atoms position))
        → 0 < one_if (l.factor == position) + sum_by (λ k. one_if (k.factor == position)) links → HasShape (indices_at atoms position) (value_at value atoms position)
    by_case (inl here) later stands = subst (λ p. HasShape (indices_at atoms p) (value_at value atoms p)) ((Decides-eqb l.factor position).0 here) has
    by_case (inr elsewhere) later stands = let no : one_if (l.factor == position) ≡ 0 = ap one_if elsewhere in later (omega (arith, no, stands))

have_shapes : (value : IxAtom → Value) (atoms : List IxAtom) → ScalarShapes value (scalars_of atoms)
    → ((position : ℕ) → is_factor (indices_at atoms position) ≡ true → HasShape (indices_at atoms position) (value_at value atoms position)) → HaveShapes value atoms
have_shapes value [] scalars factors = HaveShapes.none
have_shapes value (a ∷ atoms) scalars factors =
    let here = by_names (indices_of a) scalars (factors 0) in
    HaveShapes.one_more a atoms here.0 (have_shapes value atoms here.1 (λ position. factors (suc position)))
  where
    taken : (rest : List IxAtom) → ScalarShapes value (a ∷ rest) → HasShape [] (value a) × ScalarShapes value rest
    taken rest (ScalarShapes.another_shape b others shape more) = (shape, more)

    by_names : (names : List Name) → ScalarShapes value (if not (is_factor names) then a ∷ scalars_of atoms else scalars_of atoms) → (is_factor names ≡ true → HasShape names (value a))
        → HasShape names (value a) × ScalarShapes value (scalars_of atoms)
    by_names [] scalars factor = taken (scalars_of atoms) scalars
    by_names (i ∷ names) scalars factor = (factor refl, scalars)

-- ---- the law

-- a term's expression means its sum, and its value has the size of its type
pub record TermFound (env : Environment) (scope : Scope) (free : List Name) (atoms : List IxAtom) (t : TypedExpr) : Type 0 where
  pub means : MeansTerm env scope free atoms t
  pub fits : Fits scope.sets (type_of t) means.value

pub term_found : (typing : TypingForms) (meanings : MeaningForms) (terms : IndexTermLaw) (entries : EntryLaws) (env : Environment) (scope : Scope) (free : List Name) (line : ℕ) (atoms : List IxAtom)
    (ordering : Chain) (next : ℕ) (done : TypedExpr × ℕ) → NamesFit env scope → IsChain atoms free ordering → expression env (lowered_by ordering line atoms) next ≡ Ok done
    → TermFound env scope free atoms done.0
term_found typing meanings terms entries env scope free line atoms ordering next done fit c is =
    let here = term_sound typing meanings entries env scope fit atoms c.simple line free ordering c.ordered next done is in
    let value : IxAtom → Value = atom_value env scope in
    let shapes : HaveShapes value atoms =
    have_shapes value atoms here.1.0
    (λ position factor. factor_shaped value atoms position (links_of ordering) here.1.1.0 (subst (λ n. 0 < n) (sym (c.all position ∙ ap one_if factor)) (omega arith))) in
    let sized = terms.sized value free atoms ordering c shapes here.1.1.1 in
    record {
      means = record {
        size = sized.size;
        sizes = sized.sizes;
        value = term_value value atoms ordering;
        meant = here.0.meant;
        has_sizes = terms.sizes value sized.size free atoms ordering c sized.sizes;
        sum = λ at within. terms.sum value sized.size free atoms ordering at c sized.sizes within;
      };
      fits = here.0.fits;
    }

pub term_meant : (typing : TypingForms) (meanings : MeaningForms) (terms : IndexTermLaw) (entries : EntryLaws) → IsTermMeant
term_meant typing meanings terms entries env scope free line atoms ordering next done fit c is =
    (term_found typing meanings terms entries env scope free line atoms ordering next done fit c is).means
