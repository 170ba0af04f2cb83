-- The value of each expression of the main procedure has the size of its type, by its typing.
use Rattle.std.proofs.Common.{◌≡◌, ℕ, Bool, true, List, [], ◌∷◌, map, Option, Some, None, Ok, refl, sym, ap, ◌∙◌, subst}
use Rattle.vocabulary.specs.Answers.{◌>>=◌, fold_result}
use Rattle.ring_words.specs.declared.trap.TrapKind.{TrapKind}
use Rattle.ring_words.specs.declared.trap.TrapKind.TheVariants.{DivisionByZero, NegativeRoot}
use Rattle.sim_syntax.specs.declared.expression.Expr as tree
use Rattle.sim_syntax.specs.declared.expression.SumTerm.{SumTerm}
use Rattle.sim_syntax.specs.declared.expression.ProductFactor.{ProductFactor}
use Rattle.type_rules.specs.Types.{scale_of}
use Rattle.type_rules.specs.declared.types.IndexRange.{IndexRange}
use Rattle.type_rules.specs.declared.types.BlockShape.TheVariants.{Number}
use Rattle.type_rules.specs.declared.types.NodeType.{NodeType}
use Rattle.type_rules.specs.declared.types.NodeType.TheVariants.{Local}
use Rattle.typed_tree.specs.declared.environment.Environment.{Environment}
use Rattle.typed_tree.specs.declared.environment.Level.TheVariants.{Function, Main}
use Rattle.typed_tree.specs.declared.expression.Node.{Node}
use Rattle.typed_tree.specs.declared.expression.Referent.{Referent}
use Rattle.typed_tree.specs.declared.expression.Referent.TheVariants as referent
use Rattle.typed_tree.specs.declared.expression.TypedExpr.{TypedExpr}
use Rattle.typed_tree.specs.declared.expression.TypedTerm.{TypedTerm}
use Rattle.typed_tree.specs.declared.expression.TypedFactor.{TypedFactor}
use Rattle.typed_tree.specs.Expressions.{member_rule, name_rule, range_of, set_member, type_of, value_rule}
use Rattle.typed_tree.specs.Literals.{decimals_of}
use Rattle.typed_tree.specs.Lookups.{element_in, fields_of, find_field}
use Rattle.typed_tree.specs.Names.{Name}
use Rattle.typing_laws.specs.Expressions.{IsTyping, AreTermTypings, AreFactorTypings, IsSumNode, IsProductNode, node_at}
use Rattle.typing_laws.specs.References.{StandsFor, IsRanked}
use Rattle.value_algebra.specs.declared.value.Value.{Value}
use Rattle.value_algebra.specs.Value.{number, word_of, times, transposed, dot}
use Rattle.value_algebra.specs.Scales as scales
use Rattle.value_laws.specs.Laws.{EntryLaws}
use Rattle.algebra_meaning.specs.Expression as meant
use Rattle.algebra_meaning.specs.Expression.{Part, Scope, added, all_meant, chain, divided, first_word, found, last_value, meaning, multiplied, or_trap, quotient, referred, rescaled_part, root, scalar_product, second_word, total, transposed_part}
use Rattle.expression_forms.specs.Meanings.{MeaningForms, factor_operand, part_is, term_operand}
use Rattle.index_laws.specs.Fits.{Fits, NamesFit}
use Rattle.index_laws.specs.Sizes.{IsMain, AreSized}
use Rattle.index_laws.proofs.Added.{added_is, first_fits, sum_fits}
use Rattle.index_laws.proofs.Answers.{same_Ok, and_then}
use Rattle.index_laws.proofs.Atoms.{literal_type, ranked_type, reference_means}
use Rattle.index_laws.proofs.Products.{product_means}
use Rattle.index_laws.proofs.Sums.{sum_means}
use Rattle.index_laws.proofs.TypeSizes as sizes

-- ---- references

-- the main procedure names whole values
pub record IsWholeName (env : Environment) (name : Name) (places : List IndexRange) (field : Option Name) (indices : List IndexRange) (what : Referent) (type : NodeType) : Type 0 where
  no_places : places ≡ []
  no_indices : indices ≡ []
  rule : name_rule env name [] field [] ≡ Ok (what, type)

whole_name : (env : Environment) (name : Name) (places : List IndexRange) (field : Option Name) (indices : List IndexRange) (what : Referent) (type : NodeType)
    → IsMain env → StandsFor env name places field indices what type → IsWholeName env name places field indices what type
unfolding name_rule value_rule member_rule set_member
whole_name env name places field indices what type main (StandsFor.parameter n local scale entry t means rule) = absurd (main.names n _ means)
whole_name env name places field indices what type main (StandsFor.local_variable n local whole entry t means rule) = absurd (main.names n _ means)
whole_name env name places field indices what type main (StandsFor.turn n local range entry t means rule) = absurd (main.names n _ means)
whole_name env name places field indices what type main (StandsFor.own_field n element ps f number ft entry t means has rule) = absurd (main.names n _ means)
whole_name env name places field indices what type main (StandsFor.endpoint_field n element count ps f number ft entry t means has rule) = absurd (main.names n _ means)
whole_name env name places field indices what type main (StandsFor.variable n number t means) =
    record { no_places = refl; no_indices = refl; rule = ap (λ m. value_rule m []) means }
whole_name env name places field indices what type main (StandsFor.counter n local means) =
    record { no_places = refl; no_indices = refl; rule = ap (λ m. value_rule m []) means }
whole_name env name places field indices what type main (StandsFor.set_field n set f number t means level has) =
    record {
      no_places = refl;
      no_indices = refl;
      rule = ap (λ m. member_rule env m f [] []) means
          ∙ ap (λ l. set_member l set (find_field (fields_of env.declarations (element_in env.declarations set)) f) []) level ∙ ap (λ o. set_member Main set o []) has;
    }

no_arguments : (es : List TypedExpr) → map range_of es ≡ [] → es ≡ []
no_arguments [] is = refl
no_arguments (e ∷ es) is = absurd (cc)

ranked_view : (rank : Option ℕ) (view type : NodeType) → IsRanked rank view type → view ≡ type
ranked_view rank view type (IsRanked.no_rank t) = refl
ranked_view rank view type (IsRanked.has_rank r v t rule) = (ranked_type v r t rule).1

-- ---- forms by those of their parts

transposed_of : (scope : Scope) (e : TypedExpr) (value : Value) → transposed_part (part_is scope e) ≡ Ok value → (v : Value) × (meaning scope e ≡ Ok v) × (transposed v ≡ value)
unfolding transposed_part
transposed_of scope e value is = let v = and_then (meaning scope e) (λ v. Ok (transposed v)) value is in (v.0, v.1, same_Ok (transposed v.0) value v.2)

rescaled_of : (scope : Scope) (to : ℕ) (e : TypedExpr) (value : Value) → rescaled_part to (part_is scope e) ≡ Ok value
    → (v : Value) × (meaning scope e ≡ Ok v) × (scales.rescaled (scale_of (type_of e)) to v ≡ value)
unfolding rescaled_part
rescaled_of scope to e value is =
    let v = and_then (meaning scope e) (λ v. Ok (scales.rescaled (scale_of (type_of e)) to v)) value is in
    (v.0, v.1, same_Ok (scales.rescaled (scale_of (type_of e)) to v.0) value v.2)

number_of : (trap : TrapKind) (o : Option ℕ) (value : Value) → or_trap trap o ≡ Ok value → (word : ℕ) × (number word ≡ value)
number_of trap None value is = absurd (cc)
number_of trap (Some word) value is = (word, same_Ok (number word) value is)

quotient_of : (scope : Scope) (to : ℕ) (l r : TypedExpr) (value : Value) → quotient to (part_is scope l) (part_is scope r) ≡ Ok value → (word : ℕ) × (number word ≡ value)
unfolding quotient
quotient_of scope to l r value is =
    let a = and_then (meaning scope l) (λ a. meaning scope r >>= λ b. divided to (type_of l) (type_of r) a b) value is in
    let b = and_then (meaning scope r) (λ b. divided to (type_of l) (type_of r) a.0 b) value a.2 in
    number_of DivisionByZero (scales.quotient (word_of a.0) (scale_of (type_of l)) (word_of b.0) (scale_of (type_of r)) to) value b.2

root_of : (scope : Scope) (to : ℕ) (e : TypedExpr) (value : Value) → root to (part_is scope e) ≡ Ok value → (word : ℕ) × (number word ≡ value)
unfolding root
root_of scope to e value is =
    let v = and_then (meaning scope e) (λ v. or_trap NegativeRoot (scales.square_root (word_of v) (scale_of (type_of e)) to)) value is in
    number_of NegativeRoot (scales.square_root (word_of v.0) (scale_of (type_of e)) to) value v.2

dot_of : (scope : Scope) (l r : TypedExpr) (value : Value) → scalar_product (part_is scope l) (part_is scope r) ≡ Ok value → (v : Value) × (w : Value) × (dot v w ≡ value)
unfolding scalar_product
dot_of scope l r value is =
    let a = and_then (meaning scope l) (λ a. meaning scope r >>= λ b. Ok (dot a b)) value is in
    let b = and_then (meaning scope r) (λ b. Ok (dot a.0 b)) value a.2 in
    (a.0, b.0, same_Ok (dot a.0 b.0) value b.2)

-- what a host function answers is a number
call_of : (scope : Scope) (host : ℕ) (args : List Part) (value : Value) → meant.reference scope (referent.Host host) args [] ≡ Ok value → (word : ℕ) × (number word ≡ value)
unfolding meant.reference
call_of scope host args value is =
    let a = and_then (all_meant args) (λ a. Ok (referred scope (referent.Host host) a [])) value is in
    let word = scope.program.answer host (first_word a.0) (second_word a.0) in
    (word, same_Ok (number word) value a.2)

-- ---- sums and products from left to right

module _ (entries : EntryLaws) (scope : Scope) where
  -- a sum so far has the size of its node's type
  abbrev pub SumFits : Option Node → Option Value → Type 0
  SumFits None None = Unit {0}
  SumFits None (Some v) = ⊥
  SumFits (Some node) None = ⊥
  SumFits (Some node) (Some v) = Fits scope.sets node.value_type v

  pub sum_node_fits : (line : ℕ) (left : Option Node) (minus : Bool) (e : TypedExpr) (next : ℕ) (up_to : Node) (after : ℕ) (so_far : Option Value) (x : Value)
      → IsSumNode line left minus e next up_to after → SumFits left so_far → Fits scope.sets (type_of e) x → SumFits (Some up_to) (Some (added so_far minus x))
  sum_node_fits line left minus e next up_to after None x (IsSumNode.first_added v n) before fits = fits
  sum_node_fits line left minus e next up_to after None x (IsSumNode.first_negated v n) before fits = first_fits entries true scope.sets (type_of v) x fits
  sum_node_fits line left minus e next up_to after None x (IsSumNode.further_term l m v n type rule) before fits = absurd before
  sum_node_fits line left minus e next up_to after (Some a) x (IsSumNode.first_added v n) before fits = absurd before
  sum_node_fits line left minus e next up_to after (Some a) x (IsSumNode.first_negated v n) before fits = absurd before
  sum_node_fits line left minus e next up_to after (Some a) x (IsSumNode.further_term l m v n type rule) before fits =
      subst (Fits scope.sets type) (sym (added_is m a x)) (sum_fits entries m scope.sets l.value_type (type_of v) type a x rule before fits)

  abbrev pub ProductFits : Option Node → Option (NodeType × Value) → Type 0
  ProductFits None None = Unit {0}
  ProductFits None (Some v) = ⊥
  ProductFits (Some node) None = ⊥
  ProductFits (Some node) (Some v) = (v.0 ≡ node.value_type) × Fits scope.sets node.value_type v.1

  pub product_node_fits : (line : ℕ) (left : Option Node) (entrywise : Bool) (e : TypedExpr) (next : ℕ) (up_to : Node) (after : ℕ) (so_far : Option (NodeType × Value)) (x : Value)
      → IsProductNode line left entrywise e next up_to after → ProductFits left so_far → Fits scope.sets (type_of e) x
      → ProductFits (Some up_to) (Some (up_to.value_type, multiplied so_far entrywise (type_of e) x))
  product_node_fits line left entrywise e next up_to after None x (IsProductNode.first_factor w v n) before fits = (refl, fits)
  product_node_fits line left entrywise e next up_to after None x (IsProductNode.further_product l v n type rule) before fits = absurd before
  product_node_fits line left entrywise e next up_to after None x (IsProductNode.further_entrywise l v n type rule) before fits = absurd before
  product_node_fits line left entrywise e next up_to after (Some a) x (IsProductNode.first_factor w v n) before fits = absurd before
  product_node_fits line left entrywise e next up_to after (Some (t, a)) x (IsProductNode.further_product l v n type rule) before fits =
      (refl, subst (λ u. Fits scope.sets type (times u (type_of v) a x)) (sym before.0) (sizes.times_fits entries scope.sets l.value_type (type_of v) type a x rule before.1 fits))
  product_node_fits line left entrywise e next up_to after (Some (t, a)) x (IsProductNode.further_entrywise l v n type rule) before fits =
      (refl, sizes.entrywise_fits entries scope.sets l.value_type (type_of v) type a x rule before.1 fits)

sum_value : (scope : Scope) (ts : List TypedTerm) (value : Value) → meant.sum (map (term_operand scope) ts) ≡ Ok value
    → (end : Option Value) × (total (map (term_operand scope) ts) ≡ Ok end) × (found end ≡ value)
sum_value scope ts value is =
    let end = and_then (total (map (term_operand scope) ts)) (λ v. Ok (found v)) value (sym (sum_means (map (term_operand scope) ts)) ∙ is) in
    (end.0, end.1, same_Ok (found end.0) value end.2)

product_value : (scope : Scope) (fs : List TypedFactor) (value : Value) → meant.product (map (factor_operand scope) fs) ≡ Ok value
    → (end : Option (NodeType × Value)) × (chain (map (factor_operand scope) fs) ≡ Ok end) × (last_value end ≡ value)
product_value scope fs value is =
    let end = and_then (chain (map (factor_operand scope) fs)) (λ d. Ok (last_value d)) value (sym (product_means (map (factor_operand scope) fs)) ∙ is) in
    (end.0, end.1, same_Ok (last_value end.0) value end.2)

sum_end : (entries : EntryLaws) (scope : Scope) (last : Node) (end : Option Value) → SumFits entries scope (Some last) end → Fits scope.sets last.value_type (found end)
sum_end entries scope last None fits = absurd fits
sum_end entries scope last (Some v) fits = fits

product_end : (entries : EntryLaws) (scope : Scope) (last : Node) (end : Option (NodeType × Value)) → ProductFits entries scope (Some last) end → Fits scope.sets last.value_type (last_value end)
product_end entries scope last None fits = absurd fits
product_end entries scope last (Some (t, v)) fits = fits.1

no_function : Function ≡ Main → ⊥
no_function same = cc

-- ---- all forms

module _ (meanings : MeaningForms) (entries : EntryLaws) (env : Environment) (scope : Scope) (main : IsMain env) (names : NamesFit env scope) where
  number_sized : (line word : ℕ) (digits : List ℕ) (type : NodeType) (from : ℕ) (value : Value) → (number word ≡ value) → (t : NodeType) → Fits scope.sets t (number word) → t ≡ type → Fits scope.sets type value
  number_sized line word digits type from value is t fits same = subst (λ v. Fits scope.sets type v) is (subst (λ u. Fits scope.sets u (number word)) same fits)

  reference_sized : (name : Name) (field : Option Name) (rank : Option ℕ) (as_typed fs_typed : List TypedExpr) (what : Referent) (view type : NodeType) (value : Value)
      → StandsFor env name (map range_of as_typed) field (map range_of fs_typed) what view → IsRanked rank view type
      → meant.reference scope what (map (part_is scope) as_typed) (map (part_is scope) fs_typed) ≡ Ok value → Fits scope.sets type value
  reference_sized name field rank as_typed fs_typed what view type value stands ranked is =
      let whole = whole_name env name (map range_of as_typed) field (map range_of fs_typed) what view main stands in
      let alone : meant.reference scope what (map (part_is scope) as_typed) (map (part_is scope) fs_typed) ≡ meant.reference scope what [] [] =
      ap (λ es. meant.reference scope what (map (part_is scope) es) (map (part_is scope) fs_typed)) (no_arguments as_typed whole.no_places)
      ∙ ap (λ es. meant.reference scope what [] (map (part_is scope) es)) (no_arguments fs_typed whole.no_indices) in
      let same : referred scope what [] [] ≡ value = same_Ok (referred scope what [] []) value (sym (reference_means scope what) ∙ sym alone ∙ is) in
      subst (λ u. Fits scope.sets u value) (ranked_view rank view type ranked)
      (subst (Fits scope.sets view) same (names name field what view whole.rule))

  mutual
    sized : (e : tree.Expr) (t : TypedExpr) (from to : ℕ) (value : Value) → IsTyping env e t from to → meaning scope t ≡ Ok value → Fits scope.sets (type_of t) value
    sized e t from to value (IsTyping.number line digits word type from' states rule) is =
        number_sized line word digits type from' value (same_Ok (number word) value (sym (meanings.number_is scope (node_at from' line type) word) ∙ is)) _
        (sizes.number_fits entries scope.sets (decimals_of digits) word) (literal_type (decimals_of digits) (Some word) type rule)
    sized e t from to value (IsTyping.reference line name args field field_args rank as_typed fs_typed what view type from' middle to' first second stands ranked) is =
        reference_sized name field rank as_typed fs_typed what view type value stands ranked (sym (meanings.reference_is scope (node_at to' line type) what as_typed fs_typed) ∙ is)
    sized e t from to value (IsTyping.call line name args rank typed_args host type from' to' typed means types ranked) is =
        let word = call_of scope host.number (map (part_is scope) typed_args) value
        (sym (meanings.reference_is scope (node_at to' line type) (referent.Host host.number) typed_args []) ∙ is) in
        subst (λ u. Fits scope.sets u value) (ranked_view rank (Local Number host.scale) type ranked)
        (subst (Fits scope.sets (Local Number host.scale)) word.1 (sizes.number_fits entries scope.sets host.scale word.0))
    sized e t from to value (IsTyping.block line rows rs type from' to' typed function rule) is = absurd (no_function (sym function ∙ main.level))
    sized e t from to value (IsTyping.sum line terms ts last from' to' typed) is =
        let end = sum_value scope ts value (sym (meanings.sum_is scope last ts) ∙ is) in
        subst (Fits scope.sets last.value_type) end.2
        (sum_end entries scope last end.0 (terms_sized line None terms ts (Some last) from' to' None end.0 typed tt end.1))
    sized e t from to value (IsTyping.product line factors fs last from' to' typed) is =
        let end = product_value scope fs value (sym (meanings.product_is scope last fs) ∙ is) in
        subst (Fits scope.sets last.value_type) end.2
        (product_end entries scope last end.0 (factors_sized line None factors fs (Some last) from' to' None end.0 typed tt end.1))
    sized e t from to value (IsTyping.transposed line inner v type from' to' typed rule) is =
        let x = transposed_of scope v value (sym (meanings.transposed_is scope (node_at to' line type) v) ∙ is) in
        subst (Fits scope.sets type) x.2 (sizes.transposed_fits entries scope.sets (type_of v) type x.0 rule (sized inner v from' to' x.0 typed x.1))
    sized e t from to value (IsTyping.rescale line inner scale v type from' to' typed rule) is =
        let x = rescaled_of scope (scale_of type) v value (sym (meanings.rescale_is scope (node_at to' line type) v) ∙ is) in
        subst (Fits scope.sets type) x.2
        (sizes.rescaled_fits entries scope.sets (type_of v) type _ (scales.rescaled_word (scale_of (type_of v)) (scale_of type)) x.0 rule (sized inner v from' to' x.0 typed x.1))
    sized e t from to value (IsTyping.quot line dividend divisor scale l r type from' middle to' first second rule) is =
        let x = quotient_of scope (scale_of type) l r value (sym (meanings.quot_is scope (node_at to' line type) l r) ∙ is) in
        subst (Fits scope.sets type) x.1 (sizes.quotient_fits entries scope.sets (type_of l) (type_of r) type _ x.0 rule)
    sized e t from to value (IsTyping.isqrt line inner scale v type from' to' typed rule) is =
        let x = root_of scope (scale_of type) v value (sym (meanings.isqrt_is scope (node_at to' line type) v) ∙ is) in
        subst (Fits scope.sets type) x.1 (sizes.root_fits entries scope.sets (type_of v) type _ x.0 rule)
    sized e t from to value (IsTyping.dot line left right l r type from' middle to' first second rule) is =
        let x = dot_of scope l r value (sym (meanings.dot_is scope (node_at to' line type) l r) ∙ is) in
        subst (Fits scope.sets type) x.2 (sizes.dot_fits entries scope.sets (type_of l) (type_of r) type x.0 x.1 rule)

    terms_sized : (line : ℕ) (left : Option Node) (terms : List SumTerm) (ts : List TypedTerm) (last : Option Node) (from to : ℕ) (so_far end : Option Value)
        → AreTermTypings env line left terms ts last from to → SumFits entries scope left so_far
        → fold_result meant.with_term so_far (map (term_operand scope) ts) ≡ Ok end → SumFits entries scope last end
    terms_sized line left terms ts last from to so_far end (AreTermTypings.no_term line' left' from') before is =
        subst (SumFits entries scope left') (same_Ok so_far end is) before
    terms_sized line left terms ts last from to so_far end (AreTermTypings.another_term line' left' last' term terms' v up_to ts' from' middle next to' here node more) before is =
        let one = and_then (meaning scope v >>= λ x. Ok (Some (added so_far term.minus x))) (λ next. fold_result meant.with_term next (map (term_operand scope) ts')) end is in
        let x = and_then (meaning scope v) (λ x. Ok (Some (added so_far term.minus x))) one.0 one.1 in
        let fits = sum_node_fits entries scope line' left' term.minus v middle up_to next so_far x.0 node before (sized term.value v from' middle x.0 here x.1) in
        terms_sized line' (Some up_to) terms' ts' last' next to' one.0 end more
        (subst (SumFits entries scope (Some up_to)) (same_Ok (Some (added so_far term.minus x.0)) one.0 x.2) fits) one.2

    factors_sized : (line : ℕ) (left : Option Node) (factors : List ProductFactor) (fs : List TypedFactor) (last : Option Node) (from to : ℕ) (so_far end : Option (NodeType × Value))
        → AreFactorTypings env line left factors fs last from to → ProductFits entries scope left so_far
        → fold_result meant.with_factor so_far (map (factor_operand scope) fs) ≡ Ok end → ProductFits entries scope last end
    factors_sized line left factors fs last from to so_far end (AreFactorTypings.no_factor line' left' from') before is =
        subst (ProductFits entries scope left') (same_Ok so_far end is) before
    factors_sized line left factors fs last from to so_far end (AreFactorTypings.another_factor line' left' last' factor factors' v up_to fs' from' middle next to' here node more) before is =
        let one = and_then (meaning scope v >>= λ x. Ok (Some (up_to.value_type, multiplied so_far factor.entrywise (type_of v) x)))
        (λ next. fold_result meant.with_factor next (map (factor_operand scope) fs')) end is in
        let x = and_then (meaning scope v) (λ x. Ok (Some (up_to.value_type, multiplied so_far factor.entrywise (type_of v) x))) one.0 one.1 in
        let fits = product_node_fits entries scope line' left' factor.entrywise v middle up_to next so_far x.0 node before (sized factor.value v from' middle x.0 here x.1) in
        factors_sized line' (Some up_to) factors' fs' last' next to' one.0 end more
        (subst (ProductFits entries scope (Some up_to)) (same_Ok (Some (up_to.value_type, multiplied so_far factor.entrywise (type_of v) x.0)) one.0 x.2) fits) one.2

pub are_sized : (meanings : MeaningForms) (entries : EntryLaws) → AreSized
are_sized meanings entries env scope e t from to value main names typed is = sized meanings entries env scope main names e t from to value typed is
