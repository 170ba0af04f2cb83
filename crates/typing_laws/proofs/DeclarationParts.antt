-- Parameters and results of functions: what the definition answers is a typing, and each typing is what it answers.
use Rattle.std.proofs.Common.{◌≡◌, ℕ, suc, ◌==◌, ◌≤◌, Bool, true, false, not, ◌||◌, nat_lt, List, [], ◌∷◌, ◌++◌, length, Option, Some, None, Ok, refl, sym, ap, subst, ◌∙◌, append_assoc}
use Rattle.std.proofs.lemmas.List.{append-nil}
use Rattle.std.proofs.lemmas.Bool.{or_from, not-false, not_from_true}
use Rattle.std.specs.Option.{is_none, option_map}
use Rattle.vocabulary.specs.Answers.{◌>>=◌, fold_result}
use Rattle.vocabulary.specs.declared.limits.TheConstants.{MOST_ENDPOINTS, MOST_SCALE}
use Rattle.sim_syntax.specs.declared.declaration.Local as block_tree
use Rattle.sim_syntax.specs.declared.declaration.Param.{Param}
use Rattle.sim_syntax.specs.declared.declaration.ParamKind.{ParamKind}
use Rattle.sim_syntax.specs.declared.declaration.ParamKind.TheVariants as param
use Rattle.sim_syntax.specs.declared.declaration.ResultDecl.{ResultDecl}
use Rattle.type_rules.specs.Rules.{first_kind, declared_rule, is_missing, or_zero}
use Rattle.type_rules.specs.Types.{scale_of}
use Rattle.type_rules.specs.declared.types.BlockShape.{BlockShape}
use Rattle.type_rules.specs.declared.types.BlockShape.TheVariants.{Number}
use Rattle.type_rules.specs.declared.types.NodeType.{NodeType}
use Rattle.type_rules.specs.declared.types.NodeType.TheVariants as type
use Rattle.type_rules.specs.declared.types.TypeKind.{TypeKind}
use Rattle.type_rules.specs.declared.types.TypeKind.TheVariants as kind
use Rattle.typed_tree.specs.declared.environment.Environment.{Environment}
use Rattle.typed_tree.specs.declared.environment.Walk.{Walk}
use Rattle.typed_tree.specs.declared.function.ParameterType.{ParameterType}
use Rattle.typed_tree.specs.declared.function.ParameterType.TheVariants as parameter
use Rattle.typed_tree.specs.declared.names.Meaning.{Meaning}
use Rattle.typed_tree.specs.declared.names.Meaning.TheVariants as meaning
use Rattle.typed_tree.specs.Names.{Name, meaning_of}
use Rattle.typed_tree.specs.Literals.{whole}
use Rattle.typed_tree.specs.Walking.{is_visible, naming}
use Rattle.typed_tree.specs.Lookups.{element_meant, element_named, set_named}
use Rattle.typed_tree.specs.Declarations.{Results, block_rule_up_to, count_fault, faultless, is_block_of, is_unknown_set, number_of, over_sets, parameter_rule, parameter_step, result_rule, system_type, taken, unless, with_parameter, with_result}
use Rattle.typing_laws.specs.Lists.{InTurn}
use Rattle.typing_laws.specs.Scopes.{IsNew}
use Rattle.typing_laws.specs.Declarations.{IsBlock, IsMatrixBlock, IsParameter, IsResult, IsSet, IsVectorBlock, AreResults}
use Rattle.typing_laws.proofs.Steps.{same_Ok, and_then, then_is}
use Rattle.typing_laws.proofs.NoFault.{none_first, first_none, none_either}
use Rattle.typing_laws.proofs.ScopeFacts.{Extends, stays, extends_on, new_goes_last, not_known, known_not, at_line_then, at_line_and}
use Rattle.typing_laws.proofs.DeclarationBlocks.{unless_split, unless_more, faultless_split, size_split, size_is, declared_split, declared_is, block_typed, only_block}
use Rattle.typing_laws.proofs.DeclarationFields.{taken_split}
use Rattle.typing_laws.proofs.LookupFacts.{element_meant_split, set_meant_split, set_meant_is}

-- ---- parameters

count_split : (count : Option ℕ) → is_missing count ≡ false → ((or_zero count == 0) || nat_lt MOST_ENDPOINTS (or_zero count)) ≡ false
    → (n : ℕ) × (count ≡ Some n) × (1 ≤ n) × (n ≤ MOST_ENDPOINTS)
count_split None there few = absurd (cc)
count_split (Some n) there few = let sized = size_split MOST_ENDPOINTS n few in (n, refl, sized.0, sized.1)

abbrev small_count : Option ℕ → List (TypeKind × Bool)
small_count count = (kind.TooLarge, (or_zero count == 0) || nat_lt MOST_ENDPOINTS (or_zero count)) ∷ []

abbrev constant_count : Option ℕ → List (TypeKind × Bool)
constant_count count = (kind.NotConstant, is_missing count) ∷ small_count count

parameter_typed : (p : Param) (walk : Walk) (t : ParameterType) (k : ParamKind) → p.kind ≡ k → parameter_rule walk p.name k ≡ Ok t
    → IsParameter p t walk (with_parameter walk p.name t)
unfolding parameter_rule with_parameter count_fault
parameter_typed p walk t (param.Int line digits) kind_is is =
    let fault = taken (is_visible walk p.name) in
    let rule = declared_rule MOST_SCALE [] (whole digits) in
    let a = and_then (unless fault rule) (λ type. Ok (parameter.Scalar (scale_of type))) t is in
    let u = unless_split fault rule a.0 a.1 in
    let d = declared_split MOST_SCALE [] (whole digits) a.0 u.1 in
    subst (λ q. IsParameter p q walk (with_parameter walk p.name q))
    (ap (λ o. parameter.Scalar (or_zero o)) (sym d.1) ∙ ap (λ s. parameter.Scalar (scale_of s)) d.5 ∙ same_Ok (parameter.Scalar (scale_of a.0)) t a.2)
    (IsParameter.scalar_parameter p line digits d.0 walk kind_is (d.1, d.2) (not_known (meaning_of walk.environment.names p.name) (taken_split (is_visible walk p.name) u.0)))
parameter_typed p walk t (param.Element line name) kind_is is =
    let of = element_named walk.environment name in
    let visible = is_visible walk p.name in
    let fault = first_kind ((kind.Unknown, is_none of) ∷ (kind.Twice, visible) ∷ []) in
    let a = and_then (faultless fault) (λ u. Ok (parameter.Element (or_zero of))) t is in
    let b = none_first kind.Unknown (is_none of) ((kind.Twice, visible) ∷ []) (faultless_split fault a.0 a.1) in
    let c = none_first kind.Twice visible [] b.1 in
    let e = element_meant_split (meaning_of walk.environment.names name) b.0 in
    subst (λ q. IsParameter p q walk (with_parameter walk p.name q))
    (ap (λ o. parameter.Element (or_zero o)) (sym (ap element_meant e.1)) ∙ same_Ok (parameter.Element (or_zero of)) t a.2)
    (IsParameter.element_parameter p line name e.0 walk kind_is e.1 (not_known (meaning_of walk.environment.names p.name) c.0))
parameter_typed p walk t (param.Ends line name digits) kind_is is =
    let of = element_named walk.environment name in
    let count = whole digits in
    let visible = is_visible walk p.name in
    let made : Option ℕ → Option ℕ → ParameterType = λ element number. parameter.Ends (record { element = or_zero element; count = or_zero number }) in
    let fault = count_fault (is_none of) visible count in
    let a = and_then (faultless fault) (λ u. Ok (made of count)) t is in
    let b = none_first kind.Unknown (is_none of) ((kind.Twice, visible) ∷ constant_count count) (faultless_split fault a.0 a.1) in
    let c = none_first kind.Twice visible (constant_count count) b.1 in
    let d = none_first kind.NotConstant (is_missing count) (small_count count) c.1 in
    let f = none_first kind.TooLarge ((or_zero count == 0) || nat_lt MOST_ENDPOINTS (or_zero count)) [] d.1 in
    let n = count_split count d.0 f.0 in
    let e = element_meant_split (meaning_of walk.environment.names name) b.0 in
    subst (λ q. IsParameter p q walk (with_parameter walk p.name q))
    (ap (made (Some e.0)) (sym n.1) ∙ ap (λ o. made o count) (sym (ap element_meant e.1)) ∙ same_Ok (made of count) t a.2)
    (IsParameter.ends_parameter p line name digits e.0 n.0 walk kind_is e.1 (n.1, n.2, n.3) (not_known (meaning_of walk.environment.names p.name) c.0))

pub parameter_step_typed : (p : Param) (walk : Walk) (done : ParameterType × Walk) → parameter_step p walk ≡ Ok done → IsParameter p done.0 walk done.1
unfolding parameter_step
parameter_step_typed p walk done is =
    let l = at_line_then p.line (parameter_rule walk p.name p.kind) (λ t. Ok (t, with_parameter walk p.name t)) done is in
    subst (λ d. IsParameter p d.0 walk d.1) (same_Ok (l.0, with_parameter walk p.name l.0) done l.2) (parameter_typed p walk l.0 p.kind refl l.1)

pub only_parameter : (p : Param) (t : ParameterType) (before after : Walk) → IsParameter p t before after → parameter_step p before ≡ Ok (t, after)
unfolding parameter_step parameter_rule with_parameter count_fault
only_parameter p t before after (IsParameter.scalar_parameter q line digits scale walk kind_is is new) =
    at_line_and q.line (parameter_rule walk q.name q.kind) (λ t. Ok (t, with_parameter walk q.name t)) (parameter.Scalar scale) _
    (ap (parameter_rule walk q.name) kind_is ∙ ap (λ r. r >>= λ type. Ok (parameter.Scalar (scale_of type)))
    (unless_more (taken (is_visible walk q.name)) (declared_rule MOST_SCALE [] (whole digits)) (type.Local Number scale)
    (ap taken (known_not (meaning_of walk.environment.names q.name) new)) (declared_is MOST_SCALE [] (whole digits) scale is.0 is.1 refl refl))) refl
only_parameter p t before after (IsParameter.element_parameter q line name element walk kind_is means new) =
    let of = element_named walk.environment name in
    let visible = is_visible walk q.name in
    at_line_and q.line (parameter_rule walk q.name q.kind) (λ t. Ok (t, with_parameter walk q.name t)) (parameter.Element element) _
    (ap (parameter_rule walk q.name) kind_is ∙ ap (λ f. faultless f >>= λ u. Ok (parameter.Element (or_zero of)))
    (first_none kind.Unknown (is_none of) ((kind.Twice, visible) ∷ []) (ap (λ m. is_none (element_meant m)) means)
    (first_none kind.Twice visible [] (known_not (meaning_of walk.environment.names q.name) new) refl))
    ∙ ap (λ m. Ok (parameter.Element (or_zero (element_meant m)))) means) refl
only_parameter p t before after (IsParameter.ends_parameter q line name digits element count walk kind_is means sized new) =
    let of = element_named walk.environment name in
    let visible = is_visible walk q.name in
    let number = whole digits in
    let made : Option ℕ → Option ℕ → ParameterType = λ o c. parameter.Ends (record { element = or_zero o; count = or_zero c }) in
    at_line_and q.line (parameter_rule walk q.name q.kind) (λ t. Ok (t, with_parameter walk q.name t)) (made (Some element) (Some count)) _
    (ap (parameter_rule walk q.name) kind_is ∙ ap (λ f. faultless f >>= λ u. Ok (made of number))
    (first_none kind.Unknown (is_none of) ((kind.Twice, visible) ∷ constant_count number) (ap (λ m. is_none (element_meant m)) means)
    (first_none kind.Twice visible (constant_count number) (known_not (meaning_of walk.environment.names q.name) new)
    (first_none kind.NotConstant (is_missing number) (small_count number) (ap is_missing sized.0)
    (first_none kind.TooLarge ((or_zero number == 0) || nat_lt MOST_ENDPOINTS (or_zero number)) []
    (ap (λ o. (or_zero o == 0) || nat_lt MOST_ENDPOINTS (or_zero o)) sized.0 ∙ size_is MOST_ENDPOINTS count sized.1 sized.2) refl))))
    ∙ ap (λ m. Ok (made (element_meant m) number)) means ∙ ap (λ o. Ok (made (Some element) o)) sized.0) refl

naming_extends : (walk : Walk) (name : Name) (what : Meaning) → IsNew walk name → Extends walk (naming walk name what)
naming_extends walk name what new = record { more = (name, what) ∷ []; names = new_goes_last walk.environment.names name what new; level = refl }

parameter_extends : (p : Param) (t : ParameterType) (before after : Walk) → IsParameter p t before after → Extends before after
parameter_extends p t before after (IsParameter.scalar_parameter q line digits scale walk kind_is is new) =
    record {
      more = (q.name, meaning.Parameter walk.locals scale) ∷ [];
      names = new_goes_last walk.environment.names q.name (meaning.Parameter walk.locals scale) new;
      level = refl;
    }
parameter_extends p t before after (IsParameter.element_parameter q line name element walk kind_is means new) = naming_extends walk q.name (meaning.Own element) new
parameter_extends p t before after (IsParameter.ends_parameter q line name digits element count walk kind_is means sized new) =
    naming_extends walk q.name (meaning.Ends element count) new

pub parameters_extend : (ps : List Param) (ts : List ParameterType) (before after : Walk) → InTurn IsParameter ps ts before after → Extends before after
parameters_extend ps ts before after (InTurn.none here) = stays here
parameters_extend ps ts before after (InTurn.one_more p ps' t ts' walk between end one others) =
    extends_on walk between end (parameter_extends p t walk between one) (parameters_extend ps' ts' between end others)

-- ---- results

fits_vector : (most : ℕ) (block : block_tree.Local) (shape : BlockShape) (scale : ℕ) → IsBlock most block shape scale → is_block_of None block ≡ true → IsVectorBlock shape
fits_vector most block shape scale (IsBlock.number_block line digits s is) fits = tt
fits_vector most block shape scale (IsBlock.vector_block line side digits n s sized is) fits = tt
fits_vector most block shape scale (IsBlock.matrix_block line rows columns digits m n s rows_are columns_are is) fits = cc

fits_matrix : (name : Name) (most : ℕ) (block : block_tree.Local) (shape : BlockShape) (scale : ℕ) → IsBlock most block shape scale → is_block_of (Some name) block ≡ true
    → IsMatrixBlock shape
fits_matrix name most block shape scale (IsBlock.number_block line digits s is) fits = tt
fits_matrix name most block shape scale (IsBlock.vector_block line side digits n s sized is) fits = cc
fits_matrix name most block shape scale (IsBlock.matrix_block line rows columns digits m n s rows_are columns_are is) fits = tt

vector_fits : (most : ℕ) (block : block_tree.Local) (shape : BlockShape) (scale : ℕ) → IsBlock most block shape scale → IsVectorBlock shape → is_block_of None block ≡ true
vector_fits most block shape scale (IsBlock.number_block line digits s is) fits = refl
vector_fits most block shape scale (IsBlock.vector_block line side digits n s sized is) fits = refl
vector_fits most block shape scale (IsBlock.matrix_block line rows columns digits m n s rows_are columns_are is) fits = absurd fits

matrix_fits : (name : Name) (most : ℕ) (block : block_tree.Local) (shape : BlockShape) (scale : ℕ) → IsBlock most block shape scale → IsMatrixBlock shape
    → is_block_of (Some name) block ≡ true
matrix_fits name most block shape scale (IsBlock.number_block line digits s is) fits = refl
matrix_fits name most block shape scale (IsBlock.vector_block line side digits n s sized is) fits = absurd fits
matrix_fits name most block shape scale (IsBlock.matrix_block line rows columns digits m n s rows_are columns_are is) fits = refl

abbrev numbered : Environment → Option Name → Option ℕ
numbered env columns = option_map (λ name. number_of (set_named env name)) columns

set_is : (env : Environment) (name : Name) (n : ℕ) (set : IsSet env name n) → set_named env name ≡ Some (n, set.1.0.shape)
set_is env name n set = set_meant_is env.declarations (meaning_of env.names name) n set.1.0 set.0 set.1.1

is_set : (env : Environment) (name : Name) → is_none (set_named env name) ≡ false → (n : ℕ) × IsSet env name n
is_set env name known = let s = set_meant_split env.declarations (meaning_of env.names name) known in (s.0, (s.2, (s.1, s.3)))

over_columns : (env : Environment) (r : ResultDecl) (columns : Option Name) → r.columns ≡ columns → (rows : ℕ) → IsSet env r.rows rows
    → (shape : BlockShape) (scale : ℕ) → IsBlock MOST_SCALE r.block shape scale → is_unknown_set env columns ≡ false → is_block_of columns r.block ≡ true
    → IsResult env r (over_sets rows (numbered env columns) shape scale)
over_columns env r None columns_are rows set shape scale is_block known fits =
    IsResult.vector_result r rows shape scale columns_are set is_block (fits_vector MOST_SCALE r.block shape scale is_block fits)
over_columns env r (Some name) columns_are rows set shape scale is_block known fits =
    let s = is_set env name known in
    subst (λ n. IsResult env r (type.SystemMatrix rows n shape scale)) (sym (ap number_of (set_is env name s.0 s.1)))
    (IsResult.matrix_result r name rows s.0 shape scale columns_are set s.1 is_block (fits_matrix name MOST_SCALE r.block shape scale is_block fits))

abbrev unfit : ResultDecl → List (TypeKind × Bool)
unfit r = (kind.Shape, not (is_block_of r.columns r.block)) ∷ []

result_typed : (walk : Walk) (r : ResultDecl) (t : NodeType) → result_rule walk r ≡ Ok t → IsResult walk.environment r t × IsNew walk r.name
unfolding result_rule
result_typed walk r t is =
    let env = walk.environment in
    let unknown = is_none (set_named env r.rows) || is_unknown_set env r.columns in
    let visible = is_visible walk r.name in
    let fault = first_kind ((kind.Unknown, unknown) ∷ (kind.Twice, visible) ∷ unfit r) in
    let rule = block_rule_up_to MOST_SCALE r.block in
    let a = and_then (unless fault rule) (λ type. Ok (system_type env r type)) t is in
    let u = unless_split fault rule a.0 a.1 in
    let b = block_typed MOST_SCALE r.block a.0 u.1 in
    let k = none_first kind.Unknown unknown ((kind.Twice, visible) ∷ unfit r) u.0 in
    let v = none_first kind.Twice visible (unfit r) k.1 in
    let f = none_first kind.Shape (not (is_block_of r.columns r.block)) [] v.1 in
    let known = none_either (is_none (set_named env r.rows)) (is_unknown_set env r.columns) k.0 in
    let s = is_set env r.rows known.0 in (
      subst (IsResult env r)
          (ap (λ o. over_sets (number_of o) (numbered env r.columns) b.shape b.scale) (sym (set_is env r.rows s.0 s.1)) ∙ ap (system_type env r) b.same
          ∙ same_Ok (system_type env r a.0) t a.2)
          (over_columns env r r.columns refl s.0 s.1 b.shape b.scale b.is_block known.1 (not-false (is_block_of r.columns r.block) f.0)),
      not_known (meaning_of env.names r.name) v.0,
    )

only_shape : (walk : Walk) (r : ResultDecl) (shape : BlockShape) (scale rows : ℕ) (set : IsSet walk.environment r.rows rows) (columns : Option Name) (t : NodeType)
    → r.columns ≡ columns → IsNew walk r.name → IsBlock MOST_SCALE r.block shape scale → is_unknown_set walk.environment columns ≡ false
    → is_block_of columns r.block ≡ true → over_sets rows (numbered walk.environment columns) shape scale ≡ t → result_rule walk r ≡ Ok t
unfolding result_rule
only_shape walk r shape scale rows set columns t columns_are new is_block known fits same =
    let env = walk.environment in
    let is = set_is env r.rows rows set in
    let unknown = is_none (set_named env r.rows) || is_unknown_set env r.columns in
    let visible = is_visible walk r.name in
    let fault = first_kind ((kind.Unknown, unknown) ∷ (kind.Twice, visible) ∷ unfit r) in
    then_is (unless fault (block_rule_up_to MOST_SCALE r.block)) (λ type. Ok (system_type env r type)) (type.Local shape scale) (Ok t)
    (unless_more fault (block_rule_up_to MOST_SCALE r.block) (type.Local shape scale)
    (first_none kind.Unknown unknown ((kind.Twice, visible) ∷ unfit r)
    (or_from (is_none (set_named env r.rows)) (is_unknown_set env r.columns) (ap is_none is) (ap (is_unknown_set env) columns_are ∙ known))
    (first_none kind.Twice visible (unfit r) (known_not (meaning_of env.names r.name) new)
    (first_none kind.Shape (not (is_block_of r.columns r.block)) []
    (not_from_true (is_block_of r.columns r.block) (ap (λ c. is_block_of c r.block) columns_are ∙ fits)) refl)))
    (only_block MOST_SCALE r.block shape scale is_block))
    (ap (λ o. Ok (over_sets (number_of o) (numbered env r.columns) shape scale)) is ∙ ap (λ c. Ok (over_sets rows (numbered env c) shape scale)) columns_are
    ∙ ap (λ q. Ok q) same)

only_result : (walk : Walk) (r : ResultDecl) (t : NodeType) → IsResult walk.environment r t → IsNew walk r.name → result_rule walk r ≡ Ok t
only_result walk r t (IsResult.vector_result q rows shape scale none set is_block fits) new =
    only_shape walk q shape scale rows set None (type.SystemVector rows shape scale) none new is_block refl (vector_fits MOST_SCALE q.block shape scale is_block fits) refl
only_result walk r t (IsResult.matrix_result q name rows columns shape scale some set others is_block fits) new =
    let is = set_is walk.environment name columns others in
    only_shape walk q shape scale rows set (Some name) (type.SystemMatrix rows columns shape scale) some new is_block (ap is_none is)
    (matrix_fits name MOST_SCALE q.block shape scale is_block fits) (ap (λ o. type.SystemMatrix rows (number_of o) shape scale) is)

length_more : (before : List NodeType) (t : NodeType) → length (before ++ t ∷ []) ≡ suc (length before)
length_more [] t = refl
length_more (s ∷ before) t = ap suc (length_more before t)

pub results_typed : (rs : List ResultDecl) (before : List NodeType) (walk : Walk) (done : Results) → fold_result with_result (before, walk) rs ≡ Ok done
    → (types : List NodeType) × AreResults (length before) rs types walk done.1 × (done.0 ≡ before ++ types)
unfolding with_result
results_typed [] before walk done is =
    let same = same_Ok (before, walk) done is in (
      [],
      subst (λ d. AreResults (length before) [] [] walk d.1) same (AreResults.none (length before) walk),
      ap (λ d. d.0) (sym same) ∙ sym (append-nil before),
    )
results_typed (r ∷ rs) before walk done is =
    let a = and_then (with_result (before, walk) r) (λ next. fold_result with_result next rs) done is in
    let l = at_line_then r.line (result_rule walk r) (λ t. Ok (before ++ t ∷ [], naming walk r.name (meaning.Result (length before) t))) a.0 a.1 in
    let t = result_typed walk r l.0 l.1 in
    let named = naming walk r.name (meaning.Result (length before) l.0) in
    let rest = results_typed rs (before ++ l.0 ∷ []) named done (ap (λ n. fold_result with_result n rs) (same_Ok (before ++ l.0 ∷ [], named) a.0 l.2) ∙ a.2) in (
      l.0 ∷ rest.0,
      AreResults.one_more (length before) r rs l.0 rest.0 walk done.1 t.0 t.1 (subst (λ n. AreResults n rs rest.0 named done.1) (length_more before l.0) rest.1),
      rest.2 ∙ append_assoc before (l.0 ∷ []) rest.0,
    )

pub only_results : (number : ℕ) (rs : List ResultDecl) (types : List NodeType) (walk after : Walk) → AreResults number rs types walk after
    → (before : List NodeType) → length before ≡ number → fold_result with_result (before, walk) rs ≡ Ok (before ++ types, after)
unfolding with_result
only_results number rs types walk after (AreResults.none n here) before long = ap (λ l. Ok (l, here)) (sym (append-nil before))
only_results number rs types walk after (AreResults.one_more n r rs' t types' here end is new rest) before long =
    let named = naming here r.name (meaning.Result n t) in
    then_is (with_result (before, here) r) (λ next. fold_result with_result next rs') (before ++ t ∷ [], named) _
    (at_line_and r.line (result_rule here r) (λ t. Ok (before ++ t ∷ [], naming here r.name (meaning.Result (length before) t))) t _ (only_result here r t is new)
    (ap (λ k. Ok (before ++ t ∷ [], naming here r.name (meaning.Result k t))) long))
    (only_results (suc n) rs' types' named end rest (before ++ t ∷ []) (length_more before t ∙ ap suc long)
    ∙ ap (λ l. Ok (l, end)) (append_assoc before (t ∷ []) types'))

pub results_extend : (number : ℕ) (rs : List ResultDecl) (types : List NodeType) (walk after : Walk) → AreResults number rs types walk after → Extends walk after
results_extend number rs types walk after (AreResults.none n here) = stays here
results_extend number rs types walk after (AreResults.one_more n r rs' t types' here end is new rest) =
    let named = naming here r.name (meaning.Result n t) in
    extends_on here named end (naming_extends here r.name (meaning.Result n t) new) (results_extend (suc n) rs' types' named end rest)
