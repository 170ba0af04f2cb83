-- Element types: what the definition answers is a typing, and each typing is what it answers.
use Rattle.std.proofs.Common.{◌≡◌, ℕ, suc, zero, ◌+◌, ◌==◌, ◌<◌, ◌≤◌, Bool, true, false, ◌||◌, nat_lt, if◌then◌else◌, List, [], ◌∷◌, ◌++◌, length, map, codes, Some, None, Ok, refl, sym, ap, subst, ◌∙◌, append_assoc}
use Rattle.std.proofs.lemmas.List.{append-nil, map-append}
use Rattle.std.proofs.lemmas.Bool.{ltb-false, le-ltb, eqb-false, eqb-true, or_from, false_from_ne_true}
use Rattle.std.proofs.lemmas.Slice.Eq.{bytes_eq-Decides}
use Rattle.std.specs.List.{list_any, range_with_len}
use Rattle.std.specs.Str.{bytes_eq}
use native.Mathlib.Omega.{arith}
use Rattle.vocabulary.specs.Answers.{◌>>=◌, fold_result}
use Rattle.vocabulary.specs.declared.limits.TheConstants.{MOST_ENDPOINTS, MOST_FIELD_SCALE, MOST_FIELDS}
use Rattle.host_table.specs.declared.table.HostName.{HostName}
use Rattle.sim_syntax.specs.declared.declaration.Decl.TheVariants as decl
use Rattle.sim_syntax.specs.declared.declaration.Field.{Field}
use Rattle.type_rules.specs.Types.{scale_of}
use Rattle.type_rules.specs.declared.types.BlockShape.{BlockShape}
use Rattle.type_rules.specs.declared.types.NodeType.{NodeType}
use Rattle.type_rules.specs.declared.types.TypeKind.TheVariants as kind
use Rattle.typed_tree.specs.declared.environment.Walk.{Walk}
use Rattle.typed_tree.specs.declared.names.Meaning.{Meaning}
use Rattle.typed_tree.specs.declared.names.Meaning.TheVariants as meaning
use Rattle.typed_tree.specs.declared.program.TypedField.{TypedField}
use Rattle.typed_tree.specs.Names.{Known, Name, meaning_of, is_known, with_meaning}
use Rattle.typed_tree.specs.Steps.{at_line}
use Rattle.typed_tree.specs.Walking.{is_visible}
use Rattle.typed_tree.specs.Declarations.{Fields, block_in, block_rule_up_to, element_decl, element_fault, endpoint_column, faultless, field_rule, is_reserved, taken, unless, with_element, with_field}
use Rattle.typing_laws.specs.Scopes.{IsNew}
use Rattle.typing_laws.specs.Declarations.{IsBlock, IsFree, IsNewField, AreFields, IsDeclaration}
use Rattle.typing_laws.proofs.Steps.{same_Ok, and_then, then_is}
use Rattle.typing_laws.proofs.NoFault.{none_first, first_none, none_either}
use Rattle.typing_laws.proofs.ScopeFacts.{new_goes_last, not_known, known_not, at_line_then, at_line_and}
use Rattle.typing_laws.proofs.DeclarationBlocks.{unless_split, unless_more, faultless_split, block_typed, only_block}

-- ---- names

differs : (b : Bool) → b ≡ true → b ≡ false → ⊥
differs b is other = cc

pub same_bytes : (xs ys : List ℕ) → bytes_eq xs ys ≡ false → xs ≡ ys → ⊥
same_bytes xs ys other same = differs (bytes_eq xs ys) ((bytes_eq-Decides xs ys).1 same) other

pub other_bytes : (xs ys : List ℕ) → (xs ≡ ys → ⊥) → bytes_eq xs ys ≡ false
other_bytes xs ys other = false_from_ne_true (bytes_eq xs ys) (λ same. other ((bytes_eq-Decides xs ys).0 same))

pub taken_split : (b : Bool) → taken b ≡ None → b ≡ false
taken_split true is = absurd (cc)
taken_split false is = refl

abbrev entry : TypedField → Name × Meaning
entry f = (f.name, meaning.Taken)

abbrev named : List TypedField → Known
named fields = map entry fields

new_field : (before : List TypedField) (name : Name) → IsNewField before name → meaning_of (named before) name ≡ None
new_field [] name new = refl
new_field (f ∷ before) name new =
    ap (λ b. if b then Some meaning.Taken else meaning_of (named before) name) (other_bytes f.name name new.0) ∙ new_field before name new.1

is_new_field : (before : List TypedField) (name : Name) → meaning_of (named before) name ≡ None → IsNewField before name
is_new_field [] name is = tt
is_new_field (f ∷ before) name is = by_test (bytes_eq f.name name) refl is (is_new_field before name)
  where
    by_test : (b : Bool) → bytes_eq f.name name ≡ b → (if b then Some meaning.Taken else meaning_of (named before) name) ≡ None
        → (meaning_of (named before) name ≡ None → IsNewField before name) → IsNewField (f ∷ before) name
    by_test true test answers rest = absurd (cc)
    by_test false test answers rest = (same_bytes f.name name test, rest answers)

-- ---- a table's own columns

none_in : (test : ℕ → Bool) (from n : ℕ) → list_any test (range_with_len from n) ≡ false → (p : ℕ) → from ≤ p → p < from + n → test p ≡ false
none_in test from zero is p low high = absurd (omega arith)
none_in test from (suc n) is p low high =
    let parts = none_either (test from) (list_any test (range_with_len (from + 1) n)) is in
    by_test (p == from) refl parts.0 (none_in test (from + 1) n parts.1 p)
  where
    later : (p == from) ≡ false → from + 1 ≤ p
    later test = let other = eqb-false p from test in omega (arith, other)

    by_test : (b : Bool) → (p == from) ≡ b → test from ≡ false → (from + 1 ≤ p → p < from + 1 + n → test p ≡ false) → test p ≡ false
    by_test true same here rest = ap test (eqb-true p from same) ∙ here
    by_test false other here rest = rest (later other) (omega arith)

in_none : (test : ℕ → Bool) (from n : ℕ) → ((p : ℕ) → from ≤ p → p < from + n → test p ≡ false) → list_any test (range_with_len from n) ≡ false
in_none test from zero none = refl
in_none test from (suc n) none =
    or_from (test from) (list_any test (range_with_len (from + 1) n)) (none from (omega arith) (omega arith))
    (in_none test (from + 1) n (λ p low high. none p (omega arith) (omega arith)))

free_split : (name : Name) → is_reserved name ≡ false → IsFree name
free_split name is =
    let test : ℕ → Bool = λ position. bytes_eq name (endpoint_column position) in
    let parts = none_either (bytes_eq name (codes "key")) (list_any test (range_with_len 0 MOST_ENDPOINTS)) is in
    record {
      key = same_bytes name (codes "key") parts.0;
      endpoints = λ position below. same_bytes name (endpoint_column position) (none_in test 0 MOST_ENDPOINTS parts.1 position (omega arith) (omega arith));
    }

free_is : (name : Name) → IsFree name → is_reserved name ≡ false
free_is name free =
    let test : ℕ → Bool = λ position. bytes_eq name (endpoint_column position) in
    or_from (bytes_eq name (codes "key")) (list_any test (range_with_len 0 MOST_ENDPOINTS)) (other_bytes name (codes "key") free.key)
    (in_none test 0 MOST_ENDPOINTS (λ position low high. other_bytes name (endpoint_column position) (free.endpoints position (omega arith))))

-- ---- fields

abbrev field_of : Name → BlockShape → ℕ → TypedField
field_of name block scale = record { name = name; block = block; scale = scale }

abbrev field_from : Name → NodeType → TypedField
field_from name type = field_of name (block_in type) (scale_of type)

field_typed : (before : List TypedField) (field : Field) (f : TypedField) → field_rule (named before) field ≡ Ok f
    → (block : BlockShape) × (scale : ℕ) × IsNewField before field.name × IsFree field.name × IsBlock MOST_FIELD_SCALE field.local block scale
    × (field_of field.name block scale ≡ f)
unfolding field_rule
field_typed before field f is =
    let known = is_known (named before) field.name in
    let fault = taken (known || is_reserved field.name) in
    let rule = block_rule_up_to MOST_FIELD_SCALE field.local in
    let a = and_then (unless fault rule) (λ type. Ok (field_from field.name type)) f is in
    let u = unless_split fault rule a.0 a.1 in
    let b = block_typed MOST_FIELD_SCALE field.local a.0 u.1 in
    let parts = none_either known (is_reserved field.name) (taken_split (known || is_reserved field.name) u.0) in (
      b.shape,
      b.scale,
      is_new_field before field.name (not_known (meaning_of (named before) field.name) parts.0),
      free_split field.name parts.1,
      b.is_block,
      ap (field_from field.name) b.same ∙ same_Ok (field_from field.name a.0) f a.2,
    )

only_field : (before : List TypedField) (field : Field) (block : BlockShape) (scale : ℕ)
    → IsNewField before field.name → IsFree field.name → IsBlock MOST_FIELD_SCALE field.local block scale
    → field_rule (named before) field ≡ Ok (field_of field.name block scale)
unfolding field_rule
only_field before field block scale new free is_block =
    let known = is_known (named before) field.name in
    let rule = block_rule_up_to MOST_FIELD_SCALE field.local in
    let none : taken (known || is_reserved field.name) ≡ None =
    ap taken (or_from known (is_reserved field.name) (known_not (meaning_of (named before) field.name) (new_field before field.name new)) (free_is field.name free)) in
    ap (λ r. r >>= λ type. Ok (field_from field.name type))
    (unless_more (taken (known || is_reserved field.name)) rule _ none (only_block MOST_FIELD_SCALE field.local block scale is_block))

goes_on : (before : List TypedField) (f : TypedField) → IsNewField before f.name → with_meaning (named before) f.name meaning.Taken ≡ named (before ++ f ∷ [])
goes_on before f new = new_goes_last (named before) f.name meaning.Taken (new_field before f.name new) ∙ sym (map-append entry before (f ∷ []))

fields_typed : (fields : List Field) (before : List TypedField) (done : Fields) → fold_result with_field (before, named before) fields ≡ Ok done
    → (others : List TypedField) × AreFields before fields others × (done.0 ≡ before ++ others)
unfolding with_field
fields_typed [] before done is =
    ([], AreFields.none before, ap (λ d. d.0) (sym (same_Ok (before, named before) done is)) ∙ sym (append-nil before))
fields_typed (field ∷ fields) before done is =
    let a = and_then (with_field (before, named before) field) (λ next. fold_result with_field next fields) done is in
    let l = at_line_then field.line (field_rule (named before) field) (λ f. Ok (before ++ f ∷ [], with_meaning (named before) field.name meaning.Taken)) a.0 a.1 in
    let f = field_typed before field l.0 l.1 in
    let made = field_of field.name f.0 f.1 in
    let next : (before ++ made ∷ [], named (before ++ made ∷ [])) ≡ a.0 =
    ap (λ k. (before ++ made ∷ [], k)) (sym (goes_on before made f.2))
    ∙ ap (λ g. (before ++ g ∷ [], with_meaning (named before) field.name meaning.Taken)) f.5
    ∙ same_Ok (before ++ l.0 ∷ [], with_meaning (named before) field.name meaning.Taken) a.0 l.2 in
    let rest = fields_typed fields (before ++ made ∷ []) done (ap (λ n. fold_result with_field n fields) next ∙ a.2) in
    (made ∷ rest.0, AreFields.one_more before field fields f.0 f.1 rest.0 f.2 f.3 f.4 rest.1, rest.2 ∙ append_assoc before (made ∷ []) rest.0)

only_fields : (before : List TypedField) (fields : List Field) (others : List TypedField) → AreFields before fields others
    → fold_result with_field (before, named before) fields ≡ Ok (before ++ others, named (before ++ others))
unfolding with_field
only_fields before fields others (AreFields.none b) = ap (λ l. Ok (l, named l)) (sym (append-nil b))
only_fields before fields others (AreFields.one_more b field fs block scale os new free is_block rest) =
    let made = field_of field.name block scale in
    then_is (with_field (b, named b) field) (λ n. fold_result with_field n fs) (b ++ made ∷ [], named (b ++ made ∷ [])) _
    (at_line_and field.line (field_rule (named b) field) (λ f. Ok (b ++ f ∷ [], with_meaning (named b) field.name meaning.Taken)) made _
    (only_field b field block scale new free is_block) (ap (λ k. Ok (b ++ made ∷ [], k)) (goes_on b made new)))
    (only_fields (b ++ made ∷ []) fs os rest ∙ ap (λ l. Ok (l, named l)) (append_assoc b (made ∷ []) os))

-- ---- element types

pub element_typed : (hosts : List HostName) (line : ℕ) (name : Name) (fields : List Field) (walk after : Walk) → element_decl line name fields walk ≡ Ok after
    → IsDeclaration hosts (decl.Element line name fields) walk after
unfolding element_decl element_fault with_element
element_typed hosts line name fields walk after is =
    let visible = is_visible walk name in
    let a = and_then (fold_result with_field ([], []) fields)
    (λ fs. at_line line (faultless (element_fault visible (length fs.0))) >>= λ u. Ok (with_element walk name fs.0)) after is in
    let l = at_line_then line (faultless (element_fault visible (length a.0.0))) (λ u. Ok (with_element walk name a.0.0)) after a.2 in
    let f = fields_typed fields [] a.0 a.1 in
    let t = none_first kind.Twice visible ((kind.TooLarge, nat_lt MOST_FIELDS (length a.0.0)) ∷ []) (faultless_split (element_fault visible (length a.0.0)) l.0 l.1) in
    let few = none_first kind.TooLarge (nat_lt MOST_FIELDS (length a.0.0)) [] t.1 in
    subst (λ w. IsDeclaration hosts (decl.Element line name fields) walk w) (ap (with_element walk name) (sym f.2) ∙ same_Ok (with_element walk name a.0.0) after l.2)
    (IsDeclaration.element_type line name fields f.0 walk f.1 (subst (λ fs. length fs ≤ MOST_FIELDS) f.2 (ltb-false MOST_FIELDS (length a.0.0) few.0))
    (not_known (meaning_of walk.environment.names name) t.0))

pub only_element : (line : ℕ) (name : Name) (fields : List Field) (typed : List TypedField) (walk : Walk)
    → AreFields [] fields typed → length typed ≤ MOST_FIELDS → IsNew walk name → element_decl line name fields walk ≡ Ok (with_element walk name typed)
unfolding element_decl element_fault
only_element line name fields typed walk are few new =
    let visible = is_visible walk name in
    then_is (fold_result with_field ([], []) fields)
    (λ fs. at_line line (faultless (element_fault visible (length fs.0))) >>= λ u. Ok (with_element walk name fs.0)) (typed, named typed) _
    (only_fields [] fields typed are)
    (at_line_and line (faultless (element_fault visible (length typed))) (λ u. Ok (with_element walk name typed)) tt _
    (ap faultless (first_none kind.Twice visible ((kind.TooLarge, nat_lt MOST_FIELDS (length typed)) ∷ []) (known_not (meaning_of walk.environment.names name) new)
    (first_none kind.TooLarge (nat_lt MOST_FIELDS (length typed)) [] (le-ltb MOST_FIELDS (length typed) few) refl))) refl)
