-- What typing keeps of element types and sets.
use Rattle.std.proofs.Common.{◌≡◌, ℕ, zero, suc, ◌+◌, ◌<◌, ◌≤◌, ◌⊎◌, inl, inr, Bool, true, false, if◌then◌else◌, List, [], ◌∷◌, ◌++◌, length, Option, Some, None, refl, sym, ap, subst, ◌∙◌, arith, length-append}
use Rattle.std.specs.Prelude.{◌↔◌, All, IfSome, IsNone, slice_get}
use Rattle.std.specs.Str.{bytes_eq}
use Rattle.std.proofs.lemmas.List.Elements.{All-cons, All-nil}
use Rattle.std.proofs.lemmas.Option.{slice_get_within}
use Rattle.vocabulary.specs.declared.limits.TheConstants.{MOST_COLUMNS, MOST_ENDPOINTS, MOST_FIELD_SCALE, MOST_SETS}
use Rattle.sim_syntax.specs.declared.declaration.Field.{Field}
use Rattle.sim_syntax.specs.declared.declaration.Local.{Local}
use Rattle.type_rules.specs.declared.types.BlockShape.{BlockShape}
use Rattle.typed_tree.specs.declared.names.Meaning.{Meaning}
use Rattle.typed_tree.specs.declared.names.Meaning.TheVariants as meaning
use Rattle.typed_tree.specs.declared.program.ElementType.{ElementType}
use Rattle.typed_tree.specs.declared.program.TypedField.{TypedField}
use Rattle.typed_tree.specs.declared.program.TypedSet.{TypedSet}
use Rattle.typed_tree.specs.Names.{Known, Name, meaning_of, with_meaning}
use Rattle.typed_tree.specs.Lookups.{fields_at}
use Rattle.typed_tree.specs.Declarations.{columns_of}
use Rattle.typing_laws.specs.Declarations.{AreFields, IsBlock}
use Rattle.block_types.specs.WellDeclared.{arity_in}

-- ---- lists that grow by one

pub get_left : {X : Type 0} (xs ys : List X) (i : ℕ) → i < length xs → slice_get (xs ++ ys) i ≡ slice_get xs i
get_left [] ys i within = absurd (omega arith)
get_left (x ∷ xs) ys zero within = refl
get_left (x ∷ xs) ys (suc i) within = get_left xs ys i (omega arith)

-- what the grown list has, the list had, or it is what was added
pub get_pushed : {X : Type 0} (xs : List X) (new : X) (i : ℕ) (found : X) → slice_get (xs ++ new ∷ []) i ≡ Some found
    → (slice_get xs i ≡ Some found) ⊎ ((i ≡ length xs) × (new ≡ found))
get_pushed [] new zero found is = inr (refl, cc)
get_pushed [] new (suc i) found is = absurd (cc)
get_pushed (x ∷ xs) new zero found is = inl is
get_pushed (x ∷ xs) new (suc i) found is = elim (get_pushed xs new i found is) [
  | inl there ↦ inl there
  | inr last ↦ inr (ap suc last.0, last.1)
]

-- ---- names

-- the first entry is the one that has a new meaning, or stays
replaced : (asked : Bool) (was new found : Meaning) (rest : Option Meaning) → (if asked then Some new else rest) ≡ Some found
    → ((if asked then Some was else rest) ≡ Some found) ⊎ (new ≡ found)
replaced true was new found rest is = inr (cc)
replaced false was new found rest is = inl is

stays : (asked : Bool) (was new found : Meaning) (rest later : Option Meaning) → (if asked then Some was else later) ≡ Some found
    → (later ≡ Some found → (rest ≡ Some found) ⊎ (new ≡ found)) → ((if asked then Some was else rest) ≡ Some found) ⊎ (new ≡ found)
stays true was new found rest later is next = inl is
stays false was new found rest later is next = next is

-- what a name stands for once a name has a new meaning: what it stood for before, or that
pub meaning_after : (known : Known) (name : Name) (new : Meaning) (other : Name) (found : Meaning) → meaning_of (with_meaning known name new) other ≡ Some found
    → (meaning_of known other ≡ Some found) ⊎ (new ≡ found)
meaning_after [] name new other found is = by_test (bytes_eq name other) is
  where
    by_test : (asked : Bool) → (if asked then Some new else None) ≡ Some found → (None ≡ Some found) ⊎ (new ≡ found)
    by_test true holds = inr (cc)
    by_test false holds = absurd (cc)
meaning_after (entry ∷ known) name new other found is = by_test (bytes_eq entry.0 name) is (meaning_after known name new other found)
  where
    by_test : (same : Bool) → meaning_of (if same then (entry.0, new) ∷ known else entry ∷ with_meaning known name new) other ≡ Some found
        → (meaning_of (with_meaning known name new) other ≡ Some found → (meaning_of known other ≡ Some found) ⊎ (new ≡ found))
        → (meaning_of (entry ∷ known) other ≡ Some found) ⊎ (new ≡ found)
    by_test true holds next = replaced (bytes_eq entry.0 other) entry.1 new found (meaning_of known other) holds
    by_test false holds next = stays (bytes_eq entry.0 other) entry.1 new found (meaning_of known other) (meaning_of (with_meaning known name new) other) holds next

-- the element types that names stand for are declared
pub record AreInRange (names : Known) (elements : List ElementType) : Type 0 where
  pub each : (name : Name) (element : ℕ) → meaning_of names name ≡ Some (meaning.Element element) → element < length elements

-- another name stands for the next element type
pub with_element_name : (names : Known) (elements : List ElementType) (name : Name) (new : ElementType) → AreInRange names elements
    → AreInRange (with_meaning names name (meaning.Element (length elements))) (elements ++ new ∷ [])
with_element_name names elements name new known = record {
  each = λ other element is.
      let more : length (elements ++ new ∷ []) ≡ suc (length elements) = simp length-append (omega arith) in
      elim (meaning_after names name (meaning.Element (length elements)) other (meaning.Element element) is) [
        | inl there ↦ let below : element < length elements = known.each other element there in omega (arith, more)
        | inr this ↦ let same : length elements ≡ element = cc in omega (arith, more)
      ];
}

-- another name stands for something else
pub with_other_name : (names : Known) (elements : List ElementType) (name : Name) (new : Meaning) → ((element : ℕ) → new ≡ meaning.Element element → ⊥)
    → AreInRange names elements → AreInRange (with_meaning names name new) elements
with_other_name names elements name new other known = record {
  each = λ asked element is. elim (meaning_after names name new asked (meaning.Element element) is) [
    | inl there ↦ known.each asked element there
    | inr this ↦ absurd (other element this)
  ];
}

-- ---- fields

abbrev pub AreSmall : List TypedField → Type 0
AreSmall fields = All (λ field. field.scale ≤ MOST_FIELD_SCALE) fields

scale_within : (most : ℕ) (block : Local) (shape : BlockShape) (scale : ℕ) → IsBlock most block shape scale → scale ≤ most
scale_within most block shape scale (IsBlock.number_block line digits n is) = is.1
scale_within most block shape scale (IsBlock.vector_block line side digits m n size is) = is.1
scale_within most block shape scale (IsBlock.matrix_block line rows columns digits m k n row_size column_size is) = is.1

pub fields_small : (before : List TypedField) (fields : List Field) (typed : List TypedField) → AreFields before fields typed → AreSmall typed
fields_small before fields typed (AreFields.none b) = All-nil (λ (f : TypedField). f.scale ≤ MOST_FIELD_SCALE)
fields_small before fields typed (AreFields.one_more b field rest block scale others new free is next) =
    All-cons (λ (f : TypedField). f.scale ≤ MOST_FIELD_SCALE) (record { name = field.name; block = block; scale = scale }) others
    (scale_within MOST_FIELD_SCALE field.local block scale is) (fields_small _ rest others next)

-- ---- sets

-- a set of a number, with its element type and the set that it lies over among these
pub record IsKept (elements : List ElementType) (sets : List TypedSet) (number : ℕ) (set : TypedSet) : Type 0 where
  pub in_range : set.shape.element < length elements
  pub few_endpoints : set.shape.arity ≤ MOST_ENDPOINTS
  pub over_none : IsNone set.shape.over ↔ (set.shape.arity ≡ 0)
  pub over_earlier : IfSome set.shape.over (λ earlier. (earlier < number) × (arity_in (slice_get sets earlier) ≡ 0))
  pub few_columns : set.shape.arity + columns_of (fields_at (slice_get elements set.shape.element)) ≤ MOST_COLUMNS

pub record AreKept (elements : List ElementType) (sets : List TypedSet) : Type 0 where
  pub scales : (element : ℕ) → AreSmall (fields_at (slice_get elements element))
  pub few_sets : length sets ≤ MOST_SETS
  pub each : (number : ℕ) (set : TypedSet) → slice_get sets number ≡ Some set → IsKept elements sets number set

pub none_kept : AreKept [] []
none_kept = record {
  scales = λ element k d within. absurd (omega arith);
  few_sets = omega arith;
  each = λ number set is. absurd (cc);
}

-- another element type
pub with_element_kept : (elements : List ElementType) (sets : List TypedSet) (new : ElementType) → AreKept elements sets → AreSmall new.fields
    → AreKept (elements ++ new ∷ []) sets
with_element_kept elements sets new kept small = record {
  scales = λ element. by_found element (slice_get (elements ++ new ∷ []) element) refl;
  few_sets = kept.few_sets;
  each = λ number set is.
      let k = kept.each number set is in
      let more : length (elements ++ new ∷ []) ≡ suc (length elements) = simp length-append (omega arith) in
      let within : set.shape.element < length elements = k.in_range in
      record {
        in_range = omega (arith, more);
        few_endpoints = k.few_endpoints;
        over_none = k.over_none;
        over_earlier = k.over_earlier;
        few_columns = subst (λ o. set.shape.arity + columns_of (fields_at o) ≤ MOST_COLUMNS) (sym (get_left elements (new ∷ []) set.shape.element within)) k.few_columns;
      };
}
  where
    by_found : (element : ℕ) (found : Option ElementType) → slice_get (elements ++ new ∷ []) element ≡ found → AreSmall (fields_at found)
    by_found element None is = λ k d within. absurd (omega arith)
    by_found element (Some e) is = elim (get_pushed elements new element e is) [
      | inl there ↦ subst (λ o. AreSmall (fields_at o)) there (kept.scales element)
      | inr last ↦ subst (λ x. AreSmall x.fields) last.1 small
    ]

-- the set that a set lies over stays as it is
over_stays : (sets : List TypedSet) (new : TypedSet) (number : ℕ) (over : Option ℕ) → number ≤ length sets
    → IfSome over (λ earlier. (earlier < number) × (arity_in (slice_get sets earlier) ≡ 0))
    → IfSome over (λ earlier. (earlier < number) × (arity_in (slice_get (sets ++ new ∷ []) earlier) ≡ 0))
over_stays sets new number None within lies = tt
over_stays sets new number (Some earlier) within lies =
    let below : earlier < number = lies.0 in
    (below, ap arity_in (get_left sets (new ∷ []) earlier (omega arith)) ∙ lies.1)

set_stays : (elements : List ElementType) (sets : List TypedSet) (new : TypedSet) (number : ℕ) (set : TypedSet) → number ≤ length sets
    → IsKept elements sets number set → IsKept elements (sets ++ new ∷ []) number set
set_stays elements sets new number set within k = record {
  in_range = k.in_range;
  few_endpoints = k.few_endpoints;
  over_none = k.over_none;
  over_earlier = over_stays sets new number set.shape.over within k.over_earlier;
  few_columns = k.few_columns;
}

-- another set
pub with_set_kept : (elements : List ElementType) (sets : List TypedSet) (new : TypedSet) → AreKept elements sets → length sets < MOST_SETS
    → IsKept elements sets (length sets) new → AreKept elements (sets ++ new ∷ [])
with_set_kept elements sets new kept room k = record {
  scales = kept.scales;
  few_sets = let more : length (sets ++ new ∷ []) ≡ suc (length sets) = simp length-append (omega arith) in omega (arith, more);
  each = λ number set is. elim (get_pushed sets new number set is) [
    | inl there ↦
        let within : number < length sets = slice_get_within sets number set there in
        set_stays elements sets new number set (omega arith) (kept.each number set there)
    | inr last ↦ set_stays elements sets new number set (omega (arith, last.0)) (subst (λ s. IsKept elements sets number s) last.1 (subst (λ n. IsKept elements sets n new) (sym last.0) k))
  ];
}
