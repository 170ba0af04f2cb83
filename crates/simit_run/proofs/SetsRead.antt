-- The sets that were read so far, and another.
use Rattle.std.proofs.Common.{◌≡◌, ◌≤◌, ◌<◌, ◌+◌, ℕ, List, [], ◌∷◌, ◌++◌, length, map, get_or, Option, None, Some, refl, sym, ap, ◌∙◌, subst, arith, inl, inr, length-append}
use Rattle.std.specs.Prelude.{All, IfSome}
use Rattle.std.specs.List.{range_with_len}
use Rattle.std.proofs.lemmas.Bool.{cases_eq}
use Rattle.std.proofs.lemmas.List.{get_or_append_left, get_or_push}
use Rattle.std.proofs.lemmas.List.FromFn.{get_or-map-range_with_len, length-map-range_with_len, map-range_with_len_more}
use Rattle.vocabulary.specs.declared.limits.TheConstants.{MOST_COLUMNS}
use Rattle.hypergraph.specs.SetValue.{SetValue, EndpointsBelow}
use Rattle.hypergraph.specs.Sets.{AllLieOverEarlier, count_over, empty_set, set_at}
use Rattle.typed_tree.specs.Declarations.{columns_of}
use Rattle.typed_tree.specs.declared.program.TypedProgram.{TypedProgram}
use Rattle.block_types.specs.Readings.{over, set_fields}
use Rattle.block_types.specs.WellDeclared.{WellDeclared, arity}
use Rattle.run_laws.specs.Shapes.{DifferInWords}
use Rattle.set_tables.specs.Schema.{IsSchema}
use Rattle.set_tables.specs.declared.schema.Schema.{Schema}
use Rattle.write_back.specs.Schemas.{schema_of}
use Rattle.simit_run.specs.Output.{schemas_of}
use Rattle.simit_run.specs.TableContracts.{AreRead, HaveTables, IsAsDeclared, IsRead, IsReadable, IsRunnable, SetsFit}
use Rattle.simit_run.specs.Schemas.{schema_at}

-- the sets before the last are as they were
before_last : (sets : List SetValue) (set : SetValue) (number : ℕ) → number < length sets → set_at (sets ++ set ∷ []) number ≡ set_at sets number
before_last sets set number l = get_or_append_left sets (set ∷ []) empty_set number l

last : (sets : List SetValue) (set : SetValue) → set_at (sets ++ set ∷ []) (length sets) ≡ set
last sets set = get_or_push sets set empty_set (length sets) refl

-- so is how many elements they have
same_count : (sets : List SetValue) (set : SetValue) (over : Option ℕ) → IfSome over (λ o. o < length sets) → count_over (sets ++ set ∷ []) over ≡ count_over sets over
same_count sets set None l = refl
same_count sets set (Some o) l = ap (λ (s : SetValue). s.count) (before_last sets set o l)

-- what lies over an earlier set lies over one of those before
earlier-in : (program : TypedProgram) (over : Option ℕ) (number n : ℕ) → number ≤ n → IfSome over (λ o. (o < number) × (arity program o ≡ 0)) → IfSome over (λ o. o < n)
earlier-in program None number n l h = tt
earlier-in program (Some o) number n l h = let less : o < number = h.0 in omega arith

-- a set that stays, and over which nothing changes, stays read
read-same : (program : TypedProgram) (sets sets' : List SetValue) (number : ℕ) (set : SetValue) → set_at sets' number ≡ set → count_over sets' set.over ≡ count_over sets set.over
    → IsAsDeclared program number set → EndpointsBelow set (count_over sets set.over) → IsRead program sets' number
read-same program sets sets' number set same count declared below = record {
  declared = subst (λ (s : SetValue). IsAsDeclared program number s) (sym same) declared;
  endpoints_below = subst (λ (s : SetValue). EndpointsBelow s (count_over sets' s.over)) (sym same) (subst (λ (n : ℕ). EndpointsBelow set n) (sym count) below);
}

-- so many elements as before, in the set over which a declared one lies
count-kept : (program : TypedProgram) (sets : List SetValue) (set more : SetValue) (number : ℕ) → WellDeclared program → number ≤ length sets → number < length program.sets
    → IsAsDeclared program number set → count_over (sets ++ more ∷ []) set.over ≡ count_over sets set.over
count-kept program sets set more number formed few in' declared =
    same_count sets more set.over
    (subst (λ (o : Option ℕ). IfSome o (λ n. n < length sets)) (sym declared.same_over)
    (earlier-in program (over program number) number (length sets) few (formed.each number in').over_earlier))

-- another set
pub are_read-push : (program : TypedProgram) (sets : List SetValue) (set : SetValue) → WellDeclared program → AreRead program sets → length sets < length program.sets
    → IsAsDeclared program (length sets) set → EndpointsBelow set (count_over sets (over program (length sets))) → AreRead program (sets ++ set ∷ [])
are_read-push program sets set formed read in' declared below = record {
  few = omega (arith, length-append sets (set ∷ []));
  each = λ number l. by number (omega (arith, length-append sets (set ∷ [])));
}
  where
    old : (number : ℕ) → number < length sets → IsRead program (sets ++ set ∷ []) number
    old number l =
        let was = read.each number l in
        let few = read.few in
        read-same program sets (sets ++ set ∷ []) number (set_at sets number) (before_last sets set number l)
        (count-kept program sets (set_at sets number) set number formed (omega arith) (omega arith) was.declared) was.declared was.endpoints_below

    new : IsRead program (sets ++ set ∷ []) (length sets)
    new =
        read-same program sets (sets ++ set ∷ []) (length sets) set (last sets set)
        (count-kept program sets set set (length sets) formed (omega arith) in' declared) declared
        (subst (λ (o : Option ℕ). EndpointsBelow set (count_over sets o)) (sym declared.same_over) below)

    by : (number : ℕ) → number < length sets + 1 → IsRead program (sets ++ set ∷ []) number
    by number l = elim (cases_eq number (length sets)) [
      | inl e ↦ subst (λ (n : ℕ). IsRead program (sets ++ set ∷ []) n) (sym e) new
      | inr ne ↦ old number (omega arith)
    ]

-- the set over which one lies has no endpoints
over-vertices : (program : TypedProgram) (sets : List SetValue) (number : ℕ) (over : Option ℕ) → AreRead program sets → number < length sets
    → IfSome over (λ o. (o < number) × (arity program o ≡ 0)) → IfSome over (λ o. (o < number) × ((set_at sets o).arity ≡ 0))
over-vertices program sets number None read within h = tt
over-vertices program sets number (Some o) read within h =
    let less : o < number = h.0 in
    (less, (read.each o (omega arith)).declared.same_arity ∙ h.1)

-- sets that were read lie over earlier ones
pub over-earlier : (program : TypedProgram) (sets : List SetValue) → WellDeclared program → AreRead program sets → AllLieOverEarlier sets
over-earlier program sets formed read number within =
    let few = read.few in
    subst (λ (o : Option ℕ). IfSome o (λ e. (e < number) × ((set_at sets e).arity ≡ 0))) (sym (read.each number within).declared.same_over)
    (over-vertices program sets number (over program number) read within (formed.each number (omega arith)).over_earlier)

-- sets that were all read are those of the program, also with other words
pub sets-fit : (program : TypedProgram) (sets after : List SetValue) → AreRead program sets → length sets ≡ length program.sets → DifferInWords sets after → SetsFit program after
sets-fit program sets after read all words = record {
  as_many = words.count ∙ all;
  each = λ number l.
      let was = (read.each number (omega (arith, words.count))).declared in
      let one = words.each number in
      record { same_arity = one.arity ∙ was.same_arity; same_over = one.over ∙ was.same_over; columns = one.columns ∙ was.columns };
}

-- ---- schemas

-- another schema
pub schemas-more : (program : TypedProgram) (k : ℕ) (old new : List Schema) (schema : Schema) → old ≡ map (schema_of program) (range_with_len 0 k) → schema ≡ schema_of program k → new ≡ old ++ schema ∷ []
    → new ≡ map (schema_of program) (range_with_len 0 (k + 1))
schemas-more program k old new schema so_far is grown =
    grown ∙ ap (λ (l : List Schema). l ++ schema ∷ []) so_far ∙ ap (λ (s : Schema). map (schema_of program) (range_with_len 0 k) ++ s ∷ []) is
    ∙ sym (map-range_with_len_more (schema_of program) 0 k k (omega arith))

pub schemas-all : (program : TypedProgram) (k : ℕ) (schemas : List Schema) → k ≡ length program.sets → schemas ≡ map (schema_of program) (range_with_len 0 k) → schemas ≡ schemas_of program
unfolding schemas_of
schemas-all program k schemas all made = made ∙ ap (λ n. map (schema_of program) (range_with_len 0 n)) all

-- the schema of a number can be read
pub readable-one : (program : TypedProgram) (k : ℕ) (schema : Schema) → schema ≡ schema_of program k → IsSchema schema → schema.arity + length schema.columns ≤ MOST_COLUMNS
    → length schema.columns ≡ columns_of (set_fields program k) → IsReadable program k
readable-one program k schema is readable few columns = record {
  schema = subst IsSchema is readable;
  few_columns = subst (λ (s : Schema). s.arity + length s.columns ≤ MOST_COLUMNS) is few;
  columns = subst (λ (s : Schema). length s.columns ≡ columns_of (set_fields program k)) is columns;
}

pub readable-more : (program : TypedProgram) (k : ℕ) → ((j : ℕ) → j < k → IsReadable program j) → IsReadable program k → (j : ℕ) → j < k + 1 → IsReadable program j
readable-more program k before here j l = elim (cases_eq j k) [
  | inl e ↦ subst (IsReadable program) (sym e) here
  | inr ne ↦ before j (omega arith)
]

pub schemas-length : (program : TypedProgram) → length (schemas_of program) ≡ length program.sets
unfolding schemas_of
schemas-length program = length-map-range_with_len (schema_of program) 0 (length program.sets)

pub schema-here : (program : TypedProgram) (number : ℕ) (d : Schema) → number < length program.sets → get_or (schemas_of program) number d ≡ schema_of program number
unfolding schemas_of
schema-here program number d within = get_or-map-range_with_len (schema_of program) 0 (length program.sets) number number d within (omega arith)

pub schema-arity : (program : TypedProgram) (number : ℕ) → (schema_of program number).arity ≡ arity program number
unfolding schema_of
schema-arity program number = refl

all-schemas : (program : TypedProgram) → ((number : ℕ) → number < length program.sets → IsReadable program number) → All IsSchema (schemas_of program)
all-schemas program readable k d within =
    let in' : k < length program.sets = omega (arith, schemas-length program) in
    subst IsSchema (sym (schema-here program k d in')) (readable k in').schema

-- sets of a program have the tables of its schemas
pub have-tables : (program : TypedProgram) (sets : List SetValue) → IsRunnable program → SetsFit program sets → HaveTables (schemas_of program) sets
have-tables program sets runnable fit = record {
  as_many = schemas-length program ∙ sym fit.as_many;
  readable = all-schemas program runnable.readable;
  fit = λ number l.
      let in' : number < length program.sets = omega (arith, fit.as_many) in
      let none : Schema = record { name = []; arity = 0; columns = [] } in
      let at : schema_at (schemas_of program) number ≡ schema_of program number = schema-here program number none in' in
      let declared = fit.each number l in
      rw at (record {
        same_arity = declared.same_arity ∙ sym (schema-arity program number);
        as_many = declared.columns ∙ sym (runnable.readable number in').columns;
      });
}
