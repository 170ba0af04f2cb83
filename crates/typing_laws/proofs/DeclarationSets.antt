-- Sets: what the definition answers is a typing, and each typing is what it answers.
use Rattle.std.proofs.Common.{◌≡◌, ℕ, ◌+◌, ◌==◌, ◌<◌, ◌≤◌, ◌⊎◌, inl, inr, Bool, true, false, not, ◌&&◌, ◌||◌, nat_lt, List, [], ◌∷◌, length, map, slice_get, Option, Some, None, Ok, refl, sym, ap, subst, ◌∙◌}
use Rattle.std.proofs.lemmas.List.{length-map}
use Rattle.std.proofs.lemmas.Bool.{ltb-true, ltb-false, lt-ltb, le-ltb, eqb-false, eqb-true, eq-eqb, or_from, and_from, and_parts, and_cases, not-false, not_from_true, false_from_ne_true}
use Rattle.std.specs.List.{list_any, list_all}
use Rattle.std.specs.Option.{is_none}
use native.Mathlib.Omega.{arith}
use Rattle.vocabulary.specs.declared.limits.TheConstants.{MOST_COLUMNS, MOST_ENDPOINTS, MOST_SETS}
use Rattle.host_table.specs.declared.table.HostName.{HostName}
use Rattle.sim_syntax.specs.declared.declaration.Decl.TheVariants as decl
use Rattle.type_rules.specs.Rules.{or_zero}
use Rattle.type_rules.specs.declared.types.TypeKind.{TypeKind}
use Rattle.type_rules.specs.declared.types.TypeKind.TheVariants as kind
use Rattle.typed_tree.specs.declared.environment.Environment.{Environment}
use Rattle.typed_tree.specs.declared.environment.Walk.{Walk}
use Rattle.typed_tree.specs.declared.names.Meaning.TheVariants as meaning
use Rattle.typed_tree.specs.declared.program.TypedField.{TypedField}
use Rattle.typed_tree.specs.declared.program.TypedSet.{TypedSet}
use Rattle.typed_tree.specs.Names.{Name, meaning_of}
use Rattle.typed_tree.specs.Walking.{is_visible}
use Rattle.typed_tree.specs.Lookups.{element_meant, element_named, fields_of, set_named}
use Rattle.typed_tree.specs.Declarations.{End, columns_of, declaring, faultless, fields_named, lie_together, lies_in, over_of, set_decl, set_fault, with_set}
use Rattle.typing_laws.specs.Lists.{Each}
use Rattle.typing_laws.specs.References.{Means}
use Rattle.typing_laws.specs.Scopes.{IsNew}
use Rattle.typing_laws.specs.Declarations.{HasColumns, IsVertexSet, LieIn, IsDeclaration, and_set}
use Rattle.typing_laws.proofs.Steps.{same_Ok}
use Rattle.typing_laws.proofs.NoFault.{none_first, first_none, none_either}
use Rattle.typing_laws.proofs.LookupFacts.{element_meant_split, set_meant_split, set_meant_is}
use Rattle.typing_laws.proofs.ScopeFacts.{not_known, known_not, at_line_then, at_line_and}
use Rattle.typing_laws.proofs.DeclarationBlocks.{faultless_split}

-- ---- where endpoints lie

abbrev VertexSet : Environment → ℕ → Type 0
VertexSet env n = (set : TypedSet) × (slice_get env.declarations.sets n ≡ Some set) × (set.shape.over ≡ None)

each_split : (env : Environment) (n : ℕ) (names : List Name) → VertexSet env n → list_any is_none (map (set_named env) names) ≡ false
    → list_all (lies_in n) (map (set_named env) names) ≡ true → Each (IsVertexSet env n) names
each_split env n [] vertices any all = tt
each_split env n (name ∷ names) vertices any all =
    let parts = none_either (is_none (set_named env name)) (list_any is_none (map (set_named env) names)) any in
    let s = set_meant_split env.declarations (meaning_of env.names name) parts.0 in
    let is = set_meant_is env.declarations (meaning_of env.names name) s.0 s.1 s.2 s.3 in
    let here = and_parts (lies_in n (set_named env name)) (list_all (lies_in n) (map (set_named env) names)) all in
    let same : s.0 ≡ n = eqb-true s.0 n (sym (ap (lies_in n) is) ∙ here.0) in
    ((s.2 ∙ ap (λ k. Some (meaning.Set k)) same, vertices), each_split env n names vertices parts.1 here.1)

each_is : (env : Environment) (n : ℕ) (names : List Name) → Each (IsVertexSet env n) names
    → (list_any is_none (map (set_named env) names) ≡ false) × (list_all (lies_in n) (map (set_named env) names) ≡ true)
each_is env n [] each = (refl, refl)
each_is env n (name ∷ names) each =
    let is = set_meant_is env.declarations (meaning_of env.names name) n each.0.1.0 each.0.0 each.0.1.1 in
    let rest = each_is env n names each.1 in (
      or_from (is_none (set_named env name)) (list_any is_none (map (set_named env) names)) (ap is_none is) rest.0,
      and_from (lies_in n (set_named env name)) (list_all (lies_in n) (map (set_named env) names)) (ap (lies_in n) is ∙ eq-eqb n n refl) rest.1,
    )

no_over : (over : Option ℕ) → is_none over ≡ true → over ≡ None
no_over None is = refl
no_over (Some n) is = absurd (cc)

lie_split : (env : Environment) (ends : List Name) → list_any is_none (map (set_named env) ends) ≡ false → lie_together (map (set_named env) ends) ≡ true
    → LieIn env ends (over_of (map (set_named env) ends))
lie_split env [] any together = LieIn.nowhere
lie_split env (name ∷ names) any together =
    let rest = map (set_named env) names in
    let parts = none_either (is_none (set_named env name)) (list_any is_none rest) any in
    let s = set_meant_split env.declarations (meaning_of env.names name) parts.0 in
    let is = set_meant_is env.declarations (meaning_of env.names name) s.0 s.1 s.2 s.3 in
    let all = and_parts (is_none s.1.shape.over) (list_all (lies_in s.0) rest) (sym (ap (λ o. lie_together (o ∷ rest)) is) ∙ together) in
    let vertices : VertexSet env s.0 = (s.1, s.3, no_over s.1.shape.over all.0) in
    subst (LieIn env (name ∷ names)) (sym (ap (λ o. over_of (o ∷ rest)) is))
    (LieIn.together name names s.0 ((s.2, vertices), each_split env s.0 names vertices parts.1 all.1))

lie_is : (env : Environment) (ends : List Name) (over : Option ℕ) → LieIn env ends over
    → (list_any is_none (map (set_named env) ends) ≡ false) × (lie_together (map (set_named env) ends) ≡ true) × (over_of (map (set_named env) ends) ≡ over)
lie_is env ends over LieIn.nowhere = (refl, refl, refl)
lie_is env ends over (LieIn.together name names n each) =
    let rest = map (set_named env) names in
    let set = each.0.1.0 in
    let is = set_meant_is env.declarations (meaning_of env.names name) n set each.0.0 each.0.1.1 in
    let others = each_is env n names each.1 in (
      or_from (is_none (set_named env name)) (list_any is_none rest) (ap is_none is) others.0,
      ap (λ o. lie_together (o ∷ rest)) is ∙ and_from (is_none set.shape.over) (list_all (lies_in n) rest) (ap is_none each.0.1.2) others.1,
      ap (λ o. over_of (o ∷ rest)) is,
    )

-- ---- columns

positive : (a b : ℕ) → ((a == 0) && (b == 0)) ≡ false → 1 ≤ a + b
positive a b is = by_case (and_cases (a == 0) (b == 0) is)
  where
    more : (c d : ℕ) → (c ≡ 0 → ⊥) → 1 ≤ c + d
    more c d other = omega (arith, other)

    most : (c d : ℕ) → (d ≡ 0 → ⊥) → 1 ≤ c + d
    most c d other = omega (arith, other)

    by_case : ((a == 0) ≡ false) ⊎ ((b == 0) ≡ false) → 1 ≤ a + b
    by_case (inl none) = more a b (eqb-false a 0 none)
    by_case (inr none) = most a b (eqb-false b 0 none)

not_empty : (a b : ℕ) → 1 ≤ a + b → ((a == 0) && (b == 0)) ≡ false
not_empty a b some = false_from_ne_true ((a == 0) && (b == 0)) (λ both. let p = and_parts (a == 0) (b == 0) both in never a b (eqb-true a 0 p.0) (eqb-true b 0 p.1) some)
  where
    never : (c d : ℕ) → c ≡ 0 → d ≡ 0 → 1 ≤ c + d → ⊥
    never c d first second other = omega arith

-- ---- sets

record IsFaultless (unknown taken : Bool) (ends : List End) (fields : List TypedField) (sets : ℕ) : Type 0 where
  known : unknown ≡ false
  all_known : list_any is_none ends ≡ false
  new : taken ≡ false
  together : lie_together ends ≡ true
  few : length ends ≤ MOST_ENDPOINTS
  columns : HasColumns (length ends) fields
  room : sets < MOST_SETS

abbrev large : List End → List TypedField → ℕ → Bool
large ends fields sets = nat_lt MOST_ENDPOINTS (length ends) || nat_lt MOST_COLUMNS (length ends + columns_of fields) || not (nat_lt sets MOST_SETS)

abbrev from_large : List End → List TypedField → ℕ → List (TypeKind × Bool)
from_large ends fields sets = (kind.TooLarge, large ends fields sets) ∷ []

abbrev from_set : List End → List TypedField → ℕ → List (TypeKind × Bool)
from_set ends fields sets = (kind.Set, not (lie_together ends)) ∷ from_large ends fields sets

abbrev from_shape : List End → List TypedField → ℕ → List (TypeKind × Bool)
from_shape ends fields sets = (kind.Shape, (length ends == 0) && (columns_of fields == 0)) ∷ from_set ends fields sets

no_set_fault : (unknown taken : Bool) (ends : List End) (fields : List TypedField) (sets : ℕ) → set_fault unknown taken ends fields sets ≡ None
    → IsFaultless unknown taken ends fields sets
unfolding set_fault
no_set_fault unknown taken ends fields sets is =
    let ending = length ends in
    let wide = ending + columns_of fields in
    let a = none_first kind.Unknown (unknown || list_any is_none ends) ((kind.Twice, taken) ∷ from_shape ends fields sets) is in
    let b = none_first kind.Twice taken (from_shape ends fields sets) a.1 in
    let c = none_first kind.Shape ((ending == 0) && (columns_of fields == 0)) (from_set ends fields sets) b.1 in
    let d = none_first kind.Set (not (lie_together ends)) (from_large ends fields sets) c.1 in
    let e = none_first kind.TooLarge (large ends fields sets) [] d.1 in
    let k = none_either unknown (list_any is_none ends) a.0 in
    let l = none_either (nat_lt MOST_ENDPOINTS ending || nat_lt MOST_COLUMNS wide) (not (nat_lt sets MOST_SETS)) e.0 in
    let m = none_either (nat_lt MOST_ENDPOINTS ending) (nat_lt MOST_COLUMNS wide) l.0 in
    record {
      known = k.0;
      all_known = k.1;
      new = b.0;
      together = not-false (lie_together ends) d.0;
      few = ltb-false MOST_ENDPOINTS ending m.0;
      columns = (positive ending (columns_of fields) c.0, ltb-false MOST_COLUMNS wide m.1);
      room = ltb-true sets MOST_SETS (not-false (nat_lt sets MOST_SETS) l.1);
    }

set_fault_none : (unknown taken : Bool) (ends : List End) (fields : List TypedField) (sets : ℕ) → IsFaultless unknown taken ends fields sets
    → set_fault unknown taken ends fields sets ≡ None
unfolding set_fault
set_fault_none unknown taken ends fields sets none =
    let ending = length ends in
    let wide = ending + columns_of fields in
    first_none kind.Unknown (unknown || list_any is_none ends) ((kind.Twice, taken) ∷ from_shape ends fields sets) (or_from unknown (list_any is_none ends) none.known none.all_known)
    (first_none kind.Twice taken (from_shape ends fields sets) none.new
    (first_none kind.Shape ((ending == 0) && (columns_of fields == 0)) (from_set ends fields sets) (not_empty ending (columns_of fields) none.columns.0)
    (first_none kind.Set (not (lie_together ends)) (from_large ends fields sets) (not_from_true (lie_together ends) none.together)
    (first_none kind.TooLarge (large ends fields sets) []
    (or_from (nat_lt MOST_ENDPOINTS ending || nat_lt MOST_COLUMNS wide) (not (nat_lt sets MOST_SETS))
    (or_from (nat_lt MOST_ENDPOINTS ending) (nat_lt MOST_COLUMNS wide) (le-ltb MOST_ENDPOINTS ending none.few) (le-ltb MOST_COLUMNS wide none.columns.1))
    (not_from_true (nat_lt sets MOST_SETS) (lt-ltb sets MOST_SETS none.room))) refl))))

abbrev pub made_set : Walk → Name → ℕ → Option ℕ → ℕ → Walk
made_set walk name element over arity =
    declaring walk (and_set walk.environment.declarations (record { name = name; shape = record { element = element; over = over; arity = arity } }))
    name (meaning.Set (length walk.environment.declarations.sets))

made_is : (walk : Walk) (name : Name) (element : ℕ) (ends : List End) → with_set walk name element ends ≡ made_set walk name element (over_of ends) (length ends)
unfolding with_set
made_is walk name element ends = refl

pub set_typed : (hosts : List HostName) (line : ℕ) (name element_name : Name) (ends : List Name) (walk after : Walk) → set_decl line name element_name ends walk ≡ Ok after
    → IsDeclaration hosts (decl.Set line name element_name ends) walk after
unfolding set_decl
set_typed hosts line name element_name ends walk after is =
    let env = walk.environment in
    let found = map (set_named env) ends in
    let of = element_named env element_name in
    let sets = length env.declarations.sets in
    let fault = set_fault (is_none of) (is_visible walk name) found (fields_named env of) sets in
    let l = at_line_then line (faultless fault) (λ u. Ok (with_set walk name (or_zero of) found)) after is in
    let none = no_set_fault (is_none of) (is_visible walk name) found (fields_named env of) sets (faultless_split fault l.0 l.1) in
    let e = element_meant_split (meaning_of env.names element_name) none.known in
    let of_is : of ≡ Some e.0 = ap element_meant e.1 in
    let many : length found ≡ length ends = length-map ends (set_named env) in
    let made = made_set walk name in
    subst (λ w. IsDeclaration hosts (decl.Set line name element_name ends) walk w)
    (ap (made e.0 (over_of found)) (sym many) ∙ ap (λ o. made (or_zero o) (over_of found) (length found)) (sym of_is)
    ∙ sym (made_is walk name (or_zero of) found) ∙ same_Ok (with_set walk name (or_zero of) found) after l.2)
    (IsDeclaration.new_set line name element_name ends e.0 (over_of found) walk e.1 (lie_split env ends none.all_known none.together)
    (subst (λ n. n ≤ MOST_ENDPOINTS) many none.few)
    (subst (λ n. HasColumns n (fields_of env.declarations e.0)) many (subst (λ o. HasColumns (length found) (fields_named env o)) of_is none.columns))
    none.room (not_known (meaning_of env.names name) none.new))

pub only_set : (line : ℕ) (name element_name : Name) (ends : List Name) (element : ℕ) (over : Option ℕ) (walk : Walk)
    → Means walk.environment element_name (meaning.Element element) → LieIn walk.environment ends over → length ends ≤ MOST_ENDPOINTS
    → HasColumns (length ends) (fields_of walk.environment.declarations element) → length walk.environment.declarations.sets < MOST_SETS → IsNew walk name
    → set_decl line name element_name ends walk ≡ Ok (made_set walk name element over (length ends))
unfolding set_decl
only_set line name element_name ends element over walk means lie few columns room new =
    let env = walk.environment in
    let found = map (set_named env) ends in
    let of = element_named env element_name in
    let sets = length env.declarations.sets in
    let of_is : of ≡ Some element = ap element_meant means in
    let many : length found ≡ length ends = length-map ends (set_named env) in
    let lies = lie_is env ends over lie in
    let made = made_set walk name in
    let none : IsFaultless (is_none of) (is_visible walk name) found (fields_named env of) sets = record {
      known = ap is_none of_is;
      all_known = lies.0;
      new = known_not (meaning_of env.names name) new;
      together = lies.1;
      few = subst (λ n. n ≤ MOST_ENDPOINTS) (sym many) few;
      columns = subst (λ o. HasColumns (length found) (fields_named env o)) (sym of_is) (subst (λ n. HasColumns n (fields_of env.declarations element)) (sym many) columns);
      room = room;
    } in
    at_line_and line (faultless (set_fault (is_none of) (is_visible walk name) found (fields_named env of) sets)) (λ u. Ok (with_set walk name (or_zero of) found)) tt _
    (ap faultless (set_fault_none (is_none of) (is_visible walk name) found (fields_named env of) sets none))
    (ap (λ w. Ok w) (made_is walk name (or_zero of) found ∙ ap (λ o. made (or_zero o) (over_of found) (length found)) of_is
    ∙ ap (λ o. made element o (length found)) lies.2 ∙ ap (made element over) many))
