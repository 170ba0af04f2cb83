-- What the definition answers of a write to a result.
use Rattle.std.proofs.Common.{◌≡◌, ℕ, ◌<◌, ◌==◌, Bool, true, false, not, nat_lt, if◌then◌else◌, List, [], ◌∷◌, length, map, fold, Option, Some, None, Result, Ok, Err, refl, sym, ap, subst, ◌∙◌}
use Rattle.std.proofs.lemmas.Bool.{eqb-true, lt-ltb, ltb-true, not_from_true}
use Rattle.std.proofs.lemmas.List.{length-map}
use Rattle.vocabulary.specs.Answers.{◌>>=◌, all_ok}
use Rattle.sim_syntax.specs.declared.expression.Expr as tree
use Rattle.sim_syntax.specs.declared.statement.Stmt.TheVariants as stmt
use Rattle.sim_syntax.specs.declared.statement.Place.{Place}
use Rattle.sim_syntax.specs.declared.statement.Index.{Index}
use Rattle.sim_syntax.specs.declared.statement.Index.TheVariants as index
use Rattle.type_rules.specs.Rules.{same_rule, is_outside, kind_of, earlier}
use Rattle.type_rules.specs.declared.types.NodeType.{NodeType}
use Rattle.type_rules.specs.declared.types.NodeType.TheVariants.{Local, SystemVector, SystemMatrix}
use Rattle.type_rules.specs.declared.types.TypeKind.{TypeKind}
use Rattle.type_rules.specs.declared.types.TypeKind.TheVariants as kind
use Rattle.typed_tree.specs.declared.expression.TypedExpr.{TypedExpr}
use Rattle.typed_tree.specs.declared.function.FunctionStmt.{FunctionStmt}
use Rattle.typed_tree.specs.declared.function.FunctionStmt.TheVariants as made
use Rattle.typed_tree.specs.declared.function.WrittenPlace.{WrittenPlace}
use Rattle.typed_tree.specs.declared.function.WrittenPlace.TheVariants as place
use Rattle.typed_tree.specs.declared.function.PlaceIndex.{PlaceIndex}
use Rattle.typed_tree.specs.declared.function.PlaceIndex.TheVariants as indexed
use Rattle.typed_tree.specs.declared.environment.Environment.{Environment}
use Rattle.typed_tree.specs.declared.environment.Walk.{Walk}
use Rattle.typed_tree.specs.declared.names.Meaning.{Meaning}
use Rattle.typed_tree.specs.declared.names.Meaning.TheVariants as meaning
use Rattle.typed_tree.specs.Names.{Name, meaning_of}
use Rattle.typed_tree.specs.Literals.{whole}
use Rattle.typed_tree.specs.Steps.{at_line}
use Rattle.typed_tree.specs.Expressions.{type_of}
use Rattle.typed_tree.specs.Walking.{counted, with_nodes}
use Rattle.typed_tree.specs.Functions.{place_index, values_of, endpoint, place_at, index_at, place_rule, earliest, written_rule, result_rule, result_fault, write_fault, write_parts, write}
use Rattle.typing_laws.specs.References.{Means}
use Rattle.typing_laws.specs.Expressions.{IsTyping}
use Rattle.typing_laws.specs.Scopes.{HasRoom, past}
use Rattle.typing_laws.specs.Lists.{Matched}
use Rattle.typing_laws.specs.FunctionStatements.{IsPlaceIndex, IsPlace, HasBlock, IsStatementTyping}
use Rattle.typing_laws.proofs.Steps.{same_Ok, and_then, then_is}
use Rattle.typing_laws.proofs.NoFault.{none_earlier, earlier_none, none_kind, kind_none}
use Rattle.typing_laws.proofs.ScopeFacts.{counted_and, counted_then, at_line_then, at_line_and, value_then, value_and}

-- ---- places

endpoint_split : (count : ℕ) (at : PlaceIndex) (w : WrittenPlace) → endpoint count at ≡ Ok w → (is_outside count (values_of at) ≡ false) × (place.Endpoint at ≡ w)
unfolding endpoint
endpoint_split count at w is = by_test (is_outside count (values_of at)) is
  where
    by_test : (b : Bool) → (if b then Err kind.TooLarge else Ok (place.Endpoint at)) ≡ Ok w → (b ≡ false) × (place.Endpoint at ≡ w)
    by_test true answers = absurd (cc)
    by_test false answers = (refl, same_Ok (place.Endpoint at) w answers)

endpoint_more : (count : ℕ) (at : PlaceIndex) → is_outside count (values_of at) ≡ false → endpoint count at ≡ Ok (place.Endpoint at)
unfolding endpoint
endpoint_more count at within = ap (λ b. if b then Err kind.TooLarge else Ok (place.Endpoint at)) within

below : (count number : ℕ) → not (nat_lt number count) ≡ false → number < count
below count number is = by_test (nat_lt number count) refl is
  where
    by_test : (b : Bool) → nat_lt number count ≡ b → not b ≡ false → number < count
    by_test true test not_is = ltb-true number count test
    by_test false test not_is = absurd (cc)

index_typed : (env : Environment) (count : ℕ) (i : Index) (at : PlaceIndex) → place_index env.names i ≡ Ok at → is_outside count (values_of at) ≡ false
    → IsPlaceIndex env count i at
unfolding place_index
index_typed env count (index.Literal line digits) at is within = by_number (whole digits) refl is
  where
    by_number : (o : Option ℕ) → whole digits ≡ o → place_index env.names (index.Literal line digits) ≡ Ok at → IsPlaceIndex env count (index.Literal line digits) at
    by_number None states answers = absurd (let none = rw states at answers in cc)
    by_number (Some number) states answers =
        let same = same_Ok (indexed.Literal number) at (rw states at answers) in
        subst (λ x. IsPlaceIndex env count (index.Literal line digits) x) same
        (IsPlaceIndex.literal line number digits states (below count number (ap (λ x. is_outside count (values_of x)) same ∙ within)))
index_typed env count (index.Named line name) at is within = by_meaning (meaning_of env.names name) refl is
  where
    by_meaning : (m : Option Meaning) → meaning_of env.names name ≡ m → place_index env.names (index.Named line name) ≡ Ok at → IsPlaceIndex env count (index.Named line name) at
    by_meaning (Some (meaning.Turn local values)) means answers =
        let same = same_Ok (indexed.Turn local values) at (rw means at answers) in
        subst (λ x. IsPlaceIndex env count (index.Named line name) x) same
        (IsPlaceIndex.turn line name local values means (ap (λ x. is_outside count (values_of x)) same ∙ within))
    by_meaning other means answers = absurd (let none = rw means at answers in cc)

index_more : (env : Environment) (count : ℕ) (i : Index) (at : PlaceIndex) → IsPlaceIndex env count i at
    → (place_index env.names i ≡ Ok at) × (is_outside count (values_of at) ≡ false)
unfolding place_index
index_more env count i at (IsPlaceIndex.literal line number digits states within) = (rw states refl, not_from_true (nat_lt number count) (lt-ltb number count within))
index_more env count i at (IsPlaceIndex.turn line name local values means within) = (rw means refl, within)

never : (k : TypeKind) (w : WrittenPlace) → Err k ≡ Ok w → ⊥
never k w is = cc

place_typed : (env : Environment) (p : Place) (w : WrittenPlace) (m : Option Meaning) (o : Option Index) → meaning_of env.names p.name ≡ m → p.index ≡ o
    → place_at m (index_at env.names o) ≡ Ok w → IsPlace env p w
unfolding place_at
place_typed env p w (Some (meaning.Own element)) None means is answers =
    subst (λ x. IsPlace env p x) (same_Ok place.Element w answers) (IsPlace.at_element p element means is)
place_typed env p w (Some (meaning.Ends element count)) (Some i) means is answers =
    let at = and_then (place_index env.names i) (endpoint count) w answers in
    let e = endpoint_split count at.0 w at.2 in
    subst (λ x. IsPlace env p x) e.1 (IsPlace.at_endpoint p element count i at.0 means is (index_typed env count i at.0 at.1 e.0))
place_typed env p w (Some (meaning.Own element)) (Some i) means is answers =
    absurd (let at = and_then (place_index env.names i) (λ j. Err kind.Shape) w answers in never kind.Shape w at.2)
place_typed env p w (Some (meaning.Ends element count)) None means is answers = absurd (cc)
place_typed env p w None o means is answers = absurd (cc)
place_typed env p w (Some other) None means is answers = absurd (cc)
place_typed env p w (Some other) (Some i) means is answers =
    absurd (let at = and_then (place_index env.names i) (λ j. Err kind.NotAPlace) w answers in never kind.NotAPlace w at.2)

only_place : (env : Environment) (p : Place) (w : WrittenPlace) → IsPlace env p w → place_rule env.names p ≡ Ok w
unfolding place_at
only_place env p w (IsPlace.at_element q element means none) =
    ap (λ m. place_at m (index_at env.names q.index)) means ∙ ap (λ o. place_at (Some (meaning.Own element)) (index_at env.names o)) none
only_place env p w (IsPlace.at_endpoint q element count i at means is typed) =
    let more = index_more env count i at typed in
    ap (λ m. place_at m (index_at env.names q.index)) means ∙ ap (λ o. place_at (Some (meaning.Ends element count)) (index_at env.names o)) is
    ∙ ap (λ r. r >>= endpoint count) more.0 ∙ endpoint_more count at more.1

places_typed : (env : Environment) (places : List Place) (written : List WrittenPlace) → all_ok (map (place_rule env.names) places) ≡ Ok written
    → Matched (IsPlace env) places written
places_typed env [] written is = subst (λ ws. Matched (IsPlace env) [] ws) (same_Ok [] written is) Matched.none
places_typed env (p ∷ places) written is =
    let w = and_then (place_rule env.names p) (λ w. all_ok (map (place_rule env.names) places) >>= λ ws. Ok (w ∷ ws)) written is in
    let ws = and_then (all_ok (map (place_rule env.names) places)) (λ ws. Ok (w.0 ∷ ws)) written w.2 in
    subst (λ l. Matched (IsPlace env) (p ∷ places) l) (same_Ok (w.0 ∷ ws.0) written ws.2)
    (Matched.one_more p places w.0 ws.0 (place_typed env p w.0 (meaning_of env.names p.name) p.index refl refl w.1) (places_typed env places ws.0 ws.1))

only_places : (env : Environment) (places : List Place) (written : List WrittenPlace) → Matched (IsPlace env) places written
    → (all_ok (map (place_rule env.names) places) ≡ Ok written) × (earliest (map kind_of (map (place_rule env.names) places)) ≡ None)
only_places env places written Matched.none = (refl, refl)
only_places env places written (Matched.one_more p ps w ws here others) =
    let is = only_place env p w here in
    let rest = only_places env ps ws others in (
      then_is (place_rule env.names p) (λ x. all_ok (map (place_rule env.names) ps) >>= λ xs. Ok (x ∷ xs)) w _ is (ap (λ r. r >>= λ xs. Ok (w ∷ xs)) rest.0),
      ap (λ o. fold earlier (earlier None o) (map kind_of (map (place_rule env.names) ps))) (kind_none (place_rule env.names p) w is) ∙ rest.1,
    )

-- ---- the block

block_at_result : (result : NodeType) (n : ℕ) (type : NodeType) → written_rule result n type ≡ None
    → (block : NodeType) × (same : NodeType) × HasBlock result n block × (same_rule block type ≡ Ok same)
unfolding written_rule
block_at_result (SystemVector set block scale) n type is = by_test (n == 1) refl is
  where
    by_test : (b : Bool) → (n == 1) ≡ b → (if b then kind_of (same_rule (Local block scale) type) else Some kind.Shape) ≡ None
        → (written : NodeType) × (same : NodeType) × HasBlock (SystemVector set block scale) n written × (same_rule written type ≡ Ok same)
    by_test true test answers =
        let s = none_kind (same_rule (Local block scale) type) answers in
        (Local block scale, s.0, subst (λ k. HasBlock (SystemVector set block scale) k (Local block scale)) (sym (eqb-true n 1 test)) (HasBlock.of_vector set block scale), s.1)
    by_test false test answers = absurd (cc)
block_at_result (SystemMatrix rows columns block scale) n type is = by_test (n == 2) refl is
  where
    by_test : (b : Bool) → (n == 2) ≡ b → (if b then kind_of (same_rule (Local block scale) type) else Some kind.Shape) ≡ None
        → (written : NodeType) × (same : NodeType) × HasBlock (SystemMatrix rows columns block scale) n written × (same_rule written type ≡ Ok same)
    by_test true test answers =
        let s = none_kind (same_rule (Local block scale) type) answers in
        (Local block scale, s.0, subst (λ k. HasBlock (SystemMatrix rows columns block scale) k (Local block scale)) (sym (eqb-true n 2 test)) (HasBlock.of_matrix rows columns block scale), s.1)
    by_test false test answers = absurd (cc)
block_at_result (Local block scale) n type is = absurd (cc)

only_block : (result : NodeType) (n : ℕ) (block type same : NodeType) → HasBlock result n block → same_rule block type ≡ Ok same → written_rule result n type ≡ None
unfolding written_rule
only_block result n block type same (HasBlock.of_vector set b scale) rule = kind_none (same_rule (Local b scale) type) same rule
only_block result n block type same (HasBlock.of_matrix rows columns b scale) rule = kind_none (same_rule (Local b scale) type) same rule

result_split : (m : Option Meaning) (r : ℕ × NodeType) → result_rule m ≡ Ok r → m ≡ Some (meaning.Result r.0 r.1)
unfolding result_rule
result_split None r is = absurd (cc)
result_split (Some (meaning.Result result type)) r is = ap (λ d. Some (meaning.Result d.0 d.1)) (same_Ok (result, type) r is)
result_split (Some other) r is = absurd (cc)

result_more : (m : Option Meaning) (result : ℕ) (type : NodeType) → m ≡ Some (meaning.Result result type) → result_rule m ≡ Ok (result, type)
unfolding result_rule
result_more m result type is = ap result_rule is

fault_of_result : (r : Result (ℕ × NodeType) TypeKind) (of : ℕ × NodeType) (n : ℕ) (type : NodeType) → r ≡ Ok of → result_fault r n type ≡ written_rule of.1 n type
unfolding result_fault
fault_of_result r of n type is = ap (λ o. result_fault o n type) is

-- ---- the statement

pub write_typed : (line : ℕ) (name : Name) (places : List Place) (e : tree.Expr) (walk : Walk) (done : FunctionStmt × Walk)
    → write line name places e walk ≡ Ok done → IsStatementTyping (stmt.Write line name places e) done.0 walk done.1
unfolding write
write_typed line name places e walk done is =
    let env = walk.environment in
    let result = result_rule (meaning_of env.names name) in
    let found = map (place_rule env.names) places in
    let v = value_then e walk (λ v. counted line (write_fault (result_rule (meaning_of v.1.environment.names name)) (map (place_rule v.1.environment.names) places) (type_of v.0)) v.1
    >>= λ after. at_line line (write_parts (result_rule (meaning_of v.1.environment.names name)) (map (place_rule v.1.environment.names) places))
    >>= λ parts. Ok (made.Write line parts.0 parts.1 v.0, after)) done is in
    let after = with_nodes walk v.0.1 in
    let c = counted_then line (write_fault result found (type_of v.0.0)) after
    (λ a. at_line line (write_parts result found) >>= λ parts. Ok (made.Write line parts.0 parts.1 v.0.0, a)) done v.2 in
    let l = at_line_then line (write_parts result found) (λ parts. Ok (made.Write line parts.0 parts.1 v.0.0, past after)) done c.2 in
    let r = and_then result (λ r. all_ok found >>= λ ps. Ok (r.0, ps)) l.0 l.1 in
    let ps = and_then (all_ok found) (λ ps. Ok (r.0.0, ps)) l.0 r.2 in
    let same = same_Ok (r.0.0, ps.0) l.0 ps.2 in
    let faults = none_earlier (result_fault result (length found) (type_of v.0.0)) (earliest (map kind_of found)) c.0 in
    let b = block_at_result r.0.1 (length found) (type_of v.0.0) (sym (fault_of_result result r.0 (length found) (type_of v.0.0) r.1) ∙ faults.0) in
    subst (λ d. IsStatementTyping (stmt.Write line name places e) d.0 walk d.1) (same_Ok (made.Write line l.0.0 l.0.1 v.0.0, past after) done l.2)
    (subst (λ q. IsStatementTyping (stmt.Write line name places e) (made.Write line q.0 q.1 v.0.0) walk (past after)) same
    (IsStatementTyping.write line name places e v.0.0 r.0.0 r.0.1 b.0 b.1 ps.0 walk v.0.1 v.1 (result_split (meaning_of env.names name) r.0 r.1)
    (places_typed env places ps.0 ps.1) (subst (λ n. HasBlock r.0.1 n b.0) (length-map places (place_rule env.names)) b.2) b.3 c.1))

pub only_write : (line : ℕ) (name : Name) (places : List Place) (e : tree.Expr) (v : TypedExpr) (result : ℕ) (type block same : NodeType) (written : List WrittenPlace)
    (walk : Walk) (to : ℕ)
    → IsTyping walk.environment e v walk.nodes to → Means walk.environment name (meaning.Result result type)
    → Matched (IsPlace walk.environment) places written → HasBlock type (length places) block → same_rule block (type_of v) ≡ Ok same → HasRoom walk
    → write line name places e walk ≡ Ok (made.Write line result written v, past (with_nodes walk to))
unfolding write
only_write line name places e v result type block same written walk to typed means matched has rule few =
    let env = walk.environment in
    let what = result_rule (meaning_of env.names name) in
    let found = map (place_rule env.names) places in
    let is = result_more (meaning_of env.names name) result type means in
    let ps = only_places env places written matched in
    let block_has = subst (λ n. HasBlock type n block) (sym (length-map places (place_rule env.names))) has in
    value_and e walk (λ v. counted line (write_fault (result_rule (meaning_of v.1.environment.names name)) (map (place_rule v.1.environment.names) places) (type_of v.0)) v.1
    >>= λ after. at_line line (write_parts (result_rule (meaning_of v.1.environment.names name)) (map (place_rule v.1.environment.names) places))
    >>= λ parts. Ok (made.Write line parts.0 parts.1 v.0, after)) v to _ typed
    (counted_and line (write_fault what found (type_of v)) (with_nodes walk to) (λ a. at_line line (write_parts what found) >>= λ parts. Ok (made.Write line parts.0 parts.1 v, a)) _
    (earlier_none (result_fault what (length found) (type_of v)) (earliest (map kind_of found))
    (fault_of_result what (result, type) (length found) (type_of v) is ∙ only_block type (length found) block (type_of v) same block_has rule) ps.1) few
    (at_line_and line (write_parts what found) (λ parts. Ok (made.Write line parts.0 parts.1 v, past (with_nodes walk to))) (result, written) _
    (then_is what (λ r. all_ok found >>= λ xs. Ok (r.0, xs)) (result, type) _ is (ap (λ r. r >>= λ xs. Ok (result, xs)) ps.0)) refl))
