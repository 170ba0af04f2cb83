-- What the definition finds of a reference is what it stands for or what it calls, and the other way round.
use Rattle.std.proofs.Common.{◌≡◌, ◌⊎◌, inl, inr, ℕ, Bool, true, false, if◌then◌else◌, List, [], ◌∷◌, ◌++◌, map, Option, Some, None, Result, Ok, Err, refl, sym, ap, subst, ◌∙◌}
use Rattle.std.specs.List.{list_any}
use Rattle.std.specs.Option.{option_map}
use Rattle.vocabulary.specs.Answers.{◌>>=◌}
use Rattle.type_rules.specs.Rules.{call_rule, part_rule, rank_rule, is_unknown}
use Rattle.type_rules.specs.declared.types.BlockShape.TheVariants.{Number}
use Rattle.type_rules.specs.declared.types.IndexRange.{IndexRange}
use Rattle.type_rules.specs.declared.types.NodeType.{NodeType}
use Rattle.type_rules.specs.declared.types.NodeType.TheVariants as type
use Rattle.type_rules.specs.declared.types.TypeKind.{TypeKind}
use Rattle.type_rules.specs.declared.types.TypeKind.TheVariants as kind
use Rattle.typed_tree.specs.declared.environment.Environment.{Environment}
use Rattle.typed_tree.specs.declared.environment.Level.{Level}
use Rattle.typed_tree.specs.declared.environment.Level.TheVariants.{Function, Main}
use Rattle.typed_tree.specs.declared.expression.TypedExpr.{TypedExpr}
use Rattle.typed_tree.specs.declared.expression.Referent.{Referent}
use Rattle.typed_tree.specs.declared.expression.Referent.TheVariants as referent
use Rattle.typed_tree.specs.declared.names.HostSignature.{HostSignature}
use Rattle.typed_tree.specs.declared.names.Meaning.{Meaning}
use Rattle.typed_tree.specs.declared.names.Meaning.TheVariants as meaning
use Rattle.typed_tree.specs.Names.{Name, meaning_of}
use Rattle.typed_tree.specs.Expressions.{called_or_named, found, host_in, host_named, scales_of, type_of, whole_rule, no_value, value_rule, set_member, own_member, end_member, member_rule, name_rule, ranked, reference_rule, range_of}
use Rattle.typed_tree.specs.Lookups.{element_in, fields_of, find_field, over_set}
use Rattle.typing_laws.specs.References.{Means, StandsFor, IsRanked}
use Rattle.typing_laws.proofs.Steps.{same_Ok, and_then}
use Rattle.typing_laws.proofs.CallFacts.{call_split, call_is}

-- what was found by a rule
found_split : (what : Referent) (rule : Result NodeType TypeKind) (done : Referent × NodeType) → found what rule ≡ Ok done
    → (t : NodeType) × (rule ≡ Ok t) × ((what, t) ≡ done)
found_split what rule done is =
    let t = and_then rule (λ t. Ok (what, t)) done is in
    (t.0, t.1, same_Ok (what, t.0) done t.2)

no_value_found : (indices : List IndexRange) (done : Referent × NodeType) → no_value indices ≡ Ok done → ⊥
no_value_found indices done is = by_test (list_any is_unknown indices) is
  where
    by_test : (b : Bool) → (if b then Err kind.NotConstant else Err kind.Shape) ≡ Ok done → ⊥
    by_test true answers = cc
    by_test false answers = cc

whole_split : (t : NodeType) (indices : List IndexRange) (s : NodeType) → whole_rule t indices ≡ Ok s → (indices ≡ []) × (t ≡ s)
whole_split t [] s is = (refl, same_Ok t s is)
whole_split t (i ∷ indices) s is = absurd (cc)

both_empty : (xs ys : List IndexRange) → xs ++ ys ≡ [] → (xs ≡ []) × (ys ≡ [])
both_empty [] ys is = (refl, is)
both_empty (x ∷ xs) ys is = absurd (cc)

-- ---- names without a field

value_stands : (env : Environment) (name : Name) (indices : List IndexRange) (done : Referent × NodeType) (m : Option Meaning) → meaning_of env.names name ≡ m
    → value_rule m indices ≡ Ok done → StandsFor env name indices None [] done.0 done.1
unfolding value_rule
value_stands env name indices done (Some (meaning.Parameter local scale)) means is =
    let s = found_split (referent.Local local) (part_rule None (type.Local Number scale) [] indices) done is in
    subst (λ d. StandsFor env name indices None [] d.0 d.1) s.2 (StandsFor.parameter name local scale indices s.0 means s.1)
value_stands env name indices done (Some (meaning.Local local whole)) means is =
    let s = found_split (referent.Local local) (part_rule None whole [] indices) done is in
    subst (λ d. StandsFor env name indices None [] d.0 d.1) s.2 (StandsFor.local_variable name local whole indices s.0 means s.1)
value_stands env name indices done (Some (meaning.Turn local range)) means is =
    let s = found_split (referent.Turn local range) (part_rule None (type.Local Number 0) [] indices) done is in
    subst (λ d. StandsFor env name indices None [] d.0 d.1) s.2 (StandsFor.turn name local range indices s.0 means s.1)
value_stands env name indices done (Some (meaning.Variable number t)) means is =
    let s = found_split (referent.Variable number) (whole_rule t indices) done is in
    let w = whole_split t indices s.0 s.1 in
    subst (λ d. StandsFor env name indices None [] d.0 d.1) s.2
    (subst (λ i. StandsFor env name i None [] (referent.Variable number) s.0) (sym w.0)
    (subst (λ u. StandsFor env name [] None [] (referent.Variable number) u) w.1 (StandsFor.variable name number t means)))
value_stands env name indices done (Some (meaning.Counter local)) means is =
    let s = found_split (referent.Local local) (whole_rule (type.Local Number 0) indices) done is in
    let w = whole_split (type.Local Number 0) indices s.0 s.1 in
    subst (λ d. StandsFor env name indices None [] d.0 d.1) s.2
    (subst (λ i. StandsFor env name i None [] (referent.Local local) s.0) (sym w.0)
    (subst (λ u. StandsFor env name [] None [] (referent.Local local) u) w.1 (StandsFor.counter name local means)))
value_stands env name indices done (Some (meaning.Own element)) means is = absurd (no_value_found indices done is)
value_stands env name indices done (Some (meaning.Ends element count)) means is = absurd (no_value_found indices done is)
value_stands env name indices done (Some (meaning.Result result t)) means is = absurd (no_value_found indices done is)
value_stands env name indices done other means is = absurd (cc)

-- ---- fields

set_stands : (env : Environment) (name : Name) (places : List IndexRange) (field : Name) (indices : List IndexRange) (set : ℕ) (done : Referent × NodeType)
    (level : Level) → env.level ≡ level → (f : Option (ℕ × NodeType)) → find_field (fields_of env.declarations (element_in env.declarations set)) field ≡ f
    → Means env name (meaning.Set set) → set_member level set f (places ++ indices) ≡ Ok done → StandsFor env name places (Some field) indices done.0 done.1
unfolding set_member
set_stands env name places field indices set done Main at (Some f) has means is =
    let s = found_split (referent.Field set f.0) (whole_rule (over_set set f.1) (places ++ indices)) done is in
    let w = whole_split (over_set set f.1) (places ++ indices) s.0 s.1 in
    let none = both_empty places indices w.0 in
    subst (λ d. StandsFor env name places (Some field) indices d.0 d.1) s.2
    (subst (λ p. StandsFor env name p (Some field) indices (referent.Field set f.0) s.0) (sym none.0)
    (subst (λ i. StandsFor env name [] (Some field) i (referent.Field set f.0) s.0) (sym none.1)
    (subst (λ u. StandsFor env name [] (Some field) [] (referent.Field set f.0) u) w.1
    (StandsFor.set_field name set field f.0 f.1 means at has))))
set_stands env name places field indices set done Main at None has means is = absurd (cc)
set_stands env name places field indices set done Function at f has means is = absurd (cc)

own_stands : (env : Environment) (name : Name) (places : List IndexRange) (field : Name) (indices : List IndexRange) (element : ℕ) (done : Referent × NodeType)
    (f : Option (ℕ × NodeType)) → find_field (fields_of env.declarations element) field ≡ f
    → Means env name (meaning.Own element) → own_member f places indices ≡ Ok done → StandsFor env name places (Some field) indices done.0 done.1
unfolding own_member
own_stands env name places field indices element done (Some f) has means is =
    let s = found_split (referent.Own f.0) (part_rule None f.1 places indices) done is in
    subst (λ d. StandsFor env name places (Some field) indices d.0 d.1) s.2 (StandsFor.own_field name element places field f.0 f.1 indices s.0 means has s.1)
own_stands env name places field indices element done None has means is = absurd (cc)

end_stands : (env : Environment) (name : Name) (places : List IndexRange) (field : Name) (indices : List IndexRange) (element count : ℕ) (done : Referent × NodeType)
    (f : Option (ℕ × NodeType)) → find_field (fields_of env.declarations element) field ≡ f
    → Means env name (meaning.Ends element count) → end_member count f places indices ≡ Ok done → StandsFor env name places (Some field) indices done.0 done.1
unfolding end_member
end_stands env name places field indices element count done (Some f) has means is =
    let s = found_split (referent.End f.0) (part_rule (Some count) f.1 places indices) done is in
    subst (λ d. StandsFor env name places (Some field) indices d.0 d.1) s.2
    (StandsFor.endpoint_field name element count places field f.0 f.1 indices s.0 means has s.1)
end_stands env name places field indices element count done None has means is = absurd (cc)

member_stands : (env : Environment) (name : Name) (places : List IndexRange) (field : Name) (indices : List IndexRange) (done : Referent × NodeType)
    (m : Option Meaning) → meaning_of env.names name ≡ m → member_rule env m field places indices ≡ Ok done → StandsFor env name places (Some field) indices done.0 done.1
unfolding member_rule
member_stands env name places field indices done (Some (meaning.Set set)) means is =
    set_stands env name places field indices set done env.level refl (find_field (fields_of env.declarations (element_in env.declarations set)) field) refl means is
member_stands env name places field indices done (Some (meaning.Own element)) means is =
    own_stands env name places field indices element done (find_field (fields_of env.declarations element) field) refl means is
member_stands env name places field indices done (Some (meaning.Ends element count)) means is =
    end_stands env name places field indices element count done (find_field (fields_of env.declarations element) field) refl means is
member_stands env name places field indices done other means is = absurd (cc)

name_stands : (env : Environment) (name : Name) (places : List IndexRange) (field : Option Name) (indices : List IndexRange) (done : Referent × NodeType)
    → name_rule env name places field indices ≡ Ok done → StandsFor env name places field indices done.0 done.1
unfolding name_rule
name_stands env name places None [] done is = value_stands env name places done (meaning_of env.names name) refl is
name_stands env name places None (i ∷ indices) done is = absurd (cc)
name_stands env name places (Some field) indices done is = member_stands env name places field indices done (meaning_of env.names name) refl is

ranked_split : (rank : Option ℕ) (what : Referent × NodeType) (done : Referent × NodeType) → ranked rank what ≡ Ok done → (what.0 ≡ done.0) × IsRanked rank what.1 done.1
ranked_split None what done is =
    let same = same_Ok what done is in
    (ap (λ d. d.0) same, subst (λ d. IsRanked None what.1 d.1) same (IsRanked.no_rank what.1))
ranked_split (Some rank) what done is =
    let s = found_split what.0 (rank_rule what.1 rank) done is in
    (ap (λ d. d.0) s.2, subst (λ d. IsRanked (Some rank) what.1 d.1) s.2 (IsRanked.has_rank rank what.1 s.0 s.1))

-- a host function that is called
pub record IsCall (env : Environment) (name : Name) (args : List TypedExpr) (field : Option Name) (field_args : List TypedExpr) (rank : Option ℕ) (done : Referent × NodeType) : Type 0 where
  pub host : HostSignature
  pub no_field : field ≡ None
  pub no_index : field_args ≡ []
  pub means : Means env name (meaning.Host host)
  pub arguments : map type_of args ≡ map (type.Local Number) (scales_of host.arguments)
  pub number : referent.Host host.number ≡ done.0
  pub is_ranked : IsRanked rank (type.Local Number host.scale) done.1

-- a name that stands for a value
abbrev pub Named : Environment → Name → List TypedExpr → Option Name → List TypedExpr → Option ℕ → Referent × NodeType → Type 0
Named env name args field field_args rank done =
    (view : NodeType) × StandsFor env name (map range_of args) field (map range_of field_args) done.0 view × IsRanked rank view done.1

host_meant : (m : Option Meaning) (host : HostSignature) → host_in m ≡ Some host → m ≡ Some (meaning.Host host)
host_meant (Some (meaning.Host h)) host is = ap (λ o. option_map meaning.Host o) is
host_meant other host is = absurd (cc)

host_split : (env : Environment) (name : Name) (field : Option Name) (field_args : List TypedExpr) (host : HostSignature) → host_named env name field field_args ≡ Some host
    → (field ≡ None) × (field_args ≡ []) × Means env name (meaning.Host host)
host_split env name None [] host is = (refl, refl, host_meant (meaning_of env.names name) host is)
host_split env name None (f ∷ field_args) host is = absurd (cc)
host_split env name (Some field) field_args host is = absurd (cc)

called : (env : Environment) (name : Name) (args : List TypedExpr) (field : Option Name) (field_args : List TypedExpr) (rank : Option ℕ) (done : Referent × NodeType)
    (host : HostSignature) → host_named env name field field_args ≡ Some host
    → (found (referent.Host host.number) (call_rule (scales_of host.arguments) host.scale (map type_of args)) >>= ranked rank) ≡ Ok done
    → IsCall env name args field field_args rank done
called env name args field field_args rank done host at is =
    let rule = call_rule (scales_of host.arguments) host.scale (map type_of args) in
    let w = and_then (found (referent.Host host.number) rule) (ranked rank) done is in
    let s = found_split (referent.Host host.number) rule w.0 w.1 in
    let c = call_split (scales_of host.arguments) host.scale (map type_of args) s.0 s.1 in
    let r = ranked_split rank w.0 done w.2 in
    let h = host_split env name field field_args host at in
    record {
      host = host;
      no_field = h.0;
      no_index = h.1;
      means = h.2;
      arguments = c.0;
      number = ap (λ d. d.0) s.2 ∙ r.0;
      is_ranked = subst (λ t. IsRanked rank t done.1) (sym (c.1 ∙ ap (λ d. d.1) s.2)) r.1;
    }

named : (env : Environment) (name : Name) (args : List TypedExpr) (field : Option Name) (field_args : List TypedExpr) (rank : Option ℕ) (done : Referent × NodeType)
    → (name_rule env name (map range_of args) field (map range_of field_args) >>= ranked rank) ≡ Ok done → Named env name args field field_args rank done
named env name args field field_args rank done is =
    let w = and_then (name_rule env name (map range_of args) field (map range_of field_args)) (ranked rank) done is in
    let r = ranked_split rank w.0 done w.2 in (
      w.0.1,
      subst (λ q. StandsFor env name (map range_of args) field (map range_of field_args) q w.0.1) r.0
          (name_stands env name (map range_of args) field (map range_of field_args) w.0 w.1),
      r.1,
    )

-- what is found of a reference is what it stands for, or what it calls
pub reference_stands : (env : Environment) (name : Name) (args : List TypedExpr) (field : Option Name) (field_args : List TypedExpr) (rank : Option ℕ) (done : Referent × NodeType)
    → reference_rule env name args field field_args rank ≡ Ok done → Named env name args field field_args rank done ⊎ IsCall env name args field field_args rank done
unfolding called_or_named
reference_stands env name args field field_args rank done is = by_host (host_named env name field field_args) refl is
  where
    by_host : (h : Option HostSignature) → host_named env name field field_args ≡ h → (called_or_named env h name args field field_args >>= ranked rank) ≡ Ok done
        → Named env name args field field_args rank done ⊎ IsCall env name args field field_args rank done
    by_host None at answers = inl (named env name args field field_args rank done answers)
    by_host (Some host) at answers = inr (called env name args field field_args rank done host at answers)

-- ---- the other way round

only_set : (set : ℕ) (number : ℕ) (f : NodeType) (level : Level) (member : Option (ℕ × NodeType)) → level ≡ Main → member ≡ Some (number, f)
    → set_member level set member [] ≡ Ok (referent.Field set number, over_set set f)
unfolding set_member
only_set set number f level member at has = ap (λ l. set_member l set member []) at ∙ ap (λ o. set_member Main set o []) has

only_own : (places indices : List IndexRange) (number : ℕ) (f : NodeType) (t : NodeType) (member : Option (ℕ × NodeType)) → member ≡ Some (number, f)
    → part_rule None f places indices ≡ Ok t → own_member member places indices ≡ Ok (referent.Own number, t)
unfolding own_member
only_own places indices number f t member has rule = ap (λ o. own_member o places indices) has ∙ ap (found (referent.Own number)) rule

only_end : (count : ℕ) (places indices : List IndexRange) (number : ℕ) (f : NodeType) (t : NodeType) (member : Option (ℕ × NodeType)) → member ≡ Some (number, f)
    → part_rule (Some count) f places indices ≡ Ok t → end_member count member places indices ≡ Ok (referent.End number, t)
unfolding end_member
only_end count places indices number f t member has rule = ap (λ o. end_member count o places indices) has ∙ ap (found (referent.End number)) rule

only_name : (env : Environment) (name : Name) (places : List IndexRange) (field : Option Name) (indices : List IndexRange) (what : Referent) (t : NodeType)
    → StandsFor env name places field indices what t → name_rule env name places field indices ≡ Ok (what, t)
unfolding name_rule value_rule member_rule
only_name env name places field indices what t (StandsFor.parameter n local scale entry u means rule) =
    ap (λ m. value_rule m entry) means ∙ ap (found (referent.Local local)) rule
only_name env name places field indices what t (StandsFor.local_variable n local whole entry u means rule) =
    ap (λ m. value_rule m entry) means ∙ ap (found (referent.Local local)) rule
only_name env name places field indices what t (StandsFor.turn n local range entry u means rule) =
    ap (λ m. value_rule m entry) means ∙ ap (found (referent.Turn local range)) rule
only_name env name places field indices what t (StandsFor.own_field n element ps fi number f entry u means has rule) =
    ap (λ m. member_rule env m fi ps entry) means ∙ only_own ps entry number f u (find_field (fields_of env.declarations element) fi) has rule
only_name env name places field indices what t (StandsFor.endpoint_field n element count ps fi number f entry u means has rule) =
    ap (λ m. member_rule env m fi ps entry) means ∙ only_end count ps entry number f u (find_field (fields_of env.declarations element) fi) has rule
only_name env name places field indices what t (StandsFor.variable n number u means) = ap (λ m. value_rule m []) means
only_name env name places field indices what t (StandsFor.counter n local means) = ap (λ m. value_rule m []) means
only_name env name places field indices what t (StandsFor.set_field n set fi number f means at has) =
    ap (λ m. member_rule env m fi [] []) means
    ∙ only_set set number f env.level (find_field (fields_of env.declarations (element_in env.declarations set)) fi) at has

only_ranked : (rank : Option ℕ) (what : Referent) (view t : NodeType) → IsRanked rank view t → ranked rank (what, view) ≡ Ok (what, t)
only_ranked rank what view t (IsRanked.no_rank u) = refl
only_ranked rank what view t (IsRanked.has_rank r v u rule) = ap (found what) rule

other_name : (env : Environment) (name : Name) (field_args : List TypedExpr) (m : Meaning) → Means env name m → host_in (Some m) ≡ None
    → host_named env name None field_args ≡ None
other_name env name [] m means other = ap host_in means ∙ other
other_name env name (f ∷ field_args) m means other = refl

no_host : (env : Environment) (name : Name) (places : List IndexRange) (field : Option Name) (indices : List IndexRange) (what : Referent) (t : NodeType)
    → StandsFor env name places field indices what t → (field_args : List TypedExpr) → host_named env name field field_args ≡ None
no_host env name places field indices what t (StandsFor.parameter n local scale entry u means rule) args = other_name env n args (meaning.Parameter local scale) means refl
no_host env name places field indices what t (StandsFor.local_variable n local whole entry u means rule) args = other_name env n args (meaning.Local local whole) means refl
no_host env name places field indices what t (StandsFor.turn n local range entry u means rule) args = other_name env n args (meaning.Turn local range) means refl
no_host env name places field indices what t (StandsFor.variable n number u means) args = other_name env n args (meaning.Variable number u) means refl
no_host env name places field indices what t (StandsFor.counter n local means) args = other_name env n args (meaning.Counter local) means refl
no_host env name places field indices what t (StandsFor.own_field n element ps fi number f entry u means has rule) args = refl
no_host env name places field indices what t (StandsFor.endpoint_field n element count ps fi number f entry u means has rule) args = refl
no_host env name places field indices what t (StandsFor.set_field n set fi number f means at has) args = refl

pub only_reference : (env : Environment) (name : Name) (args : List TypedExpr) (field : Option Name) (field_args : List TypedExpr) (rank : Option ℕ)
    (what : Referent) (view t : NodeType) → StandsFor env name (map range_of args) field (map range_of field_args) what view → IsRanked rank view t
    → reference_rule env name args field field_args rank ≡ Ok (what, t)
unfolding called_or_named
only_reference env name args field field_args rank what view t stands is =
    ap (λ h. called_or_named env h name args field field_args >>= ranked rank)
    (no_host env name (map range_of args) field (map range_of field_args) what view stands field_args)
    ∙ ap (λ r. r >>= ranked rank) (only_name env name (map range_of args) field (map range_of field_args) what view stands) ∙ only_ranked rank what view t is

pub only_call : (env : Environment) (name : Name) (args : List TypedExpr) (rank : Option ℕ) (host : HostSignature) (t : NodeType)
    → Means env name (meaning.Host host) → map type_of args ≡ map (type.Local Number) (scales_of host.arguments) → IsRanked rank (type.Local Number host.scale) t
    → reference_rule env name args None [] rank ≡ Ok (referent.Host host.number, t)
unfolding called_or_named
only_call env name args rank host t means arguments is =
    ap (λ m. called_or_named env (host_in m) name args None [] >>= ranked rank) means
    ∙ ap (λ r. found (referent.Host host.number) r >>= ranked rank) (call_is (scales_of host.arguments) host.scale (map type_of args) arguments)
    ∙ only_ranked rank (referent.Host host.number) (type.Local Number host.scale) t is
