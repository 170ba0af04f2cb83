-- Host functions: what the definition answers is a typing, and each typing is what it answers.
use Rattle.std.proofs.Common.{◌≡◌, ℕ, suc, zero, ◌==◌, ◌+◌, ◌<◌, Bool, true, false, not, ◌||◌, List, [], ◌∷◌, length, map, slice_get, Option, Some, None, Ok, refl, sym, ap, subst, ◌∙◌, arith}
use Rattle.std.specs.Prelude.{position, nat_lt, if◌then◌else◌}
use Rattle.std.specs.List.{list_any, position_or_len}
use Rattle.std.specs.Option.{is_none, option_and_then, option_map}
use Rattle.std.specs.Str.{bytes_eq}
use Rattle.std.proofs.lemmas.Bool.{lt-ltb, le-ltb, eqb-true, eq-eqb, or_from, not-false, not_from_true}
use Rattle.std.proofs.lemmas.List.{length-map}
use Rattle.std.proofs.lemmas.List.Quantifiers.{position-Some}
use Rattle.std.proofs.lemmas.Option.{get_or_from_slice_get, slice_get_within}
use Rattle.std.proofs.lemmas.Slice.Eq.{bytes_eq-Decides}
use Rattle.vocabulary.specs.declared.limits.TheConstants.{MOST_SCALE}
use Rattle.host_table.specs.declared.table.HostName.{HostName}
use Rattle.sim_syntax.specs.declared.declaration.Decl.TheVariants as decl
use Rattle.type_rules.specs.Rules.{is_missing, is_scale_past, or_zero}
use Rattle.type_rules.specs.declared.types.TypeKind.{TypeKind}
use Rattle.type_rules.specs.declared.types.TypeKind.TheVariants as kind
use Rattle.typed_tree.specs.declared.environment.Walk.{Walk}
use Rattle.typed_tree.specs.declared.names.HostArguments.{HostArguments}
use Rattle.typed_tree.specs.declared.names.HostArguments.TheVariants as arguments
use Rattle.typed_tree.specs.declared.names.Meaning.TheVariants as meaning
use Rattle.typed_tree.specs.Literals.{whole}
use Rattle.typed_tree.specs.Names.{Name, meaning_of}
use Rattle.typed_tree.specs.Walking.{is_visible, naming}
use Rattle.typed_tree.specs.Declarations.{arity_in, faultless, host_arguments, host_by_name, host_decl, host_fault, number_in, stated}
use Rattle.typing_laws.specs.Scopes.{IsNew}
use Rattle.typing_laws.specs.Declarations.{AreHostArguments, IsDeclaration, IsHost, IsWhole}
use Rattle.typing_laws.proofs.Steps.{same_Ok}
use Rattle.typing_laws.proofs.NoFault.{none_first, first_none, none_either}
use Rattle.typing_laws.proofs.ScopeFacts.{not_known, known_not, at_line_then, at_line_and}
use Rattle.typing_laws.proofs.DeclarationBlocks.{faultless_split, past_split}
use Rattle.typing_laws.proofs.DeclarationFields.{same_bytes, other_bytes}

-- ---- the host table

abbrev has_name : Name → HostName → Bool
has_name name host = bytes_eq host.name name

abbrev entry_at : List HostName → ℕ → Option (ℕ × HostName)
entry_at hosts number = option_map (λ host. (number, host)) (slice_get hosts number)

is_entry : (hosts : List HostName) (name : Name) (number : ℕ) (host : HostName) → position (has_name name) hosts ≡ Some number → slice_get hosts number ≡ Some host
    → IsHost hosts name number host
is_entry hosts name number host is at =
    let found = position-Some (has_name name) hosts number host is in
    record {
      entry = at;
      has_name = (bytes_eq-Decides host.name name).0 (ap (has_name name) (sym (get_or_from_slice_get hosts number host host at)) ∙ found.1);
      first = λ earlier other below there.
          same_bytes other.name name (ap (has_name name) (sym (get_or_from_slice_get hosts earlier other host there)) ∙ found.2 earlier below);
    }

same_Some : {A : Type 0} (x y : A) → Some x ≡ Some y → x ≡ y
same_Some x y both = cc

host_split : (hosts : List HostName) (name : Name) (found : ℕ × HostName) → host_by_name hosts name ≡ Some found → IsHost hosts name found.0 found.1
host_split hosts name found is = by_position (position (has_name name) hosts) refl is
  where
    by_entry : (number : ℕ) → position (has_name name) hosts ≡ Some number → (o : Option HostName) → slice_get hosts number ≡ o
        → option_map (λ host. (number, host)) o ≡ Some found → IsHost hosts name found.0 found.1
    by_entry number stands None at answers = absurd (cc)
    by_entry number stands (Some host) at answers =
        subst (λ f. IsHost hosts name f.0 f.1) (same_Some (number, host) found answers) (is_entry hosts name number host stands at)

    by_position : (o : Option ℕ) → position (has_name name) hosts ≡ o → option_and_then (entry_at hosts) o ≡ Some found → IsHost hosts name found.0 found.1
    by_position None stands answers = absurd (cc)
    by_position (Some number) stands answers = by_entry number stands (slice_get hosts number) refl answers

one_plus : (n : ℕ) → 1 + n ≡ suc n
one_plus n = omega arith

-- the first entry that passes a test stands where the test first passes
first_stands : (test : HostName → Bool) (hosts : List HostName) (number : ℕ) (host : HostName) → slice_get hosts number ≡ Some host → test host ≡ true
    → ((earlier : ℕ) (other : HostName) → earlier < number → slice_get hosts earlier ≡ Some other → test other ≡ false) → position_or_len test hosts ≡ number
first_stands test [] number host at passes none = absurd (cc)
first_stands test (h ∷ hosts) zero host at passes none =
    let here : test h ≡ true = ap test (same_Some h host at) ∙ passes in
    rw here refl
first_stands test (h ∷ hosts) (suc number) host at passes none =
    let here : test h ≡ false = none 0 h (omega arith) refl in
    rw here (ap (λ n. 1 + n) (first_stands test hosts number host at passes (λ earlier other below there. none (suc earlier) other (omega arith) there)) ∙ one_plus number)

host_is : (hosts : List HostName) (name : Name) (number : ℕ) (host : HostName) → IsHost hosts name number host → host_by_name hosts name ≡ Some (number, host)
host_is hosts name number host is =
    let stands = first_stands (has_name name) hosts number host is.entry ((bytes_eq-Decides host.name name).1 is.has_name)
    (λ earlier other below there. other_bytes other.name name (is.first earlier other below there)) in
    let within = lt-ltb number (length hosts) (slice_get_within hosts number host is.entry) in
    let place : position (has_name name) hosts ≡ Some number =
    ap (λ n. if nat_lt n (length hosts) then Some n else None) stands ∙ ap (λ b. if b then Some number else None) within in
    ap (option_and_then (entry_at hosts)) place ∙ ap (option_map (λ h. (number, h))) is.entry

-- ---- arguments

arguments_typed : (args : List (List ℕ)) → is_none (host_arguments (map whole args)) ≡ false → list_any is_missing (map whole args) ≡ false
    → list_any (is_scale_past MOST_SCALE) (map whole args) ≡ false → AreHostArguments args (stated (host_arguments (map whole args)))
arguments_typed [] few there small = absurd (cc)
arguments_typed (a ∷ []) few there small =
    let s = past_split MOST_SCALE (whole a) (none_either (is_missing (whole a)) false there).0 (none_either (is_scale_past MOST_SCALE (whole a)) false small).0 in
    subst (λ o. AreHostArguments (a ∷ []) (arguments.One (or_zero o))) (sym s.1) (AreHostArguments.one a s.0 (s.1, s.2))
arguments_typed (a ∷ b ∷ []) few there small =
    let wholes = none_either (is_missing (whole a)) (list_any is_missing (whole b ∷ [])) there in
    let smalls = none_either (is_scale_past MOST_SCALE (whole a)) (list_any (is_scale_past MOST_SCALE) (whole b ∷ [])) small in
    let s = past_split MOST_SCALE (whole a) wholes.0 smalls.0 in
    let t = past_split MOST_SCALE (whole b) (none_either (is_missing (whole b)) false wholes.1).0 (none_either (is_scale_past MOST_SCALE (whole b)) false smalls.1).0 in
    subst (λ o. AreHostArguments (a ∷ b ∷ []) (arguments.Two (or_zero o) (or_zero (whole b)))) (sym s.1)
    (subst (λ o. AreHostArguments (a ∷ b ∷ []) (arguments.Two s.0 (or_zero o))) (sym t.1) (AreHostArguments.two a b s.0 t.0 (s.1, s.2) (t.1, t.2)))
arguments_typed (a ∷ b ∷ c ∷ args) few there small = absurd (cc)

only_arguments : (args : List (List ℕ)) (given : HostArguments) → AreHostArguments args given
    → (host_arguments (map whole args) ≡ Some given) × (list_any is_missing (map whole args) ≡ false) × (list_any (is_scale_past MOST_SCALE) (map whole args) ≡ false)
only_arguments args given (AreHostArguments.one digits scale is) = (
  ap (λ o. Some (arguments.One (or_zero o))) is.0,
  or_from (is_missing (whole digits)) false (ap is_missing is.0) refl,
  or_from (is_scale_past MOST_SCALE (whole digits)) false (ap (is_scale_past MOST_SCALE) is.0 ∙ le-ltb MOST_SCALE scale is.1) refl,
)
only_arguments args given (AreHostArguments.two digits more first second is also) = (
  ap (λ o. Some (arguments.Two (or_zero o) (or_zero (whole more)))) is.0 ∙ ap (λ o. Some (arguments.Two first (or_zero o))) also.0,
  or_from (is_missing (whole digits)) (list_any is_missing (whole more ∷ [])) (ap is_missing is.0) (or_from (is_missing (whole more)) false (ap is_missing also.0) refl),
  or_from (is_scale_past MOST_SCALE (whole digits)) (list_any (is_scale_past MOST_SCALE) (whole more ∷ [])) (ap (is_scale_past MOST_SCALE) is.0 ∙ le-ltb MOST_SCALE first is.1)
      (or_from (is_scale_past MOST_SCALE (whole more)) false (ap (is_scale_past MOST_SCALE) also.0 ∙ le-ltb MOST_SCALE second also.1) refl),
)

-- ---- faults

record IsFaultless (host : Option (ℕ × HostName)) (taken : Bool) (scales : List (Option ℕ)) (result : Option ℕ) : Type 0 where
  pub known : is_none host ≡ false
  pub new : taken ≡ false
  pub result_whole : is_missing result ≡ false
  pub scales_whole : list_any is_missing scales ≡ false
  pub many : length scales ≡ arity_in host
  pub few : is_none (host_arguments scales) ≡ false
  pub result_small : is_scale_past MOST_SCALE result ≡ false
  pub scales_small : list_any (is_scale_past MOST_SCALE) scales ≡ false

abbrev from_scale : List (Option ℕ) → Option ℕ → List (TypeKind × Bool)
from_scale scales result = (kind.Scale, is_scale_past MOST_SCALE result || list_any (is_scale_past MOST_SCALE) scales) ∷ []

abbrev from_shape : Option (ℕ × HostName) → List (Option ℕ) → Option ℕ → List (TypeKind × Bool)
from_shape host scales result = (kind.Shape, not (length scales == arity_in host) || is_none (host_arguments scales)) ∷ from_scale scales result

abbrev from_constant : Option (ℕ × HostName) → List (Option ℕ) → Option ℕ → List (TypeKind × Bool)
from_constant host scales result = (kind.NotConstant, is_missing result || list_any is_missing scales) ∷ from_shape host scales result

no_host_fault : (host : Option (ℕ × HostName)) (taken : Bool) (scales : List (Option ℕ)) (result : Option ℕ) → host_fault host taken scales result ≡ None
    → IsFaultless host taken scales result
unfolding host_fault
no_host_fault host taken scales result is =
    let a = none_first kind.Unknown (is_none host) ((kind.Twice, taken) ∷ from_constant host scales result) is in
    let b = none_first kind.Twice taken (from_constant host scales result) a.1 in
    let c = none_first kind.NotConstant (is_missing result || list_any is_missing scales) (from_shape host scales result) b.1 in
    let d = none_first kind.Shape (not (length scales == arity_in host) || is_none (host_arguments scales)) (from_scale scales result) c.1 in
    let e = none_first kind.Scale (is_scale_past MOST_SCALE result || list_any (is_scale_past MOST_SCALE) scales) [] d.1 in
    let wholes = none_either (is_missing result) (list_any is_missing scales) c.0 in
    let shape = none_either (not (length scales == arity_in host)) (is_none (host_arguments scales)) d.0 in
    let smalls = none_either (is_scale_past MOST_SCALE result) (list_any (is_scale_past MOST_SCALE) scales) e.0 in
    record {
      known = a.0;
      new = b.0;
      result_whole = wholes.0;
      scales_whole = wholes.1;
      many = eqb-true (length scales) (arity_in host) (not-false (length scales == arity_in host) shape.0);
      few = shape.1;
      result_small = smalls.0;
      scales_small = smalls.1;
    }

host_fault_none : (host : Option (ℕ × HostName)) (taken : Bool) (scales : List (Option ℕ)) (result : Option ℕ) → IsFaultless host taken scales result
    → host_fault host taken scales result ≡ None
unfolding host_fault
host_fault_none host taken scales result none =
    first_none kind.Unknown (is_none host) ((kind.Twice, taken) ∷ from_constant host scales result) none.known
    (first_none kind.Twice taken (from_constant host scales result) none.new
    (first_none kind.NotConstant (is_missing result || list_any is_missing scales) (from_shape host scales result)
    (or_from (is_missing result) (list_any is_missing scales) none.result_whole none.scales_whole)
    (first_none kind.Shape (not (length scales == arity_in host) || is_none (host_arguments scales)) (from_scale scales result)
    (or_from (not (length scales == arity_in host)) (is_none (host_arguments scales))
    (not_from_true (length scales == arity_in host) (eq-eqb (length scales) (arity_in host) none.many)) none.few)
    (first_none kind.Scale (is_scale_past MOST_SCALE result || list_any (is_scale_past MOST_SCALE) scales) []
    (or_from (is_scale_past MOST_SCALE result) (list_any (is_scale_past MOST_SCALE) scales) none.result_small none.scales_small) refl))))

-- ---- declarations

abbrev named_host : Walk → Name → ℕ → HostArguments → ℕ → Walk
named_host walk name number given scale = naming walk name (meaning.Host (record { number = number; arguments = given; scale = scale }))

there : {A : Type 0} (o : Option A) → is_none o ≡ false → (a : A) × (o ≡ Some a)
there None is = absurd (cc)
there (Some a) is = (a, refl)

pub host_typed : (hosts : List HostName) (line : ℕ) (name : Name) (args : List (List ℕ)) (result : List ℕ) (walk after : Walk)
    → host_decl hosts line name args result walk ≡ Ok after → IsDeclaration hosts (decl.Host line name args result) walk after
unfolding host_decl
host_typed hosts line name args result walk after is =
    let host = host_by_name hosts name in
    let scales = map whole args in
    let taken = is_visible walk name in
    let made = named_host walk name in
    let given = stated (host_arguments scales) in
    let fault = host_fault host taken scales (whole result) in
    let l = at_line_then line (faultless fault) (λ u. Ok (made (number_in host) given (or_zero (whole result)))) after is in
    let none = no_host_fault host taken scales (whole result) (faultless_split fault l.0 l.1) in
    let f = there host none.known in
    let r = past_split MOST_SCALE (whole result) none.result_whole none.result_small in
    subst (λ w. IsDeclaration hosts (decl.Host line name args result) walk w)
    (ap (λ o. made (number_in o) given r.0) (sym f.1) ∙ ap (λ o. made (number_in host) given (or_zero o)) (sym r.1)
    ∙ same_Ok (made (number_in host) given (or_zero (whole result))) after l.2)
    (IsDeclaration.host_function line name args result f.0.0 f.0.1 given r.0 walk (host_split hosts name f.0 f.1)
    (sym (length-map args whole) ∙ none.many ∙ ap arity_in f.1) (arguments_typed args none.few none.scales_whole none.scales_small)
    (r.1, r.2) (not_known (meaning_of walk.environment.names name) none.new))

pub only_host : (hosts : List HostName) (line : ℕ) (name : Name) (args : List (List ℕ)) (result : List ℕ) (number : ℕ) (host : HostName) (given : HostArguments) (scale : ℕ) (walk : Walk)
    → IsHost hosts name number host → length args ≡ host.arity → AreHostArguments args given → IsWhole MOST_SCALE result scale → IsNew walk name
    → host_decl hosts line name args result walk ≡ Ok (named_host walk name number given scale)
unfolding host_decl
only_host hosts line name args result number host given scale walk stands many are is new =
    let found = host_by_name hosts name in
    let found_is = host_is hosts name number host stands in
    let scales = map whole args in
    let taken = is_visible walk name in
    let made = named_host walk name in
    let a = only_arguments args given are in
    let none : IsFaultless found taken scales (whole result) = record {
      known = ap is_none found_is;
      new = known_not (meaning_of walk.environment.names name) new;
      result_whole = ap is_missing is.0;
      scales_whole = a.1;
      many = length-map args whole ∙ many ∙ sym (ap arity_in found_is);
      few = ap is_none a.0;
      result_small = ap (is_scale_past MOST_SCALE) is.0 ∙ le-ltb MOST_SCALE scale is.1;
      scales_small = a.2;
    } in
    at_line_and line (faultless (host_fault found taken scales (whole result))) (λ u. Ok (made (number_in found) (stated (host_arguments scales)) (or_zero (whole result)))) tt _
    (ap faultless (host_fault_none found taken scales (whole result) none))
    (ap (λ o. Ok (made (number_in o) (stated (host_arguments scales)) (or_zero (whole result)))) found_is
    ∙ ap (λ o. Ok (made number (stated o) (or_zero (whole result)))) a.0 ∙ ap (λ o. Ok (made number given (or_zero o))) is.0)
