-- The sets of a made job are sets, and their endpoints are in range.
use Rattle.std.proofs.Common.{◌≡◌, ◌≤◌, ◌<◌, ◌*◌, ◌%◌, ℕ, zero, suc, ◌+◌, List, ◌∷◌, length, slice_index, refl, arith, ap, sym, subst, ◌∙◌}
use Rattle.std.specs.Prelude.{All}
use Rattle.std.specs.List.{flat_map, range_with_len}
use Rattle.std.proofs.Math.Nat.{mod-lt}
use Rattle.std.proofs.lemmas.List.Elements.{All-get_or, All-nil, All-cons}
use Rattle.std.proofs.lemmas.List.Concat.{flat_map-cons}
use Rattle.std.proofs.lemmas.List.FromFn.{length-map-range_with_len}
use Rattle.hypergraph.specs.SetValue.{IsSetData}
use Rattle.hypergraph.specs.Sets.{AllLieOverEarlier, set_at, endpoint_bound}
use Rattle.hypergraph.specs.BadEndpoint.{IsBadIn, IsFirstBad}
use Rattle.hypergraph.specs.declared.errors.BadEndpoint.{BadEndpoint}
use Rattle.job_maker.specs.declared.made.TheConstants.{MOST_POINTS}
use Rattle.job_maker.specs.Job as spec

two_more : (m : ℕ) → suc (suc (m * 2)) ≡ suc m * 2
two_more m = omega arith

-- as many endpoints as twice the springs
endpoints_len : (seed n a m : ℕ) → length (flat_map (spec.joined seed n) (range_with_len a m)) ≡ m * 2
unfolding spec.joined
endpoints_len seed n a zero = refl
endpoints_len seed n a (suc m) =
    ap length (flat_map-cons (spec.joined seed n) a (range_with_len (a + 1) m))
    ∙ ap (λ k. suc (suc k)) (endpoints_len seed n (a + 1) m) ∙ two_more m

-- each is the number of a point
endpoints_below : (seed n a m : ℕ) → 1 ≤ n → All (λ e. e < n) (flat_map (spec.joined seed n) (range_with_len a m))
unfolding spec.joined
endpoints_below seed n a zero some = All-nil (λ e. e < n)
endpoints_below seed n a (suc m) some =
    let rest : List ℕ = flat_map (spec.joined seed n) (range_with_len (a + 1) m) in
    subst (λ l. All (λ e. e < n) l) (sym (flat_map-cons (spec.joined seed n) a (range_with_len (a + 1) m)))
    (All-cons (λ e. e < n) (a % n) ((7 * a + seed) % n ∷ rest) (mod-lt a some)
    (All-cons (λ e. e < n) ((7 * a + seed) % n) rest (mod-lt (7 * a + seed) some) (endpoints_below seed n (a + 1) m some)))

all_endpoints : (seed n : ℕ) → length (spec.endpoints seed n) ≡ 2 * n * 2
unfolding spec.endpoints
all_endpoints seed n = endpoints_len seed n 0 (2 * n)

pub are_points : (seed n : ℕ) → n ≤ MOST_POINTS → IsSetData (spec.points seed n)
are_points seed n few = grind (length-map-range_with_len, arith)

pub are_springs : (seed n : ℕ) → n ≤ MOST_POINTS → IsSetData (spec.springs seed n)
are_springs seed n few = grind (length-map-range_with_len, all_endpoints, arith)

pub lie_over_earlier : (seed n : ℕ) → AllLieOverEarlier (spec.made_sets seed n)
lie_over_earlier seed n zero in_range = tt
lie_over_earlier seed n (suc zero) in_range = (omega arith, refl)
lie_over_earlier seed n (suc (suc k)) in_range = absurd (omega arith)

all_below : (seed n : ℕ) → 1 ≤ n → All (λ e. e < n) (spec.endpoints seed n)
unfolding spec.endpoints
all_below seed n some = endpoints_below seed n 0 (2 * n) some

is_index : (n element position : ℕ) → element < 2 * n → position < 2 → element * 2 + position < 2 * n * 2
is_index n element position element_in position_in = omega arith

none_bad_in : (seed n number element position : ℕ) → 1 ≤ n → number < 2
    → ¬ IsBadIn (set_at (spec.made_sets seed n) number) (endpoint_bound (spec.made_sets seed n) number) element position
none_bad_in seed n zero element position some in_range bad = let no : position < 0 = bad.position_in in absurd (omega arith)
none_bad_in seed n (suc zero) element position some in_range bad =
    let index : element * 2 + position < length (spec.endpoints seed n) =
    rw all_endpoints (is_index n element position bad.element_in bad.position_in) in
    let below : slice_index (spec.endpoints seed n) (element * 2 + position) < n =
    All-get_or (λ e. e < n) (spec.endpoints seed n) (element * 2 + position) 0 index (all_below seed n some) in
    let not_below : n ≤ slice_index (spec.endpoints seed n) (element * 2 + position) = bad.not_below in
    absurd (omega arith)
none_bad_in seed n (suc (suc k)) element position some in_range bad = absurd (omega arith)

pub none_bad : (seed n : ℕ) → 1 ≤ n → (bad : BadEndpoint) → ¬ IsFirstBad (spec.made_sets seed n) bad
none_bad seed n some bad first =
    none_bad_in seed n bad.set bad.element bad.place some first.is_bad.set_in first.is_bad.bad
