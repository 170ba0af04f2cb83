-- A map answers the trap of the least element that traps, or what all elements contribute, assembled.
use Rattle.std.proofs.Common.{◌≡◌, ◌⊎◌, ℕ, zero, suc, ◌+◌, ◌<◌, ◌≤◌, List, [], ◌++◌, Result, Ok, Err, refl, sym, ap, subst, ◌∙◌, inl, inr, append_assoc}
use Rattle.std.specs.List.{flat_map, range_with_len}
use Rattle.std.proofs.lemmas.List.{append-nil}
use Rattle.std.proofs.Math.Nat.{eq-or-lt_of_le}
use native.Mathlib.Omega.{arith}
use Rattle.vocabulary.specs.Answers.{◌>>=◌, fold_result}
use Rattle.ring_words.specs.declared.trap.TrapKind.{TrapKind}
use Rattle.hypergraph.specs.Sets.{set_at}
use Rattle.value_algebra.specs.declared.value.Value.{Value}
use Rattle.algebra_meaning.specs.Assembled.{all_assembled, all_contributions, contributions_at, mapped, of_element}
use Rattle.algebra_meaning.specs.declared.contribution.Contribution.{Contribution}
use Rattle.algebra_meaning.specs.declared.stopped.Trapped.{Trapped}
use Rattle.run_laws.specs.Laws.{IsMapAnswered, MapAnswersOnly}
use Rattle.run_laws.specs.Maps.{MapsTo}

-- what each element contributes, or its trap
abbrev Contributes : Type 0
Contributes = ℕ → Result (List Contribution) TrapKind

abbrev step : Contributes → List Contribution → ℕ → Result (List Contribution) Trapped
step each so_far element = of_element element (each element) >>= λ contributed. Ok (so_far ++ contributed)

-- ---- each element of a range contributes

inside : (a n e : ℕ) → a + 1 ≤ e → e < a + 1 + n → (a ≤ e) × (e < a + suc n)
inside a n e from to = (omega arith, omega arith)

first_in : (a n : ℕ) → (a ≤ a) × (a < a + suc n)
first_in a n = (omega arith, omega arith)

all_gathered : (each : Contributes) (contributed : ℕ → List Contribution) (so_far : List Contribution) (a n : ℕ)
    → ((e : ℕ) → a ≤ e → e < a + n → each e ≡ Ok (contributed e))
    → fold_result (step each) so_far (range_with_len a n) ≡ Ok (so_far ++ flat_map contributed (range_with_len a n))
all_gathered each contributed so_far a zero all = ap (λ l. Ok l) (sym (append-nil so_far))
all_gathered each contributed so_far a (suc n) all =
    let here = first_in a n in
    ap (λ o. (of_element a o >>= λ c. Ok (so_far ++ c)) >>= λ next. fold_result (step each) next (range_with_len (a + 1) n)) (all a here.0 here.1)
    ∙ all_gathered each contributed (so_far ++ contributed a) (a + 1) n (λ e from to. let e_in = inside a n e from to in all e e_in.0 e_in.1)
    ∙ ap (λ l. Ok l) (append_assoc so_far (contributed a) (flat_map contributed (range_with_len (a + 1) n)))

-- ---- an element of a range traps, and none before it does

none_left : (a e : ℕ) → a ≤ e → e < a + 0 → ⊥
none_left a e from to = omega arith

further : (a n e : ℕ) → a < e → e < a + suc n → (a + 1 ≤ e) × (e < a + 1 + n)
further a n e from to = (omega arith, omega arith)

from_before : (a d : ℕ) → a + 1 ≤ d → a ≤ d
from_before a d from = omega arith

least_found : (each : Contributes) (contributed : ℕ → List Contribution) (so_far : List Contribution) (a n e : ℕ) (kind : TrapKind)
    → a ≤ e → e < a + n → each e ≡ Err kind → ((d : ℕ) → a ≤ d → d < e → each d ≡ Ok (contributed d))
    → fold_result (step each) so_far (range_with_len a n) ≡ Err (record { element = e; kind = kind })
least_found each contributed so_far a zero e kind from to traps before = absurd (none_left a e from to)
least_found each contributed so_far a (suc n) e kind from to traps before =
    by_place (λ later. let e_in = further a n e later to in
    least_found each contributed (so_far ++ contributed a) (a + 1) n e kind e_in.0 e_in.1 traps (λ d d_from d_to. before d (from_before a d d_from) d_to))
    (eq-or-lt_of_le from)
  where
    goes_on : Result (List Contribution) TrapKind → Result (List Contribution) Trapped
    goes_on o = (of_element a o >>= λ c. Ok (so_far ++ c)) >>= λ next. fold_result (step each) next (range_with_len (a + 1) n)

    by_place : (a < e → fold_result (step each) (so_far ++ contributed a) (range_with_len (a + 1) n) ≡ Err (record { element = e; kind = kind }))
        → (a ≡ e) ⊎ (a < e) → goes_on (each a) ≡ Err (record { element = e; kind = kind })
    by_place after (inl here) = ap goes_on (ap each here ∙ traps) ∙ ap (λ d. Err (record { element = d; kind = kind })) here
    by_place after (inr later) = ap goes_on (before a (first_in a n).0 later) ∙ after later

-- ---- which of the two it is

abbrev or_nothing : Result (List Contribution) TrapKind → List Contribution
or_nothing (Ok contributed) = contributed
or_nothing (Err kind) = []

record Least (each : Contributes) (n : ℕ) : Type 0 where
  element : ℕ
  kind : TrapKind
  within : element < n
  traps : each element ≡ Err kind
  before : (d : ℕ) → d < element → each d ≡ Ok (or_nothing (each d))

abbrev All : Contributes → ℕ → Type 0
All each n = (e : ℕ) → e < n → each e ≡ Ok (or_nothing (each e))

nothing_below : (e : ℕ) → e < 0 → ⊥
nothing_below e below = omega arith

below_next : (n : ℕ) → n < suc n
below_next n = omega arith

still_within : (e n : ℕ) → e < n → e < suc n
still_within e n below = omega arith

at_most : (e n : ℕ) → e < suc n → e ≤ n
at_most e n below = omega arith

with_next : (each : Contributes) (n : ℕ) → All each n → each n ≡ Ok (or_nothing (each n)) → All each (suc n)
with_next each n all here e below = by_place (eq-or-lt_of_le (at_most e n below))
  where
    by_place : (e ≡ n) ⊎ (e < n) → each e ≡ Ok (or_nothing (each e))
    by_place (inl is) = subst (λ d. each d ≡ Ok (or_nothing (each d))) (sym is) here
    by_place (inr lower) = all e lower

next_tried : (each : Contributes) (n : ℕ) → All each n → (o : Result (List Contribution) TrapKind) → each n ≡ o → All each (suc n) ⊎ Least each (suc n)
next_tried each n all (Ok contributed) is = inl (with_next each n all (is ∙ ap (λ c. Ok (or_nothing c)) (sym is)))
next_tried each n all (Err kind) is = inr (record { element = n; kind = kind; within = below_next n; traps = is; before = all })

tried : (each : Contributes) (n : ℕ) → All each n ⊎ Least each n
tried each zero = inl (λ e below. absurd (nothing_below e below))
tried each (suc n) = by_others (tried each n)
  where
    by_others : All each n ⊎ Least each n → All each (suc n) ⊎ Least each (suc n)
    by_others (inl all) = next_tried each n all (each n) refl
    by_others (inr least) = inr (record {
      element = least.element;
      kind = least.kind;
      within = still_within least.element n least.within;
      traps = least.traps;
      before = least.before;
    })

-- ---- maps

zero_least : (n : ℕ) → 0 ≤ n
zero_least n = omega arith

from_zero : (e n : ℕ) → e < 0 + n → e < n
from_zero e n within = omega arith

to_zero : (e n : ℕ) → e < n → e < 0 + n
to_zero e n within = omega arith

pub map_only : MapAnswersOnly
unfolding mapped all_contributions
map_only program sets set function args outcome (MapsTo.all_contribute contributed all) =
    ap (λ o. o >>= λ c. Ok (all_assembled sets c 0 function.results))
    (all_gathered (contributions_at program sets set function args) contributed [] 0 (set_at sets set).count
    (λ e from to. all e (from_zero e (set_at sets set).count to)))
map_only program sets set function args outcome (MapsTo.least_traps e kind contributed within traps before) =
    ap (λ o. o >>= λ c. Ok (all_assembled sets c 0 function.results))
    (least_found (contributions_at program sets set function args) contributed [] 0 (set_at sets set).count e kind (zero_least e)
    (to_zero e (set_at sets set).count within) traps (λ d from to. before d to))

pub map_answered : IsMapAnswered
map_answered program sets set function args = by_case (tried (contributions_at program sets set function args) (set_at sets set).count)
  where
    is_answered : (outcome : Result (List Value) Trapped) → MapsTo program sets set function args outcome
        → MapsTo program sets set function args (mapped program sets set function args)
    is_answered outcome maps = subst (MapsTo program sets set function args) (sym (map_only program sets set function args outcome maps)) maps

    by_case : All (contributions_at program sets set function args) (set_at sets set).count ⊎ Least (contributions_at program sets set function args) (set_at sets set).count
        → MapsTo program sets set function args (mapped program sets set function args)
    by_case (inl all) = is_answered _ (MapsTo.all_contribute (λ e. or_nothing (contributions_at program sets set function args e)) all)
    by_case (inr least) = is_answered _ (MapsTo.least_traps least.element least.kind (λ e. or_nothing (contributions_at program sets set function args e))
        least.within least.traps least.before)
