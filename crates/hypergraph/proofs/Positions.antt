-- Endpoints by element and position, and where they stand in the list of a set's endpoints.
use Rattle.std.proofs.Common.{◌≡◌, ◌<◌, ◌+◌, ◌*◌, ◌/◌, ◌%◌, ℕ, length, get_or, zero, suc, ap, inl, inr, arith}
use Rattle.std.proofs.lemmas.Nat.{mul-add-lt}
use Rattle.std.proofs.Math.Nat.{div-add-mod, mul-div-le, lt_of_mul-lt-mul_left}
use Rattle.hypergraph.specs.SetValue.{SetValue, EndpointsBelow}
use Rattle.hypergraph.specs.BadEndpoint.{IsBeforeIn, IsFirstBadIn, IsFirstNotBelow}

-- a list of endpoints below the bound
pub below-all : (set : SetValue) (bound : ℕ) → length set.endpoints ≡ set.count * set.arity → ((k : ℕ) → k < length set.endpoints → get_or set.endpoints k 0 < bound) → EndpointsBelow set bound
below-all set bound whole below element position element_in position_in =
    below (element * set.arity + position) (omega (arith, mul-add-lt element set.arity position set.count element_in position_in))

-- what stands at n is the endpoint at position n % arity of element n / arity
position_of : (n arity : ℕ) → n / arity * arity + n % arity ≡ n
position_of n arity = omega (arith, div-add-mod n arity)

-- an earlier position stands before n
before : (n arity element position : ℕ) → position < arity → IsBeforeIn element position (n / arity) (n % arity) → element * arity + position < n
before n arity element position position_in (inl less) =
    omega (arith, mul-add-lt element arity position (n / arity) less position_in, div-add-mod n arity)
before n arity element position position_in (inr same) =
    omega (arith, ap (λ e. e * arity) same.0, div-add-mod n arity)

-- there are endpoints, so each element has some
some_places : (n count arity : ℕ) → n < count * arity → 0 < arity
some_places n count zero in' = absurd (omega arith)
some_places n count (suc arity) in' = omega arith

-- the first number of the endpoints that isn't below the bound is the first bad endpoint
pub first_bad_in : (set : SetValue) (bound n : ℕ) → length set.endpoints ≡ set.count * set.arity → IsFirstNotBelow set.endpoints bound n → IsFirstBadIn set bound (n / set.arity) (n % set.arity)
first_bad_in set bound n whole first =
    let some : 0 < set.arity = some_places n set.count set.arity (omega (arith, first.within)) in
    record {
      is_bad = record {
        element_in = lt_of_mul-lt-mul_left set.arity (omega (arith, first.within, mul-div-le n set.arity));
        position_in = omega arith;
        not_below = rw (position_of n set.arity) first.not_below;
      };
      none_before = λ element position bad earlier.
          let at = element * set.arity + position in
          omega (arith, bad.not_below, first.below_before at (before n set.arity element position bad.position_in earlier));
    }
