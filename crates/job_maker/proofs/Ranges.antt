-- Lists over the numbers below a bound, as the bound grows.
use Rattle.std.proofs.Common.{◌≡◌, ℕ, ◌+◌, ◌%◌, ◌^◌, List, [], ◌∷◌, ◌++◌, map, zero-add, ap, sym, ◌∙◌}
use Rattle.std.specs.Prelude.{sum_by}
use Rattle.std.specs.List.{flat_map, range_with_len}
use Rattle.std.proofs.Math.Nat.{add-mod-mod, mod-add-mod}
use Rattle.std.proofs.lemmas.Grind.{flat_map-append}
use Rattle.std.proofs.lemmas.List.{map-id, append-nil}
use Rattle.std.proofs.lemmas.List.Concat.{flat_map-cons}
use Rattle.std.proofs.lemmas.List.FromFn.{map-range_with_len_more, sum_by-map-range_with_len_more}

pub range_more : (n : ℕ) → range_with_len 0 (n + 1) ≡ range_with_len 0 n ++ n ∷ []
range_more n = simp map-id at (map-range_with_len_more (λ x. x) 0 n n (zero-add n))

pub map_range_more : (f : ℕ → ℕ) (n : ℕ) → map f (range_with_len 0 (n + 1)) ≡ map f (range_with_len 0 n) ++ f n ∷ []
map_range_more f n = map-range_with_len_more f 0 n n (zero-add n)

pub flat_range_more : (f : ℕ → List ℕ) (n : ℕ) → flat_map f (range_with_len 0 (n + 1)) ≡ flat_map f (range_with_len 0 n) ++ f n
flat_range_more f n =
    ap (flat_map f) (range_more n) ∙ flat_map-append f (range_with_len 0 n) (n ∷ [])
    ∙ ap (λ l. flat_map f (range_with_len 0 n) ++ l) (flat_map-cons f n [] ∙ append-nil (f n))

-- a sum modulo m, to which one term more is added
pub sum_range_more : (f : ℕ → ℕ) (n : ℕ)
    → sum_by f (range_with_len 0 (n + 1)) % 2 ^ 64 ≡ (sum_by f (range_with_len 0 n) % 2 ^ 64 + f n % 2 ^ 64) % 2 ^ 64
sum_range_more f n =
    ap (λ s. s % 2 ^ 64) (simp map-id at (sum_by-map-range_with_len_more f (λ x. x) 0 n n (zero-add n)))
    ∙ sym (mod-add-mod (sum_by f (range_with_len 0 n)) (2 ^ 64) (f n % 2 ^ 64) ∙ add-mod-mod (sum_by f (range_with_len 0 n)) (f n) (2 ^ 64))
