-- Fields and names.
use Rattle.std.proofs.Common.{◌≡◌, ℕ, ◌<◌, ◌≤◌, length, get_or, map, arith}
use Rattle.std.specs.List.{range_with_len}
use Rattle.std.proofs.lemmas.List.{get_or_past}
use Rattle.std.proofs.lemmas.List.FromFn.{get_or-map-range_with_len, length-map-range_with_len}

-- a word that was made by its index
pub made_at : (f : ℕ → ℕ) (n i : ℕ) → i < n → get_or (map f (range_with_len 0 n)) i 0 ≡ f i
made_at f n i below = get_or-map-range_with_len f 0 n i i 0 below (omega arith)

pub made_past : (f : ℕ → ℕ) (n i : ℕ) → n ≤ i → get_or (map f (range_with_len 0 n)) i 0 ≡ 0
made_past f n i past =
    let size : length (map f (range_with_len 0 n)) ≡ n = length-map-range_with_len f 0 n in
    get_or_past (map f (range_with_len 0 n)) i 0 (omega arith)
