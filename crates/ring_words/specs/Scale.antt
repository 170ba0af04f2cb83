-- Changes of scale, quotients and square roots. A word at scale s counts units of 1/10^s by its signed reading.
use Rattle.std.specs.Prelude.{ℕ, zero, suc, ℤ, pos, negsuc, ◌*ℤ◌, neg_ℤ, ◌+◌, ◌-◌, ◌*◌, ◌/◌, ◌^◌, Bool, nat_lt, nat_le, ◌==◌, Option, None, Some, if◌then◌else◌}
use Rattle.ring_words.specs.Word.{signed, word}

-- the greatest whole number that isn't above n / m, for a positive m
abbrev pub floor_by : ℤ → ℕ → ℤ
floor_by (pos n) m = pos (n / m)
floor_by (negsuc n) m = negsuc (n / m)

-- the same for an m of either sign
abbrev pub floor : ℤ → ℤ → ℤ
floor n (pos m) = floor_by n m
floor n (negsuc m) = floor_by (neg_ℤ n) (suc m)

-- the greatest number up to a bound that passes a test, or 0 where none does
abbrev pub greatest : (ℕ → Bool) → ℕ → ℕ
greatest test zero = zero
greatest test (suc n) = if test (suc n) then suc n else greatest test n

-- the greatest number whose square isn't above n
unfoldable pub root : ℕ → ℕ
root n = greatest (λ r. nat_le (r * r) n) n

-- a word at scale s, brought to scale d
unfoldable pub rescale : ℕ → ℕ → ℕ → ℕ
rescale w s d =
    if nat_lt d s then word (floor (signed w) (pos (10 ^ (s - d))))
    else word (pos w *ℤ pos (10 ^ (d - s)))

-- a at scale s by b at scale t, as a word at scale d; none where b is 0
unfoldable pub quot : ℕ → ℕ → ℕ → ℕ → ℕ → Option ℕ
quot a s b t d =
    if b == 0 then None
    else Some (word (floor (signed a *ℤ pos (10 ^ (d + t - s))) (signed b)))

-- the root of a word's signed reading, counted in smaller units
abbrev pub root_of : ℤ → ℕ → Option ℕ
root_of (pos n) units = Some (root (n * units))
root_of (negsuc n) units = None

-- the square root of a at scale s, as a word at scale d; none where a is negative
unfoldable pub isqrt : ℕ → ℕ → ℕ → Option ℕ
isqrt a s d = root_of (signed a) (10 ^ (2 * d - s))
