-- Words: the numbers from 0 to 2^64-1, their arithmetic and their signed reading.
use Rattle.std.specs.Prelude.{ℕ, ℤ, pos, negsuc, ◌+ℤ◌, ◌-ℤ◌, ◌*ℤ◌, neg_ℤ, ◌-◌, ◌%◌, ◌^◌, Bool, nat_lt, int_lt, if◌then◌else◌}

-- the word of a whole number: the number modulo 2^64
abbrev pub word : ℤ → ℕ
word (pos n) = n % 2 ^ 64
word (negsuc n) = 2 ^ 64 - 1 - n % 2 ^ 64

-- the whole number that a word stands for, from -2^63 to 2^63-1
abbrev pub signed : ℕ → ℤ
signed w = if nat_lt w (2 ^ 63) then pos w else negsuc (2 ^ 64 - 1 - w)

-- sum, difference, product and negation: the word of the whole number that each gives
unfoldable pub add : ℕ → ℕ → ℕ
add a b = word (pos a +ℤ pos b)

unfoldable pub sub : ℕ → ℕ → ℕ
sub a b = word (pos a -ℤ pos b)

unfoldable pub mul : ℕ → ℕ → ℕ
mul a b = word (pos a *ℤ pos b)

unfoldable pub neg : ℕ → ℕ
neg a = word (neg_ℤ (pos a))

-- whether one word is less than another, by their signed readings
unfoldable pub is_less : ℕ → ℕ → Bool
is_less a b = int_lt (signed a) (signed b)
