-- What the host functions answer. Words are read as signed numbers.
use Rattle.std.specs.Prelude.{ℕ, ◌==◌, if◌then◌else◌}
use Rattle.ring_words.specs.Word.{add, mul, is_less}

-- the word, or 0 where it is negative
abbrev pub clamp0 : ℕ → ℕ
clamp0 a = if is_less a 0 then 0 else a

-- the lesser of two words
abbrev pub least : ℕ → ℕ → ℕ
least a b = if is_less b a then b else a

-- the greater of two words
abbrev pub most : ℕ → ℕ → ℕ
most a b = if is_less a b then b else a

-- one step of a linear congruential generator, modulo 2^64
abbrev pub mix : ℕ → ℕ
mix a = add (mul a 6364136223846793005) 1442695040888963407

-- the square, modulo 2^64
abbrev pub square : ℕ → ℕ
square a = mul a a

-- what the function of a number answers of two words; 0 where there is none
unfoldable pub answer : ℕ → ℕ → ℕ → ℕ
answer number a b =
    if number == 0 then clamp0 a
    else if number == 1 then least a b
    else if number == 2 then most a b
    else if number == 3 then mix a
    else if number == 4 then square a
    else 0
