-- The one number that is printed of a made job.
use Rattle.std.specs.Prelude.{ℕ, ◌+◌, ◌*◌, ◌%◌, ◌^◌, List, length, slice_index, sum_by}
use Rattle.std.specs.List.{range_with_len}

-- a word times its number counted from 1
abbrev pub weighed : List ℕ → ℕ → ℕ
weighed words i = (i + 1) * slice_index words i

-- the sum of the words so weighed, modulo 2^64
unfoldable pub weighted_sum : List ℕ → ℕ
weighted_sum words = sum_by (weighed words) (range_with_len 0 (length words)) % 2 ^ 64
