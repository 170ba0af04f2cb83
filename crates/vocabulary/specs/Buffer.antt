-- What appending to a buffer leaves.
use Rattle.std.specs.Prelude.{◌≡◌, ◌+◌, ℕ, List, ◌++◌, length, vec_len, vec_capacity}
use Rattle.std.specs.declared.vec.Vec.{Vec}

-- the bytes stand after those that were there, and the capacity stays
pub record Appends {Z : Type 0} (old new : Vec ℕ Z) (bytes : List ℕ) : Type 0 where
  pub items : new.items ≡ old.items ++ bytes
  pub len : vec_len new ≡ vec_len old + length bytes
  pub capacity : vec_capacity new ≡ vec_capacity old
