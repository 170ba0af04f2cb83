-- A sink over memory: its capacity, puts that fail by their numbers, and short puts.
use Rattle.std.specs.Prelude.{◌≡◌, ℕ, ◌-◌, Bool, ◌&&◌, ◌||◌, not, ◌==◌, List, length, min}
use Rattle.simit_io.specs.Plan.{is_planned}

-- a sink over memory as contracts see it
pub record SinkState : Type 0 where
  pub written : List ℕ
  -- how many bytes it can hold in all
  pub capacity : ℕ
  -- the numbers of the puts that fail
  pub fail : List ℕ
  -- the most bytes that a put takes
  pub most : ℕ
  -- how many puts there were, which is the next one's number
  pub calls : ℕ
  pub faults : ℕ

-- what no put changes
pub record IsSameSetting (old new : SinkState) : Type 0 where
  pub capacity : new.capacity ≡ old.capacity
  pub fail : new.fail ≡ old.fail
  pub most : new.most ≡ old.most

-- whether the piece isn't empty and no byte of it fits
abbrev pub is_full : SinkState → List ℕ → Bool
is_full state bytes = (state.capacity - length state.written == 0) && not (length bytes == 0)

-- whether the next put, of this piece, fails
abbrev pub is_failing : SinkState → List ℕ → Bool
is_failing state bytes = is_planned state.fail state.calls || is_full state bytes

-- how many bytes a put that doesn't fail takes of a piece
abbrev pub taken_of : SinkState → List ℕ → ℕ
taken_of state bytes = min (length bytes) (min state.most (state.capacity - length state.written))
