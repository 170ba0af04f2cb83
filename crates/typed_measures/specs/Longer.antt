-- Lists to which something is appended.
use Rattle.std.specs.Prelude.{◌≡◌, List, ◌++◌}

pub record Longer {A : Type 0} (old new more : List A) : Type 0 where
  pub is : new ≡ old ++ more
