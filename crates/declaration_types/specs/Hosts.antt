-- A host function by its number.
use Rattle.std.specs.Prelude.{ℕ, List, Option, slice_get}
use Rattle.std.specs.Option.{option_and_then, option_map}
use Rattle.host_table.specs.declared.table.HostName.{HostName}

-- the number with its entry, where there is one
abbrev pub numbered : List HostName → Option ℕ → Option (ℕ × HostName)
numbered hosts number = option_and_then (λ n. option_map (λ host. (n, host)) (slice_get hosts n)) number
