-- Names that are reserved, position after position.
use Rattle.std.specs.Prelude.{ℕ, Bool, ◌||◌, codes}
use Rattle.std.specs.List.{list_any, range_with_len}
use Rattle.std.specs.Str.{bytes_eq}
use Rattle.typed_tree.specs.Names.{Name}
use Rattle.typed_tree.specs.Declarations.{endpoint_column}

-- `key`, and the names of the columns of the endpoints in so many positions
abbrev pub is_reserved_below : ℕ → Name → Bool
is_reserved_below positions name = bytes_eq name (codes "key") || list_any (λ position. bytes_eq name (endpoint_column position)) (range_with_len 0 positions)
