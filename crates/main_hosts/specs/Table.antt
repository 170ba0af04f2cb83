-- The table of the host functions.
use Rattle.std.specs.Prelude.{List, [], ◌∷◌, codes}
use Rattle.host_table.specs.Hosts.{HostValue, host_of}

-- each function's name, how many words it takes, and its number
abbrev pub hosts : List HostValue
hosts =
    host_of (codes "clamp0") 1 0
    ∷ host_of (codes "least") 2 1
    ∷ host_of (codes "most") 2 2
    ∷ host_of (codes "mix") 1 3
    ∷ host_of (codes "square") 1 4
    ∷ []
