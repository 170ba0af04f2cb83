use Rattle.std.proofs.Common.{◌≡◌, ◌-◌, length}
use Rattle.std.specs.Option.{option_copied}
use Rattle.chain_forms.specs.Following.{followed}
use Rattle.index_notation.proofs.Links.{before}
use Rattle.index_notation.proofs.following.followed.Given as goal

-- the links so far, and those from the factor that is next on
abbrev pub invariant-loop : goal.invariant-loop
invariant-loop l =
    followed l.fn.free (option_copied l.fn.end) l.fn.atoms (length l.fn.atoms) l.fn.factor l.fn.index
    ≡ before l.links (followed l.fn.free (option_copied l.fn.end) l.fn.atoms (length l.fn.atoms - l.counter) l.factor l.index)
