use Rattle.std.proofs.Common.{◌≡◌, Ok, subst}
use Rattle.typed_tree.specs.Typed.{typed}
use Rattle.block_types.specs.Parts.{whole}
use Rattle.block_types.proofs.program.check.Goals as goal

pub of-requires : goal.of-requires
of-requires c =
    let parts = c.in_ok-parts.parts in
    c.well_declared_law.ensures c.args.hosts.now c.args.program (whole c.args.program parts)
    (subst (λ tree. typed c.args.hosts.now tree ≡ Ok (whole tree parts)) c.program-2.ensures.value c.in_ok-parts.ensures)
