use Rattle.std.proofs.Common.{◌++◌}
use Rattle.chain_forms.specs.Lowering.{used}
use Rattle.index_notation.proofs.Uses.{used_taken, used_ended}
use Rattle.index_notation.proofs.terms.append_used.Goals as goal

pub loop-link-preserved : goal.loop-link-preserved
loop-link-preserved c =
    used_taken c.args.atoms.now c.args.links.now c.loop-link.link-index _ (c.args.factors.now ++ used c.args.atoms.now c.args.links.now)
    c.loop-link.factors c.append_link.new.factors c.loop-link-test.true c.in_ok-append_link.ensures c.loop-link.invariant

pub returns : goal.returns
returns c =
    used_ended c.args.atoms.now c.args.links.now c.loop-link.link-index (c.args.factors.now ++ used c.args.atoms.now c.args.links.now)
    c.loop-link.factors c.loop-link-test.false c.loop-link.invariant
