use Rattle.std.proofs.Common.{sym, ap, ◌∙◌}
use Rattle.chain_forms.specs.Atoms.{is_factor}
use Rattle.chain_forms.specs.Lowering.{scalars}
use Rattle.index_notation.proofs.Uses.{scalar_taken, scalars_ended}
use Rattle.index_notation.proofs.terms.scalars.Goals as goal

pub loop-atom-preserved : goal.loop-atom-preserved
loop-atom-preserved c =
    scalar_taken c.args.atoms.now c.loop-atom.atom-index c.atom-item.result c.in_ok-scalar.scalar (scalars c.args.atoms.now) c.loop-atom.factors
    c.push.new.items c.loop-atom-test.true c.atom-item.is
    (ap is_factor (sym c.indices_of.ensures) ∙ sym c.is_factor.ensures ∙ c.if-is_factor.false) c.in_ok-scalar.ensures c.in_ok-push.ensures
    c.loop-atom.invariant

pub returns : goal.returns
returns c = scalars_ended c.args.atoms.now c.loop-atom.atom-index (scalars c.args.atoms.now) c.loop-atom.factors c.loop-atom-test.false c.loop-atom.invariant
