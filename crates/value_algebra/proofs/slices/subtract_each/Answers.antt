use Rattle.std.proofs.Common.{◌≡◌, ◌<◌, length, refl, set, arith}
use Rattle.std.specs.Prelude.{min}
use Rattle.ring_words.specs.Word.{sub}
use Rattle.value_algebra.proofs.InPlace.{all_joined, one_joined}
use Rattle.value_algebra.proofs.slices.subtract_each.Goals as goal

pub loop-i-preserved : goal.loop-i-preserved
loop-i-preserved c =
    let below : c.loop-i.i < length c.args.left.now = omega arith in
    let within : c.loop-i.i < length c.args.right.now = omega arith in
    one_joined sub c.args.left.now c.args.right.now c.loop-i.left (set c.loop-i.left c.loop-i.i c.sub.result) c.loop-i.i c.sub.result below within c.loop-i.invariant c.sub.ensures refl

pub returns : goal.returns
returns c =
    let all : c.loop-i.i ≡ min (length c.args.left.now) (length c.args.right.now) = omega arith in
    all_joined sub c.args.left.now c.args.right.now c.loop-i.left c.loop-i.i all c.loop-i.invariant
