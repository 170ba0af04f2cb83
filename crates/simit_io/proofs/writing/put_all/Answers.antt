use Rattle.std.proofs.Common.{arith}
use Rattle.simit_io.proofs.PutBytes.{HasPut-step}
use Rattle.simit_io.proofs.writing.put_all.Goals as goal

pub loop-rest-preserved : goal.loop-rest-preserved
loop-rest-preserved g c = record {
  so_far = HasPut-step _ _ _ _ _ _ c.loop-rest.invariant.so_far c.in_ok-size.ensures.appended;
  counted = omega arith;
}
