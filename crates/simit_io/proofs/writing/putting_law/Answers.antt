use Rattle.std.proofs.Common.{arith}
use Rattle.simit_io.proofs.PutBytes.{Puts-nil, Puts-append, PutsPrefix-append}
use Rattle.simit_io.proofs.writing.putting_law.Goals as goal

pub returns : goal.returns
returns c = record {
  nothing = Puts-nil;
  appended = Puts-append;
  prefix = PutsPrefix-append;
  fault = λ before mid now le h. omega arith;
}
