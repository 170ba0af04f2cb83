use Rattle.ring_words.proofs.Roots.{root_greatest}
use Rattle.ring_words.proofs.scales.isqrt.Goals as goal

pub returns-then-is_negative-clause-greatest : goal.returns-then-is_negative-clause-greatest
returns-then-is_negative-clause-greatest c = root_greatest

pub returns-clause-greatest : goal.returns-clause-greatest
returns-clause-greatest c = root_greatest
