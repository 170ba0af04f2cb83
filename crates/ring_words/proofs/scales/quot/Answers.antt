use Rattle.ring_words.proofs.Floors.{floor_is}
use Rattle.ring_words.proofs.scales.quot.Goals as goal

pub returns-then-b-eq0-clause-floor : goal.returns-then-b-eq0-clause-floor
returns-then-b-eq0-clause-floor c = floor_is

pub returns-clause-floor : goal.returns-clause-floor
returns-clause-floor c = floor_is
