use Rattle.std.proofs.Common.{ap}
use Rattle.declaration_types.specs.Hosts.{numbered}
use Rattle.declaration_types.proofs.hosts.number_of.Goals as goal

pub returns : goal.returns
returns c = ap (numbered c.args.hosts.now) c.position_of.ensures
