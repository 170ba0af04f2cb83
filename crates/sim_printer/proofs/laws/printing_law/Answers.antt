use Rattle.sim_printer.proofs.ReadingBack.{reads_back}
use Rattle.sim_printer.proofs.laws.printing_law.Goals as goal

pub returns : goal.returns
returns c =
    let law = c.joining_law.ensures in
    record { reads_back = reads_back law.joined law.few law.spelled law.within }
