-- The numbers of the statuses.
use Rattle.std.specs.Prelude.{ℕ}
use Rattle.simit_run.specs.declared.status.Status.{Status}
use Rattle.simit_run.specs.declared.status.Status.TheVariants.{Done, Memory, Refused, ReadFault, WriteFault, Trap, Spent, Limit}

abbrev pub number_of : Status → ℕ
number_of Done = 0
number_of Memory = 1
number_of Refused = 2
number_of ReadFault = 3
number_of WriteFault = 4
number_of Trap = 5
number_of Spent = 6
number_of Limit = 7
