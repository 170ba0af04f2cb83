-- What the host brings to a run.
use Rattle.std.specs.Prelude.{List, map}
use Rattle.host_table.specs.Hosts.{HostValue, name_of}
use Rattle.host_table.specs.declared.table.HostName.{HostName}
use Rattle.algebra_meaning.specs.Linked.{Answer}

-- the names of the host functions, by their numbers, and what each answers
pub record Hosts : Type 0 where
  pub names : List HostName
  pub answer : Answer

-- of a table of host functions
abbrev pub hosts_of : Answer → List HostValue → Hosts
hosts_of answer table = record { names = map name_of table; answer = answer }
