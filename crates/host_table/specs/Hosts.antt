-- Host functions as contracts see them, and what a table of them is.
use Rattle.std.specs.Prelude.{◌≡◌, ◌<◌, ◌≤◌, ◌^◌, ℕ, List, [], length, slice_index_or}
use Rattle.host_table.specs.declared.table.HostName.{HostName}

pub record HostValue : Type 0 where
  -- the bytes of its name
  pub name : List ℕ
  -- how many words it takes
  pub arity : ℕ
  pub number : ℕ

-- the function of these parts
abbrev pub host_of : List ℕ → ℕ → ℕ → HostValue
host_of name arity number = record { name = name; arity = arity; number = number }

-- the function at an index; one without a name where there is none
abbrev pub host_at : List HostValue → ℕ → HostValue
host_at hosts k = slice_index_or hosts k (host_of [] 0 0)

-- what a program has to know of a function to call it
abbrev pub name_of : HostValue → HostName
name_of host = record { name = host.name; arity = host.arity }

-- the function at the index has the name
pub record IsNamed (hosts : List HostValue) (name : List ℕ) (k : ℕ) : Type 0 where
  pub within : k < length hosts
  pub same_name : (host_at hosts k).name ≡ name

-- no function has the name
abbrev pub NoneNamed : List HostValue → List ℕ → Type 0
NoneNamed hosts name = (k : ℕ) → ¬ IsNamed hosts name k

-- no function at another index has the name
abbrev pub OnlyNamed : List HostValue → List ℕ → ℕ → Type 0
OnlyNamed hosts name k = (j : ℕ) → IsNamed hosts name j → j ≡ k

-- what every value of type `HostTable` is
pub record AreHosts (hosts : List HostValue) : Type 0 where
  pub few : length hosts < 2 ^ 32
  -- each stands at the index that is its number
  pub numbered : (k : ℕ) → k < length hosts → (host_at hosts k).number ≡ k
  -- each takes one word or two
  pub arities : (k : ℕ) → k < length hosts → (1 ≤ (host_at hosts k).arity) × ((host_at hosts k).arity ≤ 2)
  -- no two have one name
  pub names_differ : (k : ℕ) → k < length hosts → OnlyNamed hosts (host_at hosts k).name k
