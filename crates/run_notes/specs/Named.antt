-- What the words of a command name: files by their roles, the set to which the output is limited, and turns.
use Rattle.std.specs.Prelude.{ℕ, List, [], unwrap_or, slice_index_or}
use Rattle.command_words.specs.declared.command.Words.{Words}
use Rattle.command_words.specs.declared.command.Words.TheVariants.{Run, Plan, Plain, Make}
use Rattle.command_words.specs.declared.number.TheConstants.{DEFAULT_TURNS}
use Rattle.run_notes.specs.declared.role.FileRole.{FileRole}
use Rattle.run_notes.specs.declared.role.FileRole.TheVariants.{Program, Table}

pub record Named : Type 0 where
  -- empty where there is no such file
  pub file : FileRole → List ℕ
  -- empty where the output isn't limited
  pub only : List ℕ
  pub turns : ℕ

-- the name of a number; empty where there are too few
abbrev pub name_in : List (List ℕ) → ℕ → List ℕ
name_in names number = slice_index_or names number []

-- the name of the file of a role, among those of a program and its tables
abbrev pub name_or_none : List ℕ → List (List ℕ) → FileRole → List ℕ
name_or_none program tables Program = program
name_or_none program tables (Table number) = name_in tables number

abbrev pub nothing_named : Named
nothing_named = record { file = λ role. []; only = []; turns = DEFAULT_TURNS }

-- what a command names; a made job names no file, and has the default of turns
abbrev pub named_by : Words → Named
named_by (Run program tables workers turns words only) = record { file = name_or_none program tables; only = unwrap_or only []; turns = turns }
named_by (Plan program tables words) = record { file = name_or_none program tables; only = []; turns = DEFAULT_TURNS }
named_by (Plain program tables turns only) = record { file = name_or_none program tables; only = unwrap_or only []; turns = turns }
named_by (Make seed points workers) = nothing_named
