-- The most bytes that the files of a command may have.
use Rattle.std.specs.Prelude.{ℕ}
use Rattle.vocabulary.specs.declared.limits.TheConstants.{MOST_PROGRAM_BYTES, MOST_TABLE_BYTES}
use Rattle.run_notes.specs.declared.role.FileRole.{FileRole}
use Rattle.run_notes.specs.declared.role.FileRole.TheVariants.{Program, Table}

abbrev pub limit_of : FileRole → ℕ
limit_of Program = MOST_PROGRAM_BYTES
limit_of (Table number) = MOST_TABLE_BYTES
