-- What the reader of a table's records keeps. Only private types cite these words.
use Rattle.csv.specs.Records.{fields_of}
use Rattle.csv.specs.Reading.{has_failed}
use Rattle.std.specs.Prelude.{◌≡◌, false}
use Rattle.set_tables.specs.Cursor.{Cursor}
use Rattle.set_tables.specs.Records.{ReadsTable, left_of}
use Rattle.set_tables.specs.declared.records.Records.TheInside.{Inside}

abbrev pub cursor_of : Inside → Cursor
cursor_of inside = record { row = fields_of inside.row; left = left_of inside.reader }

-- it reads as a table is read, unless it has failed
abbrev pub IsReading : Inside → Type 0
IsReading inside = has_failed inside.reader ≡ false → ReadsTable inside.reader
