-- Names and what they stand for: in the order in which they were declared, each once.
use Rattle.std.specs.Prelude.{ℕ, Bool, List, [], ◌∷◌, Option, Some, None, if◌then◌else◌}
use Rattle.std.specs.Option.{is_some}
use Rattle.std.specs.Str.{bytes_eq}
use Rattle.typed_tree.specs.declared.names.Meaning.{Meaning}

abbrev pub Name : Type 0
Name = List ℕ

abbrev pub Known : Type 0
Known = List (Name × Meaning)

-- what a name stands for
abbrev pub meaning_of : Known → Name → Option Meaning
meaning_of [] name = None
meaning_of (entry ∷ known) name = if bytes_eq entry.0 name then Some entry.1 else meaning_of known name

abbrev pub is_known : Known → Name → Bool
is_known known name = is_some (meaning_of known name)

-- a name stands for something: a name that is known keeps its place, and another goes last
abbrev pub with_meaning : Known → Name → Meaning → Known
with_meaning [] name meaning = (name, meaning) ∷ []
with_meaning (entry ∷ known) name meaning = if bytes_eq entry.0 name then (entry.0, meaning) ∷ known else entry ∷ with_meaning known name meaning
