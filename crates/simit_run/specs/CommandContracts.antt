-- How contracts inside this crate see the output of a command.
use Rattle.std.specs.Prelude.{ℕ, List}
use Rattle.simit_run.specs.declared.output.Output.{Output}
use Rattle.simit_run.specs.declared.output.Output.TheVariants.{Tables, Line}

-- the text that is put of an output
abbrev pub text_of : Output → List ℕ
text_of (Tables text) = text
text_of (Line text) = text
