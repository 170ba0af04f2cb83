use Rattle.std.proofs.Common.{◌∙◌}
use Rattle.std.proofs.lemmas.Str.{IsUtf8-from_ascii}
use Rattle.token_cursor.proofs.cursor.to_text.Goals as goal

pub returns : goal.returns
returns c = c.of.ensures ∙ c.in_ok-from_utf8_lossy.ensures.ok (IsUtf8-from_ascii c.args.bytes.now c.requires)
