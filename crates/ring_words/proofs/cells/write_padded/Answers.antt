use Rattle.std.proofs.Common.{◌≡◌, ℕ, ◌-◌, List, ◌++◌, length, take, replicate, ap, ◌∙◌, arith}
use Rattle.std.specs.Prelude.{decimal}
use Rattle.std.proofs.lemmas.List.{length-append, length-replicate, length-take-le}
use Rattle.ring_words.proofs.Texts.{padded_appended}
use Rattle.ring_words.proofs.cells.write_padded.Goals as goal

pub returns : goal.returns
returns c =
    let digits : c.as_bytes-digits.result.now ≡ decimal c.args.n = c.as_bytes-digits.ensures.value ∙ c.format.ensures.text in
    let zeros = c.saturating_sub-zeros.result in
    let missing : zeros ≡ c.args.d - length (decimal c.args.n) = omega (arith, ap length digits, c.saturating_sub-zeros.ensures) in
    let front = c.args.to.now.items in
    record {
      items = c.append-2.ensures.items
          ∙ ap (λ (xs : List ℕ). xs ++ c.as_bytes-digits.result.now) c.append.ensures.items
          ∙ ap (λ (xs : List ℕ). (front ++ take zeros (replicate {A = ℕ} 18 48)) ++ xs) digits
          ∙ padded_appended c.args.d c.args.n zeros front c.requires.scale missing;
      len = omega (arith, c.append.ensures.len, c.append-2.ensures.len, ap length digits, length-append (replicate (c.args.d - length (decimal c.args.n)) 48) (decimal c.args.n), length-replicate {A = ℕ} (c.args.d - length (decimal c.args.n)) 48, length-take-le zeros (replicate {A = ℕ} 18 48) (omega arith));
      capacity = c.append-2.ensures.capacity ∙ c.append.ensures.capacity;
    }
