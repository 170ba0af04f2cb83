use Rattle.std.proofs.Common.{◌^◌, arith}
use Rattle.std.proofs.lemmas.List.FromFn.{get_or-map-range_with_len}
use Rattle.ring_words.proofs.powers.power_of_ten.Goals as goal

pub returns-clause-value : goal.returns-clause-value
returns-clause-value c = get_or-map-range_with_len (λ k. 10 ^ k) 0 19 c.args.exponent c.args.exponent 0 (omega arith) (omega arith)
