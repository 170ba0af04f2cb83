use Rattle.std.proofs.Common.{◌≡◌, ◌+◌, ◌++◌, take, vec_len}
use Rattle.std.specs.Prelude.{vec_capacity}
use Rattle.vocabulary.proofs.buffer.append.Given as goal

-- the bytes so far are appended
abbrev pub invariant-loop-byte : goal.invariant-loop-byte
invariant-loop-byte l = record {
  items : l.to.items ≡ l.fn.to.items ++ take l.byte-index l.bytes;
  len : vec_len l.to ≡ vec_len l.fn.to + l.byte-index;
  capacity : vec_capacity l.to ≡ vec_capacity l.fn.to;
}
