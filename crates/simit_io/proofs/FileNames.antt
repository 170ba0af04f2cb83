-- The first file of a name.
use Rattle.std.proofs.Common.{◌≡◌, ◌∙◌, ap, ℕ, List, length, slice_get, bytes_eq, position, option_map, arith, Some, None, cond, nat_lt}
use Rattle.std.specs.List.{position_or_len}
use Rattle.std.proofs.lemmas.List.Folds.{find_at}
use Rattle.std.proofs.lemmas.Option.{slice_get_cases}
use Rattle.simit_io.specs.MemInputs.{file_named, bytes_at}
use Rattle.simit_io.specs.declared.mem_inputs.MemFile.{MemFile}

-- the bytes at an index where there may be no file
at_index : (files : List MemFile) (index : ℕ)
    → option_map (λ file. file.bytes) (slice_get files index) ≡ option_map (λ at. bytes_at files at) (cond (nat_lt index (length files)) (Some index) None)
at_index files index = let cases = (slice_get_cases files index).1 in grind arith

pub file_named-position : (files : List MemFile) (name : List ℕ)
    → file_named files name ≡ option_map (λ index. bytes_at files index) (position (λ file. bytes_eq file.name name) files)
file_named-position files name =
    ap (option_map (λ file. file.bytes)) (find_at (λ file. bytes_eq file.name name) files)
    ∙ at_index files (position_or_len (λ file. bytes_eq file.name name) files)
