use Rattle.value_laws.proofs.Entries.{each_whole, each_entry, both_whole, both_entry, product_whole, product_entry, transposed_whole, transposed_entry, dot_is}
use Rattle.value_laws.proofs.entry_law.Goals as goal

pub returns : goal.returns
returns c = record {
  each_whole = each_whole;
  each_entry = each_entry;
  both_whole = both_whole;
  both_entry = both_entry;
  product_whole = product_whole;
  product_entry = product_entry;
  transposed_whole = transposed_whole;
  transposed_entry = transposed_entry;
  dot_is = dot_is;
}
