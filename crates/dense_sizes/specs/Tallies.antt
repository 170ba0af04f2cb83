-- Words that are counted along lists of nodes.
use Rattle.std.specs.Prelude.{ℕ, ◌≡◌, ◌+◌, ◌-◌, ◌^◌, min, List}
use Rattle.std.specs.List.{fold, sum_by}
use Rattle.hypergraph.specs.SetValue.{SetValue}
use Rattle.typed_tree.specs.declared.nodes.NodeEntry.{NodeEntry}
use Rattle.typed_tree.specs.Nodes.{Nodes}
use Rattle.dense_sizes.specs.declared.tally.Tally.{Tally}
use Rattle.dense_sizes.specs.DenseWords.{node_words}

-- a number of words, cut down to the largest number of its type
unfoldable pub limited : ℕ → ℕ
limited words = min words (2 ^ 128 - 1)

abbrev pub no_nodes : Tally
no_nodes = record { before = 0; last = 0 }

-- another node, of so many words
abbrev pub with_words : Tally → ℕ → Tally
with_words tally words = record { before = limited (tally.before + tally.last); last = words }

abbrev pub with_node : List SetValue → Tally → NodeEntry → Tally
with_node sets tally node = with_words tally (node_words sets node)

-- nodes are counted after others
pub record Counts (sets : List SetValue) (old : Tally) (nodes : Nodes) (new : Tally) : Type 0 where
  pub is : new ≡ fold (with_node sets) old nodes

-- the words of some nodes
pub record AreWords (sets : List SetValue) (nodes : Nodes) (words : ℕ) : Type 0 where
  pub is : words ≡ limited (sum_by (node_words sets) nodes)
