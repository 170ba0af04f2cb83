-- The words of a set's columns, fetched one column after the other.
use Rattle.std.proofs.Common.{◌≡◌, ◌<◌, ◌+◌, ℕ, List, [], ◌∷◌, length, map, take, set, refl, sym, ◌∙◌, arith}
use Rattle.std.specs.Borrow.{Bor}
use Rattle.std.specs.List.{All}
use Rattle.std.proofs.lemmas.List.{map-append, take_all, take_more, take_more_set}
use Rattle.std.proofs.lemmas.List.Elements.{All-push}
use Rattle.hypergraph.specs.SetValue.{SetValue, column_at}
use Rattle.set_tables.specs.WritingSteps.{AreWordsOf}

-- the first columns are fetched
pub record AreFetched (value : SetValue) (words : List (Bor (List ℕ))) (column : ℕ) : Type 0 where
  pub same : map (λ w. w.now) (take column words) ≡ take column value.columns
  pub one_each : All (λ w. length w.now ≡ value.count) (take column words)

pub fetched-none : (value : SetValue) (words : List (Bor (List ℕ))) → AreFetched value words 0
fetched-none value words = record { same = refl; one_each = λ k d l. absurd (omega arith) }

pub fetched-another : (value : SetValue) (words : List (Bor (List ℕ))) (column : ℕ) (w : Bor (List ℕ)) → column < length words → column < length value.columns → w.now ≡ column_at value column
    → length w.now ≡ value.count → AreFetched value words column → AreFetched value (set words column w) (column + 1)
fetched-another value words column w l m is size h = record {
  same =
      rw (take_more_set words column w l, map-append (λ (b : Bor (List ℕ)). b.now) (take column words) (w ∷ []), h.same, is)
      (sym (take_more value.columns column [] m));
  one_each = rw (take_more_set words column w l) (All-push (λ (b : Bor (List ℕ)). length b.now ≡ value.count) (take column words) w h.one_each size);
}

pub fetched-all : (value : SetValue) (words : List (Bor (List ℕ))) (column : ℕ) → column ≡ length value.columns → AreFetched value words column → AreWordsOf value (take (length value.columns) words)
fetched-all value words column e h = record {
  same = rw (← e) (h.same ∙ take_all column value.columns (omega arith));
  one_each = rw (← e) h.one_each;
}
