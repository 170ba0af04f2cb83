-- The tables of sets, one after the other.
use Rattle.std.proofs.Common.{◌≡◌, ℕ, zero, suc, ◌+◌, ◌<◌, List, [], ◌∷◌, ◌++◌, length, take, drop, sym, ap, refl, ◌∙◌, add-one, arith, append_assoc, append-nil}
use Rattle.hypergraph.specs.SetValue.{SetValue}
use Rattle.hypergraph.specs.Sets.{set_at}
use Rattle.set_tables.specs.Output.{table_text}
use Rattle.set_tables.specs.declared.schema.Schema.{Schema}
use Rattle.simit_run.specs.Output.{texts_of}
use Rattle.simit_run.specs.Schemas.{schema_at}

-- the schema where there is none
abbrev pub no_schema : Schema
no_schema = record { name = []; arity = 0; columns = [] }

-- one table more
up_to : (schemas : List Schema) (sets : List SetValue) (k : ℕ) → k < length schemas → k < length sets
    → texts_of (take (suc k) schemas) (take (suc k) sets) ≡ texts_of (take k schemas) (take k sets) ++ table_text (schema_at schemas k) (set_at sets k)
up_to [] sets k l m = absurd (omega arith)
up_to (schema ∷ schemas) [] k l m = absurd (omega arith)
up_to (schema ∷ schemas) (set ∷ sets) zero l m = append-nil (table_text schema set)
up_to (schema ∷ schemas) (set ∷ sets) (suc k) l m =
    ap (λ v. table_text schema set ++ v) (up_to schemas sets k (omega arith) (omega arith))
    ∙ sym (append_assoc (table_text schema set) (texts_of (take k schemas) (take k sets)) (table_text (schema_at schemas k) (set_at sets k)))

pub texts_more : (schemas : List Schema) (sets : List SetValue) (k : ℕ) → k < length schemas → k < length sets
    → texts_of (take (k + 1) schemas) (take (k + 1) sets) ≡ texts_of (take k schemas) (take k sets) ++ table_text (schema_at schemas k) (set_at sets k)
texts_more schemas sets k l m = ap (λ n. texts_of (take n schemas) (take n sets)) (add-one k) ∙ up_to schemas sets k l m

-- the tables before one, that one, and those after it
pub texts_at : (schemas : List Schema) (sets : List SetValue) (k : ℕ) → k < length schemas → k < length sets
    → texts_of schemas sets ≡ texts_of (take k schemas) (take k sets) ++ table_text (schema_at schemas k) (set_at sets k) ++ texts_of (drop (suc k) schemas) (drop (suc k) sets)
texts_at [] sets k l m = absurd (omega arith)
texts_at (schema ∷ schemas) [] k l m = absurd (omega arith)
texts_at (schema ∷ schemas) (set ∷ sets) zero l m = refl
texts_at (schema ∷ schemas) (set ∷ sets) (suc k) l m =
    ap (λ v. table_text schema set ++ v) (texts_at schemas sets k (omega arith) (omega arith))
    ∙ regroup (table_text schema set) (texts_of (take k schemas) (take k sets)) (table_text (schema_at schemas k) (set_at sets k)) (texts_of (drop (suc k) schemas) (drop (suc k) sets))
  where
    regroup : (a b c d : List ℕ) → a ++ ((b ++ c) ++ d) ≡ ((a ++ b) ++ c) ++ d
    regroup a b c d = sym (append_assoc a (b ++ c) d) ∙ ap (λ v. v ++ d) (sym (append_assoc a b c))
