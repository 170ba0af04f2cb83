-- Words that are counted along lists of nodes.
use Rattle.std.proofs.Common.{◌≡◌, ℕ, suc, ◌+◌, ◌-◌, ◌^◌, ◌<◌, ◌≤◌, min, List, [], ◌∷◌, ◌++◌, map, length, take, drop, get_or, refl, sym, ap, ◌∙◌, arith}
use Rattle.std.specs.List.{fold, sum_by}
use Rattle.std.proofs.lemmas.List.{drop_more, drop_all, take_more, take_all}
use Rattle.std.proofs.lemmas.List.Sums.{fold-append, sum_by-append, sum_by-cons, sum_by_push}
use Rattle.hypergraph.specs.SetValue.{SetValue}
use Rattle.typed_tree.specs.declared.nodes.NodeEntry.{NodeEntry}
use Rattle.typed_tree.specs.declared.program.TypedProgram.{TypedProgram}
use Rattle.typed_tree.specs.Nodes.{Nodes, joined}
use Rattle.dense_sizes.specs.declared.tally.Tally.{Tally}
use Rattle.dense_sizes.specs.DenseWords.{node_words, variable_words, all_but_own, dense_nodes, dense_words}
use Rattle.dense_sizes.specs.Tallies.{Counts, AreWords, limited, no_nodes, with_node}

-- ---- tallies

pub counted_twice : (sets : List SetValue) (a b c : Tally) (p q : Nodes) → Counts sets a p b → Counts sets b q c → Counts sets a (p ++ q) c
counted_twice sets a b c p q h k =
    record { is = k.is ∙ ap (λ t. fold (with_node sets) t q) h.is ∙ sym (fold-append (with_node sets) a p q) }

-- another part of what goes down a list
pub part_more : {A : Type 0} (sets : List SetValue) (before after : List A → Nodes) (xs : List A) (i : ℕ) (x : A) (part : Nodes) (now next known : Tally)
    → ((rest : List A) → before (x ∷ rest) ≡ part ++ after rest) → i < length xs → x ≡ get_or xs i x → Counts sets now part next
    → Counts sets now (before (drop i xs)) known → Counts sets next (after (drop (i + 1) xs)) known
part_more sets before after xs i x part now next known splits below here counted so_far =
    let rest = drop (i + 1) xs in
    let split : before (drop i xs) ≡ part ++ after rest = ap before (drop_more xs i x below ∙ ap (λ y. y ∷ rest) (sym here)) ∙ splits rest in
    record {
      is = so_far.is ∙ ap (fold (with_node sets) now) split ∙ fold-append (with_node sets) now part (after rest)
          ∙ sym (ap (λ t. fold (with_node sets) t (after rest)) counted.is);
    }

-- no part is left
pub part_none : {A : Type 0} (sets : List SetValue) (before : List A → Nodes) (xs : List A) (i : ℕ) (first now : Tally) (whole : Nodes)
    → before [] ≡ [] → length xs ≤ i → Counts sets now (before (drop i xs)) (fold (with_node sets) first whole) → Counts sets first whole now
part_none sets before xs i first now whole none past so_far =
    record { is = sym (so_far.is ∙ ap (fold (with_node sets) now) (ap before (drop_all i xs past) ∙ none)) }

-- ---- words of a tally

total_from : (sets : List SetValue) (t : Tally) (nodes : Nodes)
    → limited ((fold (with_node sets) t nodes).before + (fold (with_node sets) t nodes).last) ≡ limited (t.before + t.last + sum_by (node_words sets) nodes)
unfolding limited
total_from sets t [] = omega arith
total_from sets t (node ∷ nodes) =
    let rest = total_from sets (with_node sets t node) nodes in
    let sum = sum_by-cons (node_words sets) node nodes in
    omega (arith, rest, sum)

before_from : (sets : List SetValue) (t : Tally) (node : NodeEntry) (nodes : Nodes)
    → (fold (with_node sets) t (node ∷ nodes)).before ≡ limited (t.before + t.last + sum_by (node_words sets) (take (length nodes) (node ∷ nodes)))
unfolding limited
before_from sets t node [] = omega arith
before_from sets t node (other ∷ nodes) =
    let rest = before_from sets (with_node sets t node) other nodes in
    let sum = sum_by-cons (node_words sets) node (take (length nodes) (other ∷ nodes)) in
    omega (arith, rest, sum)

pub all_counted : (sets : List SetValue) (t : Tally) (nodes : Nodes) (words : ℕ) → words ≡ limited (t.before + t.last) → Counts sets no_nodes nodes t → AreWords sets nodes words
all_counted sets t nodes words is counted =
    record { is = is ∙ ap (λ (s : Tally). limited (s.before + s.last)) counted.is ∙ total_from sets no_nodes nodes ∙ ap limited (omega arith) }

nothing_limited : 0 ≡ limited 0
unfolding limited
nothing_limited = omega arith

but_own_from : (sets : List SetValue) (nodes : Nodes)
    → (fold (with_node sets) no_nodes nodes).before ≡ limited (sum_by (node_words sets) (all_but_own nodes))
but_own_from sets [] = nothing_limited
but_own_from sets (node ∷ nodes) =
    let one_less : suc (length nodes) - 1 ≡ length nodes = omega arith in
    before_from sets no_nodes node nodes
    ∙ ap limited (omega arith)
    ∙ ap (λ n. limited (sum_by (node_words sets) (take n (node ∷ nodes)))) (sym one_less)

pub but_own_counted : (sets : List SetValue) (t : Tally) (nodes : Nodes) → Counts sets no_nodes nodes t → AreWords sets (all_but_own nodes) t.before
but_own_counted sets t nodes counted = record { is = ap (λ (s : Tally). s.before) counted.is ∙ but_own_from sets nodes }

-- ---- sums

sum_limited : (r a b m n : ℕ) → r ≡ limited (a + b) → a ≡ limited m → b ≡ limited n → r ≡ limited (m + n)
unfolding limited
sum_limited r a b m n is left right = omega arith

pub words_together : (sets : List SetValue) (r a b : ℕ) (p q : Nodes) → r ≡ limited (a + b) → AreWords sets p a → AreWords sets q b → AreWords sets (p ++ q) r
words_together sets r a b p q is left right =
    record { is = sum_limited r a b _ _ is left.is right.is ∙ ap limited (sym (sum_by-append (node_words sets) p q)) }

-- words that fit their type
pub limited_part : (a m : ℕ) → a ≡ m → a < 340282366920938463463374607431768211456 → a ≡ limited m
unfolding limited
limited_part a m is small = omega arith

-- words so far of what goes down a list, and those of another item
pub item_more : {A : Type 0} (f : A → ℕ) (xs : List A) (i : ℕ) (x : A) (total next part : ℕ) → i < length xs → x ≡ get_or xs i x → next ≡ limited (total + part) → part ≡ limited (f x)
    → total ≡ limited (sum_by f (take i xs)) → next ≡ limited (sum_by f (take (i + 1) xs))
item_more f xs i x total next part below here is one so_far =
    let whole : take (i + 1) xs ≡ take i xs ++ x ∷ [] = take_more xs i x below ∙ ap (λ y. take i xs ++ y ∷ []) (sym here) in
    sum_limited next total part _ _ is so_far one ∙ ap limited (sym (ap (sum_by f) whole ∙ sum_by_push f (take i xs) x))

pub all_items : {A : Type 0} (f : A → ℕ) (xs : List A) (i : ℕ) (total : ℕ) → length xs ≤ i → total ≡ limited (sum_by f (take i xs)) → total ≡ limited (sum_by f xs)
all_items f xs i total past so_far = so_far ∙ ap (λ ys. limited (sum_by f ys)) (take_all i xs past)

-- the words of joined lists of nodes are the sums of theirs
sum_joined : {A : Type 0} (sets : List SetValue) (f : A → Nodes) (xs : List A)
    → sum_by (node_words sets) (joined (map f xs)) ≡ sum_by (λ x. sum_by (node_words sets) (f x)) xs
sum_joined sets f [] = refl
sum_joined sets f (x ∷ xs) =
    sum_by-append (node_words sets) (f x) (joined (map f xs)) ∙ ap (λ n. sum_by (node_words sets) (f x) + n) (sum_joined sets f xs)
    ∙ sym (sum_by-cons (λ y. sum_by (node_words sets) (f y)) x xs)

-- the words of lists of nodes that are joined, all of them counted
pub all_joined : {A : Type 0} (sets : List SetValue) (f : A → Nodes) (xs : List A) (i : ℕ) (total : ℕ) → length xs ≤ i
    → total ≡ limited (sum_by (λ x. sum_by (node_words sets) (f x)) (take i xs)) → AreWords sets (joined (map f xs)) total
all_joined sets f xs i total past so_far =
    record { is = all_items (λ x. sum_by (node_words sets) (f x)) xs i total past so_far ∙ ap limited (sym (sum_joined sets f xs)) }

pub nothing_counted : {A : Type 0} (f : A → ℕ) (xs : List A) → 0 ≡ limited (sum_by f (take 0 xs))
nothing_counted f xs = nothing_limited

pub program_counted : (program : TypedProgram) (sets : List SetValue) (r a b : ℕ) → r ≡ limited (a + b) → a ≡ limited (sum_by (variable_words sets) program.variables)
    → AreWords sets (joined (map dense_nodes program.body)) b → r ≡ min (dense_words program sets) (2 ^ 128 - 1)
unfolding limited dense_words
program_counted program sets r a b is variables between = sum_limited r a b _ _ is variables between.is
