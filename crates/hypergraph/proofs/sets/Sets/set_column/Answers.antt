use Rattle.std.proofs.Common.{◌≡◌, ◌<◌, List, length}
use Rattle.std.proofs.lemmas.List.{get_or_read}
use Rattle.hypergraph.specs.SetValue.{SetValue}
use Rattle.hypergraph.specs.Sets.{set_at, empty_set}
use Rattle.hypergraph.proofs.ColumnSet.{are_sets-with_column}
use Rattle.hypergraph.proofs.sets.Sets.set_column.Goals as goal

pub invariant_of-self : goal.invariant_of-self
invariant_of-self c =
    let sets : List SetValue = c.self.inside.sets.items in
    let in' : c.args.set < length sets = rw c.self.view_is c.requires.set in
    let at : c.index_mut-set.result.now ≡ set_at sets c.args.set = get_or_read sets _ _ in' c.index_mut-set.ensures.value empty_set in
    rw (c.set_column.ensures.new, at) (are_sets-with_column sets c.args.set c.args.column c.args.words in' (rw c.self.view_is c.requires.words) c.self.invariant)

pub returns-clause-sets : goal.returns-clause-sets
returns-clause-sets c = invariant_of-self c
