use Rattle.index_meaning.proofs.Sizes.{sized}
use Rattle.index_meaning.proofs.Terms.{sizes, sum}
use Rattle.index_meaning.proofs.index_term_law.Goals as goal

pub returns : goal.returns
returns c =
    let sums = c.sum_laws.ensures in
    let double = c.double_sum_laws.ensures in
    let ranges = c.range_sum_laws.ensures in
    let index = c.index_sum_laws.ensures in
    let numbers = c.product_laws.ensures in
    let products = c.product_laws-2.ensures in
    let reorder = c.reorder_law.ensures in
    let names = c.reorder_law-2.ensures in
    let entries = c.entry_law.ensures in
    record {
      sized = sized reorder;
      sizes = sizes sums double ranges index products numbers entries reorder names;
      sum = sum sums double ranges index products numbers entries reorder names;
    }
