use Rattle.vocabulary.proofs.SumsOverLists.{same_terms, no_terms, both, scaled, any_order, congruent, reduced}
use Rattle.vocabulary.proofs.sums.sum_laws.Goals as goal

pub returns : goal.returns
returns g c = record { same_terms = same_terms; no_terms = no_terms; both = both; scaled = scaled; any_order = any_order; congruent = congruent; reduced = reduced }
