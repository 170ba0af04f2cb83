use Rattle.index_laws.proofs.Sums.{sums_meant}
use Rattle.index_laws.proofs.Terms.{term_meant}
use Rattle.index_laws.proofs.index_expression_law.Goals as goal

pub returns-clause-term : goal.returns-clause-term
returns-clause-term c = term_meant c.typing_form_law.ensures c.meaning_form_law.ensures c.index_term_law.ensures c.entry_law.ensures

pub returns-clause-sum : goal.returns-clause-sum
returns-clause-sum c = sums_meant c.typing_form_law.ensures c.meaning_form_law.ensures c.index_term_law.ensures c.entry_law.ensures c.term_law.ensures.holds
