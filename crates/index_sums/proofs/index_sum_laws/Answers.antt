use Rattle.index_sums.proofs.Sums.{either_order, appended, scaled, lacking, separated, any_order, congruent}
use Rattle.index_sums.proofs.index_sum_laws.Goals as goal

pub returns : goal.returns
returns c =
    let sums = c.sum_laws.ensures in
    let double = c.double_sum_laws.ensures in
    record {
      either_order = either_order;
      appended = appended;
      scaled = scaled sums double;
      lacking = lacking;
      separated = separated sums double;
      any_order = any_order sums double;
      congruent = congruent sums double;
    }
