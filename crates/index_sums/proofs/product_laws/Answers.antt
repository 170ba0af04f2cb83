use Rattle.index_sums.proofs.Products.{appended, any_order}
use Rattle.index_sums.proofs.product_laws.Goals as goal

pub returns : goal.returns
returns g c = record { appended = appended; any_order = any_order }
