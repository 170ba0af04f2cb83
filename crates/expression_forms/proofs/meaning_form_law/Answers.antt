use Rattle.expression_forms.proofs.Meanings.{number_is, reference_is, sum_is, product_is, transposed_is, rescale_is, quot_is, isqrt_is, dot_is}
use Rattle.expression_forms.proofs.meaning_form_law.Goals as goal

pub returns : goal.returns
returns c = record {
  number_is = number_is;
  reference_is = reference_is;
  sum_is = sum_is;
  product_is = product_is;
  transposed_is = transposed_is;
  rescale_is = rescale_is;
  quot_is = quot_is;
  isqrt_is = isqrt_is;
  dot_is = dot_is;
}
