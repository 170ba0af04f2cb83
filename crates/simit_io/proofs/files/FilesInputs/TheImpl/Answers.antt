use Rattle.std.proofs.Common.{refl, inl}
use Rattle.std.proofs.lemmas.Result.{on_err_weaker}
use Rattle.simit_io.proofs.FaultCounts.{Rose-CountsFailure, OnOk-⊤, OnErr-⊤, ReadConsumes-None}
use Rattle.simit_io.proofs.files.FilesInputs.TheImpl.Goals as goal

pub open-tells : goal.open-tells
open-tells g c = record {
  same_files = refl;
  opened = OnOk-⊤ c.result;
  nothing_left = OnErr-⊤ c.result;
  missing = λ missing. absurd missing;
  failed = on_err_weaker c.result inl (Rose-CountsFailure c.result _ _ c.ensures.faults);
  counted = c.ensures.counted;
}

pub take-tells : goal.take-tells
take-tells g c = record {
  same_files = refl;
  bound = c.ensures.bound;
  taken = ReadConsumes-None c.result _;
  failed = Rose-CountsFailure c.result _ _ c.ensures.faults;
  counted = c.ensures.counted;
}
