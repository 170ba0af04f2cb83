-- Lists that are changed in place.
use Rattle.std.proofs.Common.{◌≡◌, ℕ, ◌<◌, List, set, take, ap, ◌∙◌}
use Rattle.std.proofs.Math.Seq.{take-set-lt}

pub live_set : {A : Type 0} (live i : ℕ) (slots next : List A) (value : A) → i < live → next ≡ set slots i value → take live next ≡ set (take live slots) i value
live_set live i slots next value below is = ap (take live) is ∙ take-set-lt live slots i value below
