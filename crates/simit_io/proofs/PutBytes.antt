-- A piece that is put part by part.
use Rattle.std.proofs.Common.{◌≡◌, ℕ, ◌∙◌, ap, sym, refl, List, [], ◌++◌, length, ◌-◌, take, drop, append_assoc, append-nil, Option, Some, None}
use Rattle.std.proofs.lemmas.List.{take-append-drop, take_rest}
use Rattle.simit_io.specs.Sink.{Puts, PutsPrefix}

-- what was put of the bytes so far, and what is left of them
pub record HasPut (old now : Option (List ℕ)) (bytes rest : List ℕ) : Type 0 where
  pub done : List ℕ
  pub split : bytes ≡ done ++ rest
  pub put : Puts old now done

-- two pieces are one
pub Puts-append : (old mid now : Option (List ℕ)) (xs ys : List ℕ) → Puts old mid xs → Puts mid now ys → Puts old now (xs ++ ys)
Puts-append old mid None xs ys p q = tt
Puts-append None (Some mid) (Some now) xs ys p q = absurd p
Puts-append (Some old) (Some mid) (Some now) xs ys p q = q ∙ ap (λ v. v ++ ys) p ∙ append_assoc old xs ys
Puts-append old None (Some now) xs ys p q = absurd q

-- no byte
pub Puts-nil : (old : Option (List ℕ)) → Puts old old []
Puts-nil None = tt
Puts-nil (Some old) = sym (append-nil old)

-- a prefix of a piece, after what comes before that piece
pub PutsPrefix-append : (old mid new : Option (List ℕ)) (xs ys zs all : List ℕ) → Puts old mid xs → PutsPrefix mid new ys → all ≡ xs ++ ys ++ zs → PutsPrefix old new all
PutsPrefix-append old mid new xs ys zs all p q e = (
  xs ++ q.0,
  (q.1.0 ++ zs, e ∙ ap (λ v. xs ++ v ++ zs) q.1.1 ∙ regroup xs q.0 q.1.0 zs),
  Puts-append old mid new xs q.0 p q.2,
)
  where
    regroup : (a b c d : List ℕ) → (a ++ (b ++ c)) ++ d ≡ (a ++ b) ++ (c ++ d)
    regroup a b c d = ap (λ v. v ++ d) (sym (append_assoc a b c)) ∙ append_assoc (a ++ b) c d

pub HasPut-start : (old : Option (List ℕ)) (bytes : List ℕ) → HasPut old old bytes bytes
HasPut-start old bytes = record { done = []; split = refl; put = Puts-nil old }

-- the rest as the slice from `size` on gives it
pub HasPut-step : (old mid now : Option (List ℕ)) (bytes rest : List ℕ) (size : ℕ) → HasPut old mid bytes rest → Puts mid now (take size rest) → HasPut old now bytes (take (length rest - size) (drop size rest))
HasPut-step old mid now bytes rest size h p =
    rw take_rest (record {
      done = h.done ++ take size rest;
      split = h.split ∙ ap (λ v. h.done ++ v) (sym (take-append-drop size rest)) ∙ sym (append_assoc h.done (take size rest) (drop size rest));
      put = Puts-append old mid now h.done (take size rest) h.put p;
    })
