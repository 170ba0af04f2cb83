-- Terms are lowered by their orderings.
use Rattle.std.proofs.Common.{◌≡◌, Option, Some, None, Ok, Err, refl, sym, ap}
use Rattle.std.specs.Option.{option_map}
use Rattle.chain_forms.specs.declared.chain.Chain.{Chain}
use Rattle.chain_forms.specs.ChainForm.{IsChain, InTextOrder}
use Rattle.chain_forms.specs.Following.{ordering}
use Rattle.chain_forms.specs.Lowered.{lowered_term, signed, or_fault}
use Rattle.chain_laws.specs.Laws.{IsTermLowered, IsTermOnly, IsTermRefused}
use Rattle.chain_laws.proofs.Holds.{holds}
use Rattle.chain_laws.proofs.Only.{only}
use Rattle.chain_laws.proofs.Refused.{refused}

pub term_lowered : IsTermLowered
unfolding lowered_term
term_lowered free line term made is = by_ordering (ordering free term.atoms) refl is
  where
    by_ordering : (o : Option Chain) → ordering free term.atoms ≡ o → or_fault line (option_map (signed term) o) ≡ Ok made
        → (c : Chain) × (IsChain term.atoms free c × InTextOrder c × (made ≡ signed term c))
    by_ordering None none is = cc is
    by_ordering (Some c) there is =
        let hold = holds free term.atoms c there in
        let made_is : made ≡ signed term c = sym (cc is) in
        (c, (hold.0, hold.1, made_is))

pub term_only : IsTermOnly
unfolding lowered_term
term_only free line term c is order = ap (λ o. or_fault line (option_map (signed term) o)) (only free term.atoms c is order)

pub term_refused : IsTermRefused
unfolding lowered_term
term_refused free line at term is = by_ordering (ordering free term.atoms) refl is
  where
    by_ordering : (o : Option Chain) → ordering free term.atoms ≡ o → or_fault line (option_map (signed term) o) ≡ Err at
        → (at ≡ line) × ((c : Chain) → IsChain term.atoms free c → ⊥)
    by_ordering None none is =
        let same : at ≡ line = sym (cc is) in
        (same, λ c chained. refused free term.atoms c none chained)
    by_ordering (Some c) there is = cc is
