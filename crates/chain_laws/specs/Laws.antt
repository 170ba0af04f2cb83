-- The laws of the ordering of a term's factors, and of what a term is lowered to by it.
use Rattle.std.specs.Prelude.{◌≡◌, ℕ, List, Some, None, Ok, Err}
use Rattle.sim_syntax.specs.declared.expression.SumTerm.{SumTerm}
use Rattle.sim_syntax.specs.declared.statement.IxAtom.{IxAtom}
use Rattle.sim_syntax.specs.declared.statement.IxTerm.{IxTerm}
use Rattle.chain_forms.specs.declared.chain.Chain.{Chain}
use Rattle.chain_forms.specs.Atoms.{Name}
use Rattle.chain_forms.specs.ChainForm.{IsChain, InTextOrder}
use Rattle.chain_forms.specs.Following.{ordering}
use Rattle.chain_forms.specs.Lowered.{lowered_term, signed}

-- by the ordering that the definition gives the term is in chain form, and the ordering is in the order of the text
abbrev pub IsOrdering : Type 0
IsOrdering = (free : List Name) (atoms : List IxAtom) (chain : Chain) → ordering free atoms ≡ Some chain → IsChain atoms free chain × InTextOrder chain

-- each ordering that is so is the one that the definition gives
abbrev pub IsOnly : Type 0
IsOnly = (free : List Name) (atoms : List IxAtom) (chain : Chain) → IsChain atoms free chain → InTextOrder chain → ordering free atoms ≡ Some chain

-- where the definition gives none, there is none, in no order
abbrev pub IsRefused : Type 0
IsRefused = (free : List Name) (atoms : List IxAtom) (chain : Chain) → ordering free atoms ≡ None → IsChain atoms free chain → ⊥

-- a term that is lowered is what it is lowered to by an ordering in the order of the text, by which it is in chain form
abbrev pub IsTermLowered : Type 0
IsTermLowered = (free : List Name) (line : ℕ) (term : IxTerm) (made : SumTerm) → lowered_term free line term ≡ Ok made
    → (c : Chain) × (IsChain term.atoms free c × InTextOrder c × (made ≡ signed term c))

-- by each such ordering it is lowered to that
abbrev pub IsTermOnly : Type 0
IsTermOnly = (free : List Name) (line : ℕ) (term : IxTerm) (c : Chain) → IsChain term.atoms free c → InTextOrder c
    → lowered_term free line term ≡ Ok (signed term c)

-- a term that is refused, with the line of its index expression, is in chain form by no ordering
abbrev pub IsTermRefused : Type 0
IsTermRefused = (free : List Name) (line at : ℕ) (term : IxTerm) → lowered_term free line term ≡ Err at
    → (at ≡ line) × ((c : Chain) → IsChain term.atoms free c → ⊥)
