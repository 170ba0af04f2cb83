-- Rules that state all that others state.
use Rattle.std.proofs.Common.{ℕ, List, [], ◌∷◌, inl, inr}
use Rattle.std.specs.Prelude.{◌⊎◌}
use Rattle.sim_lexer.specs.Words.{Word}
use Rattle.sim_lexer.specs.declared.token.TokenKind.{TokenKind}
use Rattle.sim_grammar.specs.Rule.{Rule, ◌⊗◌, ◌▸◌, ◌◂◌, StateEach, Each, ◌∣◌, Made, Node}

pub record Includes {A : Type 0} (R S : Rule A) : Type 0 where
  pub states : (v : A) (ws : List Word) → R.states v ws → S.states v ws

pub same : {A : Type 0} (R : Rule A) → Includes R R
same R = record { states = λ v ws h. h }

pub both : {A B : Type 0} {R S : Rule A} {T U : Rule B} → Includes R S → Includes T U → Includes (R ⊗ T) (S ⊗ U)
both h k = record { states = λ v ws j. record { front = j.front; back = j.back; parts = j.parts; first = h.states v.0 j.front j.first; second = k.states v.1 j.back j.second } }

pub after : {A : Type 0} {R S : Rule A} (kinds : List TokenKind) → Includes R S → Includes (kinds ▸ R) (kinds ▸ S)
after kinds h = record { states = λ v ws j. record { front = j.front; back = j.back; parts = j.parts; first = j.first; second = h.states v j.back j.second } }

pub before : {A : Type 0} {R S : Rule A} (kinds : List TokenKind) → Includes R S → Includes (R ◂ kinds) (S ◂ kinds)
before kinds h = record { states = λ v ws j. record { front = j.front; back = j.back; parts = j.parts; first = h.states v j.front j.first; second = j.second } }

pub each : {A : Type 0} {R S : Rule A} → Includes R S → Includes (Each R) (Each S)
each {A = A} {R = R} {S = S} h = record { states = all }
  where
    all : (vs : List A) (ws : List Word) → StateEach R.states vs ws → StateEach S.states vs ws
    all [] ws e = e
    all (v ∷ vs) ws j = record { front = j.front; back = j.back; parts = j.parts; first = h.states v j.front j.first; second = all vs j.back j.second }

pub either : {A : Type 0} {R S T U : Rule A} → Includes R S → Includes T U → Includes (R ∣ T) (S ∣ U)
either {A = A} {R = R} {S = S} {T = T} {U = U} h k = record { states = one }
  where
    one : (v : A) (ws : List Word) → R.states v ws ⊎ T.states v ws → S.states v ws ⊎ U.states v ws
    one v ws (inl s) = inl (h.states v ws s)
    one v ws (inr s) = inr (k.states v ws s)

pub made : {A B : Type 0} {R S : Rule A} (make : A → B) → Includes R S → Includes (Made make R) (Made make S)
made make h = record { states = λ v ws s. (s.0, s.1, h.states s.0 ws s.2) }

pub node : {A B : Type 0} {R S : Rule A} (make : ℕ → A → B) → Includes R S → Includes (Node make R) (Node make S)
node make h = record { states = λ v ws s. (s.0, s.1, h.states s.0 ws s.2) }
