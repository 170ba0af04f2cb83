-- How a loop reads a repetition.
use Rattle.std.proofs.Common.{◌≡◌, ℕ, zero, suc, ◌-◌, ◌<◌, Bool, true, false, cond, List, [], ◌∷◌, ◌++◌, length, arith, refl, inl, inr}
use Rattle.std.specs.Prelude.{◌⊎◌, Ok, Err}
use Rattle.vocabulary.specs.Answers.{◌>>=◌}
use Rattle.sim_lexer.specs.Words.{Word}
use Rattle.sim_lexer.specs.declared.token.TokenKind.{TokenKind}
use Rattle.token_cursor.specs.declared.halt.Halt.{Halt}
use Rattle.token_cursor.specs.declared.halt.Halt.TheVariants.{Syntax, Memory}
use Rattle.sim_grammar.specs.Read.{Read, Reader, repeat, separated, each, made, starts, skip, ◌▹◌}
use Rattle.token_cursor.specs.Reads.{Reads, Skips}

module _ {A : Type 0} (kinds : List TokenKind) (part : Reader A) (fuel : ℕ) (values : List A) (ws : List Word) where
  -- another value
  pub repeat_more : (after : List Word) (value : A) → 0 < fuel → starts kinds ws ≡ true → part ws ≡ Ok (value, after)
      → repeat (fuel - 1) kinds part (values ++ value ∷ []) after ≡ repeat fuel kinds part values ws
  unfolding repeat
  repeat_more after value filled begins gives = more fuel filled
    where
      more : (n : ℕ) → 0 < n → repeat (n - 1) kinds part (values ++ value ∷ []) after ≡ repeat n kinds part values ws
      more zero some = absurd (omega arith)
      more (suc n) some = let less : suc n - 1 ≡ n = omega arith in rw (less, begins, gives) refl

  -- a value that can't be read
  pub repeat_stuck : (stuck : List Word) → 0 < fuel → starts kinds ws ≡ true → part ws ≡ Err stuck → repeat fuel kinds part values ws ≡ Err stuck
  unfolding repeat
  repeat_stuck stuck filled begins gives = fails fuel filled
    where
      fails : (n : ℕ) → 0 < n → repeat n kinds part values ws ≡ Err stuck
      fails zero some = absurd (omega arith)
      fails (suc n) some = rw (begins, gives) refl

  -- no other value
  pub repeat_done : (fuel ≡ 0) ⊎ (starts kinds ws ≡ false) → repeat fuel kinds part values ws ≡ Ok (values, ws)
  unfolding repeat
  repeat_done ends = done fuel ends
    where
      done : (n : ℕ) → (n ≡ 0) ⊎ (starts kinds ws ≡ false) → repeat n kinds part values ws ≡ Ok (values, ws)
      done zero ends = refl
      done (suc n) (inl none) = absurd (omega arith)
      done (suc n) (inr none) = rw none refl

-- where what stands before a part, or the part, can't be read
module _ {A : Type 0} (kinds before : List TokenKind) (part : Reader A) (fuel : ℕ) (values : List A) (ws after : List Word) (halt : Halt)
    (filled : 0 < fuel) (begins : starts kinds ws ≡ true) where
  pub before_halts : Skips (skip before ws) (Err halt) after → Reads (repeat fuel kinds (before ▹ part) values ws) (Err halt) after
  before_halts skips = by halt skips
    where
      by : (h : Halt) → Skips (skip before ws) (Err h) after → Reads (repeat fuel kinds (before ▹ part) values ws) (Err h) after
      by Syntax skipped = repeat_stuck kinds (before ▹ part) fuel values ws after filled begins (rw skipped refl)
      by Memory skipped = tt

  pub part_halts : (middle : List Word) → skip before ws ≡ Ok middle → Reads (part middle) (Err halt) after
      → Reads (repeat fuel kinds (before ▹ part) values ws) (Err halt) after
  part_halts middle skipped reads = by halt reads
    where
      by : (h : Halt) → Reads (part middle) (Err h) after → Reads (repeat fuel kinds (before ▹ part) values ws) (Err h) after
      by Syntax read = repeat_stuck kinds (before ▹ part) fuel values ws after filled begins (rw (skipped, read) refl)
      by Memory read = tt

-- values that stand before all others stay there
pub repeat-before : {A : Type 0} (fuel : ℕ) (kinds : List TokenKind) (part : Reader A) (first : A) (values : List A) (ws : List Word)
    → repeat fuel kinds part (first ∷ values) ws ≡ (repeat fuel kinds part values ws >>= λ read. Ok (first ∷ read.0, read.1))
unfolding repeat
repeat-before zero kinds part first values ws = refl
repeat-before {A} (suc fuel) kinds part first values ws = by (starts kinds ws) (part ws) (λ read. repeat-before fuel kinds part first (values ++ read.0 ∷ []) read.1)
  where
    by : (begins : Bool) (r : Read A)
        → ((read : A × List Word) → repeat fuel kinds part (first ∷ (values ++ read.0 ∷ [])) read.1 ≡ (repeat fuel kinds part (values ++ read.0 ∷ []) read.1 >>= λ all. Ok (first ∷ all.0, all.1)))
        → cond begins (r >>= λ read. repeat fuel kinds part ((first ∷ values) ++ read.0 ∷ []) read.1) (Ok (first ∷ values, ws))
        ≡ (cond begins (r >>= λ read. repeat fuel kinds part (values ++ read.0 ∷ []) read.1) (Ok (values, ws)) >>= λ all. Ok (first ∷ all.0, all.1))
    by true (Ok read) inside = inside read
    by true (Err stuck) inside = refl
    by false r inside = refl

-- a value, and then those after separators
pub separated-repeat : {A : Type 0} (separator : List TokenKind) (part : Reader A) (ws after : List Word) (first : A) → part ws ≡ Ok (first, after)
    → separated separator part ws ≡ repeat (length after) separator (separator ▹ part) (first ∷ []) after
unfolding separated each
separated-repeat {A} separator part ws after first gives =
    rw (gives, repeat-before (length after) separator (separator ▹ part) first [] after) (by (repeat (length after) separator (separator ▹ part) [] after))
  where
    by : (r : Read (List A)) → made (λ (values : A × List A). values.0 ∷ values.1) (λ rest. r >>= λ b. let pair : (A × List A) × List Word = ((first, b.0), b.1) in Ok pair) after ≡ (r >>= λ read. Ok (first ∷ read.0, read.1))
    by (Ok read) = refl
    by (Err stuck) = refl
