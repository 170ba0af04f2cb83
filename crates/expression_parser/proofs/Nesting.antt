-- One level of nesting of the expressions that are read.
use Rattle.std.proofs.Common.{◌≡◌, ℕ, zero, suc, ◌-◌, ◌<◌, List, arith, refl}
use Rattle.std.specs.Prelude.{Err}
use Rattle.sim_lexer.specs.Words.{Word}
use Rattle.sim_grammar.specs.ReadExpressions.{sum, expression}

pub expression-none : (depth : ℕ) (ws : List Word) → depth ≡ 0 → expression depth ws ≡ Err ws
unfolding expression
expression-none zero ws h = refl
expression-none (suc depth) ws h = absurd (omega arith)

pub expression-inside : (depth : ℕ) (ws : List Word) → 0 < depth → expression depth ws ≡ sum (expression (depth - 1)) ws
unfolding expression
expression-inside zero ws h = absurd (omega arith)
expression-inside (suc depth) ws h = let less : suc depth - 1 ≡ depth = omega arith in rw less refl
