-- One level of nesting of the statements that are read.
use Rattle.std.proofs.Common.{◌≡◌, ℕ, zero, suc, ◌-◌, ◌<◌, List, arith, refl}
use Rattle.std.specs.Prelude.{Err}
use Rattle.sim_lexer.specs.Words.{Word}
use Rattle.sim_grammar.specs.ReadExpressions.{expression}
use Rattle.sim_grammar.specs.ReadFunctions.{func_stmt, func_statement, func_body}
use Rattle.sim_grammar.specs.ReadMain.{main_stmt, main_statement, main_body}

pub func_statement-none : (depth : ℕ) (ws : List Word) → depth ≡ 0 → func_statement depth ws ≡ Err ws
unfolding func_statement
func_statement-none zero ws h = refl
func_statement-none (suc depth) ws h = absurd (omega arith)

pub func_statement-inside : (depth : ℕ) (ws : List Word) → 0 < depth → func_statement depth ws ≡ func_stmt (expression (depth - 1)) (func_body (depth - 1)) ws
unfolding func_statement func_body
func_statement-inside zero ws h = absurd (omega arith)
func_statement-inside (suc depth) ws h = let less : suc depth - 1 ≡ depth = omega arith in rw less refl

pub main_statement-none : (depth : ℕ) (ws : List Word) → depth ≡ 0 → main_statement depth ws ≡ Err ws
unfolding main_statement
main_statement-none zero ws h = refl
main_statement-none (suc depth) ws h = absurd (omega arith)

pub main_statement-inside : (depth : ℕ) (ws : List Word) → 0 < depth → main_statement depth ws ≡ main_stmt (expression (depth - 1)) (main_body (depth - 1)) ws
unfolding main_statement main_body
main_statement-inside zero ws h = absurd (omega arith)
main_statement-inside (suc depth) ws h = let less : suc depth - 1 ≡ depth = omega arith in rw less refl
