pub mod JoinedText
pub mod JoinedWords
pub mod Lexing
pub mod LexingLaw
pub mod LexingTables
pub mod LongestTokens
