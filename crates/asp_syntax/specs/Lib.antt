-- in reading order
pub use Rattle.syntax_tokens.specs.Bytes
pub use Rattle.syntax_tokens.specs.Tokens
pub use Rattle.syntax_tokens.specs.Levels
pub use Rattle.syntax_grammar.specs.Nodes
pub use Rattle.syntax_grammar.specs.Signs
pub use Rattle.syntax_grammar.specs.Grammar
pub mod Faults
pub mod Correct
pub mod Read
pub mod Answers
