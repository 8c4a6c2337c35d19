-- in reading order
pub use Rattle.syntax_tokens.specs.Texts
pub mod Tokens
pub mod Places
pub mod Correct
pub mod Parts
