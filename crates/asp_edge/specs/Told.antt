-- What a source and a sink tell of themselves.
use Rattle.std.specs.Prelude.{ℕ, List, Option, Result}
use Rattle.asp_edge.specs.declared.edge.ReadError.{ReadError}

-- what was asked of a source, in order: each name, with the bytes that were handed out or why none were
abbrev pub Asks : Type 0
Asks = List (List ℕ × Result (List ℕ) ReadError)

-- the bytes under each name, where the source tells them, what was asked of it so far, and how often it failed
pub record SourceTells : Type 0 where
  pub content : List ℕ → Option (List ℕ)
  pub asked : Asks
  pub faults : ℕ

-- the bytes in the sink, where it tells them, those that it took so far, and how often it failed
pub record SinkTells : Type 0 where
  pub bytes : Option (List ℕ)
  pub taken : List ℕ
  pub faults : ℕ
