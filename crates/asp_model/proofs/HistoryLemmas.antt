-- A history begins with itself, and with what a beginning of it begins with.
use Rattle.std.proofs.Common.{List, [], ◌++◌, sym, ap, ◌∙◌, refl, append_assoc}
use mathlib.Core.List.{append-nil}
use Rattle.asp_model.specs.History.{EntryShape, HistoryShape, BeginsWith}

pub begins_with_itself : (h : HistoryShape) → BeginsWith h h
begins_with_itself h = record { program = refl; first = refl; budget = refl; rest = []; entries = sym (append-nil h.entries) }

pub begins_with_earlier : (a b c : HistoryShape) → BeginsWith a b → BeginsWith b c → BeginsWith a c
begins_with_earlier a b c x y = record {
  program = x.program ∙ y.program;
  first = x.first ∙ y.first;
  budget = x.budget ∙ y.budget;
  rest = y.rest ++ x.rest;
  entries = x.entries ∙ (ap (λ (es : List EntryShape). es ++ x.rest) y.entries ∙ append_assoc c.entries y.rest x.rest);
}
