-- Futures and edges by numbers: which are the same, and what they stand for.
use Rattle.std.specs.Prelude.{◌≡◌, ◌≢◌, ℕ, ◌<◌, Bool, List, length, slice_index_or, Option, Some, None}
use Rattle.asp_model.specs.Names.{Name, FutureShape}
use Rattle.future_update.specs.declared.numbered.Future.{Future}
use Rattle.future_update.specs.declared.numbered.Edge.{Edge}
use Rattle.future_update.specs.declared.numbered.Receipt.{Receipt}
use Rattle.future_update.specs.contracts.numbered.FuturePartialEq.TheImpl as future_equality
use Rattle.future_update.specs.contracts.numbered.EdgePartialEq.TheImpl as edge_equality
use Rattle.future_update.specs.contracts.numbered.ReceiptPartialEq.TheImpl as receipt_equality
use Rattle.future_update.specs.Names.{IsKnown, IsKnownFuture, IsKnownEdge, future_of, name_of}

abbrev pub is_future : Future → Future → Bool
is_future = future_equality.ghosts.eq

abbrev pub is_edge : Edge → Edge → Bool
is_edge = edge_equality.ghosts.eq

abbrev pub is_receipt : Receipt → Receipt → Bool
is_receipt = receipt_equality.ghosts.eq

-- what stands where nothing is

abbrev pub no_future : Future
no_future = record { by = 0; index = 0 }

abbrev pub no_edge : Edge
no_edge = record { future = no_future; from = 0; to = 0 }

abbrev pub future_at : List Future → ℕ → Future
future_at fs i = slice_index_or fs i no_future

abbrev pub edge_at : List Edge → ℕ → Edge
edge_at es i = slice_index_or es i no_edge

-- no two of a list are one
abbrev pub AreFutures : List Future → Type 0
AreFutures fs = (i j : ℕ) → i < length fs → j < length fs → future_at fs i ≡ future_at fs j → i ≡ j

abbrev pub AreEdges : List Edge → Type 0
AreEdges es = (i j : ℕ) → i < length es → j < length es → edge_at es i ≡ edge_at es j → i ≡ j

-- a future with its home
abbrev pub home_entry : List Name → Future × ℕ → FutureShape × Name
home_entry ns e = (future_of ns e.0, name_of ns e.1)

abbrev pub receipt_entry : List Name → Receipt → FutureShape × Name
receipt_entry ns x = (future_of ns x.future, name_of ns x.by)

abbrev pub IsKnownHome : List Name → Future × ℕ → Type 0
IsKnownHome ns e = IsKnownFuture ns e.0 × IsKnown ns e.1

abbrev pub IsKnownReceipt : List Name → Receipt → Type 0
IsKnownReceipt ns x = IsKnownFuture ns x.future × IsKnown ns x.by

-- the number of a home, if there is one
abbrev pub IsHomeNumber : List Name → Option Name → Option ℕ → Type 0
IsHomeNumber ns home None = home ≡ None
IsHomeNumber ns home (Some k) = IsKnown ns k × (home ≡ Some (name_of ns k))

-- between two activities that were met
abbrev pub IsPassed : List Name → Edge → Type 0
IsPassed ns e = IsKnownEdge ns e × (e.from ≢ e.to)
