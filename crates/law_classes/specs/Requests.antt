-- Runs in which nobody asks what is pending: their logs by classes are those of the requests.
use Rattle.std.specs.Prelude.{◌≡◌, ◌==◌, ℕ, true, false, List, [], ◌∷◌, None, Some, length, map}
use Rattle.std.specs.List.{Contains}
use Rattle.asp_model.specs.Names.{Name, Text}
use Rattle.asp_model.specs.Term.{Tree}
use Rattle.asp_model.specs.Configuration.{From, Configuration, start, requests_of, log_of}
use Rattle.asp_model.specs.Intent.{Effect, Acts}
use Rattle.asp_model.specs.Services.{ArrivalShape, ServicesShape}
use Rattle.asp_model.specs.Step.{ListsShape, intent_in, reception_at}
use Rattle.asp_model.specs.Status.{IsStuck}
use Rattle.asp_model.specs.Replay.{CountsShape, replay}
use Rattle.law_steps.specs.Reached.{RunsTo}
use Rattle.law_services.specs.Services.{StoodAt, has_poll}
use Rattle.law_services.specs.Told.{entry_at, AreServicesOf}
use Rattle.law_classes.specs.Alike.{in_class, AreOneClass, AsksInClass}
use Rattle.law_classes.specs.Runs.{ClassLogs, Entry, entry_of}
use Rattle.law_classes.specs.Families.{ClassEnd, IsInside, IsClassEnd, IsFull}

-- for each class of each activity, who sent the requests of that class
abbrev pub request_logs : (Text → ℕ) → Configuration → ClassLogs
request_logs K c q κ = map (λ r. From r.sender) (in_class K κ (requests_of c q))

-- nobody asked what is pending
abbrev pub NobodyPolled : Configuration → Type 0
NobodyPolled c = (n : Name) → has_poll (log_of c n) ≡ false

-- each `serve` at which somebody stands in a replay asks in one class
abbrev pub ServesInClasses : (Text → ℕ) → Tree → ListsShape → CountsShape → Type 0
ServesInClasses K program lists counts = (n : Name) (labels : List Text)
    → StoodAt program lists counts n labels → AreOneClass K labels

-- a replay after which nobody can step is an end by classes, if nobody polled and all asked in one class
abbrev pub StuckReplaysAreEnds : Type 0
StuckReplaysAreEnds = (K : Text → ℕ) (program : Tree) (lists : ListsShape) (counts : CountsShape)
    → let c : Configuration = replay program lists counts in
    IsStuck c → NobodyPolled c → ServesInClasses K program lists counts → ((n : Name) → AsksInClass K c n)
    → IsClassEnd K program (c, request_logs K c)

-- whoever acts enters what is not next in the lists
abbrev pub NobodyIsNext : (Text → ℕ) → ClassLogs → Configuration → Type 0
NobodyIsNext K lists c = (n : Name) (e : Effect) → intent_in c n ≡ Acts e → (z : Entry) × (entry_of K c n e ≡ Some z)
    × (reception_at (lists z.0 z.1) (length (request_logs K c z.0 z.1)) ≡ Some z.2 → ⊥)

-- a run within lists with which those of an end begin has gone as far as it can, if nobody is next in them; that
-- all asked in one class is known from the end
abbrev pub RestingRunsAreFull : Type 0
RestingRunsAreFull = (K : Text → ℕ) (program : Tree) (x : ClassEnd) (lists : ClassLogs) (names : List Name)
    (c : Configuration) → IsClassEnd K program x → IsInside lists x.1 → RunsTo None (start program) names c
    → NobodyPolled c → IsInside (request_logs K c) lists → NobodyIsNext K lists c
    → IsFull K program lists (c, request_logs K c)

-- the arrivals with labels of a class, in order
abbrev pub arrived_in : (Text → ℕ) → ℕ → List ArrivalShape → List ArrivalShape
arrived_in K κ [] = []
arrived_in K κ (x ∷ xs) = elim (K x.label == κ) [ true ↦ x ∷ arrived_in K κ xs | false ↦ arrived_in K κ xs ]

-- the logs by classes that services show: for each class of each activity, who sent what arrived
abbrev pub arrival_logs : (Text → ℕ) → ServicesShape → ClassLogs
arrival_logs K s q κ = map (λ x. From x.sender) (arrived_in K κ (entry_at s q).arrivals)

-- the services of a replay show its logs by classes, that nobody polled, and that each `serve` asked in one class
pub record AreShown (K : Text → ℕ) (program : Tree) (lists : ListsShape) (counts : CountsShape)
    (s : ServicesShape) : Type 0 where
  pub logs : request_logs K (replay program lists counts) ≡ arrival_logs K s
  pub unpolled : ((n : Name) → (entry_at s n).polled ≡ false) → NobodyPolled (replay program lists counts)
  pub serves : ((n : Name) (labels : List Text) → Contains (entry_at s n).sets labels → AreOneClass K labels)
      → ServesInClasses K program lists counts

abbrev pub ServicesShowClasses : Type 0
ServicesShowClasses = (K : Text → ℕ) (program : Tree) (lists : ListsShape) (counts : CountsShape) (s : ServicesShape)
    → AreServicesOf program lists counts s → AreShown K program lists counts s
