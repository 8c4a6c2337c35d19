-- How far a run may go, and in which order requests and polls may come.
use Rattle.std.specs.Prelude.{◌≡◌, ℕ, T, List, Option, Some, None, map}
use Rattle.std.specs.FinMap.{is_sorted}
use Rattle.asp_model.specs.Names.{Name, name_cmp}
use Rattle.asp_model.specs.Configuration.{ReceptionShape}
use Rattle.asp_model.specs.Step.{ListsShape, reception_at}
use Rattle.asp_model.specs.Replay.{count_in, log_in}
use Rattle.asp_model.specs.Shapes.{counts_shape, lists_shape, reception_shape}
use Rattle.replay_parts.specs.Roster.{Leads}
use Rattle.replay_parts.specs.declared.bounds.Bounds.{Bounds}
use Rattle.replay_parts.specs.declared.bounds.Bounds.TheVariants as bounds
use Rattle.replay_parts.specs.declared.bounds.Next.{Next}
use Rattle.replay_parts.specs.declared.bounds.Next.TheVariants as next

abbrev pub lists_within : Bounds → Option ListsShape
lists_within (bounds.Budget n) = None
lists_within (bounds.Listed lists counts) = Some (lists_shape lists.now)

-- at most so many reductions of each activity
abbrev pub count_within : Bounds → Name → ℕ
count_within (bounds.Budget n) = λ name. n
count_within (bounds.Listed lists counts) = count_in (counts_shape counts.now)

-- the names of lists and of counts are the same, and ascend
abbrev pub IsAscending : Bounds → Type 0
IsAscending (bounds.Budget n) = Unit {0}
IsAscending (bounds.Listed lists counts) =
    T (is_sorted name_cmp lists.now.entries.items) × T (is_sorted name_cmp counts.now.entries.items)
    × (map (λ x. x.0) lists.now.entries.items ≡ map (λ x. x.0) counts.now.entries.items)

-- the names of lists have the first numbers
abbrev pub IsNumbered : Bounds → List Name → Type 0
IsNumbered (bounds.Budget n) ns = Unit {0}
IsNumbered (bounds.Listed lists counts) ns = Leads (map (λ x. x.0) lists.now.entries.items) ns

-- what may be the k-th reception under this log
abbrev pub IsNextAmong : List ReceptionShape → ℕ → Next → Type 0
IsNextAmong log k next.Anything = ⊥
IsNextAmong log k (next.Only x) = reception_at log k ≡ Some (reception_shape x.now)
IsNextAmong log k next.Nothing = reception_at log k ≡ None

-- what may be the k-th reception of an activity
abbrev pub IsNextAt : Option ListsShape → Name → ℕ → Next → Type 0
IsNextAt None to k next.Anything = Unit {0}
IsNextAt None to k x = ⊥
IsNextAt (Some lists) to k x = IsNextAmong (log_in lists to) k x
