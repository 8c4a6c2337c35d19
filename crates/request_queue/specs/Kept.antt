-- What every crowd of pending requests keeps.
use Rattle.std.specs.Prelude.{◌≡◌, ℕ, ◌<◌, Bool, false, List, Option, Some, None}
use Rattle.std.specs.List.{AllByRecursion}
use Rattle.std.specs.List.Sorted.{IsStrictlySortedBy}
use Rattle.std.specs.Ordering.{nat_cmp}
use Rattle.std.specs.Map.{keys_of}
use Rattle.asp_model.specs.declared.word.Label.{Label}
use Rattle.request_queue.specs.declared.request.Request.{Request}
use Rattle.asp_model.specs.Names.{same_text}
use Rattle.request_queue.specs.declared.crowd.Crowd.TheInside.{Inside}
use Rattle.request_queue.specs.Pending.{QueueView, request_at}
use Rattle.request_queue.specs.Notes.{is_noted}

abbrev pub view_of : Inside → QueueView
view_of q = q.requests

abbrev pub has_label : Label → Option Request → Bool
has_label l None = false
has_label l (Some r) = same_text l.text r.label.text

-- a request of this number and this label is pending
abbrev pub waits : List (ℕ × Request) → Label → ℕ → Bool
waits es l k = has_label l (request_at k es)

pub record IsKept (q : Inside) : Type 0 where
  pub ordered : IsStrictlySortedBy nat_cmp (keys_of q.requests.pending)
  -- each number is below that of the next request
  pub below : AllByRecursion (λ e. e.0 < q.requests.arrived) q.requests.pending
  -- each pending request is noted under its label, and nothing else
  pub noted : (l : Label) (k : ℕ) → is_noted q.notes l k ≡ waits q.requests.pending l k
