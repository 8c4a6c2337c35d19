-- What the holders of futures keep.
use Rattle.std.specs.Prelude.{◌≡◌, ℕ, ◌<◌, true, Bool, List, length, map}
use Rattle.std.specs.List.{AllByRecursion}
use Rattle.asp_model.specs.Names.{Name}
use Rattle.future_update.specs.declared.holders.Holders.TheInside.{Inside}
use Rattle.future_update.specs.Holders.{HoldersView}
use Rattle.core_sets.specs.declared.lanes.Lanes.{Lanes}
use Rattle.core_sets.specs.Lanes.{AreLanes, count, is_closed, lane_count, lane_of}
use Rattle.core_sets.specs.Marks.{is_marked}
use Rattle.core_sets.specs.Ticks.{is_among}
use Rattle.future_update.specs.declared.numbered.Edge.{Edge}
use Rattle.future_update.specs.Names.{name_of}
use Rattle.future_update.specs.Numbered.{edge_at}
use Rattle.future_update.specs.Records.{AreRecords, answers_of, names_of, owes, shape_of}
use Rattle.future_update.specs.Passings.{ArePassings}

-- an activity by its number, and whether it is out: its lane is closed
abbrev pub activity_entry : List Name → Lanes → ℕ → Name × Bool
activity_entry ns t k = (name_of ns k, is_closed t k)

abbrev pub view_of : Inside → HoldersView
view_of s = record {
  holders = shape_of s.records;
  answers = answers_of s.records;
  activities = map (activity_entry (names_of s.records) s.owed) s.activities.items;
}

abbrev pub IsMember : List Name → Lanes → ℕ → Type 0
IsMember ns t k = (k < length ns) × (k < lane_count t)

-- each edge stands in the lane of its receiver, and a lane is closed where an activity that was met is out
pub record AreLaned (ns : List Name) (edges : List Edge) (activities : List ℕ) (t : Lanes) : Type 0 where
  pub lanes : AreLanes t
  pub size : count t ≡ length edges
  pub lane : (p : ℕ) → p < length edges → lane_of t p ≡ (edge_at edges p).to
  pub members : AllByRecursion (IsMember ns t) activities
  pub closed : (k : ℕ) → is_closed t k ≡ true → is_among k activities ≡ true

pub record AreHolders (s : Inside) : Type 0 where
  pub records : AreRecords s.records
  pub passings : ArePassings s.passings s.records.edges.keys (answers_of s.records)
  pub owed : (p : ℕ) → is_marked s.owed.marks p ≡ owes s.records p
  pub laned : AreLaned (names_of s.records) s.records.edges.keys s.activities.items s.owed
