-- What agreement means for a reader: paths by labels find the same, and so do the lines of a report.
use Rattle.std.specs.Prelude.{◌≡◌, ◌↔◌, ℕ, List, Option, map}
use Rattle.def_paths.specs.Places.{Place, Side, read, children, found_at, AreReadAlike}
use Rattle.def_paths.specs.Addresses.{address_of, read_at, children_at}
use Rattle.def_paths.specs.PathLabels.{PathLabel, from_by}
use Rattle.def_paths.specs.Outcomes.{WholeOutcome, OutcomesAgree, report_lines_to}

-- places and their addresses, which are lists of numbers, lead to the same
abbrev pub AddressesLead : Type 0
AddressesLead = ((p q : Place) → address_of p ≡ address_of q → p ≡ q)
    × ((a : Side) (p : Place) → read_at a (address_of p) ≡ read a p)
    × ((a : Side) (p : Place) → map address_of (children a p) ≡ children_at a (address_of p))

-- sides that are read alike by numbers of children are read alike by labels
abbrev pub LabelsReadAlike : Type 0
LabelsReadAlike = (a b : Side) (xs ys : List ℕ) → AreReadAlike a b xs ys
    → ((k : ℕ) (path : List PathLabel)
    → found_at a (from_by a xs k path) ≡ found_at b (from_by b ys k path))
    × ((k l : ℕ) (path other : List PathLabel)
    → (from_by a xs k path ≡ from_by a xs l other) ↔ (from_by b ys k path ≡ from_by b ys l other))

-- outcomes that agree have equal reports, without a depth and at every depth
abbrev pub ReportsAgree : Type 0
ReportsAgree = (depth : Option ℕ) (o p : WholeOutcome) → OutcomesAgree o p
    → report_lines_to depth o ≡ report_lines_to depth p
