-- Where a replay leaves something else than its lists and counts say, found by going over both side by side.
use Rattle.std.specs.Prelude.{◌≡◌, ◌&&◌, ℕ, nat_eq, Bool, true, false, T, List, [], ◌∷◌, Option, Some, None, map}
use Rattle.std.specs.Cmp.Lexicographic.{pointwise}
use Rattle.std.specs.FinMap.{is_sorted}
use Rattle.std.specs.Ordering.{is_lt}
use Rattle.asp_model.specs.Names.{Name, Text, name_cmp, same_name}
use Rattle.asp_model.specs.Term.{Tree}
use Rattle.asp_model.specs.Configuration.{ReceptionShape}
use Rattle.asp_model.specs.Step.{ListsShape, same_reception}
use Rattle.asp_model.specs.Replay.{CountsShape, replay, Fits, IsLeastDiverging}
use Rattle.asp_model.specs.Outcome.{ActivityReportShape, OutcomeShape, outcome_of, lists_in, counts_in}
use Rattle.asp_model.specs.ReadReport.{Reads, read_report}

-- what is compared of an activity
pub record Row : Type 0 where
  pub name : Name
  pub count : ℕ
  pub senders : List ReceptionShape

-- the row of an activity's report
abbrev pub row_of : ActivityReportShape → Row
row_of a = record { name = a.name; count = a.count; senders = a.senders }

-- the rows that an outcome shows, in its order
abbrev pub rows_shown : OutcomeShape → List Row
rows_shown o = map row_of o.activities

-- the rows of lists and counts that have the same names
abbrev pub rows_given : ListsShape → CountsShape → List Row
rows_given [] counts = []
rows_given (x ∷ lists) [] = []
rows_given (x ∷ lists) (y ∷ counts) = record { name = x.0; count = y.1; senders = x.1 } ∷ rows_given lists counts

-- one name, one count, and one log
abbrev pub same_row : Row → Row → Bool
same_row x y = same_name x.name y.name && (nat_eq x.count y.count && pointwise same_reception x.senders y.senders)

-- the lesser in the order of names
abbrev pub lesser_name : Name → Name → Name
lesser_name n m = elim (is_lt (name_cmp m n)) [ true ↦ m | false ↦ n ]

-- where two lists of rows differ first: the lesser of the two names, or the one that is there
abbrev pub first_difference : List Row → List Row → Option Name
first_difference [] [] = None
first_difference [] (y ∷ ys) = Some y.name
first_difference (x ∷ xs) [] = Some x.name
first_difference (x ∷ xs) (y ∷ ys) = elim (same_row x y) [ true ↦ first_difference xs ys | false ↦ Some (lesser_name x.name y.name) ]

-- lists and counts have the same names, in ascending order
pub record AreInOrder (lists : ListsShape) (counts : CountsShape) : Type 0 where
  pub names : map (λ x. x.0) lists ≡ map (λ x. x.0) counts
  pub ascending : T (is_sorted name_cmp lists)

-- where the outcome of a replay first differs from its lists and counts
abbrev pub divergence_of : Tree → ListsShape → CountsShape → Option Name
divergence_of program lists counts = first_difference (rows_shown (outcome_of (replay program lists counts))) (rows_given lists counts)

-- Laws

-- where nothing differs, lists and counts fit
abbrev pub FitsWhereNoneDiffers : Type 0
FitsWhereNoneDiffers = (program : Tree) (lists : ListsShape) (counts : CountsShape)
    → AreInOrder lists counts → divergence_of program lists counts ≡ None → Fits program lists counts

-- where they first differ is the least-named activity at which the replay diverges, and they do not fit
abbrev pub DivergesWhereFirst : Type 0
DivergesWhereFirst = (program : Tree) (lists : ListsShape) (counts : CountsShape) (n : Name)
    → AreInOrder lists counts → divergence_of program lists counts ≡ Some n
    → IsLeastDiverging program lists counts n × (Fits program lists counts → ⊥)

-- the lists and counts of an outcome have the rows that it shows
abbrev pub RowsAreShown : Type 0
RowsAreShown = (o : OutcomeShape) → rows_given (lists_in o) (counts_in o) ≡ rows_shown o

-- what is read of a report is in order
abbrev pub ReportsAreInOrder : Type 0
ReportsAreInOrder = (bytes : Text) (lists : ListsShape) (counts : CountsShape)
    → read_report bytes ≡ Reads lists counts → AreInOrder lists counts
