-- What walks over two sides look at, in order.
use Rattle.std.specs.Prelude.{◌≡◌, ℕ, suc, ◌<◌, cond, List, []}
use Rattle.std.specs.Prelude.{◌∷◌, Option, Some, None, length, map, drop}
use Rattle.std.proofs.Common.{get_or}
use Rattle.std.specs.Ordering.{is_lt}
use Rattle.asp_model.specs.declared.services.Arrival.{Arrival}
use Rattle.asp_model.specs.declared.word.Label.{Label}
use Rattle.asp_model.specs.Names.{Name, Text, name_cmp, same_name}
use Rattle.asp_model.specs.Services.{ArrivalShape, ServiceEntryShape}
use Rattle.asp_model.specs.Shapes.{arrival_shape}
use Rattle.law_services.specs.Told.{no_services, with_labels, same_to_services}

-- the text of a label
abbrev pub label_text : Label → Text
label_text l = l.text

-- the arrivals with one of the labels
abbrev pub chosen : List Text → List Arrival → List ArrivalShape
chosen labels xs = with_labels labels (map arrival_shape xs)

-- of those from a place on, this is the first with one of the labels
pub record IsNext (labels : List Text) (xs : List Arrival) (from r : ℕ) : Type 0 where
  pub within : r < length xs
  pub first : (d : Arrival)
      → chosen labels (drop from xs) ≡ arrival_shape (get_or xs r d) ∷ chosen labels (drop (suc r) xs)

-- the entries without those of lesser names in front
abbrev pub past : Name → List ServiceEntryShape → List ServiceEntryShape
past n [] = []
past n (e ∷ es) = cond (is_lt (name_cmp e.name n)) (past n es) (e ∷ es)

-- the first entry, where it has this name
abbrev pub named : Name → List ServiceEntryShape → ServiceEntryShape
named n [] = no_services n
named n (e ∷ es) = cond (same_name e.name n) e (no_services n)

-- the first entry that is not the same to services as the other side's of its name
abbrev pub first_told : List ServiceEntryShape → List ServiceEntryShape → Option Name
first_told [] others = None
first_told (e ∷ es) others = cond (same_to_services e (named e.name (past e.name others)))
    (first_told es (past e.name others)) (Some e.name)

-- the first that polled
abbrev pub first_polled : List ServiceEntryShape → Option Name
first_polled [] = None
first_polled (e ∷ es) = cond e.polled (Some e.name) (first_polled es)

-- the lesser name, where there are two
abbrev pub lesser_of : Option Name → Option Name → Option Name
lesser_of None other = other
lesser_of (Some n) None = Some n
lesser_of (Some n) (Some m) = Some (cond (is_lt (name_cmp m n)) m n)
