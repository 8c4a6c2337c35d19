-- Configurations that differ in nothing but the order of what came with labels of different classes.
use Rattle.std.specs.Prelude.{◌≡◌, ◌==◌, ℕ, suc, true, false, List, [], ◌∷◌, Option, Some, None}
use Rattle.std.specs.FinMap.{find}
use Rattle.asp_model.specs.Names.{Name, Text, name_cmp}
use Rattle.asp_model.specs.Term.{Head, Serve, Pending, has_text}
use Rattle.asp_model.specs.Split.{Split, Stands, Splits, split}
use Rattle.asp_model.specs.Store.{CellShape, cell}
use Rattle.asp_model.specs.Parcel.{has_place}
use Rattle.asp_model.specs.Configuration.{RequestShape, Activity, Configuration, requests_of}
use Rattle.asp_model.specs.Intent.{labels_served}
use Rattle.law_services.specs.Correct.{bare_of}

-- the requests with labels of a class, in order
abbrev pub in_class : (Text → ℕ) → ℕ → List RequestShape → List RequestShape
in_class K κ [] = []
in_class K κ (r ∷ rs) = elim (K r.label == κ) [ true ↦ r ∷ in_class K κ rs | false ↦ in_class K κ rs ]

-- the requests that were not served, in order; the first has the number k
abbrev pub waiting : List ℕ → ℕ → List RequestShape → List RequestShape
waiting s k [] = []
waiting s k (r ∷ rs) = elim (has_place k s) [ true ↦ waiting s (suc k) rs | false ↦ r ∷ waiting s (suc k) rs ]

-- of each class the same were received, and the same wait
pub record AreSameBoxes (K : Text → ℕ) (rs : List RequestShape) (s : List ℕ) (qs : List RequestShape)
    (t : List ℕ) : Type 0 where
  pub received : (κ : ℕ) → in_class K κ rs ≡ in_class K κ qs
  pub waits : (κ : ℕ) → in_class K κ (waiting s 0 rs) ≡ in_class K κ (waiting t 0 qs)

abbrev pub served_of : Option Activity → List ℕ
served_of None = []
served_of (Some a) = a.served

-- which of the requests that an activity received it has served
abbrev pub served_at : Configuration → Name → List ℕ
served_at c n = served_of (find name_cmp n c.activities)

-- the same but for the order between classes, the numbers of what was served, and the logs
pub record AreAlike (K : Text → ℕ) (c d : Configuration) : Type 0 where
  pub activities : (m : Name) → bare_of (find name_cmp m c.activities) ≡ bare_of (find name_cmp m d.activities)
  pub futures : c.futures ≡ d.futures
  pub boxes : (m : Name) → AreSameBoxes K (requests_of c m) (served_at c m) (requests_of d m) (served_at d m)

-- What an activity asks for

abbrev pub labels_of_asker : Head → CellShape → List Text
labels_of_asker (Serve labels) c = labels_served labels c
labels_of_asker (Pending labels) c = labels_served labels c
labels_of_asker h c = []

abbrev pub labels_in : Split → CellShape → List Text
labels_in (Stands place) c = []
labels_in (Splits contexts redex) c = labels_of_asker redex.head c

abbrev pub asked_of : Option Activity → List Text
asked_of None = []
asked_of (Some a) = labels_in (split a.term) (cell a.store a.active)

-- the labels that an activity at a `serve` or at a `pending` asks for; else none
abbrev pub asked_at : Configuration → Name → List Text
asked_at c n = asked_of (find name_cmp n c.activities)

-- the class of the first of these labels
abbrev pub class_of : (Text → ℕ) → List Text → ℕ
class_of K [] = 0
class_of K (l ∷ ls) = K l

-- the labels are of one class
abbrev pub AreOneClass : (Text → ℕ) → List Text → Type 0
AreOneClass K ls = (l : Text) → has_text l ls ≡ true → K l ≡ class_of K ls

-- what an activity asks for next is of one class
abbrev pub AsksInClass : (Text → ℕ) → Configuration → Name → Type 0
AsksInClass K c n = AreOneClass K (asked_at c n)
