-- What a reader answers, against its definition.
use denote.Ref.{Bor}
use Rattle.std.specs.Prelude.{◌≡◌, ℕ, List, [], ◌∷◌, Option, Some, None, Result, Ok, Err}
use Rattle.asp_model.specs.Names.{Text}
use Rattle.asp_model.specs.ReportLines.{parts}
use Rattle.checkpoint_text.specs.Items.{Items}
use Rattle.checkpoint_items.specs.declared.error.ReadError.{ReadError}
use Rattle.checkpoint_items.specs.declared.error.ReadError.TheVariants as errors

-- the items of the rest of a line; none behind its last
abbrev pub items_in : Option (Bor (List ℕ)) → Items
items_in None = []
items_in (Some rest) = parts 32 rest.now

-- the first item was taken, and these are behind it
abbrev pub IsTaken : Items → Option (Bor (List ℕ)) → Items → Type 0
IsTaken ws None us = ws ≡ []
IsTaken ws (Some w) us = ws ≡ w.now ∷ us

-- nothing is read, where the error says so
abbrev pub Refuses : {X : Type 0} → Option X → ReadError → Type 0
Refuses o errors.Malformed = o ≡ None
Refuses o errors.OtherProgram = ⊥
Refuses o errors.NotText = Unit {0}
Refuses o errors.Memory = Unit {0}

-- what is read, as f sees it, and the items behind it; or an error
abbrev pub Finds : {X Y : Type 0} → (Y → X) → Option (X × Items) → Items → Result Y ReadError → Type 0
Finds f o us (Ok y) = o ≡ Some (f y, us)
Finds f o us (Err e) = Refuses o e

-- behind what was read
abbrev pub found_with : {X : Type 0} → Items → Option X → Option (X × Items)
found_with ws None = None
found_with ws (Some x) = Some (x, ws)

-- what is read where nothing is behind it, or an error
abbrev pub Says : {X Y : Type 0} → (Y → X) → Option X → Result Y ReadError → Type 0
Says f o (Ok y) = o ≡ Some (f y)
Says f o (Err e) = Refuses o e
