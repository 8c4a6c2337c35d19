-- Logs among others.
use Rattle.std.specs.Prelude.{◌≡◌, ◌⊎◌, List, [], ◌∷◌}
use Rattle.asp_model.specs.Step.{ListsShape}

-- these logs are among them
abbrev pub HasEntered : List ListsShape → ListsShape → Type 0
HasEntered [] l = ⊥
HasEntered (k ∷ ks) l = (k ≡ l) ⊎ HasEntered ks l
