-- Chases round cycles of two futures of main.
use Rattle.std.specs.Prelude.{◌≡◌, ℕ, [], ◌∷◌}
use Rattle.asp_model.specs.Names.{FutureShape, main_name}
use Rattle.asp_model.specs.Store.{Future}
use Rattle.asp_model.specs.Chase.{Values, Cycle, chase}

abbrev pub future : ℕ → FutureShape
future n = record { by = main_name; index = n }

-- the first two futures of main, filled by these of main's futures
abbrev pub filled_by : ℕ → ℕ → Values
filled_by n m =
    (future 1, record { cells = Future (future n) ∷ []; roots = 0 ∷ [] })
    ∷ (future 2, record { cells = Future (future m) ∷ []; roots = 0 ∷ [] }) ∷ []

-- from both futures the chase gives the first
pub record NamesTheFirst (values : Values) : Type 0 where
  pub first : chase values (future 1) ≡ Cycle (future 1)
  pub second : chase values (future 2) ≡ Cycle (future 1)

-- each is filled by the other
abbrev pub EachLeadsToTheOther : Type 0
EachLeadsToTheOther = NamesTheFirst (filled_by 2 1)

-- the second is filled by itself, and the first only leads to it
abbrev pub FirstLeadsToTheCycle : Type 0
FirstLeadsToTheCycle = NamesTheFirst (filled_by 2 2)
