-- What frames stand for, innermost first: contexts, and services that are suspended.
use Rattle.std.specs.Prelude.{List, [], ◌∷◌, Option}
use Rattle.asp_model.specs.Names.{FutureShape}
use Rattle.asp_model.specs.Split.{Context}
use Rattle.asp_model.specs.Configuration.{ServiceShape}

pub data Item : Type 0 where
  Waits : (context : Context) → Item
  -- the term below waits for the end of a service, and had this future to answer
  Suspends : (future : Option FutureShape) → Item

-- the contexts of the term that runs
abbrev pub contexts_of : List Item → List Context
contexts_of [] = []
contexts_of (Waits c ∷ xs) = c ∷ contexts_of xs
contexts_of (Suspends f ∷ xs) = []

-- the suspended services, newest first
abbrev pub services_of : List Item → List ServiceShape
services_of [] = []
services_of (Waits c ∷ xs) = services_of xs
services_of (Suspends f ∷ xs) = record { contexts = contexts_of xs; future = f } ∷ services_of xs

abbrev pub futures_of : List Item → List (Option FutureShape)
futures_of [] = []
futures_of (Waits c ∷ xs) = futures_of xs
futures_of (Suspends f ∷ xs) = f ∷ futures_of xs
