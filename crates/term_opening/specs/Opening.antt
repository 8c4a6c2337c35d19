-- A node whose first terms are done: `[]` stands for each of the places before its hole, and for the hole.
use Rattle.std.specs.Prelude.{ℕ, zero, suc, Bool, true, false, List, [], ◌∷◌, ◌++◌, Option, Some, None}
use Rattle.asp_model.specs.Term.{Loc, Hole, Tree, Trees, node, none, more}
use Rattle.asp_model.specs.Split.{reduced_count}
use Rattle.frozen_code.specs.Held.{filler}

-- the place that a term is
abbrev pub place_in : Tree → Option ℕ
place_in (node (Loc n) ts) = Some n
place_in t = None

-- Of one term: `on` says that all before it were places

abbrev pub emptied : Bool → Tree → Tree
emptied true (node (Loc n) ts) = filler
emptied true (node Hole ts) = filler
emptied on t = t

-- it is a place too
abbrev pub goes_on : Bool → Tree → Bool
goes_on true (node (Loc n) ts) = true
goes_on on t = false

-- the places so far, and it
abbrev pub done_at : Bool → List ℕ → Tree → List ℕ
done_at true ps (node (Loc n) ts) = ps ++ n ∷ []
done_at on ps t = ps

-- Of terms

abbrev pub emptied_all : Bool → List Tree → List Tree
emptied_all on [] = []
emptied_all on (t ∷ ts) = emptied on t ∷ emptied_all (goes_on on t) ts

abbrev pub done_all : Bool → List ℕ → List Tree → List ℕ
done_all on ps [] = ps
done_all on ps (t ∷ ts) = done_all (goes_on on t) (done_at on ps t) ts

-- of the first alone

abbrev pub emptied_step : List Tree → List Tree
emptied_step [] = []
emptied_step (t ∷ ts) = emptied true t ∷ ts

abbrev pub done_step : List ℕ → List Tree → List ℕ
done_step ps [] = ps
done_step ps (t ∷ ts) = done_at true ps t

-- of the first so many

abbrev pub emptied_first : Bool → ℕ → Trees → Trees
emptied_first on zero ts = ts
emptied_first on (suc n) none = none
emptied_first on (suc n) (more t ts) = more (emptied on t) (emptied_first (goes_on on t) n ts)

abbrev pub done_first : Bool → List ℕ → ℕ → Trees → List ℕ
done_first on ps zero ts = ps
done_first on ps (suc n) none = ps
done_first on ps (suc n) (more t ts) = done_first (goes_on on t) (done_at on ps t) n ts

-- Of a node: of the terms that are reduced in place

abbrev pub emptied_node : Tree → Tree
emptied_node (node h ts) = node h (emptied_first true (reduced_count h ts) ts)

-- these places, and those of its first terms
abbrev pub done_in : List ℕ → Tree → List ℕ
done_in ps (node h ts) = done_first true ps (reduced_count h ts) ts
