-- Terms as redexes in contexts: each term splits in one way, and plugging gives it back.
use Rattle.std.specs.Prelude.{◌≡◌, ◌⊎◌, ◌≤◌, ◌<◌, ℕ, Bool, true, false, List, [], ◌∷◌, length}
use Rattle.asp_model.specs.Term.{Head, Loc, Tree, Trees, node, none, more, loc, locs_then}
use Rattle.asp_model.specs.Split.{Context, Redex, Splits, split, plug, reduced_count}

-- a redex as a term
abbrev pub redex_node : Redex → Tree
redex_node r = node r.head (locs_then r.places r.behind)

abbrev pub is_loc : Head → Bool
is_loc (Loc n) = true
is_loc h = false

-- all terms that are reduced in place are locations
abbrev pub IsRedex : Redex → Type 0
IsRedex r =
    let count : ℕ = reduced_count r.head (locs_then r.places r.behind) in
    (is_loc r.head ≡ false) × ((count ≡ length r.places) ⊎ ((r.behind ≡ none) × (length r.places ≤ count)))

-- the hole is reduced in place, and all before it are locations
abbrev pub IsContext : Context → Type 0
IsContext c = length c.before < reduced_count c.head (locs_then c.before (more (loc 0) c.behind))

abbrev pub AreContexts : List Context → Type 0
AreContexts [] = Unit {0}
AreContexts (c ∷ cs) = IsContext c × AreContexts cs

abbrev mutual
  -- nothing stands below a location
  pub HasBareLocations : Tree → Type 0
  HasBareLocations (node (Loc n) ts) = ts ≡ none
  HasBareLocations (node h ts) = HaveBareLocations ts

  pub HaveBareLocations : Trees → Type 0
  HaveBareLocations none = Unit {0}
  HaveBareLocations (more t ts) = HasBareLocations t × HaveBareLocations ts

-- what a term splits into gives it back
abbrev pub SplitsPlugBack : Type 0
SplitsPlugBack = (t : Tree) (contexts : List Context) (redex : Redex) → HasBareLocations t → split t ≡ Splits contexts redex → plug contexts (redex_node redex) ≡ t

-- a term splits into a redex in contexts
abbrev pub SplitsAreRedexes : Type 0
SplitsAreRedexes = (t : Tree) (contexts : List Context) (redex : Redex) → split t ≡ Splits contexts redex → AreContexts contexts × IsRedex redex

-- a term that is a redex in contexts splits into these, and so into no others
abbrev pub SplitsOneWay : Type 0
SplitsOneWay = (contexts : List Context) (redex : Redex) → AreContexts contexts → IsRedex redex → split (plug contexts (redex_node redex)) ≡ Splits contexts redex
