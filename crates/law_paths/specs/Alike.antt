-- Terms and cells that are equal but for their places, which are related one by one.
use Rattle.std.specs.Prelude.{◌≡◌, ℕ, ℤ, List, []}
use Rattle.asp_model.specs.Names.{Name, Text}
use Rattle.asp_model.specs.Term.{Head, Loc, Tree, Trees, node, none, more, own_locations}
use Rattle.asp_model.specs.Split.{Context, Redex, Split, Stands, Splits}
use Rattle.asp_model.specs.Store.{MethodShape, Field, CellShape, Number, Object, Reference, Group}
use Rattle.def_paths.specs.Agree.{Pairs}

mutual
  pub data AreAlike (L : ℕ → ℕ → Type 0) : Tree → Tree → Type 0 where
    at_locs : {i j : ℕ} {ts us : Trees} → L i j → AreAlikeBelow L ts us → AreAlike L (node (Loc i) ts) (node (Loc j) us)
    at_node : (h : Head) {ts us : Trees} → own_locations h ≡ [] → AreAlikeBelow L ts us → AreAlike L (node h ts) (node h us)

  pub data AreAlikeBelow (L : ℕ → ℕ → Type 0) : Trees → Trees → Type 0 where
    no_more : AreAlikeBelow L none none
    one_more : {t u : Tree} {ts us : Trees} → AreAlike L t u → AreAlikeBelow L ts us → AreAlikeBelow L (more t ts) (more u us)

pub data AlikeHeads (L : ℕ → ℕ → Type 0) : Head → Head → Type 0 where
  loc_heads : {i j : ℕ} → L i j → AlikeHeads L (Loc i) (Loc j)
  same_heads : (h : Head) → own_locations h ≡ [] → AlikeHeads L h h

pub record AlikeContexts (L : ℕ → ℕ → Type 0) (x y : Context) : Type 0 where
  pub head : AlikeHeads L x.head y.head
  pub before : Pairs L x.before y.before
  pub behind : AreAlikeBelow L x.behind y.behind

pub record AlikeRedexes (L : ℕ → ℕ → Type 0) (x y : Redex) : Type 0 where
  pub head : x.head ≡ y.head
  pub own : own_locations x.head ≡ []
  pub places : Pairs L x.places y.places
  pub behind : AreAlikeBelow L x.behind y.behind

pub data AlikeSplits (L : ℕ → ℕ → Type 0) : Split → Split → Type 0 where
  both_stand : {i j : ℕ} → L i j → AlikeSplits L (Stands i) (Stands j)
  both_split : {cs ds : List Context} {r s : Redex} → Pairs (AlikeContexts L) cs ds → AlikeRedexes L r s → AlikeSplits L (Splits cs r) (Splits ds s)

pub record AlikeFields (L : ℕ → ℕ → Type 0) (x y : Field) : Type 0 where
  pub label : x.label ≡ y.label
  pub place : L x.place y.place

pub record AlikeMethods (L : ℕ → ℕ → Type 0) (x y : MethodShape) : Type 0 where
  pub head : x.head ≡ y.head
  pub body : AreAlike L x.body y.body

-- cells that are no futures
pub data AlikeCells (L : ℕ → ℕ → Type 0) : CellShape → CellShape → Type 0 where
  numbers : (z : ℤ) → AlikeCells L (Number z) (Number z)
  objects : {fs gs : List Field} {ms ns : List MethodShape}
      → Pairs (AlikeFields L) fs gs → Pairs (AlikeMethods L) ms ns → AlikeCells L (Object fs ms) (Object gs ns)
  references : (n : Name) → AlikeCells L (Reference n) (Reference n)
  groups : {xs ys : List ℕ} → Pairs L xs ys → AlikeCells L (Group xs) (Group ys)

abbrev pub AlikeBindings : (ℕ → ℕ → Type 0) → Text × ℕ → Text × ℕ → Type 0
AlikeBindings L x y = (x.0 ≡ y.0) × L x.1 y.1
