-- What can stand in a checkpoint: numbers that fit their types, texts of bytes, nodes with as many terms below as
-- they ask for, and terms that are split into their redex and its contexts.
use Rattle.std.specs.Prelude.{◌≡◌, ℕ, zero, suc, ℤ, pos, negsuc, ◌+◌, ◌^◌, ◌<◌, List, [], ◌∷◌, Option, Some, None, length}
use Rattle.asp_model.specs.Names.{Name, FutureShape, Text}
use Rattle.asp_model.specs.Term.{MethodHead, Head, Loc, Var, Number, Make, Get, Put, Call, Clone, Active, Serve, Let, Steps, If, Repeat, Operate, Print, Echo, Group, Scatter, Size, Member, WaitAll, Pending, Tree, Trees, node, none, more, loc, child_count}
use Rattle.asp_model.specs.Store.{MethodShape, Field, CellShape, Object, Reference, Future}
use Rattle.asp_model.specs.Store as cells
use Rattle.asp_model.specs.Parcel.{ParcelShape}
use Rattle.asp_model.specs.Split.{Context, Split, Stands, Splits, split, plug}
use Rattle.asp_model.specs.Contraction.{LineShape, NumberLine, TextLine}
use Rattle.asp_model.specs.Configuration.{RequestShape, ServiceShape, ReceptionShape, From, Poll}
use Rattle.code_laws.specs.Splitting.{redex_node, AreContexts}
use Rattle.code_reading.specs.Shown.{hole_tree}
use Rattle.law_frozen.specs.Frozen.{FrozenActivity, FrozenShape}

-- each of a list is such
abbrev pub AreAll : {X : Type 0} → (X → Type 0) → List X → Type 0
AreAll P [] = Unit {0}
AreAll P (x ∷ xs) = P x × AreAll P xs

-- and there are not too many to count
abbrev pub IsList : {X : Type 0} → (X → Type 0) → List X → Type 0
IsList P xs = (length xs < 2 ^ 64) × AreAll P xs

-- what there is, is such
abbrev pub IsOptional : {X : Type 0} → (X → Type 0) → Option X → Type 0
IsOptional P None = Unit {0}
IsOptional P (Some x) = P x

-- Numbers, texts and names

abbrev pub IsByte : ℕ → Type 0
IsByte b = b < 2 ^ 8

-- a number of 32 bits
abbrev pub IsSmall : ℕ → Type 0
IsSmall n = n < 2 ^ 32

-- a place, or a number of a cell
abbrev pub IsPlace : ℕ → Type 0
IsPlace n = n < 2 ^ 64

-- a number of 64 bits with its sign
abbrev pub IsSigned : ℤ → Type 0
IsSigned (pos n) = n < 2 ^ 63
IsSigned (negsuc n) = n < 2 ^ 63

abbrev pub IsText : Text → Type 0
IsText = IsList IsByte

abbrev pub IsName : Name → Type 0
IsName = IsList IsSmall

abbrev pub IsFuture : FutureShape → Type 0
IsFuture f = IsName f.by × IsSmall f.index

abbrev pub IsReception : ReceptionShape → Type 0
IsReception (From n) = IsName n
IsReception Poll = Unit {0}

abbrev pub IsOutput : LineShape → Type 0
IsOutput (NumberLine n) = IsSigned n
IsOutput (TextLine t) = IsText t

-- Terms

abbrev pub IsMethodHead : MethodHead → Type 0
IsMethodHead m = IsText m.label × (IsText m.slf × IsList IsText m.parameters)

-- the place, the number and the texts in a node itself
abbrev pub IsHead : Head → Type 0
IsHead (Loc n) = IsPlace n
IsHead (Var x) = IsText x
IsHead (Number n) = IsSigned n
IsHead (Make fields methods) = IsList IsText fields × IsList IsMethodHead methods
IsHead (Get l) = IsText l
IsHead (Put l) = IsText l
IsHead (Call l) = IsText l
IsHead (Active service) = IsOptional IsText service
IsHead (Serve labels) = IsList IsText labels
IsHead (Let x) = IsText x
IsHead (Echo t) = IsText t
IsHead (Scatter l) = IsText l
IsHead (Pending labels) = IsList IsText labels
IsHead h = Unit {0}

-- a node asks for so many terms below it
abbrev pub AsksFor : Head → ℕ → Type 0
AsksFor (Make fields methods) n = n ≡ length fields + length methods
AsksFor (Get l) n = n ≡ 1
AsksFor (Put l) n = n ≡ 2
-- a receiver and the arguments
AsksFor (Call l) n = (0 < n) × (n < 2 ^ 64 + 1)
AsksFor Clone n = n ≡ 1
AsksFor (Active service) n = n ≡ 1
AsksFor (Let x) n = n ≡ 2
AsksFor Steps n = n < 2 ^ 64
AsksFor If n = n ≡ 3
AsksFor Repeat n = n ≡ 1
AsksFor (Operate sign) n = n ≡ 2
AsksFor Print n = n ≡ 1
AsksFor Group n = n < 2 ^ 64
AsksFor (Scatter l) n = n ≡ 2
AsksFor Size n = n ≡ 1
AsksFor Member n = n ≡ 2
AsksFor WaitAll n = n ≡ 1
AsksFor h n = n ≡ 0

-- each of the terms below a node is such
abbrev pub AllBelow : (Tree → Type 0) → Trees → Type 0
AllBelow P none = Unit {0}
AllBelow P (more t ts) = P t × AllBelow P ts

-- a node with what it asks for, over such terms
abbrev pub IsNode : (Tree → Type 0) → Tree → Type 0
IsNode P (node h ts) = IsHead h × AsksFor h (child_count ts) × AllBelow P ts

-- a term that is nested at most so deep
abbrev pub IsTermTo : ℕ → Tree → Type 0
IsTermTo zero t = ⊥
IsTermTo (suc depth) t = IsNode (IsTermTo depth) t

-- as deep as a checkpoint may have one
unfoldable pub IsTerm : Tree → Type 0
IsTerm = IsTermTo 25000

-- contexts of a term, of which each is written as a term with a hole
abbrev pub AreWritten : List Context → Type 0
AreWritten cs = AreAll (λ c. IsTerm (hole_tree c)) cs × (suc (length cs) < 2 ^ 64) × AreContexts cs

-- what a term was split into makes the term again, and can be written
abbrev pub IsSplitOf : Tree → Split → Type 0
IsSplitOf t (Stands n) = (t ≡ loc n) × IsPlace n
IsSplitOf t (Splits cs r) = (plug cs (redex_node r) ≡ t) × IsTerm (redex_node r) × AreWritten cs

-- a term by its redex and the contexts of that
abbrev pub IsRunning : Tree → Type 0
IsRunning t = IsSplitOf t (split t)

-- Cells, parcels, requests and services

abbrev pub IsField : Field → Type 0
IsField x = IsText x.label × IsPlace x.place

abbrev pub IsMethod : MethodShape → Type 0
IsMethod m = IsMethodHead m.head × IsTerm m.body

abbrev pub IsCell : CellShape → Type 0
IsCell (cells.Number n) = IsSigned n
IsCell (Object fields methods) = IsList IsField fields × IsList IsMethod methods
IsCell (Reference n) = IsName n
IsCell (Future f) = IsFuture f
IsCell (cells.Group members) = IsList IsPlace members

abbrev pub IsParcel : ParcelShape → Type 0
IsParcel p = IsList IsCell p.cells × IsList IsPlace p.roots

abbrev pub IsRequest : RequestShape → Type 0
IsRequest r = IsText r.label × (IsName r.sender × (IsFuture r.future × IsParcel r.arguments))

abbrev pub IsService : ServiceShape → Type 0
IsService v = AreWritten v.contexts × IsOptional IsFuture v.future

-- Activities, and all that is frozen

pub record IsActivity (x : FrozenActivity) : Type 0 where
  pub name : IsName x.name
  pub reductions : IsPlace x.activity.reductions
  pub sends : IsSmall x.activity.sends
  pub creations : IsSmall x.activity.creations
  pub lines : IsList IsOutput x.activity.lines
  pub log : IsList IsReception x.log
  pub queue : IsList IsRequest x.queue
  pub present : IsOptional IsFuture x.activity.present
  pub services : IsList IsService x.activity.services
  pub term : IsRunning x.activity.term
  pub store : IsList IsCell x.activity.store
  pub active : IsPlace x.activity.active
  -- what was served is kept nowhere
  pub served : x.activity.served ≡ []

pub record IsWritable (f : FrozenShape) : Type 0 where
  pub homes : IsList (λ h. IsFuture h.0 × IsName h.1) f.homes
  pub filled : IsList (λ v. IsFuture v.0 × IsParcel v.1) f.filled
  pub activities : AreAll IsActivity f.activities
