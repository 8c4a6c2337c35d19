-- Terms that run and contexts that wait, as a checkpoint keeps them, and what is made of them.
use Rattle.std.specs.Prelude.{◌≡◌, ℕ, List, [], ◌∷◌, Option, Some, None, reverse}
use Rattle.asp_model.specs.Configuration.{ServiceShape}
use Rattle.asp_model.specs.Split.{Context, plug}
use Rattle.asp_model.specs.Term.{Tree, loc}
use Rattle.law_steps.specs.Linked.{Each}
use Rattle.law_programs.specs.Proper.{IsProper, IsProperContext}
use Rattle.code_compiler.specs.Compiled.{Grows}
use Rattle.code_laws.specs.Splitting.{AreContexts}
use Rattle.code_table.specs.declared.code.Node.{Node}
use Rattle.frozen_code.specs.Held.{HoldsContext}
use Rattle.frozen_code.specs.Restoring.{HoldAll, HoldServices, HoldsInnermost, HoldsService}
use Rattle.frozen_code.specs.declared.held.Held.{Held}
use Rattle.frozen_code.specs.declared.machines.Innermost.{Innermost}
use Rattle.frozen_code.specs.declared.machines.Suspended.{Suspended}
use Rattle.term_opening.specs.Holding.{IsContextTerm, IsSomeRedex}
use Rattle.term_opening.specs.Opening.{place_in}
use Rattle.checkpoint_parts.specs.Shapes.{contexts_shape, running_shape}
use Rattle.checkpoint_makes.specs.declared.terms.MadeTerm.{MadeTerm}

-- Contexts

-- each term is opened as its context
abbrev pub AreContextTerms : List Context → List Tree → Type 0
AreContextTerms [] [] = Unit {0}
AreContextTerms [] (t ∷ ts) = ⊥
AreContextTerms (c ∷ cs) [] = ⊥
AreContextTerms (c ∷ cs) (t ∷ ts) = IsContextTerm c t × AreContextTerms cs ts

abbrev pub AreSomeContexts : List Tree → Type 0
AreSomeContexts ts = (cs : List Context) × AreContextTerms cs ts

-- each node holds whatever context its term is opened as
abbrev pub AreHeld : List Node → List Held → List Tree → Type 0
AreHeld k [] [] = Unit {0}
AreHeld k [] (t ∷ ts) = ⊥
AreHeld k (x ∷ xs) [] = ⊥
AreHeld k (x ∷ xs) (t ∷ ts) = ((c : Context) → IsContextTerm c t
    → HoldsContext k x.node x.places.items x.done.items c) × AreHeld k xs ts

pub record AreHeldFrom (ns ms : List Node) (xs : List Held) (ts : List Tree) : Type 0 where
  pub grows : Grows ns ms
  pub held : AreHeld ms xs ts

-- What stands innermost

abbrev pub IsInsideBy : Option ℕ → Tree → Type 0
IsInsideBy (Some n) t = Unit {0}
IsInsideBy None t = IsSomeRedex t

-- a place, or a proper redex
abbrev pub IsInside : Tree → Type 0
IsInside t = IsInsideBy (place_in t) t

abbrev pub place_or : Option ℕ → Tree → Tree
place_or (Some n) t = loc n
place_or None t = t

abbrev pub inside : Tree → Tree
inside t = place_or (place_in t) t

pub record IsHeldInside (ns ms : List Node) (x : Innermost) (t : Tree) : Type 0 where
  pub grows : Grows ns ms
  pub held : HoldsInnermost ms x (inside t)

-- Terms that run

-- what stands innermost, and the contexts round it
pub record RunsBy (first : Tree) (behind : List Tree) : Type 0 where
  pub inner : IsInside first
  pub contexts : List Context
  pub round : AreContextTerms contexts behind
  pub term : plug contexts (inside first) ≡ running_shape (first ∷ behind)

-- the terms of a running one
abbrev pub RunsAs : List Tree → Type 0
RunsAs [] = ⊥
RunsAs (t ∷ ts) = RunsBy t ts

-- the code has all of a running term
pub record HoldsTerm (k : List Node) (x : MadeTerm) (t : Tree) : Type 0 where
  pub contexts : List Context
  pub inner : Tree
  pub round : HoldAll k x.contexts.items (reverse contexts)
  pub innermost : HoldsInnermost k x.innermost inner
  pub term : plug contexts inner ≡ t

pub record IsMadeTerm (ns ms : List Node) (x : MadeTerm) (t : Tree) : Type 0 where
  pub grows : Grows ns ms
  pub holds : HoldsTerm ms x t

-- Terms that wait

-- the terms of a waiting one: a hole, and the contexts round it
abbrev pub WaitsAs : List Tree → Type 0
WaitsAs [] = ⊥
WaitsAs (t ∷ ts) = AreContextTerms (contexts_shape (t ∷ ts)) ts

pub record IsMadeService (ns ms : List Node) (x : Suspended) (v : ServiceShape) : Type 0 where
  pub grows : Grows ns ms
  pub holds : HoldsService ms x v

pub record AreMadeServices (ns ms : List Node) (xs : List Suspended) (vs : List ServiceShape) : Type 0 where
  pub grows : Grows ns ms
  pub holds : HoldServices ms xs vs

-- Laws

-- the terms of a proper one are such
abbrev pub TermsRun : Type 0
TermsRun = (ts : List Tree) → IsProper [] (running_shape ts) → RunsAs ts

abbrev pub TermsWait : Type 0
TermsWait = (ts : List Tree) → AreContexts (contexts_shape ts) → Each IsProperContext (contexts_shape ts) → WaitsAs ts
