-- What the terms of a machine show.
use Rattle.std.specs.Prelude.{◌≡◌, ℕ, List, ◌∷◌, ◌++◌, Option, map, reverse}
use Rattle.std.specs.Option.{option_map}
use Rattle.std.specs.List.{AllByRecursion}
use Rattle.asp_model.specs.Names.{FutureShape}
use Rattle.asp_model.specs.Term.{Hole, Tree, leaf}
use Rattle.asp_model.specs.Split.{Context, plug, plugged}
use Rattle.asp_model.specs.Configuration.{ServiceShape}
use Rattle.asp_model.specs.Shapes.{future_shape, tree_of}
use Rattle.code_table.specs.declared.code.Node.{Node}
use Rattle.code_laws.specs.Splitting.{AreContexts}
use Rattle.step_machine.specs.declared.frames.Frame.{Frame}
use Rattle.step_machine.specs.Items.{Item, contexts_of, services_of, futures_of}
use Rattle.step_machine.specs.Stacks.{IsStack}
use Rattle.step_machine.specs.Views.{IsAlone}
use Rattle.code_reading.specs.declared.shown.Suspended.{Suspended}

-- a context as a term with a hole
abbrev pub hole_tree : Context → Tree
hole_tree c = plugged c (leaf Hole)

-- the contexts of a term that waits, and the future that it had to answer
abbrev pub ServiceTerms : Type 0
ServiceTerms = List Tree × Option FutureShape

abbrev pub service_terms : ServiceShape → ServiceTerms
service_terms s = (map hole_tree s.contexts, s.future)

abbrev pub service_shown : Suspended → ServiceTerms
service_shown s = (map tree_of s.contexts.items, option_map future_shape s.future)

-- what a term was split into, and its suspended services, of which the newest stands first
pub record IsShown (t : Tree) (services : List ServiceShape) (terms : List Tree) (shown : List ServiceTerms) : Type 0 where
  pub contexts : List Context
  pub inner : Tree
  pub term : t ≡ plug contexts inner
  pub are : terms ≡ inner ∷ map hole_tree contexts
  pub suspended : shown ≡ map service_terms (reverse services)
  -- a hole is reduced in place, and all before it are locations
  pub holes : AreContexts contexts
  pub suspended_holes : AllByRecursion (λ s. AreContexts s.contexts) services

-- terms behind others are the contexts of a stack, and what is left of it begins with a service
pub record IsSegment (k : List Node) (items : List Item) (first terms : List Tree) (frames : List Frame) (env operands : List ℕ) : Type 0 where
  pub left : List Item
  pub stack : IsStack k (reverse frames) env operands left
  pub alone : IsAlone (reverse frames)
  pub are : terms ≡ first ++ map hole_tree (contexts_of items)
  pub services : services_of items ≡ services_of left
  pub futures : futures_of items ≡ futures_of left

-- the services of a stack, oldest first, where these are its futures
abbrev pub AreServices : List Item → List (Option FutureShape) → List ServiceTerms → Type 0
AreServices items futures shown = futures ≡ futures_of items → shown ≡ map service_terms (reverse (services_of items))
