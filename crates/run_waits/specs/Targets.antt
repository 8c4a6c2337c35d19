-- Where the requests of a run went, as its notes tell.
use Rattle.std.specs.Prelude.{◌≡◌, ℕ, true, false, cond, List, [], ◌∷◌, Option, Some, None, option_map}
use Rattle.std.specs.Borrow.{Bor}
use Rattle.std.specs.BTreeMap.{get}
use Rattle.std.specs.declared.cmp.Ordering.{Ordering}
use Rattle.asp_model.specs.declared.name.FutureName.{FutureName}
use Rattle.asp_model.specs.contracts.name.FutureNameOrd.TheImpl as ordering
use Rattle.asp_model.specs.Names.{Name, FutureShape, Text, same_future}
use Rattle.asp_model.specs.Configuration.{Configuration, RequestShape}
use Rattle.asp_model.specs.Shapes.{future_shape}
use Rattle.law_steps.specs.Kept.{Stands}
use Rattle.replay_parts.specs.Notes.{EventShape, NoteShape, Sent}
use Rattle.run_waits.specs.declared.receipts.Receipts.{Receipts}
use Rattle.wait_circles.specs.declared.targets.Target.{Target}
use Rattle.wait_circles.specs.Targets.{Place, place_of}

-- In notes

-- where the request of a future went, by one event more
abbrev pub place_after : FutureShape → Option Place → EventShape → Option Place
place_after f o (Sent to label g) = elim (same_future g f) [ true ↦ Some (to, label) | false ↦ o ]
place_after f o x = o

abbrev pub place_from : FutureShape → Option Place → List NoteShape → Option Place
place_from f o [] = o
place_from f o (x ∷ xs) = place_from f (place_after f o x.event) xs

-- where the request of a future went, as all notes tell
abbrev pub place_in : List NoteShape → FutureShape → Option Place
place_in xs f = place_from f None xs

-- In a listener

abbrev pub future_order : FutureName → FutureName → Ordering
future_order = ordering.ghosts.cmp

abbrev pub target_at : Receipts → FutureName → Option Place
target_at r f = option_map place_of (get future_order r.targets f)

abbrev pub target_lent : Option (Bor Target) → Option Place
target_lent o = option_map (λ t. place_of t.now) o

-- it keeps what the notes tell
abbrev pub Keeps : Receipts → List NoteShape → Type 0
Keeps r xs = (f : FutureName) → target_at r f ≡ place_in xs (future_shape f)

-- a request more is told of
abbrev pub IsSentTo : Name → Text → FutureName → Receipts → Receipts → Type 0
IsSentTo to label g old new = (f : FutureName)
    → target_at new f ≡ cond (same_future (future_shape g) (future_shape f)) (Some (to, label)) (target_at old f)

-- In a configuration

-- each request that somebody received is told of
abbrev pub AreTold : Configuration → Receipts → Type 0
AreTold c r = (f : FutureName) (m : Name) (k : ℕ) (q : RequestShape)
    → Stands c m k q → q.future ≡ future_shape f → target_at r f ≡ Some (m, q.label)
