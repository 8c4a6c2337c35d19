-- What a reduction gives, by its effect.
use Rattle.std.proofs.Common.{◌≡◌, true, false, List, [], ◌++◌, Option, Some, None, refl, sym, ap, ◌∙◌, append-nil}
use Rattle.std.specs.Global.{Box}
use Rattle.std.specs.declared.alloc.Global.{Global}
use Rattle.std.specs.declared.sync.Arc.{Arc}
use Rattle.asp_model.specs.Names.{Name, FutureShape}
use Rattle.asp_model.specs.Parcel.{ParcelShape}
use Rattle.asp_model.specs.Configuration as model
use Rattle.asp_model.specs.Configuration.{RequestShape}
use Rattle.asp_model.specs.Intent.{Effect}
use Rattle.code_table.specs.Cells.{CodedStore, held_future}
use Rattle.code_table.specs.Shapes.{parcel_shape, store_of}
use Rattle.code_table.specs.declared.cells.Parcel.{Parcel}
use Rattle.code_table.specs.declared.future.Future.{Future}
use Rattle.request_queue.specs.declared.request.Request.{Request}
use Rattle.request_queue.specs.Requests.{request_shape}
use Rattle.def_journals.specs.Edges.{Fills, HoldersShape, after_event, after_events, has_filled}
use Rattle.def_journals.specs.Passing.{effect_events, filled_events, made_events, passes_all, sent_events}
use Rattle.future_update.specs.Changes.{once_filled}
use Rattle.step_activity.specs.declared.act.Given.TheVariants as given
use Rattle.step_activity.specs.declared.actor.Actor.{Actor}
use Rattle.step_activity.specs.Actors.{Stands, code_of}
use Rattle.step_activity.specs.Effects.{IsGiven, IsMade}
use Rattle.core_edges.specs.Passing.{futures_held, with_passed}
use Rattle.core_edges.proofs.PassingLemmas.{passes_are}

module _ (by : Name) (e : Effect) where
  -- by what is sent, made and filled
  parts : (s : Option (Name × RequestShape)) (m : Option (Name × model.Activity)) (f : Option (FutureShape × ParcelShape)) → e.sent ≡ s → e.made ≡ m → e.filled ≡ f → effect_events by [] e ≡ sent_events by s ++ (made_events by m ++ filled_events f)
  parts s m f p q r = λ i. sent_events by (p i) ++ (made_events by (q i) ++ filled_events (r i))

  pub nothing_given : IsGiven by e given.Nothing → (h : HoldersShape) → after_events (effect_events by [] e) h ≡ h
  nothing_given g h = ap (λ es. after_events es h) (parts None None None g.0 g.1 g.2)

  -- a poll is no event
  pub polled_given : IsGiven by e given.Polled → (h : HoldersShape) → after_events (effect_events by [] e) h ≡ h
  polled_given g h = ap (λ es. after_events es h) (parts None None None g.0 g.1 g.2)

  pub made_given : (n : Name) (x : Box Actor) (cells : CodedStore) → ((a : model.Activity) (rs : List RequestShape) → Stands x.value a rs → store_of (code_of x.value) cells ≡ a.store)
      → IsGiven by e (given.Made n x) → (h : HoldersShape) → after_events (effect_events by [] e) h ≡ with_passed (futures_held cells) by n h
  made_given n x cells told g h = made e.made refl g.1
    where
      made : (o : Option (Name × model.Activity)) → e.made ≡ o → IsMade o n x.value → after_events (effect_events by [] e) h ≡ with_passed (futures_held cells) by n h
      made None is m = absurd m
      made (Some z) is m =
          ap (λ es. after_events es h) (parts None (Some z) None g.0 is g.2 ∙ append-nil (passes_all by z.0 z.1.store))
          ∙ (λ i. after_events (passes_all by (m.0 i) (sym (told z.1 [] m.1) i)) h)
          ∙ passes_are (code_of x.value) cells by n h

  pub sent_given : (n : Name) (r : Request) → IsGiven by e (given.Sent n r) → (h : HoldersShape) → after_events (effect_events by [] e) h ≡ after_events (sent_events by (Some (n, request_shape r))) h
  sent_given n r g h = ap (λ es. after_events es h) (parts (Some (n, request_shape r)) None None g.0 g.1 g.2 ∙ append-nil (sent_events by (Some (n, request_shape r))))

  pub filled_given : (f : Arc Future Global) (p : Parcel) → IsGiven by e (given.Filled f p) → (h : HoldersShape) → after_events (effect_events by [] e) h ≡ after_event (Fills (held_future f)) h
  filled_given f p g h = ap (λ es. after_events es h) (parts None None (Some (held_future f, parcel_shape p)) g.0 g.1 g.2)

pub filled_once : (f : FutureShape) (h : HoldersShape) → has_filled f h.filled ≡ false → once_filled f h ≡ after_event (Fills f) h
filled_once f h e = ap (λ b. elim b [ true ↦ h | false ↦ after_event (Fills f) h ]) e
