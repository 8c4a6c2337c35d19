-- A listener keeps what it is told.
use Rattle.std.proofs.Common.{◌≡◌, Bool, true, false, cond, List, [], ◌∷◌, ◌++◌, Option, Some, option_map, refl, sym, ap, subst, ◌∙◌}
use Rattle.std.specs.Borrow.{Bor}
use Rattle.std.specs.BTreeMap.{BTreeMap, get}
use Rattle.asp_model.specs.declared.name.FutureName.{FutureName}
use Rattle.asp_model.specs.declared.word.Label.{Label}
use Rattle.asp_model.specs.Names.{Name, FutureShape, Text, same_future}
use Rattle.asp_model.specs.Shapes.{future_shape}
use Rattle.replay_parts.specs.Notes.{EventShape, NoteShape, noted_as, Answered, Faulted, Made, Polled, Printed, Sent, Served, Standing}
use Rattle.replay_parts.specs.declared.notes.Event.{Event}
use Rattle.replay_parts.specs.declared.notes.Event.TheVariants as event
use Rattle.replay_parts.specs.declared.notes.Note.{Note}
use Rattle.replay_parts.specs.Listening.{IsDeafToLines, IsEvent, IsNote}
use Rattle.wait_circles.specs.Targets.{Place, place_of}
use Rattle.run_waits.specs.Targets.{Keeps, IsSentTo, future_order, place_after, place_in, target_at}
use Rattle.run_waits.specs.declared.receipts.Receipts.{Receipts}
use Rattle.wait_circles.specs.declared.targets.Target.{Target}
use Rattle.run_waits.proofs.TargetLemmas.{place_more}

-- an entry more is a request more
pub sent_by_entry : (old new : Receipts) (g : FutureName) (t : Target) (to : Name) (label : Text) → ((f : FutureName) → get future_order new.targets f ≡ cond (same_future (future_shape g) (future_shape f)) (Some t) (get future_order old.targets f)) → place_of t ≡ (to, label) → IsSentTo to label g old new
sent_by_entry old new g t to label updates is f = ap (option_map place_of) (updates f) ∙ by_test (same_future (future_shape g) (future_shape f))
  where
    by_test : (b : Bool) → option_map place_of (cond b (Some t) (get future_order old.targets f)) ≡ cond b (Some (to, label)) (target_at old f)
    by_test true = ap Some is
    by_test false = refl

module _ (told : Note) (x : NoteShape) (n : IsNote told x) (xs : List NoteShape) (old new : Receipts) (keeps : Keeps old xs) where
  -- by an event that tells of no request
  abbrev IsQuiet : Event → Type 0
  IsQuiet e = (f : FutureShape) (o : Option Place) (y : EventShape) → IsEvent e y → place_after f o y ≡ o

  quiet_kept : (e : Event) → told.event ≡ e → IsQuiet e → new.targets ≡ old.targets → Keeps new (xs ++ x ∷ [])
  quiet_kept e is quiet same f =
      ap (λ (m : BTreeMap FutureName Target). option_map place_of (get future_order m f)) same
      ∙ keeps f
      ∙ sym (quiet (future_shape f) (place_in xs (future_shape f)) x.event (subst (λ z. IsEvent z x.event) is n.event))
      ∙ sym (place_more (future_shape f) xs x)

  sent_after : (to : Bor Name) (label : Bor Label) (future : Bor FutureName) (f : FutureShape) (o : Option Place) (y : EventShape) → IsEvent (event.Sent to label future) y → cond (same_future (future_shape future.now) f) (Some (to.now, label.now.text)) o ≡ place_after f o y
  sent_after to label future f o (Sent m l g) h = (λ i. cond (same_future (h.2 i) f) (Some (h.0 i, h.1 i)) o) ∙ by_test (same_future g f)
    where
      by_test : (b : Bool) → cond b (Some (m, l)) o ≡ elim b [ true ↦ Some (m, l) | false ↦ o ]
      by_test true = refl
      by_test false = refl
  sent_after to label future f o (Served ls) h = absurd h
  sent_after to label future f o (Made m) h = absurd h
  sent_after to label future f o (Answered g) h = absurd h
  sent_after to label future f o Polled h = absurd h
  sent_after to label future f o (Printed l) h = absurd h
  sent_after to label future f o (Standing ls) h = absurd h
  sent_after to label future f o (Faulted g) h = absurd h

  pub sent_kept : (to : Bor Name) (label : Bor Label) (future : Bor FutureName) → told.event ≡ event.Sent to label future → IsSentTo to.now label.now.text future.now old new → Keeps new (xs ++ x ∷ [])
  sent_kept to label future is sent f =
      sent f
      ∙ ap (cond (same_future (future_shape future.now) (future_shape f)) (Some (to.now, label.now.text))) (keeps f)
      ∙ sent_after to label future (future_shape f) (place_in xs (future_shape f)) x.event (subst (λ z. IsEvent z x.event) is n.event)
      ∙ sym (place_more (future_shape f) xs x)

-- a request is sent
abbrev pub is_sending : Event → Type 0
is_sending (event.Sent to label future) = Unit {0}
is_sending e = ⊥

-- every event but a sending tells of no request
quiet_other : (e : Event) → (is_sending e → ⊥) → (f : FutureShape) (o : Option Place) (y : EventShape) → IsEvent e y → place_after f o y ≡ o
quiet_other e none f o (Sent m l g) h = absurd (by_event e none h)
  where
    by_event : (x : Event) → (is_sending x → ⊥) → IsEvent x (Sent m l g) → ⊥
    by_event (event.Sent to label future) none h = none tt
    by_event (event.Served labels) none h = h
    by_event (event.Made made) none h = h
    by_event (event.Answered future) none h = h
    by_event event.Polled none h = h
    by_event (event.Printed line) none h = h
    by_event (event.Standing labels) none h = h
    by_event (event.Faulted fault) none h = h
quiet_other e none f o (Served ls) h = refl
quiet_other e none f o (Made m) h = refl
quiet_other e none f o (Answered g) h = refl
quiet_other e none f o Polled h = refl
quiet_other e none f o (Printed l) h = refl
quiet_other e none f o (Standing ls) h = refl
quiet_other e none f o (Faulted g) h = refl

-- a note of another event leaves what is kept
pub other_kept : (told : Note) (x : NoteShape) → IsNote told x → (xs : List NoteShape) (r : Receipts) → Keeps r xs → (e : Event) → told.event ≡ e → (is_sending e → ⊥) → Keeps r (xs ++ x ∷ [])
other_kept told x n xs r keeps e is none = quiet_kept told x n xs r r keeps e is (quiet_other e none) refl

-- lines tell of no request
pub deaf_to_lines : (r : Receipts) → IsDeafToLines (Keeps r)
deaf_to_lines r xs n k l keeps f = keeps f ∙ sym (place_more (future_shape f) xs (noted_as n k (Printed l)))
