-- Which futures events begin and fill.
use Rattle.std.proofs.Common.{◌≡◌, List, [], ◌∷◌, ◌++◌, Option, Some, None, map, refl, sym, ap, ◌∙◌, append-nil, append_assoc}
use Rattle.asp_model.specs.Names.{Name, FutureShape}
use Rattle.asp_model.specs.Parcel.{ParcelShape}
use Rattle.asp_model.specs.Configuration.{RequestShape, Activity}
use Rattle.asp_model.specs.Intent.{Effect}
use Rattle.def_journals.specs.Edges.{Event, Begins, Passes, Fills, Receives, Delivers, HoldersShape, after_event, after_events}
use Rattle.def_journals.specs.Passing.{effect_events, filled_events, futures_in, made_events, receives, sent_events}

abbrev pub begun_by : List Event → List (FutureShape × Name)
begun_by [] = []
begun_by (Begins f m ∷ es) = (f, m) ∷ begun_by es
begun_by (Passes x ∷ es) = begun_by es
begun_by (Fills f ∷ es) = begun_by es
begun_by (Receives f n held ∷ es) = begun_by es
begun_by (Delivers x ∷ es) = begun_by es

abbrev pub filled_by : List Event → List FutureShape
filled_by [] = []
filled_by (Begins f m ∷ es) = filled_by es
filled_by (Passes x ∷ es) = filled_by es
filled_by (Fills f ∷ es) = f ∷ filled_by es
filled_by (Receives f n held ∷ es) = filled_by es
filled_by (Delivers x ∷ es) = filled_by es

pub homes_after : (es : List Event) (h : HoldersShape) → (after_events es h).homes ≡ h.homes ++ begun_by es
homes_after [] h = sym (append-nil h.homes)
homes_after (Begins f m ∷ es) h = homes_after es (after_event (Begins f m) h) ∙ append_assoc h.homes ((f, m) ∷ []) (begun_by es)
homes_after (Passes x ∷ es) h = homes_after es (after_event (Passes x) h)
homes_after (Fills f ∷ es) h = homes_after es (after_event (Fills f) h)
homes_after (Receives f n held ∷ es) h = homes_after es (after_event (Receives f n held) h)
homes_after (Delivers x ∷ es) h = homes_after es (after_event (Delivers x) h)

pub filled_after : (es : List Event) (h : HoldersShape) → (after_events es h).filled ≡ h.filled ++ filled_by es
filled_after [] h = sym (append-nil h.filled)
filled_after (Begins f m ∷ es) h = filled_after es (after_event (Begins f m) h)
filled_after (Passes x ∷ es) h = filled_after es (after_event (Passes x) h)
filled_after (Fills f ∷ es) h = filled_after es (after_event (Fills f) h) ∙ append_assoc h.filled (f ∷ []) (filled_by es)
filled_after (Receives f n held ∷ es) h = filled_after es (after_event (Receives f n held) h)
filled_after (Delivers x ∷ es) h = filled_after es (after_event (Delivers x) h)

begun_more : (es ds : List Event) → begun_by (es ++ ds) ≡ begun_by es ++ begun_by ds
begun_more [] ds = refl
begun_more (Begins f m ∷ es) ds = ap (λ xs. (f, m) ∷ xs) (begun_more es ds)
begun_more (Passes x ∷ es) ds = begun_more es ds
begun_more (Fills f ∷ es) ds = begun_more es ds
begun_more (Receives f n held ∷ es) ds = begun_more es ds
begun_more (Delivers x ∷ es) ds = begun_more es ds

filled_more : (es ds : List Event) → filled_by (es ++ ds) ≡ filled_by es ++ filled_by ds
filled_more [] ds = refl
filled_more (Begins f m ∷ es) ds = filled_more es ds
filled_more (Passes x ∷ es) ds = filled_more es ds
filled_more (Fills f ∷ es) ds = ap (λ xs. f ∷ xs) (filled_more es ds)
filled_more (Receives f n held ∷ es) ds = filled_more es ds
filled_more (Delivers x ∷ es) ds = filled_more es ds

-- Those of an effect

abbrev pub sent_home : Option (Name × RequestShape) → List (FutureShape × Name)
sent_home None = []
sent_home (Some z) = (z.1.future, z.0) ∷ []

abbrev pub filled_one : Option (FutureShape × ParcelShape) → List FutureShape
filled_one None = []
filled_one (Some z) = z.0 ∷ []

passes_begin : (from to : Name) (fs : List FutureShape) → begun_by (map (λ f. Passes (record { future = f; from = from; to = to })) fs) ≡ []
passes_begin from to [] = refl
passes_begin from to (f ∷ fs) = passes_begin from to fs

passes_fill : (from to : Name) (fs : List FutureShape) → filled_by (map (λ f. Passes (record { future = f; from = from; to = to })) fs) ≡ []
passes_fill from to [] = refl
passes_fill from to (f ∷ fs) = passes_fill from to fs

receipts_begin : (n : Name) (xs : List (FutureShape × ParcelShape)) → begun_by (map (receives n) xs) ≡ []
receipts_begin n [] = refl
receipts_begin n (x ∷ xs) = receipts_begin n xs

receipts_fill : (n : Name) (xs : List (FutureShape × ParcelShape)) → filled_by (map (receives n) xs) ≡ []
receipts_fill n [] = refl
receipts_fill n (x ∷ xs) = receipts_fill n xs

sent_begins : (n : Name) (o : Option (Name × RequestShape)) → begun_by (sent_events n o) ≡ sent_home o
sent_begins n None = refl
sent_begins n (Some z) = ap (λ xs. (z.1.future, z.0) ∷ xs) (passes_begin n z.0 (futures_in z.1.arguments.cells))

sent_fills : (n : Name) (o : Option (Name × RequestShape)) → filled_by (sent_events n o) ≡ []
sent_fills n None = refl
sent_fills n (Some z) = passes_fill n z.0 (futures_in z.1.arguments.cells)

made_begins : (n : Name) (o : Option (Name × Activity)) → begun_by (made_events n o) ≡ []
made_begins n None = refl
made_begins n (Some z) = passes_begin n z.0 (futures_in z.1.store)

made_fills : (n : Name) (o : Option (Name × Activity)) → filled_by (made_events n o) ≡ []
made_fills n None = refl
made_fills n (Some z) = passes_fill n z.0 (futures_in z.1.store)

filled_begins : (o : Option (FutureShape × ParcelShape)) → begun_by (filled_events o) ≡ []
filled_begins None = refl
filled_begins (Some z) = refl

filled_fills : (o : Option (FutureShape × ParcelShape)) → filled_by (filled_events o) ≡ filled_one o
filled_fills None = refl
filled_fills (Some z) = refl

pub effect_begins : (n : Name) (read : List (FutureShape × ParcelShape)) (e : Effect) → begun_by (effect_events n read e) ≡ sent_home e.sent
effect_begins n read e =
    begun_more (map (receives n) read) (sent_events n e.sent ++ (made_events n e.made ++ filled_events e.filled))
    ∙ (λ i. receipts_begin n read i ++ begun_more (sent_events n e.sent) (made_events n e.made ++ filled_events e.filled) i)
    ∙ (λ i. sent_begins n e.sent i ++ begun_more (made_events n e.made) (filled_events e.filled) i)
    ∙ (λ i. sent_home e.sent ++ (made_begins n e.made i ++ filled_begins e.filled i))
    ∙ append-nil (sent_home e.sent)

pub effect_fills : (n : Name) (read : List (FutureShape × ParcelShape)) (e : Effect) → filled_by (effect_events n read e) ≡ filled_one e.filled
effect_fills n read e =
    filled_more (map (receives n) read) (sent_events n e.sent ++ (made_events n e.made ++ filled_events e.filled))
    ∙ (λ i. receipts_fill n read i ++ filled_more (sent_events n e.sent) (made_events n e.made ++ filled_events e.filled) i)
    ∙ (λ i. sent_fills n e.sent i ++ filled_more (made_events n e.made) (filled_events e.filled) i)
    ∙ (λ i. made_fills n e.made i ++ filled_fills e.filled i)
