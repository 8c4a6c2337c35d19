-- The order of the entries that a replay makes has each log in its own order.
use Rattle.std.specs.Prelude.{◌≡◌, ℕ, zero, suc, Bool, true, false, cond, List, [], ◌∷◌, ◌++◌, Option, Some, None, map, drop, length, nat_lt}
use Rattle.std.specs.List.{filter, flat_map}
use Rattle.std.specs.FinMap.{find, put}
use Rattle.std.proofs.Common.{refl, sym, ap, subst, ◌∙◌, inl, inr, ⊎_elim}
use Rattle.std.proofs.lemmas.List.{append-nil, append_assoc, map-append}
use Rattle.std.proofs.lemmas.List.Elements.{filter-append}
use Rattle.std.proofs.lemmas.List.Folds.{flat_map-map}
use Rattle.std.proofs.lemmas.Grind.{flat_map-append}
use Rattle.asp_model.specs.Names.{Name, FutureShape, Text, name_cmp, same_name}
use Rattle.asp_model.specs.Term.{Tree}
use Rattle.asp_model.specs.Parcel.{ParcelShape}
use Rattle.asp_model.specs.Configuration.{Activity, Configuration, From, Poll, ReceptionShape, RequestShape, label_of, log_of, or_none, start}
use Rattle.asp_model.specs.Contraction.{LineShape}
use Rattle.asp_model.specs.Intent.{Acts, Effect}
use Rattle.asp_model.specs.Step.{ListsShape, intent_in, step, with_effect, with_last}
use Rattle.asp_model.specs.Replay.{CountsShape, count_in, least_step, log_in, replay, steps_from, total}
use Rattle.law_chases.proofs.FutureLemmas.{no_some}
use Rattle.law_chases.proofs.MapLemmas as Maps
use Rattle.law_steps.specs.Waking.{labels_wanted}
use Rattle.law_steps.proofs.CommuteLemmas.{took}
use Rattle.law_steps.proofs.EntryLemmas.{In}
use Rattle.law_steps.proofs.FactLemmas.{IsLogged}
use Rattle.law_steps.proofs.ListLemmas.{senders_own}
use Rattle.law_steps.proofs.NameLemmas.{name_case, name_itself, name_same, name_total, names_apart}
use Rattle.law_steps.proofs.ReplayLemmas.{next_by}
use Rattle.law_steps.proofs.SoundLemmas.{Took}
use Rattle.law_steps.proofs.StepLemmas.{step_taken}
use Rattle.law_services.specs.Services.{replayed_to}
use Rattle.law_services.proofs.EndLemmas.{more_steps, one_more, replay_run}
use Rattle.law_services.proofs.SameLemmas.{right_at}
use Rattle.replay_parts.specs.Notes.{EventShape, NoteShape, Printed, answered_by, given_by, least_notes, made_by, noted_as, notes_from, notes_of, polled_by, printed_by, sent_by, served_by}
use Rattle.explain.specs.Orders.{EntryShape, OrdersAreLogs, entered, entered_by, entries_of, order_of}

-- Notes of one step more

abbrev last_notes : Option ListsShape → (Name → ℕ) → Option Configuration → Configuration → List NoteShape
last_notes lists count o c = elim o [ None ↦ [] | Some d ↦ least_notes lists count c c.activities ]

more_notes : (lists : Option ListsShape) (count : Name → ℕ) (k : ℕ) (c : Configuration)
    → notes_from (suc k) lists count c ≡ notes_from k lists count c ++ last_notes lists count (next_by lists count (steps_from k lists count c)) (steps_from k lists count c)
more_notes lists count zero c = elim (next_by lists count c) as (λ o. elim o [ None ↦ [] | Some d ↦ least_notes lists count c c.activities ++ [] ] ≡ last_notes lists count o c) [
  | None ↦ refl
  | Some d ↦ append-nil (least_notes lists count c c.activities)
]
more_notes lists count (suc k) c = elim (next_by lists count c) as (λ o. next_by lists count c ≡ o
    → let d : Configuration = elim o [ None ↦ c | Some d ↦ steps_from k lists count d ] in
    elim o [ None ↦ [] | Some d ↦ least_notes lists count c c.activities ++ notes_from (suc k) lists count d ]
    ≡ elim o [ None ↦ [] | Some d ↦ least_notes lists count c c.activities ++ notes_from k lists count d ] ++ last_notes lists count (next_by lists count d) d) [
      | None ↦ λ e. sym (ap (λ o. last_notes lists count o c) e)
      | Some d ↦ λ e. ap (λ l. least_notes lists count c c.activities ++ l) (more_notes lists count k d) ∙ sym (append_assoc (least_notes lists count c c.activities) (notes_from k lists count d) _)
    ] refl

-- who steps, and what it notes
abbrev NotesOf : Option ListsShape → (c d : Configuration) → List (Name × Activity) → List NoteShape → Type 0
NotesOf lists c d xs l = (x : Name × Activity) × In x xs × (step lists c x.0 ≡ Some d) × (l ≡ notes_of x.0 x.1 (intent_in c x.0))

abbrev tried : {X : Type 0} → Option Configuration → X → X → X
tried o own later = elim o [ None ↦ later | Some d ↦ own ]

abbrev if_below : {X : Type 0} → Bool → Option Configuration → X → X → X
if_below b o own later = elim b [ false ↦ later | true ↦ tried o own later ]

least_noted : (lists : Option ListsShape) (count : Name → ℕ) (c d : Configuration) (xs : List (Name × Activity)) → least_step lists count c xs ≡ Some d → NotesOf lists c d xs (least_notes lists count c xs)
least_noted lists count c d [] h = no_some h
least_noted lists count c d (x ∷ xs) h =
    let own : List NoteShape = notes_of x.0 x.1 (intent_in c x.0) in
    let rest : List NoteShape = least_notes lists count c xs in
    let later : least_step lists count c xs ≡ Some d → NotesOf lists c d (x ∷ xs) rest = λ h. let r = least_noted lists count c d xs h in (r.0, inr r.1, r.2, r.3) in
    elim (nat_lt x.1.reductions (count x.0)) as (λ b. elim b [ false ↦ least_step lists count c xs | true ↦ elim (step lists c x.0) [ None ↦ least_step lists count c xs | Some f ↦ Some f ] ] ≡ Some d → NotesOf lists c d (x ∷ xs) (if_below b (step lists c x.0) own rest)) [
      | true ↦ λ h. elim (step lists c x.0) as (λ o. step lists c x.0 ≡ o → elim o [ None ↦ least_step lists count c xs | Some f ↦ Some f ] ≡ Some d → NotesOf lists c d (x ∷ xs) (tried o own rest)) [
        | None ↦ λ q h. later h
        | Some f ↦ λ q h. (x, inl refl, q ∙ h, refl)
      ] refl h
      | false ↦ λ h. later h
    ] h

-- What a step enters

abbrev Entries : Type 0
Entries = List EntryShape

abbrev entered_in : Name → List EventShape → Entries
entered_in m es = flat_map (entered_by m) es

of_served : (m : Name) (ls : List Text) → entered_in m (served_by ls) ≡ []
of_served m [] = refl
of_served m (l ∷ ls) = refl

of_made : (m : Name) (o : Option (Name × Activity)) → entered_in m (made_by o) ≡ []
of_made m None = refl
of_made m (Some x) = refl

of_answered : (m : Name) (o : Option (FutureShape × ParcelShape)) → entered_in m (answered_by o) ≡ []
of_answered m None = refl
of_answered m (Some x) = refl

of_printed : (m : Name) (ls : List LineShape) → entered_in m (map Printed ls) ≡ []
of_printed m [] = refl
of_printed m (l ∷ ls) = of_printed m ls

abbrev there : Name → Option (Name × ReceptionShape) → List ReceptionShape
there n None = []
there n (Some z) = cond (same_name z.0 n) (z.1 ∷ []) []

one_of : (n : Name) (e : EntryShape) → entries_of n (e ∷ []) ≡ cond (same_name e.to n) (e.noted ∷ []) []
one_of n e = by (same_name e.to n)
  where
    by : (b : Bool) → map {A = EntryShape} (λ x. x.noted) (cond b (e ∷ []) []) ≡ cond b (e.noted ∷ []) []
    by true = refl
    by false = refl

both_of : (n : Name) (xs ys : Entries) → entries_of n (xs ++ ys) ≡ entries_of n xs ++ entries_of n ys
both_of n xs ys = ap (map (λ (e : EntryShape). e.noted)) (filter-append (λ (e : EntryShape). same_name e.to n) xs ys)
    ∙ map-append (λ (e : EntryShape). e.noted) (filter (λ (e : EntryShape). same_name e.to n) xs) (filter (λ (e : EntryShape). same_name e.to n) ys)

sent_or_polled : (n m : Name) (s : Option (Name × RequestShape)) (l : Option (Name × ReceptionShape)) → IsLogged m s l → entries_of n (entered_in m (sent_by s) ++ entered_in m (polled_by l)) ≡ there n l
sent_or_polled n m None l (inl e) = subst (λ k. entries_of n (entered_in m (polled_by k)) ≡ there n k) (sym e) refl
sent_or_polled n m None l (inr e) = subst (λ k. entries_of n (entered_in m (polled_by k)) ≡ there n k) (sym e) (one_of n (record { to = m; noted = Poll; label = None }))
sent_or_polled n m (Some z) l e = subst (λ k. entries_of n (record { to = z.0; noted = From m; label = Some (label_of z.1) } ∷ entered_in m (polled_by k)) ≡ there n k) (sym e) (one_of n (record { to = z.0; noted = From m; label = Some (label_of z.1) }))

abbrev told_by : Activity → Effect → List EventShape
told_by a e = served_by (labels_wanted a) ++ (given_by e ++ printed_by a e.own)

entered_step : (m : Name) (a : Activity) (e : Effect) → entered_in m (told_by a e) ≡ entered_in m (sent_by e.sent) ++ entered_in m (polled_by e.logged)
entered_step m a e =
    let g = entered_by m in
    let ls = labels_wanted a in
    flat_map-append g (served_by ls) (given_by e ++ printed_by a e.own)
    ∙ ap (λ l. l ++ flat_map g (given_by e ++ printed_by a e.own)) (of_served m ls)
    ∙ flat_map-append g (given_by e) (printed_by a e.own)
    ∙ ap (λ l. flat_map g (given_by e) ++ l) (of_printed m (drop (length a.lines) e.own.lines))
    ∙ append-nil (flat_map g (given_by e))
    ∙ flat_map-append g (made_by e.made) (sent_by e.sent ++ (answered_by e.filled ++ polled_by e.logged))
    ∙ ap (λ l. l ++ flat_map g (sent_by e.sent ++ (answered_by e.filled ++ polled_by e.logged))) (of_made m e.made)
    ∙ flat_map-append g (sent_by e.sent) (answered_by e.filled ++ polled_by e.logged)
    ∙ ap (λ l. flat_map g (sent_by e.sent) ++ l) (flat_map-append g (answered_by e.filled) (polled_by e.logged) ∙ ap (λ l. l ++ flat_map g (polled_by e.logged)) (of_answered m e.filled))

abbrev stepped : Name → Activity → Effect → List NoteShape
stepped m a e = notes_of m a (Acts e)

order_step : (n m : Name) (a : Activity) (e : Effect) → IsLogged m e.sent e.logged → entries_of n (order_of (stepped m a e)) ≡ there n e.logged
order_step n m a e logged =
    ap (entries_of n) (flat_map-map entered (noted_as m a.reductions) (told_by a e) ∙ entered_step m a e)
    ∙ sent_or_polled n m e.sent e.logged logged

-- In logs

boxed : (n : Name) (o : Option (Name × ReceptionShape)) (bs : List (Name × List ReceptionShape)) → or_none (find name_cmp n (with_last o bs)) ≡ or_none (find name_cmp n bs) ++ there n o
boxed n None bs = sym (append-nil _)
boxed n (Some z) bs =
    let xs : List ReceptionShape = or_none (find name_cmp z.0 bs) ++ z.1 ∷ [] in
    ⊎_elim
    (λ e. ap (λ k. or_none (find name_cmp k (put name_cmp z.0 xs bs))) e ∙ ap or_none (Maps.find_same name_cmp name_total name_same z.0 xs bs)
    ∙ ap (λ k. or_none (find name_cmp k bs) ++ z.1 ∷ []) (sym e)
    ∙ ap (λ (b : Bool). or_none (find name_cmp n bs) ++ cond b (z.1 ∷ []) []) (sym (ap (λ k. same_name k n) (sym e) ∙ name_itself n)))
    (λ apart. ap or_none (Maps.find_other name_cmp name_total name_same n z.0 xs bs apart) ∙ sym (append-nil _)
    ∙ ap (λ (b : Bool). or_none (find name_cmp n bs) ++ cond b (z.1 ∷ []) []) (sym (names_apart z.0 n (λ e. apart (sym e)))))
    (name_case n z.0)

-- The steps of a replay

abbrev pub OrderIsLogs : Configuration → List NoteShape → Type 0
OrderIsLogs c xs = (n : Name) → entries_of n (order_of xs) ≡ log_of c n

logs_step : (c : Configuration) (m : Name) (a : Activity) (e : Effect) (xs : List NoteShape) → Took c m e → OrderIsLogs c xs → OrderIsLogs (with_effect m e c) (xs ++ stepped m a e)
logs_step c m a e xs t h n =
    ap (entries_of n) (flat_map-append entered xs (stepped m a e))
    ∙ both_of n (order_of xs) (order_of (stepped m a e))
    ∙ (λ i. h n i ++ order_step n m a e t.facts.logged i)
    ∙ sym (boxed n e.logged c.logs)

module _ (program : Tree) (lists : ListsShape) (counts : CountsShape) where
  abbrev R : ℕ → Configuration
  R = replayed_to program lists counts

  abbrev N : ℕ → List NoteShape
  N k = notes_from k (Some lists) (count_in counts) (start program)

  abbrev next : ℕ → Option Configuration
  next k = next_by (Some lists) (count_in counts) (R k)

  then_run : (k : ℕ) (o : Option Configuration) → next k ≡ o → R (suc k) ≡ one_more o (R k)
  then_run k o e = more_steps (Some lists) (count_in counts) k (start program) ∙ ap (λ o. one_more o (R k)) e

  then_notes : (k : ℕ) (o : Option Configuration) → next k ≡ o → N (suc k) ≡ N k ++ last_notes (Some lists) (count_in counts) o (R k)
  then_notes k o e = more_notes (Some lists) (count_in counts) k (start program) ∙ ap (λ o. N k ++ last_notes (Some lists) (count_in counts) o (R k)) e

  logs_on : (k : ℕ) → OrderIsLogs (R k) (N k) → (o : Option Configuration) → next k ≡ o → OrderIsLogs (R (suc k)) (N (suc k))
  logs_on k h None e = subst (λ c. OrderIsLogs c (N (suc k))) (sym (then_run k None e)) (subst (OrderIsLogs (R k)) (sym (then_notes k None e ∙ append-nil (N k))) h)
  logs_on k h (Some d) e =
      let x = least_noted (Some lists) (count_in counts) (R k) d (R k).activities e in
      let m : Name = x.0.0 in
      let a : Activity = x.0.1 in
      let right = right_at R (replay_run program lists counts) k in
      let s = step_taken (Some lists) (R k) m d x.2 in
      let t = took (Some lists) (R k) m s.0 right.sound s.1 in
      let to : R (suc k) ≡ d = then_run k (Some d) e in
      let notes : N (suc k) ≡ N k ++ stepped m a s.0 = then_notes k (Some d) e ∙ ap (λ l. N k ++ l) (x.3 ∙ ap (notes_of m a) s.1.intends) in
      subst (λ c. OrderIsLogs c (N (suc k))) (s.2 ∙ sym to) (subst (OrderIsLogs (with_effect m s.0 (R k))) (sym notes) (logs_step (R k) m a s.0 (N k) t h))

  pub order_is_logs : (k : ℕ) → OrderIsLogs (R k) (N k)
  order_is_logs zero = λ n. refl
  order_is_logs (suc k) = logs_on k (order_is_logs k) (next k) refl

-- at the end of a replay that fits they are the logs that it was given
pub orders_are_logs : OrdersAreLogs
orders_are_logs program lists counts fits n =
    order_is_logs program lists counts (total counts) n
    ∙ sym (senders_own (replay program lists counts) (right_at (replayed_to program lists counts) (replay_run program lists counts) (total counts)).tidy n)
    ∙ ap (λ l. log_in l n) fits.used_up
