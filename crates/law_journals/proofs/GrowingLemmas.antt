-- Journals with one entry more.
use Rattle.std.proofs.Common.{◌≡◌, ◌++◌, ◌∷◌, [], List, Option, Some, None, refl, sym, ap, ◌∙◌}
use Rattle.std.proofs.lemmas.List.{append-nil, append_assoc}
use Rattle.asp_model.specs.History.{EntryShape}
use Rattle.def_journals.specs.Edges.{Event, HoldersShape, after_event, after_events, first_holders}
use Rattle.def_journals.specs.Journals.{RunShape, all_entered, entered, first_in, first_run}
use Rattle.def_journals.specs.Passing.{entry_events, events_from}
use Rattle.law_journals.proofs.JournalLemmas.{first_entered}
use Rattle.law_chases.proofs.FutureLemmas.{some_is}
use Rattle.law_journals.specs.Growing.{EntriesGoOn, HoldersGoOn}

abbrev pub all_then : List EntryShape → Option RunShape → Option RunShape
all_then ys None = None
all_then ys (Some t) = all_entered ys t

-- entries behind others
pub entered_then : (xs ys : List EntryShape) (s : RunShape) → all_entered (xs ++ ys) s ≡ all_then ys (all_entered xs s)
entered_then [] ys s = refl
entered_then (x ∷ xs) ys s = elim (entered x s) as (λ (o : Option RunShape). all_then (xs ++ ys) o ≡ all_then ys (all_then xs o)) [
  | None ↦ refl
  | Some t ↦ entered_then xs ys t
]

pub entries_go_on : EntriesGoOn
entries_go_on h x s run =
    entered_then h.entries (x ∷ []) (first_run h)
    ∙ ap (all_then (x ∷ [])) run
    ∙ elim (entered x s) as (λ (o : Option RunShape). all_then [] o ≡ o) [ None ↦ refl | Some t ↦ refl ]

-- Events

abbrev events_then : List EntryShape → Option RunShape → List Event
events_then ys None = []
events_then ys (Some t) = events_from ys t

events_behind : (xs ys : List EntryShape) (s t : RunShape) → all_entered xs s ≡ Some t → events_from (xs ++ ys) s ≡ events_from xs s ++ events_from ys t
events_behind [] ys s t e = ap (events_from ys) (some_is e)
events_behind (x ∷ xs) ys s t e =
    let u = first_entered x xs s t e in
    ap (λ o. entry_events x s ++ events_then (xs ++ ys) o) u.1
    ∙ ap (λ es. entry_events x s ++ es) (events_behind xs ys u.0 t u.2)
    ∙ sym (append_assoc (entry_events x s) (events_from xs u.0) (events_from ys t))
    ∙ ap (λ o. (entry_events x s ++ events_then xs o) ++ events_from ys t) (sym u.1)

after_both : (es fs : List Event) (h : HoldersShape) → after_events (es ++ fs) h ≡ after_events fs (after_events es h)
after_both [] fs h = refl
after_both (e ∷ es) fs h = after_both es fs (after_event e h)

last_events : (x : EntryShape) (s : RunShape) → events_from (x ∷ []) s ≡ entry_events x s
last_events x s =
    ap (λ es. entry_events x s ++ es) (elim (entered x s) as (λ (o : Option RunShape). events_then [] o ≡ []) [ None ↦ refl | Some t ↦ refl ])
    ∙ append-nil (entry_events x s)

pub holders_go_on : HoldersGoOn
holders_go_on h x s run =
    let first : RunShape = first_run h in
    let none : HoldersShape = first_holders (first_in h).configuration in
    ap (λ es. after_events es none) (events_behind h.entries (x ∷ []) first s run ∙ ap (λ es. events_from h.entries first ++ es) (last_events x s))
    ∙ after_both (events_from h.entries first) (entry_events x s) none
