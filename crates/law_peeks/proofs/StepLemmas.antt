-- The next step of an activity, with the value that it needs and without.
use Rattle.std.proofs.Common.{◌≡◌, ◌&&◌, ◌∷◌, [], Bool, true, false, List, Option, Some, None, refl, sym, ap, subst, ◌∙◌}
use Rattle.asp_model.specs.Names.{FutureShape, Name, future_cmp, name_cmp}
use Rattle.asp_model.specs.Parcel.{ParcelShape}
use Rattle.asp_model.specs.Chase.{chase}
use Rattle.asp_model.specs.Configuration.{Activity, Configuration, ReceptionShape, requests_of}
use Rattle.asp_model.specs.Intent.{Acts, Done, Effect, Intent, Rests, intent}
use Rattle.asp_model.specs.Split.{Context, Redex, Splits, split}
use Rattle.asp_model.specs.Step.{ListsShape, intent_in, is_next, may_log, put_some, with_effect, with_last}
use Rattle.def_journals.specs.Communications.{is_communication}
use Rattle.def_journals.specs.Owed.{need_of}
use Rattle.def_journals.specs.Passing.{unpacked_by}
use Rattle.law_chases.proofs.ChaseLemmas.{chase_finds}
use Rattle.law_chases.proofs.MapLemmas.{find_same}
use Rattle.law_steps.specs.Reached.{IsAt}
use Rattle.law_steps.proofs.DeliveryLemmas.{need_done, same_there}
use Rattle.law_steps.proofs.NameLemmas.{name_same, name_total}
use Rattle.law_steps.proofs.StepLemmas.{step_by, step_is}
use Rattle.law_paths.specs.Whole.{IsWhole}
use Rattle.law_core.specs.Commits.{with_activity}
use Rattle.law_core.proofs.LocalLemmas.{written_over}
use Rattle.law_peeks.specs.Needs.{GoesAlike, IntendsAlike, IsNeeded, NeedsKeepSteps, Peek, with_peek}
use Rattle.law_peeks.proofs.IntentLemmas.{needs_keep_intents}
use Rattle.law_peeks.proofs.NeedLemmas.{needing, some_root}

module _ (c : Configuration) (n : Name) (a : Activity) (x : Peek) (whole : IsWhole c) (at : IsAt c n a) where
  abbrev b : Activity
  b = with_peek a x

  abbrev d : Configuration
  d = with_activity n b c

  found : IsAt d n b
  found = find_same name_cmp name_total name_same n b c.activities

  effects : (e : Effect) → with_effect n e d ≡ with_effect n e c
  effects e =
      ap (λ xs. record { activities = put_some name_cmp e.made xs; received = with_last e.sent c.received; logs = with_last e.logged c.logs; futures = put_some future_cmp e.filled c.futures })
      (ap (λ z. z.activities) (written_over c n whole.sound.ordered.activities b e.own))

  may : (lists : Option ListsShape) (o : Option (Name × ReceptionShape)) → may_log lists d o ≡ may_log lists c o
  may lists None = refl
  may None (Some y) = ap (λ z. z && true) (same_there c n a b.store at y.0)
  may (Some lists) (Some y) = ap (λ z. z && is_next (Some lists) c y.0 y.1) (same_there c n a b.store at y.0)

  steps_by : (lists : Option ListsShape) (q : Intent) → step_by lists d n q ≡ step_by lists c n q
  steps_by lists (Rests status) = refl
  steps_by lists (Acts e) = λ i. elim (may lists e.logged i) [ true ↦ Some (effects e i) | false ↦ None ]

  alike : IntendsAlike (chase c.futures) n a b x → GoesAlike c d n x
  alike h =
      let intended : Option Activity → Intent = λ o. elim o [ None ↦ Rests Done | Some y ↦ intent (chase c.futures) (requests_of c n) n y ] in
      let asked : Option Activity → Bool = λ o. elim o [ None ↦ false | Some y ↦ is_communication (chase c.futures) y ] in
      let read : Option Activity → List (FutureShape × ParcelShape) = λ o. elim o [ None ↦ [] | Some y ↦ unpacked_by (chase c.futures) y ] in
      let same : intent_in d n ≡ intent_in c n = ap intended found ∙ h.intent (requests_of c n) ∙ sym (ap intended at) in record {
        intent = same;
        steps = λ lists. step_is lists d n ∙ ap (step_by lists d n) same ∙ steps_by lists (intent_in c n) ∙ sym (step_is lists c n);
        communicates = ap asked found ∙ h.asks ∙ sym (ap asked at);
        unpacked = ap read at ∙ h.unpacked ∙ ap (λ ys. (x.future, x.value) ∷ ys) (sym (ap read found));
      }

  pub goes_alike : (contexts : List Context) (r : Redex) → split a.term ≡ Splits contexts r → IsNeeded (chase c.futures) a.store r x → GoesAlike c d n x
  goes_alike contexts r splits needed = alike (needs_keep_intents (chase c.futures) n a contexts r x (whole.closed.activities n a at) splits needed)

pub needs_keep_steps : NeedsKeepSteps
needs_keep_steps c d n f place whole need made =
    let x = need_done c f n place d made in
    let a : Activity = x.receiver in
    let peek : Peek = record { future = f; place = place; value = x.value } in
    let y = needing (chase c.futures) a f place (ap (λ (o : Option Activity). elim o [ None ↦ None | Some z ↦ need_of (chase c.futures) z ]) (sym x.at) ∙ need) in
    let v = chase_finds c.futures x.held f x.value x.chased in
    let needed : IsNeeded (chase c.futures) a.store y.redex peek = record {
      needs = y.needs;
      held = x.held;
      holds = x.holds;
      leads = x.chased;
      some = some_root c f x.value whole.closed v;
      root = v.1;
    } in
    (x.value, subst (λ z. GoesAlike c z n peek) (sym x.result) (goes_alike c n a peek whole x.at y.contexts y.redex y.splits needed))
