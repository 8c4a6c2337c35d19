-- Each move keeps what suspended services are: contexts of terms that were split, and a future to answer but for the
-- oldest.
use Rattle.std.specs.Prelude.{◌≡◌, ℕ, true, List, [], ◌∷◌, ◌++◌, Option, Some, None, is_some}
use Rattle.std.proofs.Common.{refl, sym, ap, subst, ◌∙◌}
use Rattle.asp_model.specs.Names.{Name, FutureShape}
use Rattle.asp_model.specs.Split.{Context, Redex, Split, Stands, Splits, split}
use Rattle.asp_model.specs.Store.{Store, cell}
use Rattle.asp_model.specs.Contraction.{Contraction, Becomes, Faults, Needs, Communicates, Breaks, Creates, Sends, Serves, Polls, contract}
use Rattle.asp_model.specs.Chase.{Chase}
use Rattle.asp_model.specs.Configuration.{RequestShape, ServiceShape, Activity}
use Rattle.asp_model.specs.Intent.{Intent, Acts, Rests, Awaits, Effect, Ready, Reads, Lacks, redex_ready, Numbered, oldest_match, labels_served, serves, newest, but_newest, ends_service, contracts, intent}
use Rattle.law_chases.proofs.FutureLemmas.{no_some, some_is}
use Rattle.law_steps.specs.Linked.{Each}
use Rattle.law_steps.proofs.EachLemmas.{each_both}
use Rattle.code_laws.specs.Splitting.{AreContexts}
use Rattle.code_laws.proofs.SplitLemmas.{splits_are_redexes}
use Rattle.law_checkpoints.specs.Sound.{AnswersAreRight}

-- what is suspended, and what is present
pub record HasServices (a : Activity) : Type 0 where
  pub contexts : Each (λ v. AreContexts v.contexts) a.services
  pub answers : AnswersAreRight a.present a.services

abbrev pub EffectServes : Effect → Type 0
EffectServes e = HasServices e.own × ((z : Name × Activity) → e.made ≡ Some z → HasServices z.1)

abbrev IntentServes : Intent → Type 0
IntentServes (Acts e) = EffectServes e
IntentServes (Rests status) = Unit {0}

-- one more
more_answers : (o : Option FutureShape) (vs : List ServiceShape) (cs : List Context) (f : FutureShape) → AnswersAreRight o vs → AnswersAreRight (Some f) (vs ++ record { contexts = cs; future = o } ∷ [])
more_answers o [] cs f h = (refl, h, tt)
more_answers o (v ∷ vs) cs f h = (refl, h.1, each_both (λ u. is_some u.future ≡ true) vs (record { contexts = cs; future = o } ∷ []) h.2 (h.0, tt))

-- one less
behind_newest : (vs : List ServiceShape) (v : ServiceShape) → newest vs ≡ Some v → Each (λ u. is_some u.future ≡ true) vs → (is_some v.future ≡ true) × Each (λ u. is_some u.future ≡ true) (but_newest vs)
behind_newest [] v e h = no_some e
behind_newest (x ∷ []) v e h = (ap (λ z. is_some z.future) (sym (some_is e)) ∙ h.0, tt)
behind_newest (x ∷ y ∷ vs) v e h = let r = behind_newest (y ∷ vs) v e h.1 in (r.0, (h.0, r.1))

less_answers : (o : Option FutureShape) (vs : List ServiceShape) (v : ServiceShape) → newest vs ≡ Some v → AnswersAreRight o vs → AnswersAreRight v.future (but_newest vs)
less_answers o [] v e h = no_some e
less_answers o (x ∷ []) v e h = ap (λ z. z.future) (sym (some_is e)) ∙ h.1
less_answers o (x ∷ y ∷ vs) v e h = let r = behind_newest (y ∷ vs) v e h.2 in (r.0, h.1, r.1)

less_contexts : (vs : List ServiceShape) → Each (λ v. AreContexts v.contexts) vs → Each (λ v. AreContexts v.contexts) (but_newest vs)
less_contexts [] h = tt
less_contexts (x ∷ []) h = tt
less_contexts (x ∷ y ∷ vs) h = (h.0, less_contexts (y ∷ vs) h.1)

module _ (requests : List RequestShape) (n : Name) (a : Activity) (h : HasServices a) where
  stays : (b : Activity) → b.services ≡ a.services → b.present ≡ a.present → HasServices b
  stays b s p = record { contexts = subst (Each (λ v. AreContexts v.contexts)) (sym s) h.contexts; answers = subst (λ o. AnswersAreRight o b.services) (sym p) (subst (AnswersAreRight a.present) (sym s) h.answers) }

  serving : (contexts : List Context) (o : Option Numbered) → AreContexts contexts → IntentServes (serves a contexts o)
  serving contexts None k = tt
  serving contexts (Some x) k = (
    record {
      contexts = each_both (λ v. AreContexts v.contexts) a.services (record { contexts = contexts; future = a.present } ∷ []) h.contexts (k, tt);
      answers = more_answers a.present a.services contexts x.1.future h.answers;
    },
    λ z e. no_some e,
  )

  ending : (place : ℕ) (o : Option ServiceShape) → newest a.services ≡ o → IntentServes (ends_service a place o)
  ending place None is = tt
  ending place (Some v) is = (
    record {
      contexts = less_contexts a.services h.contexts;
      answers = less_answers a.present a.services v is h.answers;
    },
    λ z e. no_some e,
  )

  contracting : (contexts : List Context) (s : Store) (r : Contraction) → AreContexts contexts → IntentServes (contracts requests n a contexts s r)
  contracting contexts s (Becomes t store lines) k = (stays _ refl refl, λ z e. no_some e)
  contracting contexts s (Faults x) k = tt
  contracting contexts s (Needs place) k = tt
  contracting contexts s (Communicates (Creates object service)) k = (stays _ refl refl, λ z e. subst (λ u. HasServices u.1) (some_is e) (record { contexts = tt; answers = refl }))
  contracting contexts s (Communicates (Sends to label arguments)) k = (stays _ refl refl, λ z e. no_some e)
  contracting contexts s (Communicates (Serves labels)) k = serving contexts (oldest_match (labels_served labels (cell s a.active)) a.served 0 requests) k
  contracting contexts s (Communicates (Polls labels)) k = (stays _ refl refl, λ z e. no_some e)
  contracting contexts s Breaks k = tt

  reading : (contexts : List Context) (redex : Redex) (r : Ready) → AreContexts contexts → IntentServes (elim r [ Lacks f ↦ Rests (Awaits f) | Reads s ↦ contracts requests n a contexts s (contract s redex) ])
  reading contexts redex (Lacks f) k = tt
  reading contexts redex (Reads s) k = contracting contexts s (contract s redex) k

  splitting : (chases : FutureShape → Chase) (t : Split) → split a.term ≡ t → IntentServes (elim t [
    | Stands place ↦ ends_service a place (newest a.services)
    | Splits contexts redex ↦ elim (redex_ready chases a.store redex) [ Lacks f ↦ Rests (Awaits f) | Reads s ↦ contracts requests n a contexts s (contract s redex) ]
  ])
  splitting chases (Stands place) is = ending place (newest a.services) refl
  splitting chases (Splits contexts redex) is = reading contexts redex (redex_ready chases a.store redex) (splits_are_redexes a.term contexts redex is).0

  pub intent_serves : (chases : FutureShape → Chase) (e : Effect) → intent chases requests n a ≡ Acts e → EffectServes e
  intent_serves chases e is = subst IntentServes is (splitting chases (split a.term) refl)
