-- A step that is no communication changes its activity alone.
use Rattle.std.specs.Prelude.{◌≡◌, ℕ, false, List, Option, Some, None, is_some}
use Rattle.std.proofs.Common.{refl, sym, ap, subst, ◌∙◌}
use Rattle.asp_model.specs.Names.{Name, FutureShape, name_cmp}
use Rattle.asp_model.specs.Split.{Context, Redex, Split, Stands, Splits, split}
use Rattle.asp_model.specs.Store.{Store}
use Rattle.asp_model.specs.Contraction.{Contraction, Becomes, Faults, Needs, Communicates, Breaks, contract}
use Rattle.asp_model.specs.Chase.{Chase, chase}
use Rattle.asp_model.specs.Configuration.{RequestShape, ServiceShape, Activity, Configuration, requests_of}
use Rattle.asp_model.specs.Intent.{Effect, Acts, Rests, Awaits, Ready, Reads, Lacks, redex_ready, newest, ends_service, contracts, intent}
use Rattle.asp_model.specs.Step.{with_effect}
use Rattle.def_journals.specs.Communications.{is_asking, is_communication}
use Rattle.law_steps.specs.Reached.{IsAt}
use Rattle.law_steps.proofs.NameLemmas.{name_total, name_same}
use Rattle.law_chases.proofs.FutureLemmas.{none_true}
use Rattle.law_chases.proofs.MapLemmas as Maps
use Rattle.law_steps.proofs.StepLemmas.{step_taken}
use Rattle.law_steps.proofs.FactLemmas.{no_acts, acts_is}
use Rattle.law_steps.proofs.LinkedLemmas.{acting}
use Rattle.law_journals.specs.Entries.{IsLocal, StepsAreLocal}

-- what such a step leaves of its activity, and that it gives nothing
record IsAlone (a : Activity) (e : Effect) : Type 0 where
  sent : e.sent ≡ None
  logged : e.logged ≡ None
  made : e.made ≡ None
  filled : e.filled ≡ None
  services : e.own.services ≡ a.services
  present : e.own.present ≡ a.present
  served : e.own.served ≡ a.served
  sends : e.own.sends ≡ a.sends
  creations : e.own.creations ≡ a.creations

module _ (requests : List RequestShape) (n : Name) (a : Activity) where
  contraction_alone : (contexts : List Context) (s : Store) (r : Contraction) (e : Effect) → is_asking r ≡ false → contracts requests n a contexts s r ≡ Acts e → IsAlone a e
  contraction_alone contexts s (Becomes t store lines) e asks q = subst (IsAlone a) (acts_is q) (record { sent = refl; logged = refl; made = refl; filled = refl; services = refl; present = refl; served = refl; sends = refl; creations = refl })
  contraction_alone contexts s (Faults x) e asks q = no_acts q
  contraction_alone contexts s (Needs place) e asks q = no_acts q
  contraction_alone contexts s (Communicates x) e asks q = none_true (sym asks)
  contraction_alone contexts s Breaks e asks q = no_acts q

  ready_alone : (contexts : List Context) (redex : Redex) (r : Ready) (e : Effect) → elim r [ Lacks f ↦ false | Reads s ↦ is_asking (contract s redex) ] ≡ false → elim r [ Lacks f ↦ Rests (Awaits f) | Reads s ↦ contracts requests n a contexts s (contract s redex) ] ≡ Acts e → IsAlone a e
  ready_alone contexts redex (Lacks f) e asks q = no_acts q
  ready_alone contexts redex (Reads s) e asks q = contraction_alone contexts s (contract s redex) e asks q

  ends_alone : (place : ℕ) (o : Option ServiceShape) (e : Effect) → is_some o ≡ false → ends_service a place o ≡ Acts e → IsAlone a e
  ends_alone place None e asks q = no_acts q
  ends_alone place (Some v) e asks q = none_true (sym asks)

  split_alone : (chases : FutureShape → Chase) (t : Split) (e : Effect)
      → elim t [ Stands place ↦ is_some (newest a.services) | Splits contexts redex ↦ elim (redex_ready chases a.store redex) [ Lacks f ↦ false | Reads s ↦ is_asking (contract s redex) ] ] ≡ false
      → elim t [
        | Stands place ↦ ends_service a place (newest a.services)
        | Splits contexts redex ↦ elim (redex_ready chases a.store redex) [ Lacks f ↦ Rests (Awaits f) | Reads s ↦ contracts requests n a contexts s (contract s redex) ]
      ] ≡ Acts e → IsAlone a e
  split_alone chases (Stands place) e asks q = ends_alone place (newest a.services) e asks q
  split_alone chases (Splits contexts redex) e asks q = ready_alone contexts redex (redex_ready chases a.store redex) e asks q

  intent_alone : (chases : FutureShape → Chase) (e : Effect) → is_communication chases a ≡ false → intent chases requests n a ≡ Acts e → IsAlone a e
  intent_alone chases e asks q = split_alone chases (split a.term) e asks q

effect_local : (c : Configuration) (n : Name) (a : Activity) (e : Effect) → IsAt c n a → IsAlone a e → IsLocal c (with_effect n e c) n a e.own
effect_local c n a e at x =
    let f : Effect = record { own = e.own; sent = None; logged = None; made = None; filled = None } in
    let same : f ≡ e = λ i. record { own = e.own; sent = sym x.sent i; logged = sym x.logged i; made = sym x.made i; filled = sym x.filled i } in
    subst (λ z. IsLocal c (with_effect n z c) n a e.own) same (record {
      here = at;
      there = Maps.find_same name_cmp name_total name_same n e.own c.activities;
      received = refl;
      logs = refl;
      futures = refl;
      services = x.services;
      present = x.present;
      served = x.served;
      sends = x.sends;
      creations = x.creations;
    })

pub steps_are_local : StepsAreLocal
steps_are_local c d n h local =
    let x = step_taken None c n d h in
    let a = acting c n x.0 x.1.intends in
    let quiet : is_communication (chase c.futures) a.0 ≡ false = ap (λ o. elim o [ None ↦ false | Some b ↦ is_communication (chase c.futures) b ]) (sym a.1) ∙ local in
    (a.0, x.0.own, subst (λ z. IsLocal c z n a.0 x.0.own) x.2 (effect_local c n a.0 x.0 a.1 (intent_alone (requests_of c n) n a.0 (chase c.futures) x.0 quiet a.2)))
