-- Two replays are compared by what their services could take.
use Rattle.std.specs.Prelude.{◌≡◌, Bool, true, false, cond}
use Rattle.std.specs.List.{list_any}
use Rattle.std.proofs.Common.{refl, sym, ap, ◌∙◌, inl, inr}
use Rattle.asp_model.specs.Names.{Name}
use Rattle.asp_model.specs.Term.{Tree}
use Rattle.asp_model.specs.Configuration.{Configuration}
use Rattle.asp_model.specs.Step.{ListsShape}
use Rattle.asp_model.specs.Status.{End, Blocked, Budget, IsStuck, is_awaiting, is_running, statuses_of, verdict_of}
use Rattle.asp_model.specs.Replay.{CountsShape, replay}
use Rattle.asp_model.specs.Shapes.{services_shape, verdict_shape}
use Rattle.law_services.specs.Told.{AreSameServices, IsFirstDifference}
use Rattle.law_services.proofs.OutcomeLemmas.{served_alike_show_alike}
use Rattle.law_services.proofs.ToldLemmas.{services_tell, services_tell_at}
use Rattle.replay_services.specs.declared.compares.Comparison.TheVariants as comparison
use Rattle.replay_services.specs.declared.replays.ServicesRun.{ServicesRun}
use Rattle.replay_services.specs.Compares.{AreSame, AreStuck, DifferAt, IsServicesRun, Tells, is_budget}

stuck_by : (c : Configuration) → is_budget (verdict_of c) ≡ false → IsStuck c
stuck_by c h = by (list_any is_running (statuses_of c)) refl
  where
    by : (b : Bool) → list_any is_running (statuses_of c) ≡ b → IsStuck c
    by false e = e
    by true e = let no : true ≡ false = sym (ap (λ (b : Bool). is_budget (cond b Budget (cond (list_any is_awaiting (statuses_of c)) Blocked End))) e) ∙ h in absurd cc

not_budget : (w : Bool) → is_budget (cond w Blocked End) ≡ true → ⊥
not_budget true e = cc
not_budget false e = cc

going_by : (c : Configuration) → is_budget (verdict_of c) ≡ true → IsStuck c → ⊥
going_by c h stuck = not_budget (list_any is_awaiting (statuses_of c)) (sym (ap (λ (b : Bool). is_budget (cond b Budget (cond (list_any is_awaiting (statuses_of c)) Blocked End))) stuck) ∙ h)

module _ (r q : ServicesRun) (program : Tree) (lists : ListsShape) (counts : CountsShape) (others : ListsShape) (other_counts : CountsShape)
    (x : IsServicesRun r program lists counts) (y : IsServicesRun q program others other_counts) where
  abbrev c : Configuration
  c = replay program lists counts

  abbrev d : Configuration
  d = replay program others other_counts

  first : is_budget (verdict_shape r.outcome.verdict) ≡ is_budget (verdict_of c)
  first = ap (λ o. is_budget o.verdict) x.outcome

  second : is_budget (verdict_shape q.outcome.verdict) ≡ is_budget (verdict_of d)
  second = ap (λ o. is_budget o.verdict) y.outcome

  pub first_goes_on : is_budget (verdict_shape r.outcome.verdict) ≡ true → Tells comparison.Unended program lists counts others other_counts
  first_goes_on h = inl (going_by c (sym first ∙ h))

  pub second_goes_on : is_budget (verdict_shape q.outcome.verdict) ≡ true → Tells comparison.Unended program lists counts others other_counts
  second_goes_on h = inr (going_by d (sym second ∙ h))

  both_stuck : is_budget (verdict_shape r.outcome.verdict) ≡ false → is_budget (verdict_shape q.outcome.verdict) ≡ false → AreStuck program lists counts others other_counts
  both_stuck h g = (stuck_by c (sym first ∙ h), stuck_by d (sym second ∙ g))

  pub are_same : is_budget (verdict_shape r.outcome.verdict) ≡ false → is_budget (verdict_shape q.outcome.verdict) ≡ false → AreSameServices (services_shape r.services) (services_shape q.services) → AreSame program lists counts others other_counts
  are_same h g same =
      let stuck = both_stuck h g in
      let served = (services_tell program lists counts others other_counts (services_shape r.services) (services_shape q.services) x.services y.services).0 same in
      record { stuck = stuck; served = served; shown = served_alike_show_alike program lists counts others other_counts stuck.0 stuck.1 served }

  pub differ_at : is_budget (verdict_shape r.outcome.verdict) ≡ false → is_budget (verdict_shape q.outcome.verdict) ≡ false → (n : Name) → IsFirstDifference (services_shape r.services) (services_shape q.services) n → DifferAt program lists counts others other_counts n
  differ_at h g n f = record {
    stuck = both_stuck h g;
    told = λ alike.
        let same = (services_tell_at program lists counts others other_counts (services_shape r.services) (services_shape q.services) n x.services y.services).1 alike in
        let no : true ≡ false = sym same ∙ f.differs in absurd cc;
    least = λ m lt. (services_tell_at program lists counts others other_counts (services_shape r.services) (services_shape q.services) m x.services y.services).0 (f.least m lt);
  }
