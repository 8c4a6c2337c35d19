-- What is seen of an activity is what the configuration's intends.
use Rattle.std.proofs.Common.{◌≡◌, List, Option, Some, None, Ok, Err, Result, IfOk, sym, ap, subst, ◌∙◌}
use Rattle.asp_model.specs.Names.{Name}
use Rattle.asp_model.specs.Chase.{Values, chase}
use Rattle.asp_model.specs.Configuration as model
use Rattle.asp_model.specs.Configuration.{Configuration, RequestShape, requests_of}
use Rattle.asp_model.specs.Intent.{Rests, Done, intent}
use Rattle.asp_model.specs.Step.{intent_in}
use Rattle.future_table.specs.Values.{values_of}
use Rattle.step_parts.specs.declared.outlook.Outlook.{Outlook}
use Rattle.step_parts.specs.declared.outlook.Outlook.TheVariants as outlook
use Rattle.step_activity.specs.declared.actor.Actor.{Actor}
use Rattle.step_activity.specs.Actors.{Stands}
use Rattle.step_activity.specs.Outlook.{IsOutlook}
use Rattle.replay_population.specs.declared.population.Population.{Population}
use Rattle.replay_population.specs.Population.{IsPopulation, found_in}
use Rattle.replay_population.proofs.PopulationLemmas.{absent_there, found_stands}

-- the intent of an activity of the population
pub intended : (p : Population) (c : Configuration) (n : Name) (x : Actor) (o : Outlook) → IsPopulation p c → found_in p n ≡ Some x → ((a : model.Activity) (rs : List RequestShape) (m : Name) → Stands x a rs → IsOutlook m (intent (chase (values_of p.futures)) rs m a) o) → IsOutlook n (intent_in c n) o
intended p c n x o h is looks =
    let s = found_stands p c n x h is in
    let e : intent_in c n ≡ intent (chase c.futures) (requests_of c n) n s.0 = ap (λ (q : Option model.Activity). elim q [ None ↦ Rests Done | Some a ↦ intent (chase c.futures) (requests_of c n) n a ]) s.1 in
    let v = looks s.0 (requests_of c n) n s.2 in
    subst (λ q. IsOutlook n q o) (ap (λ (vs : Values). intent (chase vs) (requests_of c n) n s.0) h.futures ∙ sym e) v

pub looked : {E : Type 0} (p : Population) (c : Configuration) (n : Name) (x : Actor) (r : Result Outlook E) → IsPopulation p c → found_in p n ≡ Some x → ((a : model.Activity) (rs : List RequestShape) (m : Name) → Stands x a rs → IfOk r (IsOutlook m (intent (chase (values_of p.futures)) rs m a))) → IfOk r (IsOutlook n (intent_in c n))
looked p c n x (Ok o) h is looks = intended p c n x o h is looks
looked p c n x (Err e) h is looks = tt

-- who is not there is done
pub absent_done : (p : Population) (c : Configuration) (n : Name) → IsPopulation p c → found_in p n ≡ None → IsOutlook n (intent_in c n) outlook.Done
absent_done p c n h none =
    let e : intent_in c n ≡ Rests Done = ap (λ (q : Option model.Activity). elim q [ None ↦ Rests Done | Some a ↦ intent (chase c.futures) (requests_of c n) n a ]) (absent_there p c n h none) in
    subst (λ q. IsOutlook n q outlook.Done) (sym e) tt
