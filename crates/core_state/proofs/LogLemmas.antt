-- Logs of a core: what comes to one, and what one asks.
use Rattle.std.proofs.Common.{◌≡◌, ◌≢◌, ◌++◌, ◌∷◌, [], List, Option, Some, None, map, refl, sym, ap, ◌∙◌, inl, inr}
use Rattle.std.proofs.lemmas.List.{map-append}
use Rattle.std.specs.FinMap.{find}
use Rattle.asp_model.specs.Configuration.{From, Poll, ReceptionShape, RequestShape, log_of, or_none}
use Rattle.asp_model.specs.Intent.{Effect}
use Rattle.asp_model.specs.Names.{Name, name_cmp}
use Rattle.asp_model.specs.Step.{with_last}
use Rattle.def_journals.specs.Journals.{RunShape}
use Rattle.law_chases.proofs.MapLemmas as Maps
use Rattle.law_steps.proofs.FactLemmas.{IsLogged}
use Rattle.law_steps.proofs.NameLemmas.{name_same, name_total}
use Rattle.law_journals.specs.Leases.{receptions_of}
use Rattle.request_queue.specs.declared.request.Request.{Request}
use Rattle.request_queue.specs.Requests.{request_shape}
use Rattle.step_activity.specs.declared.act.Given.{Given}
use Rattle.step_activity.specs.declared.act.Given.TheVariants as given
use Rattle.step_activity.specs.Effects.{IsGiven, IsLogAfter}
use Rattle.core_state.specs.Handing.{asked_log, received_log, with_received}

-- What comes

pub logged_same : (s : RunShape) (m : Name) (r : RequestShape) → log_of (with_received s m r).configuration m ≡ log_of s.configuration m ++ From r.sender ∷ []
logged_same s m r = ap or_none (Maps.find_same name_cmp name_total name_same m (log_of s.configuration m ++ From r.sender ∷ []) s.configuration.logs)

pub logged_other : (s : RunShape) (m n : Name) (r : RequestShape) → n ≢ m → log_of (with_received s m r).configuration n ≡ log_of s.configuration n
logged_other s m n r apart = ap or_none (Maps.find_other name_cmp name_total name_same n m (log_of s.configuration m ++ From r.sender ∷ []) s.configuration.logs apart)

-- one more in a box is one more in the log
pub one_reception : (came : List Request) (r : Request) → receptions_of (map request_shape came) ++ From (request_shape r).sender ∷ [] ≡ receptions_of (map request_shape (came ++ r ∷ []))
one_reception came r = sym (ap receptions_of (map-append request_shape came (r ∷ [])) ∙ map-append (λ q. From q.sender) (map request_shape came) (request_shape r ∷ []))

-- What one asks

-- at home alone
pub asked_elsewhere : (n m : Name) (o : Option (Name × RequestShape)) (l : Option (Name × ReceptionShape)) (logs : List (Name × List ReceptionShape)) → IsLogged n o l → m ≢ n
    → or_none (find name_cmp m (with_last (asked_log o l) logs)) ≡ or_none (find name_cmp m logs)
asked_elsewhere n m None l logs (inl p) apart = ap (λ l. or_none (find name_cmp m (with_last l logs))) p
asked_elsewhere n m None l logs (inr p) apart =
    ap (λ l. or_none (find name_cmp m (with_last l logs))) p
    ∙ ap or_none (Maps.find_other name_cmp name_total name_same m n (or_none (find name_cmp n logs) ++ Poll ∷ []) logs apart)
asked_elsewhere n m (Some z) l logs p apart = refl

abbrev own_log : Name → List (Name × List ReceptionShape) → Option (Name × ReceptionShape) → List ReceptionShape
own_log n logs l = or_none (find name_cmp n (with_last l logs))

-- there as it tells what it gives
pub asked_here : (n : Name) (e : Effect) (before after : List ReceptionShape) (g : Given) (logs : List (Name × List ReceptionShape)) → IsGiven n e g → IsLogAfter before after g
    → before ≡ or_none (find name_cmp n logs) → after ≡ own_log n logs (asked_log e.sent e.logged)
asked_here n e before after given.Nothing logs is then was = then ∙ was ∙ sym (λ i. own_log n logs (asked_log (is.0 i) (is.3 i)))
asked_here n e before after (given.Made m a) logs is then was = then ∙ was ∙ sym (λ i. own_log n logs (asked_log (is.0 i) (is.3 i)))
asked_here n e before after (given.Sent m r) logs is then was = then ∙ was ∙ sym (λ i. own_log n logs (asked_log (is.0 i) e.logged))
asked_here n e before after (given.Filled f p) logs is then was = then ∙ was ∙ sym (λ i. own_log n logs (asked_log (is.0 i) (is.3 i)))
asked_here n e before after given.Polled logs is then was =
    then ∙ ap (λ xs. xs ++ Poll ∷ []) was
    ∙ sym ((λ i. own_log n logs (asked_log (is.0 i) (is.3 i)))
    ∙ ap or_none (Maps.find_same name_cmp name_total name_same n (or_none (find name_cmp n logs) ++ Poll ∷ []) logs))

-- what one asked and what came by it are what the effect logs
pub logs_join : (n : Name) (o : Option (Name × RequestShape)) (l : Option (Name × ReceptionShape)) (logs : List (Name × List ReceptionShape))
    → ((z : Name × RequestShape) → o ≡ Some z → z.1.sender ≡ n) → IsLogged n o l
    → with_last (received_log o) (with_last (asked_log o l) logs) ≡ with_last l logs
logs_join n None l logs by is = refl
logs_join n (Some z) l logs by is = ap (λ m. with_last (Some (z.0, From m)) logs) (by z refl) ∙ ap (λ l. with_last l logs) (sym is)
