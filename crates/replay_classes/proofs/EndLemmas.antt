-- Ended runs as ends by classes.
use Rattle.std.specs.Prelude.{◌≡◌, ℕ, true, false, List, [], ◌∷◌, Option, Some, None}
use Rattle.std.proofs.Common.{refl, sym, subst, ◌∙◌}
use Rattle.std.specs.FinMap.{find}
use Rattle.asp_model.specs.Names.{Name, Text, name_cmp}
use Rattle.asp_model.specs.Chase.{chase}
use Rattle.asp_model.specs.Configuration.{Activity, Configuration, requests_of}
use Rattle.asp_model.specs.Contraction.{contract}
use Rattle.asp_model.specs.Intent.{Effect, Intent, Acts, Rests, Awaits, Reads, Lacks, contracts, ends_service, newest, redex_ready}
use Rattle.asp_model.specs.Marked.{Marked, plain}
use Rattle.asp_model.specs.Replay.{CountsShape, replay, total}
use Rattle.asp_model.specs.Split.{Context, Redex, Split, Stands, Splits, split}
use Rattle.asp_model.specs.Status.{IsStuck}
use Rattle.asp_model.specs.Step.{ListsShape, intent_in}
use Rattle.asp_model.specs.Store.{cell}
use Rattle.asp_model.specs.Term.{Head, Pending, Trees, none, more}
use Rattle.law_chases.proofs.FutureLemmas.{no_some, none_true}
use Rattle.law_steps.specs.Reached.{IsReached}
use Rattle.law_steps.proofs.CommuteLemmas.{intended_is}
use Rattle.law_steps.proofs.LinkedLemmas.{intends_step, stuck_is_still}
use Rattle.law_programs.specs.Programs.{IsSoundProgram}
use Rattle.law_programs.proofs.BreakLaws.{reached_never_break}
use Rattle.law_services.specs.Told.{AreServicesOf, entry_at}
use Rattle.law_services.proofs.BareLemmas.{is_pending, pending_by}
use Rattle.law_classes.specs.Alike.{AreOneClass, AsksInClass, asked_of}
use Rattle.law_classes.specs.Families.{IsClassEnd}
use Rattle.law_classes.specs.Requests.{ServesInClasses, arrival_logs, request_logs}
use Rattle.law_classes.proofs.RequestLemmas.{services_show_classes, stuck_replays_are_ends}
use Rattle.asp_model.specs.Services.{ServicesShape}
use Rattle.std.specs.List.{Contains}
use Rattle.outcome_search.specs.Ends.{IsReplayableEnd}
use Rattle.replay_classes.proofs.RequestLemmas.{asks_set}
use Rattle.replay_offers.proofs.RunLemmas.{replay_is_reached}

-- Who stands at a `pending` acts, in what a checked program reaches

abbrev CanAct : Intent → Type 0
CanAct (Acts e) = Unit {0}
CanAct (Rests s) = ⊥

module _ (program : Marked) (sound : IsSoundProgram program) (c : Configuration) (reached : IsReached (plain program) c) (n : Name) (a : Activity) (at : find name_cmp n c.activities ≡ Some a) where
  abbrev by_split : Split → Intent
  by_split t = elim t [
    | Stands place ↦ ends_service a place (newest a.services)
    | Splits contexts redex ↦ elim (redex_ready (chase c.futures) a.store redex) [
      | Lacks f ↦ Rests (Awaits f)
      | Reads s ↦ contracts (requests_of c n) n a contexts s (contract s redex)
    ]
  ]

  acts_at : (contexts : List Context) (h : Head) (ns : List ℕ) (ts : Trees) → is_pending h ≡ true → split a.term ≡ Splits contexts (record { head = h; places = ns; behind = ts }) → CanAct (by_split (Splits contexts (record { head = h; places = ns; behind = ts })))
  acts_at contexts (Pending ls) [] none p is = tt
  acts_at contexts (Pending ls) [] (more t ts) p is = absurd ((reached_never_break program c sound reached).broken n a contexts (record { head = Pending ls; places = []; behind = more t ts }) a.store at is refl)
  acts_at contexts (Pending ls) (i ∷ ns) ts p is = absurd ((reached_never_break program c sound reached).broken n a contexts (record { head = Pending ls; places = i ∷ ns; behind = ts }) a.store at is refl)
  acts_at contexts h ns ts p is = none_true p

  pending_acts : (t : Split) → split a.term ≡ t → pending_by t ≡ true → CanAct (by_split t)
  pending_acts (Stands place) is p = none_true p
  pending_acts (Splits contexts redex) is p = acts_at contexts redex.head redex.places redex.behind p is

  nobody_acts : IsStuck c → CanAct (intent_in c n) → ⊥
  nobody_acts stuck can = by_intent (intent_in c n) refl can
    where
      by_intent : (i : Intent) → intent_in c n ≡ i → CanAct i → ⊥
      by_intent (Acts e) is can = no_some (sym ((stuck_is_still (plain program) c reached).0 stuck n) ∙ intends_step (plain program) c n e reached is)
      by_intent (Rests s) is can = can

  -- so nobody stands there when nobody can step
  calm : IsStuck c → pending_by (split a.term) ≡ false
  calm stuck = elim (pending_by (split a.term)) as (λ b. pending_by (split a.term) ≡ b → b ≡ false) [
    | true ↦ λ p. absurd (nobody_acts stuck (subst CanAct (sym (intended_is c n a at)) (pending_acts (split a.term) refl p)))
    | false ↦ λ p. refl
  ] refl

module _ (K : Text → ℕ) (program : Marked) (sound : IsSoundProgram program) (lists : ListsShape) (counts : CountsShape) (end : IsReplayableEnd (plain program) (lists, counts)) (s : ServicesShape) (of : AreServicesOf (plain program) lists counts s) (polled : (n : Name) → (entry_at s n).polled ≡ false) (one : (n : Name) (labels : List Text) → Contains (entry_at s n).sets labels → AreOneClass K labels) where
  abbrev last : Configuration
  last = replay (plain program) lists counts

  serves : ServesInClasses K (plain program) lists counts
  serves = (services_show_classes K (plain program) lists counts s of).serves one

  -- whoever stands somewhere in the end asks in one class
  asks : (n : Name) → AsksInClass K (replay (plain program) lists counts) n
  asks n = by_entry (find name_cmp n last.activities) refl
    where
      by_entry : (o : Option Activity) → find name_cmp n last.activities ≡ o → AreOneClass K (asked_of o)
      by_entry None is = λ l h. none_true h
      by_entry (Some a) is = asks_set K (cell a.store a.active) (split a.term) (calm program sound last (replay_is_reached (plain program) lists counts) n a is end.0.1) (λ ls h. serves n ls (total counts, a, is, h))

  pub ended_by_classes : IsClassEnd K (plain program) (replay (plain program) lists counts, request_logs K (replay (plain program) lists counts))
  ended_by_classes = stuck_replays_are_ends K (plain program) lists counts end.0.1 ((services_show_classes K (plain program) lists counts s of).unpolled polled) serves asks

  pub shown_logs : request_logs K (replay (plain program) lists counts) ≡ arrival_logs K s
  shown_logs = (services_show_classes K (plain program) lists counts s of).logs
