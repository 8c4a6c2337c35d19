-- Where an activity of a number stands.
use Rattle.std.proofs.Common.{◌≡◌, ◌<◌, ℕ, false, List, Option, Some, None, length, slice_get, sym, ap, subst, ◌∙◌, arith}
use Rattle.asp_model.specs.Configuration.{Activity, RequestShape, requests_of}
use Rattle.asp_model.specs.History.{HistoryShape}
use Rattle.asp_model.specs.Names.{Name}
use Rattle.def_journals.specs.Journals.{RunShape}
use Rattle.law_steps.specs.Closed.{IsClosed}
use Rattle.law_journals.specs.Leases.{IsOutSince}
use Rattle.law_journals.proofs.LeaseLemmas.{leases_stay}
use Rattle.code_table.specs.declared.code.Node.{Node}
use Rattle.future_table.specs.Values.{AreOfCode, values_of}
use Rattle.step_reads.specs.Values.{AreClosedValues}
use Rattle.core_ranks.specs.Ranks.{RankShape, Rests}
use Rattle.core_seats.specs.Seats.{AreSeats, In, is_in, names_in, seat_at, seats_in}
use Rattle.step_activity.specs.declared.actor.Actor.{Actor}
use Rattle.step_activity.specs.Actors.{IsClosedFor, Stands}
use Rattle.law_core.specs.Ranked.{rank_of}
use Rattle.law_core.specs.Runs.{rank_named, rank_of_number, rank_unless_out}
use Rattle.core_state.specs.declared.state.CoreState.{CoreState}
use Rattle.core_state.specs.Cores.{IsAway, IsHere, IsPopulated, IsSeated}
use Rattle.core_state.proofs.ListLemmas.{name_got, within_name}
use Rattle.core_state.specs.Changes.{IsStanding}
use Rattle.core_state.proofs.HandLemmas.{box_there}

module _ (h : HistoryShape) (code : List Node) (x : CoreState) (t : RunShape) (k : ℕ) (s : IsStanding h code x t k) where
  closed : IsClosed t.configuration
  closed = s.whole.closed

  pub values_closed : AreClosedValues (values_of x.futures)
  values_closed = subst AreClosedValues (sym s.populated.futures) closed.values

  pub number_known : k < length (seats_in x.seats)
  number_known = omega (arith, within_name t.names k s.name s.named, ap length (sym s.populated.names) ∙ s.populated.kept.same)

  here_by : (a : Actor) → seat_at x.seats k ≡ Some (In a) → IsHere code t k s.name a
  here_by a is = subst (IsSeated h code t k s.name) is (s.populated.seats k s.name s.named)

  pub here_closed : (a : Actor) → seat_at x.seats k ≡ Some (In a) → IsClosedFor a
  here_closed a is =
      let here : IsHere code t k s.name a = here_by a is in
      record {
        activity = here.activity;
        received = requests_of t.configuration s.name;
        stands = here.stands;
        closed = closed.activities s.name here.activity here.there;
        arguments = closed.arguments s.name;
      }

  -- one that is in stands as its actor tells
  pub here_ranked : (a : Actor) (r : RankShape) → seat_at x.seats k ≡ Some (In a)
      → ((b : Activity) (rs : List RequestShape) (n : Name) → Stands a b rs → r ≡ rank_of (values_of x.futures) rs n b) → r ≡ rank_of_number t k
  here_ranked a r is told =
      let here : IsHere code t k s.name a = here_by a is in
      let rs = requests_of t.configuration s.name in
      told here.activity rs s.name here.stands
      ∙ ap (λ values. rank_of values rs s.name here.activity) s.populated.futures
      ∙ sym (ap (rank_named t k) s.named ∙ ap (rank_unless_out t s.name) here.free
      ∙ ap (λ (o : Option Activity). elim o [ None ↦ Rests | Some b ↦ rank_of t.configuration.futures rs s.name b ]) here.there)

  -- one that is out has no rank
  pub out_ranked : is_in (seat_at x.seats k) ≡ false → Rests ≡ rank_of_number t k
  out_ranked out =
      let found : slice_get (names_in x.seats) k ≡ Some s.name = ap (λ ns. slice_get ns k) s.populated.names ∙ sym (name_got t.names k) ∙ s.named in
      let b = box_there h code x t s.populated k s.name found out in
      let away : IsAway h code t k s.name b.0 = subst (IsSeated h code t k s.name) b.1 (s.populated.seats k s.name s.named) in
      let since : IsOutSince away.run t k s.name = leases_stay h k away.burst s.name away.run t s.first away.lent away.named s.run in
      sym (ap (rank_named t k) s.named ∙ ap (rank_unless_out t s.name) since.out)

-- ranks, journal and budget are no matter of who is there
pub populated_too : (h : HistoryShape) (code : List Node) (x y : CoreState) (t : RunShape) → y.seats ≡ x.seats → y.futures ≡ x.futures → IsPopulated h code x t → IsPopulated h code y t
populated_too h code x y t seats futures p = record {
  kept = subst AreSeats (sym seats) p.kept;
  names = ap names_in seats ∙ p.names;
  seats = λ j m named. subst (λ z. IsSeated h code t j m (seat_at z j)) (sym seats) (p.seats j m named);
  named_out = p.named_out;
  futures = ap values_of futures ∙ p.futures;
  values = subst (AreOfCode code) (sym futures) p.values;
}
