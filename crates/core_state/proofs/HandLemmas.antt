-- What comes to one seat.
use Rattle.std.proofs.Common.{◌≡◌, ◌≢◌, ◌++◌, [], ℕ, false, List, Option, Some, None, is_some, slice_get, refl, sym, ap, subst, ◌∙◌}
use Rattle.std.proofs.lemmas.List.{append-nil}
use Rattle.std.specs.FinMap.{find}
use Rattle.asp_model.specs.Configuration.{Activity, RequestShape}
use Rattle.asp_model.specs.History.{HistoryShape}
use Rattle.asp_model.specs.Intent.{Effect}
use Rattle.asp_model.specs.Parcel.{ParcelShape}
use Rattle.asp_model.specs.Names.{Name, FutureShape, name_cmp, future_cmp}
use Rattle.asp_model.specs.Step.{name_at, put_some, with_last}
use Rattle.def_journals.specs.Journals.{RunShape}
use Rattle.law_chases.proofs.FutureLemmas.{no_some, some_is, true_false}
use Rattle.code_table.specs.declared.code.Node.{Node}
use Rattle.request_queue.specs.declared.request.Request.{Request}
use Rattle.core_seats.specs.Seats.{In, IsTaken, Out, SeatShape, is_in, names_in, seat_at}
use Rattle.step_activity.specs.declared.actor.Actor.{Actor}
use Rattle.step_activity.specs.Actors.{Stands, code_of, log_in}
use Rattle.step_activity.specs.Effects.{IsMade}
use Rattle.step_activity.specs.declared.act.Given.{Given}
use Rattle.law_core.specs.Commits.{made_by}
use Rattle.core_state.specs.Handing.{IsToHand, handed, received_log}
use Rattle.core_state.specs.declared.state.CoreState.{CoreState}
use Rattle.core_state.specs.Cores.{IsPopulated, IsSeated}
use Rattle.core_state.proofs.ListLemmas.{name_got}

pub taken_in : (o : Option (SeatShape Actor Request)) (a : Actor) → IsTaken o (Some a) → o ≡ Some (In a)
taken_in (Some (In x)) a h = ap (λ z. Some (In z)) (sym (some_is h))
taken_in (Some (Out came)) a h = no_some (sym h)
taken_in None a h = no_some (sym h)

pub taken_out : (o : Option (SeatShape Actor Request)) → IsTaken o None → is_in o ≡ false
taken_out (Some (In x)) h = no_some h
taken_out (Some (Out came)) h = refl
taken_out None h = refl

module _ (h : HistoryShape) (code : List Node) (x : CoreState) (u : RunShape) (p : IsPopulated h code x u) (k : ℕ) (m : Name) (found : slice_get (names_in x.seats) k ≡ Some m) where
  pub named : name_at u.names k ≡ Some m
  named = name_got u.names k ∙ ap (λ ns. slice_get ns k) (sym p.names) ∙ found

  coded_by : (o : Option (SeatShape Actor Request)) (a : Actor) → o ≡ Some (In a) → IsSeated h code u k m o → code_of a ≡ code
  coded_by o a is seated = (subst (IsSeated h code u k m) is seated).coded

  -- who is taken runs the code
  pub taken_coded : (a : Actor) → seat_at x.seats k ≡ Some (In a) → code_of a ≡ code
  taken_coded a is = coded_by (seat_at x.seats k) a is (p.seats k m named)

  box_by : (o : Option (SeatShape Actor Request)) → seat_at x.seats k ≡ o → IsSeated h code u k m o → is_in o ≡ false → (came : List Request) × (seat_at x.seats k ≡ Some (Out came))
  box_by (Some (In a)) is seated out = absurd (true_false _ refl out)
  box_by (Some (Out came)) is seated out = (came, is)
  box_by None is seated out = absurd seated

  -- who is not in has a box
  pub box_there : is_in (seat_at x.seats k) ≡ false → (came : List Request) × (seat_at x.seats k ≡ Some (Out came))
  box_there out = box_by (seat_at x.seats k) refl (p.seats k m named) out

-- What is given

pub made_is : (o : Option (Name × Activity)) (m : Name) (a : Actor) → IsMade o m a → (b : Activity) × (o ≡ Some (m, b)) × Stands a b [] × (log_in a ≡ [])
made_is None m a h = absurd h
made_is (Some z) m a h = (z.1, (λ i. Some (h.0 i, z.1)), h.1, h.2)

-- the run after an effect, by what it gives
pub handed_is : (u : RunShape) (e : Effect) (s : Option (Name × RequestShape)) (m : Option (Name × Activity)) (f : Option (FutureShape × ParcelShape)) → e.sent ≡ s → e.made ≡ m → e.filled ≡ f
    → record u {
      configuration = record {
        activities = put_some name_cmp m u.configuration.activities;
        received = with_last s u.configuration.received;
        logs = with_last (received_log s) u.configuration.logs;
        futures = put_some future_cmp f u.configuration.futures;
      };
      names = u.names ++ made_by m;
    } ≡ handed u e
handed_is u e s m f p q r = sym (λ i. record u {
  configuration = record {
    activities = put_some name_cmp (q i) u.configuration.activities;
    received = with_last (p i) u.configuration.received;
    logs = with_last (received_log (p i)) u.configuration.logs;
    futures = put_some future_cmp (r i) u.configuration.futures;
  };
  names = u.names ++ made_by (q i);
})

-- who is made has no number yet
pub new_name : (h : HistoryShape) (code : List Node) (x : CoreState) (u : RunShape) (own : Name) (e : Effect) (g : Given) (m : Name) (a : Actor) → IsToHand h code x u own e g → IsMade e.made m a
    → (k : ℕ) (n : Name) → name_at u.names k ≡ Some n → n ≢ m
new_name h code x u own e g m a r made k n named same =
    let b = made_is e.made m a made in
    true_false (is_some (find name_cmp n u.configuration.activities)) (r.numbered.there k n named)
    (ap (λ q. is_some (find name_cmp q u.configuration.activities)) same ∙ ap is_some (r.made (m, b.0) b.1).0)

-- nobody is made
pub nobody_made : (u : RunShape) (s : Option (Name × RequestShape)) (f : Option (FutureShape × ParcelShape)) → record u {
  configuration = record {
    activities = u.configuration.activities;
    received = with_last s u.configuration.received;
    logs = with_last (received_log s) u.configuration.logs;
    futures = put_some future_cmp f u.configuration.futures;
  };
} ≡ record u {
  configuration = record {
    activities = u.configuration.activities;
    received = with_last s u.configuration.received;
    logs = with_last (received_log s) u.configuration.logs;
    futures = put_some future_cmp f u.configuration.futures;
  };
  names = u.names ++ [];
}
nobody_made u s f = ap (λ ns. record u {
  configuration = record {
    activities = u.configuration.activities;
    received = with_last s u.configuration.received;
    logs = with_last (received_log s) u.configuration.logs;
    futures = put_some future_cmp f u.configuration.futures;
  };
  names = ns;
}) (sym (append-nil u.names))
