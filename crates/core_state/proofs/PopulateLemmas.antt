-- Activities and futures of a core, as they change one by one.
use Rattle.std.proofs.Common.{◌≡◌, ◌≢◌, ◌==◌, ◌<◌, ◌&&◌, ◌++◌, ◌∷◌, [], ℕ, zero, suc, Bool, true, false, not, List, Option, Some, None, length, map, slice_get, refl, sym, ap, subst, ◌∙◌, inl, inr, ⊎_elim, ◌⊎◌, arith}
use Rattle.std.proofs.lemmas.List.{append_assoc, map-append}
use Rattle.std.specs.List.{AllByRecursion}
use Rattle.std.specs.Arc.{arc_value}
use Rattle.std.specs.FinMap.{find, put}
use Rattle.asp_model.specs.Configuration.{Activity, From, ReceptionShape, RequestShape, log_of, or_none, requests_of}
use Rattle.asp_model.specs.History.{HistoryShape, Committed, with_entry}
use Rattle.asp_model.specs.Names.{Name, FutureShape, name_cmp, future_cmp}
use Rattle.asp_model.specs.Parcel.{ParcelShape}
use Rattle.asp_model.specs.Step.{name_at}
use Rattle.core_state.proofs.LogLemmas.{logged_other, logged_same, one_reception}
use Rattle.core_state.specs.Handing.{with_received}
use Rattle.law_journals.specs.Leases.{receptions_of}
use Rattle.def_journals.specs.Journals.{RunShape, grant_of, out_but}
use Rattle.law_chases.proofs.MapLemmas as Maps
use Rattle.law_steps.proofs.NameLemmas.{name_total, name_same}
use Rattle.law_chases.proofs.FutureLemmas.{no_some, some_is}
use Rattle.law_journals.specs.Numbered.{AreNumbered}
use Rattle.law_journals.proofs.BurstLemmas.{leases_last}
use Rattle.law_journals.proofs.LeaseLemmas.{grant_but}
use Rattle.code_table.specs.declared.code.Node.{Node}
use Rattle.future_table.specs.Values.{AreOfCode, values_of}
use Rattle.request_queue.specs.declared.request.Request.{Request}
use Rattle.request_queue.specs.Requests.{request_shape}
use Rattle.core_seats.specs.Seats.{AreSeats, In, Out, SeatShape, names_in, seat_at, seats_in, with_seat}
use Rattle.step_activity.specs.declared.actor.Actor.{Actor}
use Rattle.step_activity.specs.Actors.{Stands, code_of, log_in}
use Rattle.core_state.specs.declared.state.CoreState.{CoreState}
use Rattle.core_state.specs.Returning.{IsPopulatedBut}
use Rattle.core_state.specs.Cores.{IsHere, IsPopulated, IsSeated}
use Rattle.core_state.proofs.ListLemmas.{got_other, got_set, name_got, number_case, numbers_apart}

-- Who is out

number_itself : (k : ℕ) → (k == k) ≡ true
number_itself k = grind arith

-- nobody is out who came back
pub grant_gone : (k : ℕ) (xs : List (ℕ × ℕ)) → grant_of k (out_but k xs) ≡ None
grant_gone k [] = refl
grant_gone k (x ∷ xs) = by (k == x.0) refl (grant_gone k xs)
  where
    by : (b : Bool) → (k == x.0) ≡ b → grant_of k (out_but k xs) ≡ None → grant_of k (elim b [ true ↦ out_but k xs | false ↦ x ∷ out_but k xs ]) ≡ None
    by true e rest = rest
    by false e rest = ap (λ b. elim b [ true ↦ Some x.1 | false ↦ grant_of k (out_but k xs) ]) e ∙ rest

pub no_grant_but : (j k : ℕ) (xs : List (ℕ × ℕ)) → grant_of j xs ≡ None → grant_of j (out_but k xs) ≡ None
no_grant_but j k xs none = number_case j k
    (λ same. ap (λ i. grant_of i (out_but k xs)) same ∙ grant_gone k xs)
    (λ apart. grant_but j k xs (numbers_apart j k apart) ∙ none)

-- An activity comes back, with whatever it has become

module _ (h : HistoryShape) (code : List Node) (x y : CoreState) (s : RunShape) (k : ℕ) (p : IsPopulatedBut h code x s k) (numbered : AreNumbered s) (n : Name) (named : name_at s.names k ≡ Some n) (a : Actor) (b : Activity) (logs : List (Name × List ReceptionShape)) (apart_logs : (m : Name) → m ≢ n → or_none (find name_cmp m logs) ≡ log_of s.configuration m) where
  abbrev returning : ℕ → RunShape
  returning left = record { configuration = record s.configuration { activities = put name_cmp n b s.configuration.activities; logs = logs }; names = s.names; left = left; out = out_but k s.out }

  pub comes_back : (r left : ℕ) → k < length (seats_in x.seats)
      → seats_in y.seats ≡ with_seat (seats_in x.seats) k (In a) → names_in y.seats ≡ names_in x.seats → AreSeats y.seats → y.futures ≡ x.futures
      → Stands a b (requests_of s.configuration n) → code_of a ≡ code → log_in a ≡ or_none (find name_cmp n logs)
      → IsPopulated (with_entry h (Committed k r)) code y (returning left)
  comes_back r left within seats names kept futures stand coded logged = record {
    kept = kept;
    names = names ∙ p.names;
    seats = all_seated;
    named_out = λ j none. no_grant_but j k s.out (p.named_out j none);
    futures = ap values_of futures ∙ p.futures;
    values = subst (AreOfCode code) (sym futures) p.values;
  }
    where
      now : HistoryShape
      now = with_entry h (Committed k r)

      t : RunShape
      t = returning left

      seat_k : seat_at y.seats k ≡ Some (In a)
      seat_k = ap (λ seats. slice_get seats k) seats ∙ got_set (seats_in x.seats) k (In a) within

      seat_j : (j : ℕ) → j ≢ k → seat_at y.seats j ≡ seat_at x.seats j
      seat_j j apart = ap (λ seats. slice_get seats j) seats ∙ got_other (seats_in x.seats) k j (In a) apart

      here_now : (m : Name) → name_at s.names k ≡ Some m → IsHere code t k m a
      here_now m is = subst (λ m. IsHere code t k m a) (some_is (sym named ∙ is)) (record {
        free = grant_gone k s.out;
        activity = b;
        there = Maps.find_same name_cmp name_total name_same n b s.configuration.activities;
        stands = stand;
        logged = logged;
        coded = coded;
      })

      others_seated : (j : ℕ) (m : Name) → j ≢ k → m ≢ n → (o : Option (SeatShape Actor Request)) → IsSeated h code s j m o → IsSeated now code t j m o
      others_seated j m apart other (Some (In x)) seated = record {
        free = grant_but j k s.out (numbers_apart j k apart) ∙ seated.free;
        activity = seated.activity;
        there = Maps.find_other name_cmp name_total name_same m n b s.configuration.activities other ∙ seated.there;
        stands = seated.stands;
        logged = seated.logged ∙ sym (apart_logs m other);
        coded = seated.coded;
      }
      others_seated j m apart other (Some (Out came)) seated = record {
        burst = seated.burst;
        run = seated.run;
        lent = leases_last h (Committed k r) j seated.burst seated.run (ap (λ b. not b && true) (numbers_apart j k apart)) seated.lent;
        named = seated.named;
        requests = seated.requests;
        logged = apart_logs m other ∙ seated.logged;
        coded = seated.coded;
      }
      others_seated j m apart other None seated = seated

      all_seated : (j : ℕ) (m : Name) → name_at s.names j ≡ Some m → IsSeated now code t j m (seat_at y.seats j)
      all_seated j m is = number_case j k
          (λ same. subst (λ i. IsSeated now code t i m (seat_at y.seats i)) (sym same) (subst (IsSeated now code t k m) (sym seat_k) (here_now m (ap (name_at s.names) (sym same) ∙ is))))
          (λ apart.
          let other : m ≢ n = λ e. apart (numbered.apart j k n (is ∙ ap Some e) named) in
          subst (IsSeated now code t j m) (sym (seat_j j apart)) (others_seated j m apart other (seat_at x.seats j) (p.seats j m apart is)))

-- One future more is filled

abbrev pub with_value_in : RunShape → FutureShape → ParcelShape → RunShape
with_value_in s f v = record s { configuration = record s.configuration { futures = put future_cmp f v s.configuration.futures } }

pub value_comes : (h : HistoryShape) (code : List Node) (x y : CoreState) (s : RunShape) (f : FutureShape) (v : ParcelShape) → IsPopulated h code x s
    → y.seats ≡ x.seats → values_of y.futures ≡ put future_cmp f v (values_of x.futures) → AreOfCode code y.futures
    → IsPopulated h code y (with_value_in s f v)
value_comes h code x y s f v p seats values coded = record {
  kept = subst AreSeats (sym seats) p.kept;
  names = ap names_in seats ∙ p.names;
  seats = λ k n is. subst (IsSeated h code (with_value_in s f v) k n) (ap (λ z. seat_at z k) (sym seats)) (moved k n (seat_at x.seats k) (p.seats k n is));
  named_out = p.named_out;
  futures = values ∙ ap (put future_cmp f v) p.futures;
  values = coded;
}
  where
    moved : (k : ℕ) (n : Name) (o : Option (SeatShape Actor Request)) → IsSeated h code s k n o → IsSeated h code (with_value_in s f v) k n o
    moved k n (Some (In a)) seated = record { free = seated.free; activity = seated.activity; there = seated.there; stands = seated.stands; logged = seated.logged; coded = seated.coded }
    moved k n (Some (Out came)) seated = record { burst = seated.burst; run = seated.run; lent = seated.lent; named = seated.named; requests = seated.requests; logged = seated.logged; coded = seated.coded }
    moved k n None seated = seated

-- An activity is made

abbrev pub with_member : RunShape → Name → Activity → RunShape
with_member s m b = record s { configuration = record s.configuration { activities = put name_cmp m b s.configuration.activities }; names = s.names ++ m ∷ [] }

got_more : {A : Type 0} (xs : List A) (x : A) (k : ℕ) (y : A) → slice_get (xs ++ x ∷ []) k ≡ Some y → (slice_get xs k ≡ Some y) ⊎ ((k ≡ length xs) × (x ≡ y))
got_more [] x zero y h = inr (refl, some_is h)
got_more [] x (suc k) y h = no_some h
got_more (z ∷ xs) x zero y h = inl h
got_more (z ∷ xs) x (suc k) y h = ⊎_elim (λ e. inl e) (λ e. inr (ap suc e.0, e.1)) (got_more xs x k y h)

got_last : {A : Type 0} (xs : List A) (x : A) → slice_get (xs ++ x ∷ []) (length xs) ≡ Some x
got_last [] x = refl
got_last (y ∷ xs) x = got_last xs x

got_before : {A : Type 0} (xs : List A) (x : A) (k : ℕ) (y : A) → slice_get xs k ≡ Some y → slice_get (xs ++ x ∷ []) k ≡ Some y
got_before [] x k y h = no_some h
got_before (z ∷ xs) x zero y h = h
got_before (z ∷ xs) x (suc k) y h = got_before xs x k y h

pub past_none : (ns : List Name) → name_at ns (length ns) ≡ None
past_none [] = refl
past_none (n ∷ ns) = past_none ns

none_before : (ns : List Name) (m : Name) (k : ℕ) → name_at (ns ++ m ∷ []) k ≡ None → name_at ns k ≡ None
none_before [] m k h = refl
none_before (n ∷ ns) m zero h = h
none_before (n ∷ ns) m (suc k) h = none_before ns m k h

pub member_comes : (h : HistoryShape) (code : List Node) (x y : CoreState) (s : RunShape) (m : Name) (a : Actor) (b : Activity) → IsPopulated h code x s
    → ((k : ℕ) (n : Name) → name_at s.names k ≡ Some n → n ≢ m) → requests_of s.configuration m ≡ [] → log_of s.configuration m ≡ []
    → seats_in y.seats ≡ seats_in x.seats ++ In a ∷ [] → names_in y.seats ≡ names_in x.seats ++ m ∷ [] → AreSeats y.seats → y.futures ≡ x.futures
    → Stands a b [] → code_of a ≡ code → log_in a ≡ []
    → IsPopulated h code y (with_member s m b)
member_comes h code x y s m a b p others alone quiet seats names kept futures stand coded logged = record {
  kept = kept;
  names = names ∙ ap (λ ns. ns ++ m ∷ []) p.names;
  seats = all_seated;
  named_out = λ k none. p.named_out k (none_before s.names m k none);
  futures = ap values_of futures ∙ p.futures;
  values = subst (AreOfCode code) (sym futures) p.values;
}
  where
    t : RunShape
    t = with_member s m b

    long : length s.names ≡ length (seats_in x.seats)
    long = ap length (sym p.names) ∙ p.kept.same

    moved : (k : ℕ) (n : Name) → n ≢ m → (o : Option (SeatShape Actor Request)) → IsSeated h code s k n o → IsSeated h code t k n o
    moved k n apart (Some (In a)) seated = record { free = seated.free; activity = seated.activity; there = Maps.find_other name_cmp name_total name_same n m b s.configuration.activities apart ∙ seated.there; stands = seated.stands; logged = seated.logged; coded = seated.coded }
    moved k n apart (Some (Out came)) seated = record { burst = seated.burst; run = seated.run; lent = seated.lent; named = seated.named; requests = seated.requests; logged = seated.logged; coded = seated.coded }
    moved k n apart None seated = seated

    here_now : IsHere code t (length s.names) m a
    here_now = record {
      free = p.named_out (length s.names) (past_none s.names);
      activity = b;
      there = Maps.find_same name_cmp name_total name_same m b s.configuration.activities;
      stands = subst (Stands a b) (sym alone) stand;
      logged = logged ∙ sym quiet;
      coded = coded;
    }

    still : (k : ℕ) (n : Name) (o : Option (SeatShape Actor Request)) → seat_at x.seats k ≡ o → name_at s.names k ≡ Some n → IsSeated h code s k n o → IsSeated h code t k n (seat_at y.seats k)
    still k n None is named seated = absurd seated
    still k n (Some seat) is named seated =
        subst (IsSeated h code t k n) (sym (ap (λ z. slice_get z k) seats ∙ got_before (seats_in x.seats) (In a) k seat is))
        (moved k n (others k n named) (Some seat) seated)

    all_seated : (k : ℕ) (n : Name) → name_at t.names k ≡ Some n → IsSeated h code t k n (seat_at y.seats k)
    all_seated k n is = ⊎_elim
        (λ e. let named = name_got s.names k ∙ e in still k n (seat_at x.seats k) refl named (p.seats k n named))
        (λ e.
        let last : seat_at y.seats k ≡ Some (In a) = ap (slice_get (seats_in y.seats)) (e.0 ∙ long) ∙ ap (λ z. slice_get z (length (seats_in x.seats))) seats ∙ got_last (seats_in x.seats) (In a) in
        subst (IsSeated h code t k n) (sym last) (subst (λ i. IsHere code t i n a) (sym e.0) (subst (λ q. IsHere code t (length s.names) q a) e.1 here_now)))
        (got_more s.names m k n (sym (name_got (s.names ++ m ∷ []) k) ∙ is))

-- A request comes

received_same : (s : RunShape) (m : Name) (r : RequestShape) → requests_of (with_received s m r).configuration m ≡ requests_of s.configuration m ++ r ∷ []
received_same s m r = ap or_none (Maps.find_same name_cmp name_total name_same m (requests_of s.configuration m ++ r ∷ []) s.configuration.received)

received_other : (s : RunShape) (m n : Name) (r : RequestShape) → n ≢ m → requests_of (with_received s m r).configuration n ≡ requests_of s.configuration n
received_other s m n r apart = ap or_none (Maps.find_other name_cmp name_total name_same n m (requests_of s.configuration m ++ r ∷ []) s.configuration.received apart)

all_more : (code : List Node) (came : List Request) (r : Request) → AllByRecursion (λ r. arc_value r.arguments.code ≡ code) came → arc_value r.arguments.code ≡ code → AllByRecursion (λ r. arc_value r.arguments.code ≡ code) (came ++ r ∷ [])
all_more code [] r all one = (one, tt)
all_more code (c ∷ came) r all one = (all.0, all_more code came r all.1 one)

-- its receiver's seat then
abbrev pub Receives : HistoryShape → List Node → RunShape → ℕ → Name → Request → (old new : Option (SeatShape Actor Request)) → Type 0
Receives h code s k m r (Some (In x)) (Some (In y)) = ((b : Activity) (rs : List RequestShape) → Stands x b rs → Stands y b (rs ++ request_shape r ∷ [])) × (code_of y ≡ code_of x) × (log_in y ≡ log_in x ++ From (request_shape r).sender ∷ [])
Receives h code s k m r (Some (Out came)) (Some (Out more)) = more ≡ came ++ r ∷ []
Receives h code s k m r o q = ⊥

module _ (h : HistoryShape) (code : List Node) (x y : CoreState) (s : RunShape) (p : IsPopulated h code x s) (numbered : AreNumbered s) (k : ℕ) (m : Name) (named : name_at s.names k ≡ Some m) (r : Request) where
  abbrev t_received : RunShape
  t_received = with_received s m (request_shape r)

  received_by : (o q : Option (SeatShape Actor Request)) → Receives h code s k m r o q → arc_value r.arguments.code ≡ code → IsSeated h code s k m o → IsSeated h code t_received k m q
  received_by (Some (In x)) (Some (In z)) got coded seated = record {
    free = seated.free;
    activity = seated.activity;
    there = seated.there;
    stands = subst (Stands z seated.activity) (sym (received_same s m (request_shape r))) (got.0 seated.activity (requests_of s.configuration m) seated.stands);
    logged = got.2 ∙ ap (λ xs. xs ++ From (request_shape r).sender ∷ []) seated.logged ∙ sym (logged_same s m (request_shape r));
    coded = got.1 ∙ seated.coded;
  }
  received_by (Some (Out came)) (Some (Out more)) got coded seated = record {
    burst = seated.burst;
    run = seated.run;
    lent = seated.lent;
    named = seated.named;
    requests =
        received_same s m (request_shape r) ∙ ap (λ rs. rs ++ request_shape r ∷ []) seated.requests
        ∙ append_assoc (requests_of seated.run.configuration m) (map request_shape came) (request_shape r ∷ [])
        ∙ ap (λ rs. requests_of seated.run.configuration m ++ rs) (sym (map-append request_shape came (r ∷ [])))
        ∙ ap (λ rs. requests_of seated.run.configuration m ++ map request_shape rs) (sym got);
    logged =
        logged_same s m (request_shape r) ∙ ap (λ xs. xs ++ From (request_shape r).sender ∷ []) seated.logged
        ∙ append_assoc (log_of seated.run.configuration m) (receptions_of (map request_shape came)) (From (request_shape r).sender ∷ [])
        ∙ ap (λ xs. log_of seated.run.configuration m ++ xs) (one_reception came r)
        ∙ ap (λ rs. log_of seated.run.configuration m ++ receptions_of (map request_shape rs)) (sym got);
    coded = subst (AllByRecursion (λ r. arc_value r.arguments.code ≡ code)) (sym got) (all_more code came r seated.coded coded);
  }
  received_by (Some (In x)) (Some (Out more)) got coded seated = absurd got
  received_by (Some (Out came)) (Some (In z)) got coded seated = absurd got
  received_by (Some (In x)) None got coded seated = absurd got
  received_by (Some (Out came)) None got coded seated = absurd got
  received_by None q got coded seated = absurd seated

  others_unread : (j : ℕ) (n : Name) → n ≢ m → (o : Option (SeatShape Actor Request)) → IsSeated h code s j n o → IsSeated h code t_received j n o
  others_unread j n apart (Some (In a)) seated = record { free = seated.free; activity = seated.activity; there = seated.there; stands = subst (Stands a seated.activity) (sym (received_other s m n (request_shape r) apart)) seated.stands; logged = seated.logged ∙ sym (logged_other s m n (request_shape r) apart); coded = seated.coded }
  others_unread j n apart (Some (Out came)) seated = record { burst = seated.burst; run = seated.run; lent = seated.lent; named = seated.named; requests = received_other s m n (request_shape r) apart ∙ seated.requests; logged = logged_other s m n (request_shape r) apart ∙ seated.logged; coded = seated.coded }
  others_unread j n apart None seated = seated

  pub request_comes : (seat : SeatShape Actor Request) → seats_in y.seats ≡ with_seat (seats_in x.seats) k seat → names_in y.seats ≡ names_in x.seats → AreSeats y.seats → y.futures ≡ x.futures
      → k < length (seats_in x.seats) → Receives h code s k m r (seat_at x.seats k) (Some seat) → arc_value r.arguments.code ≡ code
      → IsPopulated h code y t_received
  request_comes seat seats names kept futures within got coded = record {
    kept = kept;
    names = names ∙ p.names;
    seats = all_seated;
    named_out = p.named_out;
    futures = ap values_of futures ∙ p.futures;
    values = subst (AreOfCode code) (sym futures) p.values;
  }
    where
      all_seated : (j : ℕ) (n : Name) → name_at s.names j ≡ Some n → IsSeated h code t_received j n (seat_at y.seats j)
      all_seated j n is = number_case j k
          (λ same.
          let one : m ≡ n = some_is (sym named ∙ ap (name_at s.names) (sym same) ∙ is) in
          let here : seat_at y.seats j ≡ Some seat = ap (seat_at y.seats) same ∙ ap (λ z. slice_get z k) seats ∙ got_set (seats_in x.seats) k seat within in
          subst (IsSeated h code t_received j n) (sym here)
          (subst (λ i. IsSeated h code t_received i n (Some seat)) (sym same)
          (subst (λ q. IsSeated h code t_received k q (Some seat)) one (received_by (seat_at x.seats k) (Some seat) got coded (p.seats k m named)))))
          (λ apart.
          let other : n ≢ m = λ e. apart (numbered.apart j k m (is ∙ ap Some e) named) in
          let stays : seat_at y.seats j ≡ seat_at x.seats j = ap (λ z. slice_get z j) seats ∙ got_other (seats_in x.seats) k j seat apart in
          subst (IsSeated h code t_received j n) (sym stays) (others_unread j n other (seat_at x.seats j) (p.seats j n is)))
