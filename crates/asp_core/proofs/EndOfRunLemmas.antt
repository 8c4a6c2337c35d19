-- The activities of a core in which nobody is out are those of its run.
use Rattle.std.proofs.Common.{◌≡◌, ◌≢◌, ◌<◌, ◌≤◌, ◌+◌, ◌++◌, ◌∷◌, [], ℕ, suc, List, Option, Some, None, is_some, length, map, slice_get, take, refl, sym, ap, subst, ◌∙◌, arith}
use Rattle.std.specs.BTreeMap as trees
use Rattle.std.specs.Cmp.{tied_itself}
use Rattle.std.specs.FinMap.{find}
use Rattle.std.specs.Global.{Box}
use Rattle.std.specs.Option.{option_map}
use Rattle.std.specs.Ordering.{is_eq}
use Rattle.std.proofs.lemmas.Map.{update_all_push, update_other, update_same}
use Rattle.asp_model.specs.Configuration as model
use Rattle.asp_model.specs.Configuration.{Configuration, log_of, requests_of}
use Rattle.asp_model.specs.History.{HistoryShape}
use Rattle.asp_model.specs.Names.{Name, name_cmp, same_name}
use Rattle.asp_model.specs.Step.{name_at}
use Rattle.def_journals.specs.Journals.{RunShape, grant_of}
use Rattle.law_steps.proofs.NameLemmas.{name_total, names_apart}
use Rattle.law_chases.proofs.FutureLemmas.{no_some, some_is, true_false}
use Rattle.law_journals.specs.Numbered.{AreNumbered}
use Rattle.code_table.specs.declared.code.Node.{Node}
use Rattle.request_queue.specs.declared.request.Request.{Request}
use Rattle.core_seats.specs.declared.seats.Seats.{Seats}
use Rattle.core_seats.specs.Seats.{AreSeats, In, IsTaken, Out, SeatShape, names_in, seat_at, seats_in}
use Rattle.step_activity.specs.declared.actor.Actor.{Actor}
use Rattle.step_activity.specs.Actors.{Stands, code_of, log_in}
use Rattle.core_state.specs.declared.state.CoreState.{CoreState}
use Rattle.core_state.specs.Cores.{IsCore}
use Rattle.core_state.proofs.LendLemmas.{is_here}
use Rattle.core_state.proofs.ListLemmas.{got_within, name_got, name_within, number_case}
use Rattle.step_ends.specs.Activities.{StandForSound, StandsAt, actor_at}
use Rattle.asp_core.specs.Gathering.{AreApart, AreBefore, IsBrought, OthersStay, as_actor, held_in, who_is_in}
use Rattle.asp_core.specs.EndOfRun.{IsHome}
use Rattle.asp_core.proofs.GatheredLemmas.{each_more}

abbrev unboxed : Option (Box Actor) → Option Actor
unboxed = option_map (λ b. b.value)

-- Boxes by their names

held_here : (xs : List (Name × Box Actor)) (n : Name) (b : Box Actor) → held_in (xs ++ (n, b) ∷ []) n ≡ Some b
held_here xs n b = sym (update_all_push same_name (λ _. None) (held_in xs) xs (n, b) n refl) ∙ update_same same_name (held_in xs) n (Some b) n (ap is_eq (tied_itself name_total n))

held_else : (xs : List (Name × Box Actor)) (n q : Name) (b : Box Actor) → n ≢ q → held_in (xs ++ (n, b) ∷ []) q ≡ held_in xs q
held_else xs n q b apart = sym (update_all_push same_name (λ _. None) (held_in xs) xs (n, b) q refl) ∙ update_other same_name (held_in xs) n (Some b) q (names_apart n q apart)

pub same_before : (ns : List Name) (seats : List (SeatShape Actor Request)) (i : ℕ) (f g : Name → Option (Box Actor)) → ((n : Name) → f n ≡ g n) → AreBefore ns seats i g → AreBefore ns seats i f
same_before ns seats i f g e h = record { here = λ k n a lt at is. ap unboxed (e n) ∙ h.here k n a lt at is; none = λ n no. e n ∙ h.none n no }

-- One more

abbrev seat_in : Option (SeatShape Actor Request) → Option Actor
seat_in (Some (In a)) = Some a
seat_in (Some (Out came)) = None
seat_in None = None

module _ (ns : List Name) (apart : AreApart ns) (seats : List (SeatShape Actor Request)) (i : ℕ) (m new : List (Name × Box Actor)) (before : AreBefore ns seats i (held_in m)) (n : Name) (named : slice_get ns i ≡ Some n) where
  -- nothing is brought
  still_before : ((a : Actor) → slice_get seats i ≢ Some (In a)) → new ≡ m → AreBefore ns seats (suc i) (held_in new)
  still_before not same = record {
    here = λ k q b lt at is. number_case k i
        (λ e. absurd (not b (ap (slice_get seats) (sym e) ∙ is)))
        (λ d. ap (λ t. unboxed (held_in t q)) same ∙ before.here k q b (omega (arith, lt, d)) at is);
    none = λ q no. ap (λ t. held_in t q) same ∙ before.none q (λ k lt. no k (omega (arith, lt)));
  }

  more_before : (a : Actor) (x : Box Actor) → slice_get seats i ≡ Some (In a) → x.value ≡ a → new ≡ m ++ (n, x) ∷ [] → AreBefore ns seats (suc i) (held_in new)
  more_before a x here holds u = record {
    here = λ k q b lt at is. number_case k i
        (λ e.
        let same : n ≡ q = some_is (sym named ∙ ap (slice_get ns) (sym e) ∙ at) in
        ap (λ r. unboxed (held_in new r)) (sym same) ∙ ap (λ t. unboxed (held_in t n)) u ∙ ap unboxed (held_here m n x) ∙ ap Some holds ∙ ap seat_in (sym here ∙ ap (slice_get seats) (sym e) ∙ is))
        (λ d. ap (λ t. unboxed (held_in t q)) u ∙ ap unboxed (held_else m n q x (λ same. d (apart k i n (at ∙ ap Some (sym same)) named))) ∙ before.here k q b (omega (arith, lt, d)) at is);
    none = λ q no. ap (λ t. held_in t q) u ∙ held_else m n q x (λ same. no i (omega arith) (named ∙ ap Some same)) ∙ before.none q (λ k lt. no k (omega (arith, lt)));
  }

  pub one_before : IsBrought n (slice_get seats i) m new → AreBefore ns seats (suc i) (held_in new)
  one_before brought = by (slice_get seats i) refl brought
    where
      by : (o : Option (SeatShape Actor Request)) → slice_get seats i ≡ o → IsBrought n o m new → AreBefore ns seats (suc i) (held_in new)
      by (Some (In a)) is b = more_before a b.0 is b.1 b.2
      by (Some (Out came)) is same = still_before (λ a e. no_some (ap seat_in (sym is ∙ e))) same
      by None is same = still_before (λ a e. no_some (ap seat_in (sym is ∙ e))) same

-- The activities

module _ (h : HistoryShape) (code : List Node) (x : CoreState) (s : RunShape) (home : IsHome h code x s) where
  abbrev c : Configuration
  c = s.configuration

  core : IsCore h code x s
  core = home.core

  numbered : AreNumbered s
  numbered = core.numbered

  named_so : (k : ℕ) (n : Name) → slice_get (names_in x.seats) k ≡ Some n → name_at s.names k ≡ Some n
  named_so k n at = ap (λ ns. name_at ns k) (sym core.populated.names) ∙ name_got (names_in x.seats) k ∙ at

  pub are_apart : AreApart (names_in x.seats)
  are_apart i k n at is = numbered.apart i k n (named_so i n at) (named_so k n is)

  pub are_seats : AreSeats x.seats
  are_seats = core.populated.kept

  module _ (m : trees.BTreeMap Name (Box Actor)) (all : AreBefore (names_in x.seats) (seats_in x.seats) (length (seats_in x.seats)) (trees.get name_cmp m)) where
    record IsFoundAt (n : Name) (a : model.Activity) : Type 0 where
      pub actor : Actor
      pub found : actor_at m.entries n ≡ Some actor
      pub stands : Stands actor a (requests_of c n)
      pub logged : log_in actor ≡ log_of c n
      pub coded : code_of actor ≡ code

    somebody : (n : Name) (a : model.Activity) → find name_cmp n c.activities ≡ Some a → IsFoundAt n a
    somebody n a at =
        let k = numbered.numbered n (ap is_some at) in
        let here = is_here h code x s core k.0 n k.1 (ap (grant_of k.0) home.back) in
        let named : slice_get (names_in x.seats) k.0 ≡ Some n = sym (name_got (names_in x.seats) k.0) ∙ ap (λ ns. name_at ns k.0) core.populated.names ∙ k.1 in
        record {
          actor = here.0;
          found = all.here k.0 n here.0 (got_within (seats_in x.seats) k.0 (In here.0) here.1) named here.1;
          stands = subst (λ b. Stands here.0 b (requests_of c n)) (some_is (sym here.2.there ∙ at)) here.2.stands;
          logged = here.2.logged;
          coded = here.2.coded;
        }

    nobody : (n : Name) → find name_cmp n c.activities ≡ None → actor_at m.entries n ≡ None
    nobody n at = ap unboxed (all.none n (λ k lt named. true_false (is_some (find name_cmp n c.activities)) (numbered.there k n (named_so k n named)) (ap is_some at)))

    stands_by : (n : Name) (o : Option model.Activity) → find name_cmp n c.activities ≡ o → StandsAt (actor_at m.entries n) o (requests_of c n)
    stands_by n None at = subst (λ q. StandsAt q None (requests_of c n)) (sym (nobody n at)) tt
    stands_by n (Some a) at = let f = somebody n a at in subst (λ q. StandsAt q (Some a) (requests_of c n)) (sym f.found) f.stands

    coded_by : (n : Name) (y : Actor) → actor_at m.entries n ≡ Some y → (o : Option model.Activity) → find name_cmp n c.activities ≡ o → code_of y ≡ code
    coded_by n y is None at = no_some (sym (nobody n at) ∙ is)
    coded_by n y is (Some a) at = let f = somebody n a at in ap code_of (some_is (sym is ∙ f.found)) ∙ f.coded

    logged_by : (n : Name) (y : Actor) → actor_at m.entries n ≡ Some y → (o : Option model.Activity) → find name_cmp n c.activities ≡ o → log_in y ≡ log_of c n
    logged_by n y is None at = no_some (sym (nobody n at) ∙ is)
    logged_by n y is (Some a) at = let f = somebody n a at in ap log_in (some_is (sym is ∙ f.found)) ∙ f.logged

    pub stand_home : StandForSound m.entries x.futures c
    stand_home = record {
      sound = core.whole.sound;
      closed = core.whole.closed;
      population = record {
        activities = λ n. stands_by n (find name_cmp n c.activities) refl;
        futures = core.populated.futures;
        code = code;
        actors = λ n y is. coded_by n y is (find name_cmp n c.activities) refl;
        logs = λ n y is. logged_by n y is (find name_cmp n c.activities) refl;
        values = core.populated.values;
      };
    }

-- What is gathered

taken_in : (o : Option (SeatShape Actor Request)) (a : Actor) → IsTaken o (Some a) → o ≡ Some (In a)
taken_in (Some (In x)) a e = ap (λ (y : Option Actor). option_map In y) (sym e)
taken_in (Some (Out came)) a e = no_some (sym e)
taken_in None a e = no_some (sym e)

-- who was taken comes with its name
pub brought_in : (ns : List Name) (k : ℕ) (o : Option (SeatShape Actor Request)) (a : Box Actor) (m name : Name) (old new : List (Name × Box Actor)) → IsTaken o (Some a.value) → slice_get ns k ≡ Some m → name ≡ m → new ≡ old ++ (name, a) ∷ []
    → (n : Name) → slice_get ns k ≡ Some n → IsBrought n o old new
brought_in ns k o a m name old new taken at is u n named =
    subst (λ q. IsBrought n q old new) (sym (taken_in o a.value taken))
    (a, refl, u ∙ ap (λ q. old ++ (q, a) ∷ []) (is ∙ some_is (sym at ∙ named)))

-- so far
pub record IsGathered (first now : Seats Actor Request) (count i : ℕ) (m : List (Name × Box Actor)) : Type 0 where
  pub kept : AreSeats now
  pub names : names_in now ≡ names_in first
  pub ahead : (j : ℕ) → i ≤ j → slice_get (seats_in now) j ≡ slice_get (seats_in first) j
  pub before : AreBefore (names_in first) (seats_in first) i (held_in m)
  pub each : map as_actor m ≡ who_is_in (take i (names_in first)) (take i (seats_in first))
  pub counted : count ≡ length (seats_in first)

none_yet : (ns : List Name) (seats : List (SeatShape Actor Request)) (m : List (Name × Box Actor)) → m ≡ [] → AreBefore ns seats 0 (held_in m)
none_yet ns seats m none = record { here = λ k n a lt. absurd (omega (arith, lt)); none = λ n no. ap (λ t. held_in t n) none }

pub gathered_none : (first : Seats Actor Request) (count : ℕ) (m : List (Name × Box Actor)) → AreSeats first → count ≡ length (seats_in first) → m ≡ [] → IsGathered first first count 0 m
gathered_none first count m kept is none = record { kept = kept; names = refl; ahead = λ j le. refl; before = none_yet (names_in first) (seats_in first) m none; each = ap (map as_actor) none; counted = is }

module _ (first now : Seats Actor Request) (count i : ℕ) (m : List (Name × Box Actor)) (g : IsGathered first now count i m) (was : AreSeats first) (lt : i < count) where
  pub gathered_known : i < length (seats_in now)
  gathered_known = omega (arith, lt, g.counted, was.same, g.kept.same, ap length g.names)

  gathered_name : (n : Name) × (slice_get (names_in first) i ≡ Some n)
  gathered_name =
      let n = name_within (names_in first) i (omega (arith, lt, g.counted, was.same)) in
      (n.0, sym (name_got (names_in first) i) ∙ n.1)

  pub gathered_more : (then : Seats Actor Request) (new : List (Name × Box Actor)) → AreApart (names_in first) → AreSeats then → names_in then ≡ names_in now → OthersStay i (seats_in now) (seats_in then)
      → ((n : Name) → slice_get (names_in now) i ≡ Some n → IsBrought n (seat_at now i) m new) → IsGathered first then count (i + 1) new
  gathered_more then new apart kept names others brought =
      let n = gathered_name in
      let next : suc i ≡ i + 1 = omega arith in
      let named : slice_get (names_in now) i ≡ Some n.0 = ap (λ ns. slice_get ns i) g.names ∙ n.1 in
      let here : IsBrought n.0 (slice_get (seats_in first) i) m new = subst (λ o. IsBrought n.0 o m new) (g.ahead i (omega arith)) (brought n.0 named) in
      record {
        kept = kept;
        names = names ∙ g.names;
        ahead = λ j le. others j (λ same. absurd (omega (arith, le, same))) ∙ g.ahead j (omega (arith, le));
        before = subst (λ k. AreBefore (names_in first) (seats_in first) k (held_in new)) (omega arith) (one_before (names_in first) apart (seats_in first) i m new g.before n.0 n.1 here);
        each = subst (λ k. map as_actor new ≡ who_is_in (take k (names_in first)) (take k (seats_in first))) next (each_more (names_in first) (seats_in first) i m new n.0 was.same (omega (arith, lt, g.counted)) n.1 g.each here);
        counted = g.counted;
      }
