-- A core that is taken apart has the parts of its run's configuration.
use Rattle.std.proofs.Common.{◌≡◌, ◌∙◌, ◌<◌, ◌++◌, [], ◌∷◌, ℕ, zero, suc, Bool, true, false, cond, List, Option, Some, None, length, map, drop, take, refl, sym, ap, subst, slice_get, arith}
use Rattle.std.specs.Prelude.{set}
use Rattle.std.specs.Arc.{arc_value}
use Rattle.std.specs.FinMap.{find}
use Rattle.std.specs.FinMap.Entries.{find-put, same_entries}
use Rattle.std.specs.Global.{Box}
use Rattle.std.specs.List.{AllZip}
use Rattle.std.proofs.lemmas.List.{append-nil, drop_all, take_all}
use Rattle.asp_model.specs.Configuration.{Configuration}
use Rattle.asp_model.specs.History.{HistoryShape}
use Rattle.asp_model.specs.Names.{FutureShape, Name, future_cmp, same_future}
use Rattle.asp_model.specs.Step.{name_at}
use Rattle.def_journals.specs.Edges.{HoldersShape, first_holders, home_of, homes_in}
use Rattle.def_journals.specs.Journals.{RunShape, grant_of}
use Rattle.def_journals.specs.Passing.{holders_of}
use Rattle.law_chases.proofs.FutureLemmas.{future_same, future_total, no_some}
use Rattle.law_journals.specs.Runs.{AreHoldersOf}
use Rattle.law_journals.proofs.RunLemmas.{first_holders_are, holders_are_of_runs}
use Rattle.law_frozen.specs.Frozen.{in_order}
use Rattle.law_frozen.proofs.FrozenLemmas.{ordered_is}
use Rattle.code_table.specs.declared.code.Node.{Node}
use Rattle.future_table.specs.Values.{AreOfCode, values_of}
use Rattle.future_update.specs.Holders.{AreHomes, home_shape}
use Rattle.request_queue.specs.declared.request.Request.{Request}
use Rattle.core_seats.specs.Seats.{In, SeatShape, is_in, names_in, seat_at, seats_in}
use Rattle.core_state.specs.declared.state.CoreState.{CoreState}
use Rattle.core_state.specs.Cores.{IsHere}
use Rattle.core_state.proofs.LendLemmas.{is_here}
use Rattle.core_state.proofs.ListLemmas.{name_got, name_within}
use Rattle.step_activity.specs.declared.actor.Actor.{Actor}
use Rattle.asp_core.specs.declared.freezing.Frozen.{Frozen}
use Rattle.asp_core.specs.Frozen.{AreFrozenIn, AreSettledFrom, IsFrozenAt, IsStill, KeepsEntry, StandsIn, first_of}
use Rattle.asp_core.specs.Gathering.{AreApart, who_is_in}
use Rattle.asp_core.proofs.GatheredLemmas.{all_named, of_each}

abbrev Entry : Type 0
Entry = Name × Box Actor

-- Activities that settle

keeps_itself : (e : Entry) → KeepsEntry e e
keeps_itself e = (refl, record { stands = λ a rs h. h; logged = refl; coded = refl })

keeps_on : (d e f : Entry) → KeepsEntry d e → KeepsEntry e f → KeepsEntry d f
keeps_on d e f h k = (k.0 ∙ h.0, record { stands = λ a rs s. k.1.stands a rs (h.1.stands a rs s); logged = k.1.logged ∙ h.1.logged; coded = k.1.coded ∙ h.1.coded })

pub keep_all : (es : List Entry) → AllZip KeepsEntry es es
keep_all [] = tt
keep_all (e ∷ es) = (keeps_itself e, keep_all es)

-- one more has settled
pub keep_more : (es fs : List Entry) (i : ℕ) (e f : Entry) → slice_get fs i ≡ Some e → KeepsEntry e f → AllZip KeepsEntry es fs → AllZip KeepsEntry es (set fs i f)
keep_more [] [] i e f at k all = no_some at
keep_more [] (y ∷ fs) i e f at k all = absurd all
keep_more (x ∷ es) [] i e f at k all = absurd all
keep_more (x ∷ es) (y ∷ fs) zero e f at k all = (keeps_on x y f all.0 (subst (λ d. KeepsEntry d f) (sym (front at)) k), all.1)
  where
    front : Some y ≡ Some e → y ≡ e
    front is = ap (λ (o : Option Entry). elim o [ None ↦ y | Some z ↦ z ]) is
keep_more (x ∷ es) (y ∷ fs) (suc i) e f at k all = (all.0, keep_more es fs i e f at k all.1)

-- what is written back into a list of the same length is what was written
pub written : (es fs : List Entry) (n : ℕ) → length fs ≡ length es → n ≡ length es → take n (fs ++ drop (length fs) es) ≡ fs
written es fs n same long =
    ap (λ gs. take n (fs ++ gs)) (drop_all (length fs) es (omega (arith, same))) ∙ ap (take n) (append-nil fs) ∙ take_all n fs (omega (arith, same, long))

names_kept : (es fs : List Entry) → AllZip KeepsEntry es fs → map (λ (e : Entry). e.0) fs ≡ map (λ (e : Entry). e.0) es
names_kept [] [] all = refl
names_kept [] (f ∷ fs) all = absurd all
names_kept (e ∷ es) [] all = absurd all
names_kept (e ∷ es) (f ∷ fs) all = λ i. all.0.0 i ∷ names_kept es fs all.1 i

module _ (code : List Node) (c : Configuration) where
  frozen_on : (e f : Entry) → KeepsEntry e f → IsFrozenAt code c e.0 e.1.value → IsFrozenAt code c f.0 f.1.value
  frozen_on e f keeps is = subst (λ n. IsFrozenAt code c n f.1.value) (sym keeps.0) (record {
    activity = is.activity;
    there = is.there;
    stands = keeps.1.stands is.activity _ is.stands;
    logged = keeps.1.logged ∙ is.logged;
    coded = keeps.1.coded ∙ is.coded;
  })

  all_frozen : (es fs : List Entry) → AllZip KeepsEntry es fs → AreFrozenIn code c es → AreFrozenIn code c fs
  all_frozen [] [] keeps all = tt
  all_frozen [] (f ∷ fs) keeps all = absurd keeps
  all_frozen (e ∷ es) [] keeps all = absurd keeps
  all_frozen (e ∷ es) (f ∷ fs) keeps all = (frozen_on e f keeps.0 all.0, all_frozen es fs keeps.1 all.1)

-- Homes

-- homes in order are found as they are looked up
homes_found : (f : FutureShape) (xs : List (FutureShape × Name)) → find future_cmp f (in_order future_cmp xs) ≡ home_of f xs
homes_found f [] = refl
homes_found f (x ∷ xs) = find-put future_cmp future_total f x.0 x.1 (in_order future_cmp xs) ∙ by (same_future f x.0) (homes_found f xs)
  where
    by : (b : Bool) → find future_cmp f (in_order future_cmp xs) ≡ home_of f xs → cond b (Some x.1) (find future_cmp f (in_order future_cmp xs)) ≡ elim b [ true ↦ Some x.1 | false ↦ home_of f xs ]
    by true h = refl
    by false h = h

-- one configuration has the same homes by any holders
same_home : (c : Configuration) (h k : HoldersShape) → AreHoldersOf c h → AreHoldersOf c k → (f : FutureShape) → home_of f h.homes ≡ home_of f k.homes
same_home c h k left right f = by (home_of f h.homes) (home_of f k.homes) refl refl
  where
    goes : (h k : HoldersShape) → AreHoldersOf c h → AreHoldersOf c k → (m : Name) → home_of f h.homes ≡ Some m → home_of f k.homes ≡ Some m
    goes h k left right m is =
        let on = left.homes f m is in
        subst (λ g. home_of g k.homes ≡ Some m) on.3 (right.requests m on.0 on.1 on.2)

    by : (a b : Option Name) → home_of f h.homes ≡ a → home_of f k.homes ≡ b → home_of f h.homes ≡ home_of f k.homes
    by (Some m) b is other = is ∙ sym (goes h k left right m is)
    by None (Some m) is other = no_some (sym is ∙ goes k h right left m other)
    by None None is other = is ∙ sym other

pub homes_are : (h : HistoryShape) (code : List Node) (x : CoreState) (s : RunShape) → IsStill h code x s → (es : List (FutureShape × Name)) → AreHomes (holders_of h).homes es → es ≡ in_order future_cmp (homes_in s.configuration)
homes_are h code x s still es homes =
    let c = s.configuration in
    let core = still.core in
    let same = same_home c (holders_of h) (first_holders c) (holders_are_of_runs h s core.first.sound core.run) (first_holders_are c core.whole.sound) in
    same_entries future_cmp future_total future_same es (in_order future_cmp (homes_in c)) homes.ascending (ordered_is future_cmp future_total future_same (homes_in c))
    (λ f. homes.found f ∙ same f ∙ sym (homes_found f (homes_in c)))

-- A core in which nobody is out

module _ (h : HistoryShape) (code : List Node) (x : CoreState) (s : RunShape) (still : IsStill h code x s) where
  named_so : (k : ℕ) (n : Name) → slice_get (names_in x.seats) k ≡ Some n → name_at s.names k ≡ Some n
  named_so k n at = ap (λ ns. name_at ns k) (sym still.core.populated.names) ∙ name_got (names_in x.seats) k ∙ at

  pub apart_still : AreApart (names_in x.seats)
  apart_still i k n at is = still.core.numbered.apart i k n (named_so i n at) (named_so k n is)

  here : (k : ℕ) (n : Name) → name_at s.names k ≡ Some n → (a : Actor) × (seat_at x.seats k ≡ Some (In a)) × IsHere code s k n a
  here k n named = is_here h code x s still.core k n named (ap (grant_of k) still.back)

  home : (k : ℕ) → k < length (seats_in x.seats) → is_in (seat_at x.seats k) ≡ true
  home k lt =
      let n = name_within (names_in x.seats) k (omega (arith, lt, still.core.populated.kept.same)) in
      ap is_in (here k n.0 (ap (λ ns. name_at ns k) (sym still.core.populated.names) ∙ n.1)).1

  frozen_here : (k : ℕ) (n : Name) (a : Actor) → slice_get (names_in x.seats) k ≡ Some n → slice_get (seats_in x.seats) k ≡ Some (In a) → IsFrozenAt code s.configuration n a
  frozen_here k n a at seat =
      let there = here k n (named_so k n at) in
      let same : there.0 ≡ a = ap (λ (o : Option (SeatShape Actor Request)). actor_in a o) (sym there.1 ∙ seat) in
      let is = there.2 in
      subst (IsFrozenAt code s.configuration n) same (record { activity = is.activity; there = is.there; stands = is.stands; logged = is.logged; coded = is.coded })
    where
      actor_in : Actor → Option (SeatShape Actor Request) → Actor
      actor_in d (Some (In b)) = b
      actor_in d o = d

  pub stands_in : (y : Frozen) → y.futures ≡ x.futures → arc_value y.code ≡ code → AreHomes (holders_of h).homes (map home_shape y.homes.items) → AreSettledFrom (who_is_in (names_in x.seats) (seats_in x.seats)) y.activities.items → StandsIn y (first_of s)
  stands_in y futures coded homes settled =
      let p = still.core.populated in
      let was = settled.0 in
      record {
        homes = homes_are h code x s still (map home_shape y.homes.items) homes;
        futures = ap values_of futures ∙ p.futures;
        values = subst (λ fs. AreOfCode (arc_value y.code) fs) (sym futures) (subst (λ k. AreOfCode k x.futures) (sym coded) p.values);
        names = names_kept was y.activities.items settled.2 ∙ all_named (names_in x.seats) (seats_in x.seats) was settled.1 p.kept.same home ∙ p.names;
        activities = subst (λ k. AreFrozenIn k s.configuration y.activities.items) (sym coded)
            (all_frozen code s.configuration was y.activities.items settled.2 (of_each (IsFrozenAt code s.configuration) (names_in x.seats) (seats_in x.seats) was settled.1 frozen_here));
      }
