-- Activities that get their seats, one after the other, and the core that they make.
use Rattle.std.proofs.Common.{◌≡◌, ◌≢◌, ◌∙◌, ◌+◌, ◌<◌, ◌≤◌, ◌++◌, ◌∷◌, [], ℕ, zero, suc, List, Option, Some, None, length, map, slice_get, refl, sym, ap, subst, arith}
use Rattle.std.proofs.lemmas.List.{length-append, length-map, map-append}
use Rattle.std.specs.Global.{Box}
use Rattle.std.specs.List.{AllByRecursion}
use Rattle.asp_model.specs.Configuration as model
use Rattle.asp_model.specs.Configuration.{Configuration, RequestShape, requests_of}
use Rattle.asp_model.specs.History.{FirstShape, HistoryShape}
use Rattle.asp_model.specs.Names.{Name}
use Rattle.asp_model.specs.Step.{name_at}
use Rattle.asp_model.specs.Term.{Tree}
use Rattle.asp_model.specs.declared.name.FutureName.{FutureName}
use Rattle.def_journals.specs.Journals.{RunShape, run_from}
use Rattle.law_chases.proofs.FutureLemmas.{no_some, some_is}
use Rattle.code_table.specs.declared.cells.Parcel.{Parcel}
use Rattle.code_table.specs.declared.code.Node.{Node}
use Rattle.future_table.specs.Values.{AreOfCode, values_of}
use Rattle.step_reads.specs.Values.{AreClosedValues}
use Rattle.step_activity.specs.declared.actor.Actor.{Actor}
use Rattle.step_activity.specs.Actors.{IsClosedFor, Stands}
use Rattle.law_core.specs.Ranked.{rank_in, rank_of}
use Rattle.law_core.specs.Runs.{rank_named}
use Rattle.core_ranks.specs.Ranks.{IsRanked, RankShape, Rests}
use Rattle.request_queue.specs.declared.request.Request.{Request}
use Rattle.core_seats.specs.Seats.{In, SeatShape, seat_at, seats_in}
use Rattle.core_state.specs.Journal.{entries_in, room}
use Rattle.core_state.specs.declared.state.CoreState.{CoreState}
use Rattle.core_state.specs.Cores.{IsCore, IsSeated, count_in}
use Rattle.core_state.proofs.ComeBackLemmas.{all_at}
use Rattle.core_state.proofs.ListLemmas.{name_got, number_case}
use Rattle.core_thaws.specs.Seating.{AreSeated, IsSeatedBy}
use Rattle.core_thaws.specs.Telling.{AreApart}
use Rattle.core_thaws.specs.Thawed.{AreThawed, IsThawed, MayGoOn, MayGoOnSomehow, resumed_history}

abbrev pub Entry : Type 0
Entry = Name × Box Actor

abbrev pub name_in : Entry → Name
name_in e = e.0

abbrev pub seat_in : Entry → SeatShape Actor Request
seat_in e = In e.1.value

-- Lists by numbers

module _ {A : Type 0} where
  within : (xs : List A) (k : ℕ) (x : A) → slice_get xs k ≡ Some x → k < length xs
  within [] k x at = no_some at
  within (y ∷ xs) zero x at = omega arith
  within (y ∷ xs) (suc k) x at = omega (arith, within xs k x at)

  in_front : (xs ys : List A) (k : ℕ) → k < length xs → slice_get (xs ++ ys) k ≡ slice_get xs k
  in_front [] ys k lt = absurd (omega (arith, lt))
  in_front (x ∷ xs) ys zero lt = refl
  in_front (x ∷ xs) ys (suc k) lt = in_front xs ys k (omega (arith, lt))

  in_middle : (xs ys : List A) (y : A) → slice_get (xs ++ y ∷ ys) (length xs) ≡ Some y
  in_middle [] ys y = refl
  in_middle (x ∷ xs) ys y = in_middle xs ys y

  all_got : (P : A → Type 0) (xs : List A) (k : ℕ) (x : A) → slice_get xs k ≡ Some x → AllByRecursion P xs → P x
  all_got P [] k x at all = no_some at
  all_got P (y ∷ xs) zero x at all = subst P (some_is at) all.0
  all_got P (y ∷ xs) (suc k) x at all = all_got P xs k x at all.1

  -- one of a list that grew is the last one, or was there
  last_or_before : {C : Type 0} (xs : List A) (y x : A) (k : ℕ) → slice_get (xs ++ y ∷ []) k ≡ Some x → (k ≡ length xs → y ≡ x → C) → (k < length xs → slice_get xs k ≡ Some x → C) → C
  last_or_before xs y x k at last before =
      number_case k (length xs)
      (λ same. last same (some_is (sym (in_middle xs [] y) ∙ ap (slice_get (xs ++ y ∷ [])) (sym same) ∙ at)))
      (λ apart.
      let lt : k < length xs = omega (arith, apart, within (xs ++ y ∷ []) k x at, length-append-one xs y) in
      before lt (sym (in_front xs (y ∷ []) k lt) ∙ at))
    where
      length-append-one : (xs : List A) (y : A) → length (xs ++ y ∷ []) ≡ suc (length xs)
      length-append-one [] y = refl
      length-append-one (x ∷ xs) y = ap suc (length-append-one xs y)

-- what is mapped stands at the same number
got_mapped : {A B : Type 0} (f : A → B) (xs : List A) (k : ℕ) (x : A) → slice_get xs k ≡ Some x → slice_get (map f xs) k ≡ Some (f x)
got_mapped f [] k x at = no_some at
got_mapped f (y ∷ xs) zero x at = ap (λ z. Some (f z)) (some_is at)
got_mapped f (y ∷ xs) (suc k) x at = got_mapped f xs k x at

-- an entry by its name's number
named_entry : (es : List Entry) (k : ℕ) (n : Name) → name_at (map name_in es) k ≡ Some n → (e : Entry) × (slice_get es k ≡ Some e) × (e.0 ≡ n)
named_entry [] k n at = no_some at
named_entry (e ∷ es) zero n at = (e, refl, some_is at)
named_entry (e ∷ es) (suc k) n at = named_entry es k n at

unnamed_past : (es : List Entry) (k : ℕ) → name_at (map name_in es) k ≡ None → length es ≤ k
unnamed_past [] k at = omega arith
unnamed_past (e ∷ es) zero at = no_some (sym at)
unnamed_past (e ∷ es) (suc k) at = omega (arith, unnamed_past es k at)

-- A configuration in which a run may go on

module _ (code : List Node) (x : FirstShape) (budget : ℕ) (es : List Entry) (filled : List (FutureName × Parcel)) (may : MayGoOn code x budget es filled) where
  abbrev c : Configuration
  c = x.configuration

  pub thawed_one : (done rest : List Entry) (e : Entry) → done ++ e ∷ rest ≡ es → IsThawed code c e.0 e.1.value
  thawed_one done rest e all = all_at (λ (e : Entry). IsThawed code c e.0 e.1.value) done rest e (subst (AreThawed code c) (sym all) may.stand)

  pub closed_one : (done rest : List Entry) (e : Entry) → done ++ e ∷ rest ≡ es → IsClosedFor e.1.value
  closed_one done rest e all =
      let is = thawed_one done rest e all in
      record {
        activity = is.activity;
        received = requests_of c e.0;
        stands = is.stands;
        closed = may.whole.closed.activities e.0 is.activity is.there;
        arguments = may.whole.closed.arguments e.0;
      }

  pub values_closed : AreClosedValues (values_of filled)
  values_closed = subst AreClosedValues (sym may.futures) may.whole.closed.values

  -- no two have one name
  pub apart_names : (i k : ℕ) (n : Name) → slice_get (map name_in es) i ≡ Some n → slice_get (map name_in es) k ≡ Some n → i ≡ k
  apart_names i k n at is =
      may.first.numbered.apart i k n (name_got x.names i ∙ ap (λ ns. slice_get ns i) (sym may.names) ∙ at)
      (name_got x.names k ∙ ap (λ ns. slice_get ns k) (sym may.names) ∙ is)

  pub apart_entries : AreApart es
  apart_entries i k e d at is same = apart_names i k e.0 (got_mapped name_in es i e at) (got_mapped name_in es k d is ∙ ap Some (sym same))

  -- the next one has a name that nobody has
  pub name_new : (done rest : List Entry) (e : Entry) → done ++ e ∷ rest ≡ es → (ns : List Name) → ns ≡ map name_in done → (k : ℕ) → slice_get ns k ≢ Some e.0
  name_new done rest e all ns is k at =
      let names : map name_in done ++ e.0 ∷ map name_in rest ≡ map name_in es = sym (map-append name_in done (e ∷ rest)) ∙ ap (map name_in) all in
      let here : slice_get (map name_in done) k ≡ Some e.0 = ap (λ ms. slice_get ms k) (sym is) ∙ at in
      let lt : k < length (map name_in done) = within (map name_in done) k e.0 here in
      let same : k ≡ length (map name_in done) = apart_names k (length (map name_in done)) e.0
      (ap (λ ms. slice_get ms k) (sym names) ∙ in_front (map name_in done) (e.0 ∷ map name_in rest) k lt ∙ here)
      (ap (λ ms. slice_get ms (length (map name_in done))) (sym names) ∙ in_middle (map name_in done) (map name_in rest) e.0) in
      omega (arith, lt, same)

-- One more

seats_done : (filled : List (FutureName × Parcel)) (budget more : ℕ) (done : List Entry) (y : CoreState) → AreSeated filled budget more done y → length (seats_in y.seats) ≡ length done
seats_done filled budget more done y s = ap length s.seats ∙ length-map done seat_in

pub rests_next : (filled : List (FutureName × Parcel)) (budget more : ℕ) (done : List Entry) (y : CoreState) → AreSeated filled budget more done y → IsRanked y.ranks (length (seats_in y.seats)) Rests
rests_next filled budget more done y s = s.rests (length (seats_in y.seats)) (omega (arith, seats_done filled budget more done y s))

pub seated_more : (filled : List (FutureName × Parcel)) (budget more : ℕ) (done : List Entry) (e : Entry) (y z : CoreState) → AreSeated filled budget more done y → IsSeatedBy e.0 e.1.value y z → AreSeated filled budget more (done ++ e ∷ []) z
seated_more filled budget more done e y z s by = record {
  kept = by.kept;
  names = by.names ∙ ap (λ ns. ns ++ e.0 ∷ []) s.names ∙ sym (map-append name_in done (e ∷ []));
  seats = by.seats ∙ ap (λ (xs : List (SeatShape Actor Request)). xs ++ In e.1.value ∷ []) s.seats ∙ sym (map-append seat_in done (e ∷ []));
  ranked = ranked;
  rests = λ k le. by.others k Rests (λ same. not_next k le same) (s.rests k (omega (arith, le, longer)));
  futures = by.futures ∙ s.futures;
  entries = ap (λ j. entries_in j) by.journal ∙ s.entries;
  left = by.left ∙ s.left;
  bursts = by.bursts ∙ s.bursts;
  room = subst (λ j. more ≤ room j) (sym by.journal) s.room;
}
  where
    count : length (seats_in y.seats) ≡ length done
    count = seats_done filled budget more done y s

    longer : length (done ++ e ∷ []) ≡ length done + 1
    longer = length-append done (e ∷ [])

    not_next : (k : ℕ) → length (done ++ e ∷ []) ≤ k → k ≡ length (seats_in y.seats) → ⊥
    not_next k le same = omega (arith, le, same, count, longer)

    ranked : (k : ℕ) (d : Entry) (b : model.Activity) (rs : List RequestShape) → slice_get (done ++ e ∷ []) k ≡ Some d → Stands d.1.value b rs → IsRanked z.ranks k (rank_of (values_of filled) rs d.0 b)
    ranked k d b rs at stands =
        last_or_before done e d k at
        (λ same is.
        let told : IsRanked z.ranks (length (seats_in y.seats)) (rank_of (values_of y.futures) rs e.0 b) = by.here b rs (subst (λ (q : Entry). Stands q.1.value b rs) (sym is) stands) in
        subst (λ (q : Entry). IsRanked z.ranks k (rank_of (values_of filled) rs q.0 b)) is
        (subst (λ fs. IsRanked z.ranks k (rank_of (values_of fs) rs e.0 b)) s.futures
        (subst (λ i. IsRanked z.ranks i (rank_of (values_of y.futures) rs e.0 b)) (count ∙ sym same) told)))
        (λ lt was. by.others k (rank_of (values_of filled) rs d.0 b) (λ same. omega (arith, lt, same, count)) (s.ranked k d b rs was stands))

-- All

module _ (code : List Node) (program : Tree) (x : FirstShape) (budget more : ℕ) (es : List Entry) (filled : List (FutureName × Parcel)) (may : MayGoOn code x budget es filled)
    (y : CoreState) (s : AreSeated filled budget more es y) (some : more ≡ length es) where
  abbrev run : RunShape
  run = run_from x budget

  abbrev history : HistoryShape
  history = resumed_history program x budget

  entry_of : (k : ℕ) (n : Name) → name_at x.names k ≡ Some n → (e : Entry) × (slice_get es k ≡ Some e) × (e.0 ≡ n)
  entry_of k n named = named_entry es k n (ap (λ ns. name_at ns k) may.names ∙ named)

  thawed_at : (k : ℕ) (n : Name) (e : Entry) → slice_get es k ≡ Some e → e.0 ≡ n → IsThawed code x.configuration n e.1.value
  thawed_at k n e at is = subst (λ m. IsThawed code x.configuration m e.1.value) is (all_got (λ (e : Entry). IsThawed code x.configuration e.0 e.1.value) es k e at may.stand)

  seated : (k : ℕ) (n : Name) → name_at x.names k ≡ Some n → IsSeated history code run k n (seat_at y.seats k)
  seated k n named =
      let e = entry_of k n named in
      let is = thawed_at k n e.0 e.1 e.2 in
      let seat : seat_at y.seats k ≡ Some (In e.0.1.value) = ap (λ (xs : List (SeatShape Actor Request)). slice_get xs k) s.seats ∙ got_mapped seat_in es k e.0 e.1 in
      subst (IsSeated history code run k n) (sym seat)
      (record { free = refl; activity = is.activity; there = is.there; stands = is.stands; logged = is.logged; coded = is.coded })

  ranked_named : (k : ℕ) (o : Option Name) → name_at x.names k ≡ o → IsRanked y.ranks k (rank_named run k o)
  ranked_named k None none = s.rests k (unnamed_past es k (ap (λ ns. name_at ns k) may.names ∙ none))
  ranked_named k (Some n) named =
      let e = entry_of k n named in
      let is = thawed_at k n e.0 e.1 e.2 in
      let told : IsRanked y.ranks k (rank_of (values_of filled) (requests_of x.configuration n) e.0.0 is.activity) = s.ranked k e.0 is.activity (requests_of x.configuration n) e.1 is.stands in
      let rank : RankShape = rank_of x.configuration.futures (requests_of x.configuration n) n is.activity in
      let here : rank ≡ rank_in x.configuration n =
      sym (ap (λ (o : Option model.Activity). elim o as (λ q. RankShape) [ None ↦ Rests | Some a ↦ rank_of x.configuration.futures (requests_of x.configuration n) n a ]) is.there) in
      subst (IsRanked y.ranks k) here
      (subst (λ m. IsRanked y.ranks k (rank_of x.configuration.futures (requests_of x.configuration n) m is.activity)) e.2
      (subst (λ vs. IsRanked y.ranks k (rank_of vs (requests_of x.configuration n) e.0.0 is.activity)) may.futures told))

  counted : (xs : List Entry) → count_in (map seat_in xs) ≡ length xs
  counted [] = refl
  counted (e ∷ xs) = ap suc (counted xs)

  pub goes_on : IsCore history code y run
  goes_on = record {
    first = may.first;
    whole = may.whole;
    numbered = record { apart = may.first.numbered.apart; there = may.first.numbered.there; numbered = may.first.numbered.numbered };
    small = may.small;
    run = refl;
    entries = s.entries;
    populated = record {
      kept = s.kept;
      names = s.names ∙ may.names;
      seats = seated;
      named_out = λ k none. refl;
      futures = ap values_of s.futures ∙ may.futures;
      values = subst (AreOfCode code) (sym s.futures) may.values;
    };
    ranks = λ k. ranked_named k (name_at x.names k) refl;
    left = s.left;
    bursts = s.bursts;
    room = subst (λ (xs : List (SeatShape Actor Request)). count_in xs ≤ room y.journal) (sym s.seats) (omega (arith, counted es, some, s.room));
  }

-- From nobody on

module _ (filled : List (FutureName × Parcel)) (budget most : ℕ) (es : List Entry) (y : CoreState) where
  pub may_seat : AreSeated filled budget most [] y → MayGoOnSomehow budget es filled → MayGoOnSomehow y.left es y.futures
  may_seat none may = subst (λ fs. MayGoOnSomehow y.left es fs) (sym none.futures) (subst (λ b. MayGoOnSomehow b es filled) (sym none.left) may)

  pub none_seated : most ≡ length es → AreSeated filled budget most [] y → AreSeated y.futures y.left (length es) [] y
  none_seated is none = subst (λ fs. AreSeated fs y.left (length es) [] y) (sym none.futures) (subst (λ b. AreSeated filled b (length es) [] y) (sym none.left) (subst (λ n. AreSeated filled budget n [] y) is none))

  pub seated_with : (z : CoreState) → AreSeated filled budget most [] y → AreSeated y.futures y.left (length es) es z → AreSeated filled budget (length es) es z
  seated_with z none s = subst (λ fs. AreSeated fs budget (length es) es z) none.futures (subst (λ b. AreSeated y.futures b (length es) es z) none.left s)
