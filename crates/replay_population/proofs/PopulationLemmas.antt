-- What the changes of a population leave of it.
use Rattle.std.proofs.Common.{◌≡◌, ◌≢◌, ◌⊎◌, ◌<◌, ◌≤◌, ◌∷◌, ◌++◌, [], true, false, List, Option, Some, None, Ok, Err, Result, IfOk, OnOk, length, set, slice_get, zero, suc, map, refl, sym, ap, subst, ◌∙◌, ⊎_elim, inl, inr, ℕ, ◌+◌, arith}
use Rattle.std.proofs.lemmas.Bool.{cases_lt}
use Rattle.std.proofs.lemmas.Map.{update_all_push, update_other, update_same}
use Rattle.std.specs.FinMap.{find, put}
use Rattle.std.specs.Map.{lookup, update_all}
use Rattle.std.specs.BTreeMap as trees
use Rattle.std.specs.BTreeMap.{BTreeMap, is_at}
use Rattle.std.specs.Global.{Box}
use Rattle.asp_model.specs.declared.name.FutureName.{FutureName}
use Rattle.asp_model.specs.Names.{Name, FutureShape, name_cmp, future_cmp, same_name}
use Rattle.asp_model.specs.Parcel.{ParcelShape}
use Rattle.asp_model.specs.Chase.{Values, chase}
use Rattle.asp_model.specs.Configuration as model
use Rattle.asp_model.specs.Configuration.{Configuration, From, Poll, ReceptionShape, RequestShape, log_of, requests_of, or_none}
use Rattle.asp_model.specs.Intent.{Effect, Acts, intent}
use Rattle.asp_model.specs.Shapes.{future_shape}
use Rattle.asp_model.specs.Step.{intent_in}
use Rattle.code_table.specs.declared.cells.Parcel.{Parcel}
use Rattle.code_table.specs.Shapes.{parcel_shape}
use Rattle.future_table.specs.Values.{AreOfCode, values_of}
use Rattle.law_steps.specs.Reached.{IsThere}
use Rattle.law_steps.proofs.LinkedLemmas.{acting}
use Rattle.law_chases.proofs.MapLemmas.{find_same, find_other}
use Rattle.law_steps.proofs.NameLemmas.{name_total, name_same, name_case, name_itself, names_apart, is_there}
use Rattle.law_chases.proofs.FutureLemmas.{no_some, some_is}
use Rattle.code_table.specs.declared.code.Node.{Node}
use Rattle.step_reads.specs.Values.{AreClosedValues}
use Rattle.step_activity.specs.declared.actor.Actor.{Actor}
use Rattle.step_activity.specs.declared.act.Given.{Given}
use Rattle.step_activity.specs.declared.act.Given.TheVariants as given
use Rattle.step_activity.specs.Effects.{IsDoneBy, IsGiven, IsGivenOf, IsLogAfter}
use Rattle.step_activity.specs.Actors.{IsClosedFor, Stands, code_of, log_in}
use Rattle.replay_population.specs.declared.population.Population.{Population}
use Rattle.std.specs.Ordering.{is_eq, nat_cmp}
use Rattle.std.specs.FinMap.{nat_cmp-IsAntisymmetric}
use Rattle.std.specs.declared.cmp.Ordering.TheVariants.{Equal}
use Rattle.asp_model.specs.Order.{equal_order}
use Rattle.def_journals.specs.Journals.{number_of}
use Rattle.replay_parts.specs.Roster.{IsEntered, IsRoster}
use Rattle.replay_population.specs.Population.{AreActorsOf, IsClosedPopulation, IsGivenIn, IsPassing, IsPopulation, IsSet, KeepsPassed, at_number, found_in, passed_in, seat_at, seated, unboxed, with_activity, with_poll, with_request, with_value}
use Rattle.replay_parts.proofs.ColumnLemmas.{number_case}
use Rattle.replay_parts.proofs.RosterLemmas.{number_within, one_name, other_number}
use Rattle.step_ends.specs.Activities.{StandsAt}

abbrev pub Named : Type 0
Named = List (Name × Box Actor)

-- What stands at a name

pub stands_as : (x : Actor) (p : Option model.Activity) (rs : List RequestShape) → StandsAt (Some x) p rs → (a : model.Activity) × (p ≡ Some a) × Stands x a rs
stands_as x None rs h = absurd h
stands_as x (Some a) rs h = (a, refl, h)

stands_here : (o : Option Actor) (p : Option model.Activity) (rs : List RequestShape) (x : Actor) (a : model.Activity) → o ≡ Some x → p ≡ Some a → Stands x a rs → StandsAt o p rs
stands_here o p rs x a e f h = subst (λ q. StandsAt q p rs) (sym e) (subst (λ q. StandsAt (Some x) q rs) (sym f) h)

stands_still : (o o' : Option Actor) (p p' : Option model.Activity) (rs rs' : List RequestShape) → o' ≡ o → p' ≡ p → rs' ≡ rs → StandsAt o p rs → StandsAt o' p' rs'
stands_still o o' p p' rs rs' e f g h = subst (λ q. StandsAt q p' rs') (sym e) (subst (λ q. StandsAt o q rs') (sym f) (subst (λ q. StandsAt o p q) (sym g) h))

-- an activity of the population is one of the configuration
pub found_stands : (p : Population) (c : Configuration) (n : Name) (x : Actor) → IsPopulation p c → found_in p n ≡ Some x → (a : model.Activity) × (find name_cmp n c.activities ≡ Some a) × Stands x a (requests_of c n)
found_stands p c n x h e = stands_as x (find name_cmp n c.activities) (requests_of c n) (subst (λ o. StandsAt o (find name_cmp n c.activities) (requests_of c n)) e (h.activities n))

-- and one of the configuration is one of the population
pub there_found : (p : Population) (c : Configuration) (n : Name) (a : model.Activity) → IsPopulation p c → find name_cmp n c.activities ≡ Some a → (x : Actor) × (found_in p n ≡ Some x) × Stands x a (requests_of c n)
there_found p c n a h e = by (found_in p n) refl (subst (λ o. StandsAt (found_in p n) o (requests_of c n)) e (h.activities n))
  where
    by : (o : Option Actor) → found_in p n ≡ o → StandsAt o (Some a) (requests_of c n) → (x : Actor) × (found_in p n ≡ Some x) × Stands x a (requests_of c n)
    by None q s = absurd s
    by (Some x) q s = (x, q, s)

-- who is not one of the population is not one of the configuration
pub absent_there : (p : Population) (c : Configuration) (n : Name) → IsPopulation p c → found_in p n ≡ None → find name_cmp n c.activities ≡ None
absent_there p c n h e = by (find name_cmp n c.activities) (subst (λ o. StandsAt o (find name_cmp n c.activities) (requests_of c n)) e (h.activities n))
  where
    by : (o : Option model.Activity) → StandsAt None o (requests_of c n) → o ≡ None
    by None s = refl
    by (Some a) s = absurd s

-- Seats

-- who has the number of a name is found at the name
pub found_at : (p : Population) (n : Name) (k : ℕ) → number_of n p.roster ≡ Some k → found_in p n ≡ seat_at p.activities.items k
found_at p n k e = ap (λ o. at_number o (seat_at p.activities.items)) e

-- one is found at a name, and at the others who was
abbrev pub IsPut : Population → Population → Name → Actor → Type 0
IsPut p q n x = (found_in q n ≡ Some x) × ((m : Name) → m ≢ n → found_in q m ≡ found_in p m)

-- seats that are the same but for one number
others_found : (ns ms : List Name) (xs ys : List (Option (Box Actor))) (n m : Name) (k : ℕ) → number_of n ms ≡ Some k → number_of m ms ≡ number_of m ns → m ≢ n → ((j : ℕ) → j ≢ k → seat_at ys j ≡ seat_at xs j) → at_number (number_of m ms) (seat_at ys) ≡ at_number (number_of m ns) (seat_at xs)
others_found ns ms xs ys n m k here same d others = ap (λ o. at_number o (seat_at ys)) same ∙ by (number_of m ns) refl
  where
    by : (o : Option ℕ) → number_of m ns ≡ o → at_number o (seat_at ys) ≡ at_number o (seat_at xs)
    by None e = refl
    by (Some j) e = others j (other_number ms n m j k d (same ∙ e) here)

-- one is taken out, and one is put there
pub put_back : (p mid q : Population) (n : Name) (k : ℕ) (x : Actor) → number_of n p.roster ≡ Some k → IsSet p k None mid → IsSet mid k (Some x) q → IsPut p q n x
put_back p mid q n k x here out back =
    let roster : q.roster ≡ p.roster = ap (λ (r : Population). r.roster) back.same ∙ ap (λ (r : Population). r.roster) out.same in
    let now : number_of n q.roster ≡ Some k = ap (number_of n) roster ∙ here in (
      found_at q n k now ∙ back.here,
      λ m d. others_found p.roster q.roster p.activities.items q.activities.items n m k now (ap (number_of m) roster) d (λ j e. back.others j e ∙ out.others j e),
    )

-- one is changed in its seat
pub put_at : (p q : Population) (n : Name) (k : ℕ) (x : Actor) → number_of n p.roster ≡ Some k → IsSet p k (Some x) q → IsPut p q n x
put_at p q n k x here set =
    let roster : q.roster ≡ p.roster = ap (λ (r : Population). r.roster) set.same in
    let now : number_of n q.roster ≡ Some k = ap (number_of n) roster ∙ here in (
      found_at q n k now ∙ set.here,
      λ m d. others_found p.roster q.roster p.activities.items q.activities.items n m k now (ap (number_of m) roster) d set.others,
    )

set_here : {A : Type 0} (xs : List A) (k : ℕ) (x : A) → k < length xs → slice_get (set xs k x) k ≡ Some x
set_here [] k x lt = absurd (omega (arith, lt))
set_here (y ∷ ys) zero x lt = refl
set_here (y ∷ ys) (suc k) x lt = set_here ys k x (omega (arith, lt))

set_other : {A : Type 0} (xs : List A) (k j : ℕ) (x : A) → j ≢ k → slice_get (set xs k x) j ≡ slice_get xs j
set_other [] k j x ne = refl
set_other (y ∷ ys) zero zero x ne = absurd (ne refl)
set_other (y ∷ ys) zero (suc j) x ne = refl
set_other (y ∷ ys) (suc k) zero x ne = refl
set_other (y ∷ ys) (suc k) (suc j) x ne = set_other ys k j x (λ e. ne (ap suc e))

-- a seat is written
pub seat_set : (p q : Population) (k : ℕ) (y : Box Actor) → k < length p.activities.items → q ≡ record p { activities = q.activities } → q.activities.items ≡ set p.activities.items k (Some y) → IsSet p k (Some y.value) q
seat_set p q k y lt same items = record {
  same = same;
  here = ap (λ xs. seat_at xs k) items ∙ ap seated (set_here p.activities.items k (Some y) lt);
  others = λ j d. ap (λ xs. seat_at xs j) items ∙ ap seated (set_other p.activities.items k j (Some y) d);
}

pub roster_back : (p mid q : Population) (k : ℕ) (o r : Option Actor) → IsSet p k o mid → IsSet mid k r q → q.roster ≡ p.roster
roster_back p mid q k o r out back = ap (λ (r : Population). r.roster) back.same ∙ ap (λ (r : Population). r.roster) out.same

-- what is noted of members that are passed stays, where it and the names do
pub passed_same : (p q : Population) → q.roster ≡ p.roster → q.passed ≡ p.passed → KeepsPassed p q
passed_same p q roster same = λ m j e. sym (λ i. at_number (number_of m (roster i)) (λ k. lookup (is_at (nat_cmp k)) (same i).entries)) ∙ e

pub passed_back : (p mid q : Population) (k : ℕ) (o r : Option Actor) → IsSet p k o mid → IsSet mid k r q → KeepsPassed p q
passed_back p mid q k o r out back = passed_same p q (roster_back p mid q k o r out back) (ap (λ (r : Population). r.passed) back.same ∙ ap (λ (r : Population). r.passed) out.same)

pub futures_back : (p mid q : Population) (k : ℕ) (o r : Option Actor) → IsSet p k o mid → IsSet mid k r q → q.futures ≡ p.futures
futures_back p mid q k o r out back = ap (λ (r : Population). r.futures) back.same ∙ ap (λ (r : Population). r.futures) out.same

-- nobody was there to be taken out
pub seats_kept : (p q : Population) (c : Configuration) (k : ℕ) → IsSet p k None q → seat_at p.activities.items k ≡ None → IsPopulation p c → IsPopulation q c
seats_kept p q c k h none pop =
    let seats : (j : ℕ) → seat_at q.activities.items j ≡ seat_at p.activities.items j = λ j. ⊎_elim (λ e. ap (seat_at q.activities.items) e ∙ h.here ∙ sym none ∙ ap (seat_at p.activities.items) (sym e)) (λ d. h.others j d) (number_case j k) in
    let roster : q.roster ≡ p.roster = ap (λ (r : Population). r.roster) h.same in
    let found : (n : Name) → found_in q n ≡ found_in p n = λ n. ap (λ (ns : List Name). at_number (number_of n ns) (seat_at q.activities.items)) roster ∙ same_seats (number_of n p.roster) (seat_at q.activities.items) (seat_at p.activities.items) seats in
    let futures : q.futures ≡ p.futures = ap (λ (r : Population). r.futures) h.same in
    record {
      roster = subst IsRoster (sym roster) pop.roster;
      activities = λ n. subst (λ o. StandsAt o (find name_cmp n c.activities) (requests_of c n)) (sym (found n)) (pop.activities n);
      logs = λ n x is. pop.logs n x (sym (found n) ∙ is);
      futures = ap values_of futures ∙ pop.futures;
      code = pop.code;
      actors = λ n x is. pop.actors n x (sym (found n) ∙ is);
      values = subst (AreOfCode pop.code) (sym futures) pop.values;
    }
  where
    same_seats : (o : Option ℕ) (f g : ℕ → Option Actor) → ((j : ℕ) → f j ≡ g j) → at_number o f ≡ at_number o g
    same_seats None f g h = refl
    same_seats (Some k) f g h = h k

abbrev pub Passed : Type 0
Passed = BTreeMap ℕ ℕ

same_key : (j k : ℕ) → nat_cmp j k ≡ Equal → j ≡ k
same_key j k e = nat_cmp-IsAntisymmetric j k e

other_key : (j k : ℕ) → j ≢ k → is_at (nat_cmp k) j ≡ false
other_key j k d = elim (is_eq (nat_cmp k j)) as (λ b. is_eq (nat_cmp k j) ≡ b → b ≡ false) [ true ↦ λ e. absurd (d (sym (same_key k j (equal_order (nat_cmp k j) e)))) | false ↦ λ e. refl ] refl

-- of who is entered nothing is noted
pub passed_new : (p mid q : Population) (n : Name) (k : ℕ) (o : Option Actor) → IsEntered n k p.roster mid.roster → trees.UpdatesBy nat_cmp (nat_cmp k) p.passed mid.passed None → IsSet mid k o q → KeepsPassed p q
passed_new p mid q n k o entered u s m j e = ⊎_elim
    (λ same. no_some (sym u.1 ∙ sym (ap (λ i. at_number i (λ k. lookup (is_at (nat_cmp k)) mid.passed.entries)) (ap (λ (w : Name). number_of w mid.roster) same ∙ entered.number)) ∙ now))
    (λ apart. by (number_of m p.roster) refl (ap (λ i. at_number i (λ k. lookup (is_at (nat_cmp k)) mid.passed.entries)) (sym (entered.others m apart)) ∙ now) apart)
    (name_case m n)
  where
    now : at_number (number_of m mid.roster) (λ k. lookup (is_at (nat_cmp k)) mid.passed.entries) ≡ Some j
    now = sym (ap (λ r. passed_in r m) s.same) ∙ e

    by : (i : Option ℕ) → number_of m p.roster ≡ i → at_number i (λ k. lookup (is_at (nat_cmp k)) mid.passed.entries) ≡ Some j → m ≢ n → at_number i (λ k. lookup (is_at (nat_cmp k)) p.passed.entries) ≡ Some j
    by None is h d = no_some h
    by (Some i) is h d = sym (u.2 i (other_key i k (other_number mid.roster n m i k d (entered.others m d ∙ is) entered.number))) ∙ h

-- one is put at a name that is entered
pub put_new : (p mid q : Population) (n : Name) (k : ℕ) (x : Actor) → mid ≡ record p { roster = mid.roster; passed = mid.passed } → IsEntered n k p.roster mid.roster → IsSet mid k (Some x) q → IsPut p q n x
put_new p mid q n k x same entered back =
    let roster : q.roster ≡ mid.roster = ap (λ (r : Population). r.roster) back.same in
    let now : number_of n q.roster ≡ Some k = ap (number_of n) roster ∙ entered.number in
    let seats : (j : ℕ) → seat_at mid.activities.items j ≡ seat_at p.activities.items j = λ j. ap (λ (r : Population). seat_at r.activities.items j) same in (
      found_at q n k now ∙ back.here,
      λ m d. others_found p.roster q.roster p.activities.items q.activities.items n m k now (ap (number_of m) roster ∙ entered.others m d) d (λ j e. back.others j e ∙ seats j),
    )

-- Changes

others : (p q : Population) (n m : Name) (x : Actor) → IsPut p q n x → m ≢ n → found_in q m ≡ found_in p m
others p q n m x u d = u.1 m d

-- who was in the population runs its code, and so does who stands at the name
actors_of : (k : List Node) (p q : Population) (n : Name) (x : Actor) → AreActorsOf k p → IsPut p q n x → code_of x ≡ k → AreActorsOf k q
actors_of k p q n x h u e m y is = ⊎_elim
    (λ same. let found : Some x ≡ Some y = sym u.0 ∙ ap (found_in q) (sym same) ∙ is in ap code_of (sym (some_is found)) ∙ e)
    (λ apart. h m y (sym (others p q n m x u apart) ∙ is))
    (name_case m n)

-- who was in the population has its log, and so has who stands at the name
logs_of : (p q : Population) (c d : Configuration) (n : Name) (x : Actor) (h : IsPopulation p c) → IsPut p q n x → log_in x ≡ log_of d n → ((m : Name) → m ≢ n → log_of d m ≡ log_of c m)
    → (m : Name) (y : Actor) → found_in q m ≡ Some y → log_in y ≡ log_of d m
logs_of p q c d n x h u log apart m y is = ⊎_elim
    (λ same. let found : Some x ≡ Some y = sym u.0 ∙ ap (found_in q) (sym same) ∙ is in ap log_in (sym (some_is found)) ∙ log ∙ ap (log_of d) (sym same))
    (λ other. h.logs m y (sym (others p q n m x u other) ∙ is) ∙ sym (apart m other))
    (name_case m n)

-- another stands at a name, in a configuration that differs there alone
pub set_at : (p q : Population) (c d : Configuration) (n : Name) (x : Actor) (a : model.Activity) (h : IsPopulation p c) → IsPut p q n x → IsRoster q.roster → q.futures ≡ p.futures → d.futures ≡ c.futures
    → find name_cmp n d.activities ≡ Some a → Stands x a (requests_of d n) → log_in x ≡ log_of d n → ((m : Name) → m ≢ n → (find name_cmp m d.activities ≡ find name_cmp m c.activities) × (requests_of d m ≡ requests_of c m) × (log_of d m ≡ log_of c m)) → code_of x ≡ h.code → (t : IsPopulation q d) × (t.code ≡ h.code)
set_at p q c d n x a h u roster f g is s log apart e = (
  record {
    roster = roster;
    activities = λ m. ⊎_elim
        (λ e. subst (λ k. StandsAt (found_in q k) (find name_cmp k d.activities) (requests_of d k)) (sym e) (stands_here (found_in q n) (find name_cmp n d.activities) (requests_of d n) x a u.0 is s))
        (λ k. stands_still (found_in p m) (found_in q m) (find name_cmp m c.activities) (find name_cmp m d.activities) (requests_of c m) (requests_of d m) (others p q n m x u k) (apart m k).0 (apart m k).1 (h.activities m))
        (name_case m n);
    logs = logs_of p q c d n x h u log (λ m k. (apart m k).2);
    futures = ap values_of f ∙ h.futures ∙ sym g;
    code = h.code;
    actors = actors_of h.code p q n x h.actors u e;
    values = subst (AreOfCode h.code) (sym f) h.values;
  },
  refl,
)

-- it goes on, and polls or not
pub given_there : (p q : Population) (c : Configuration) (n : Name) (x : Actor) (a : model.Activity) (g : Given) (before : List ReceptionShape) (h : IsPopulation p c) → IsPut p q n x → IsRoster q.roster → q.futures ≡ p.futures → Stands x a (requests_of c n) → before ≡ log_of c n → IsLogAfter before (log_in x) g → code_of x ≡ h.code → (t : IsPopulation q (with_poll n g (with_activity n a c))) × (t.code ≡ h.code)
given_there p q c n x a g before h u roster f s was log e = by g log
  where
    here : Configuration
    here = with_activity n a c

    there : find name_cmp n here.activities ≡ Some a
    there = find_same name_cmp name_total name_same n a c.activities

    other : (m : Name) → m ≢ n → find name_cmp m here.activities ≡ find name_cmp m c.activities
    other m k = find_other name_cmp name_total name_same m n a c.activities k

    quiet : log_in x ≡ before → (t : IsPopulation q here) × (t.code ≡ h.code)
    quiet same = set_at p q c here n x a h u roster f refl there s (same ∙ was) (λ m k. (other m k, refl, refl)) e

    by : (g : Given) → IsLogAfter before (log_in x) g → (t : IsPopulation q (with_poll n g here)) × (t.code ≡ h.code)
    by given.Nothing same = quiet same
    by (given.Made m y) same = quiet same
    by (given.Sent m r) same = quiet same
    by (given.Filled k v) same = quiet same
    by given.Polled more =
        let log : List ReceptionShape = log_of c n ++ Poll ∷ [] in
        let now : log_in x ≡ log_of (with_poll n given.Polled here) n = more ∙ ap (λ (xs : List ReceptionShape). xs ++ Poll ∷ []) was ∙ sym (ap or_none (find_same name_cmp name_total name_same n log c.logs)) in
        set_at p q c (with_poll n given.Polled here) n x a h u roster f refl there s now (λ m k. (other m k, refl, ap or_none (find_other name_cmp name_total name_same m n log c.logs k))) e

pub changed : (p q : Population) (c : Configuration) (n : Name) (x : Actor) (a : model.Activity) (h : IsPopulation p c) → IsPut p q n x → IsRoster q.roster → q.futures ≡ p.futures → Stands x a (requests_of c n) → log_in x ≡ log_of c n → code_of x ≡ h.code → (t : IsPopulation q (with_activity n a c)) × (t.code ≡ h.code)
changed p q c n x a h u roster f s log e = given_there p q c n x a given.Nothing (log_of c n) h u roster f s refl log e

pub received : (p q : Population) (c : Configuration) (n : Name) (x : Actor) (r : RequestShape) (a : model.Activity) (h : IsPopulation p c) → IsPut p q n x → IsRoster q.roster → q.futures ≡ p.futures → find name_cmp n c.activities ≡ Some a → Stands x a (requests_of c n ++ r ∷ []) → log_in x ≡ log_of c n ++ From r.sender ∷ [] → code_of x ≡ h.code → IsPopulation q (with_request n r c)
received p q c n x r a h u roster f is s log e =
    let d : Configuration = with_request n r c in
    let more : List RequestShape = requests_of c n ++ r ∷ [] in
    let longer : List ReceptionShape = log_of c n ++ From r.sender ∷ [] in
    let here : requests_of d n ≡ more = ap or_none (find_same name_cmp name_total name_same n more c.received) in
    let noted : log_of d n ≡ longer = ap or_none (find_same name_cmp name_total name_same n longer c.logs) in
    (set_at p q c d n x a h u roster f refl is (subst (Stands x a) (sym here) s) (log ∙ sym noted) (λ m k. (refl, ap or_none (find_other name_cmp name_total name_same m n more c.received k), ap or_none (find_other name_cmp name_total name_same m n longer c.logs k))) e).0

pub value_filled : (p q : Population) (c : Configuration) (f : FutureShape) (v : ParcelShape) (h : IsPopulation p c) → q ≡ record p { futures = q.futures } → values_of q.futures ≡ put future_cmp f v (values_of p.futures) → AreOfCode h.code q.futures → IsPopulation q (with_value f v c)
value_filled p q c f v h e g coded =
    let found : (m : Name) → found_in q m ≡ found_in p m = λ m. ap (λ r. found_in r m) e in
    record {
      roster = subst IsRoster (sym (ap (λ (r : Population). r.roster) e)) h.roster;
      activities = λ m. subst (λ o. StandsAt o (find name_cmp m c.activities) (requests_of c m)) (sym (found m)) (h.activities m);
      logs = λ m x is. h.logs m x (sym (found m) ∙ is);
      futures = g ∙ ap (λ (vs : Values). put future_cmp f v vs) h.futures;
      code = h.code;
      actors = λ m x is. h.actors m x (sym (found m) ∙ is);
      values = coded;
    }

abbrev pub nothing_there : Configuration
nothing_there = record { activities = []; received = []; logs = []; futures = [] }

none_mapped : {X Y : Type 0} (f : X → Y) (xs : List X) → map f xs ≡ [] → xs ≡ []
none_mapped f [] h = refl
none_mapped f (x ∷ xs) h = cc

-- a population with nobody
pub nobody_yet : (k : List Node) (p : Population) → IsRoster p.roster → ((n : Name) → found_in p n ≡ None) → values_of p.futures ≡ [] → (t : IsPopulation p nothing_there) × (t.code ≡ k)
nobody_yet k p roster none f = (
  record {
    roster = roster;
    activities = λ m. subst (λ o. StandsAt o None []) (sym (none m)) tt;
    logs = λ m x is. no_some (sym (none m) ∙ is);
    futures = f;
    code = k;
    actors = λ m x is. no_some (sym (none m) ∙ is);
    values = subst (AreOfCode k) (sym (none_mapped (λ (e : FutureName × Parcel). (future_shape e.0, parcel_shape e.1)) p.futures f)) tt;
  },
  refl,
)

-- All activities are taken out

-- who is paired with a name last
abbrev pub paired_in : Named → Name → Option (Box Actor)
paired_in = update_all same_name (λ _. None)

abbrev pub named_in : Named → Name → Option Actor
named_in xs n = unboxed (paired_in xs n)

named_here : (xs : Named) (n : Name) (x : Box Actor) → named_in (xs ++ (n, x) ∷ []) n ≡ Some x.value
named_here xs n x = ap unboxed (sym (update_all_push same_name (λ _. None) (paired_in xs) xs (n, x) n refl) ∙ update_same same_name (paired_in xs) n (Some x) n (name_itself n))

named_apart : (xs : Named) (n : Name) (x : Box Actor) (m : Name) → m ≢ n → named_in (xs ++ (n, x) ∷ []) m ≡ named_in xs m
named_apart xs n x m d = ap unboxed (sym (update_all_push same_name (λ _. None) (paired_in xs) xs (n, x) m refl) ∙ update_other same_name (paired_in xs) n (Some x) m (names_apart n m (λ e. d (sym e))))

-- those with lesser numbers were taken out, with their names, and the others are still there
pub record AreTaken (p q : Population) (t : Named) (i : ℕ) : Type 0 where
  pub same : q ≡ record p { activities = q.activities }
  pub taken : (n : Name) (k : ℕ) → number_of n p.roster ≡ Some k → k < i → named_in t n ≡ seat_at p.activities.items k
  pub left : (n : Name) (k : ℕ) → number_of n p.roster ≡ Some k → i ≤ k → named_in t n ≡ None
  pub seats : (k : ℕ) → i ≤ k → seat_at q.activities.items k ≡ seat_at p.activities.items k
  pub none : (n : Name) → number_of n p.roster ≡ None → named_in t n ≡ None

pub none_taken : (p : Population) (t : Named) → t ≡ [] → AreTaken p p t 0
none_taken p t e = record {
  same = refl;
  taken = λ n k has lt. absurd (omega (arith, lt));
  left = λ n k has le. nobody n;
  seats = λ k le. refl;
  none = λ n has. nobody n;
}
  where
    nobody : (n : Name) → named_in t n ≡ None
    nobody n = ap (λ (xs : Named). named_in xs n) e

-- nobody has the next number
pub none_more : (p q r : Population) (t : Named) (i : ℕ) (o : Option (Box Actor)) → AreTaken p q t i → unboxed o ≡ seat_at q.activities.items i → o ≡ None → IsSet q i None r → AreTaken p r t (i + 1)
none_more p q r t i o h told none s = record {
  same = s.same ∙ ap (λ (x : Population). record x { activities = r.activities }) h.same;
  taken = λ n k has lt. ⊎_elim
      (λ less. h.taken n k has less)
      (λ more.
      let here : k ≡ i = omega (arith, lt, more) in
      let le : i ≤ k = omega (arith, more) in
      h.left n k has le ∙ ap unboxed (sym none) ∙ told ∙ ap (seat_at q.activities.items) (sym here) ∙ h.seats k le)
      (cases_lt k i);
  left = λ n k has le. h.left n k has (omega (arith, le));
  seats = λ k le. s.others k (λ e. omega (arith, le, e)) ∙ h.seats k (omega (arith, le));
  none = h.none;
}

-- somebody has it
pub one_more : (p q r : Population) (t : Named) (i : ℕ) (n : Name) (x : Box Actor) → AreTaken p q t i → unboxed (Some x) ≡ seat_at q.activities.items i → IsSet q i None r → number_of n p.roster ≡ Some i → AreTaken p r (t ++ (n, x) ∷ []) (i + 1)
one_more p q r t i n x h told s has = record {
  same = s.same ∙ ap (λ (x : Population). record x { activities = r.activities }) h.same;
  taken = λ m k got lt. ⊎_elim
      (λ less. elsewhere m k got (λ e. omega (arith, less, e)) ∙ h.taken m k got less)
      (λ more.
      let here : k ≡ i = omega (arith, lt, more) in
      let same : m ≡ n = one_name p.roster m n i (got ∙ ap Some here) has in
      ap (named_in (t ++ (n, x) ∷ [])) same ∙ named_here t n x ∙ told ∙ ap (seat_at q.activities.items) (sym here) ∙ h.seats k (omega (arith, more)))
      (cases_lt k i);
  left = λ m k got le. elsewhere m k got (λ e. omega (arith, le, e)) ∙ h.left m k got (omega (arith, le));
  seats = λ k le. s.others k (λ e. omega (arith, le, e)) ∙ h.seats k (omega (arith, le));
  none = λ m got. named_apart t n x m (λ e. no_some (sym got ∙ ap (λ (w : Name). number_of w p.roster) e ∙ has)) ∙ h.none m got;
}
  where
    elsewhere : (m : Name) (k : ℕ) → number_of m p.roster ≡ Some k → k ≢ i → named_in (t ++ (n, x) ∷ []) m ≡ named_in t m
    elsewhere m k got d = named_apart t n x m (λ e. d (some_is (sym got ∙ ap (λ (w : Name). number_of w p.roster) e ∙ has)))

pub all_taken : (p q : Population) (t : Named) (i : ℕ) → AreTaken p q t i → length p.roster ≤ i → (n : Name) → named_in t n ≡ found_in p n
all_taken p q t i h past n = by (number_of n p.roster) refl
  where
    by : (o : Option ℕ) → number_of n p.roster ≡ o → named_in t n ≡ at_number o (seat_at p.activities.items)
    by None e = h.none n e
    by (Some k) e = let lt = number_within p.roster n k e in h.taken n k e (omega (arith, lt, past))

-- What is closed

pub values_closed : (p : Population) (c : Configuration) → IsClosedPopulation p c → AreClosedValues (values_of p.futures)
values_closed p c h = subst AreClosedValues (sym h.population.futures) h.closed.values

pub actor_closed : (p : Population) (c : Configuration) (n : Name) (x : Actor) → IsClosedPopulation p c → found_in p n ≡ Some x → IsClosedFor x
actor_closed p c n x h e =
    let s = found_stands p c n x h.population e in
    record { activity = s.0; received = requests_of c n; stands = s.2; closed = h.closed.activities n s.0 s.1; arguments = h.closed.arguments n }

-- the values are of the code of who is in the population
pub values_coded : (p : Population) (c : Configuration) (n : Name) (x : Actor) (h : IsPopulation p c) → found_in p n ≡ Some x → AreOfCode (code_of x) p.futures
values_coded p c n x h e = subst (λ k. AreOfCode k p.futures) (sym (h.actors n x e)) h.values

-- who is in the population does as the configuration's activity intends
pub acts_as : (p : Population) (c : Configuration) (n : Name) (e : Effect) (x : Actor) → IsPopulation p c → found_in p n ≡ Some x → intent_in c n ≡ Acts e → (a : model.Activity) × Stands x a (requests_of c n) × (intent (chase (values_of p.futures)) (requests_of c n) n a ≡ Acts e)
acts_as p c n e x h is intends =
    let s = found_stands p c n x h is in
    let t = acting c n e intends in
    let same : s.0 ≡ t.0 = some_is (sym s.1 ∙ t.1) in
    (s.0, s.2, ap (λ (vs : Values). intent (chase vs) (requests_of c n) n s.0) h.futures ∙ ap (intent (chase c.futures) (requests_of c n) n) same ∙ t.2)

pub nobody_acts : {C : Type 0} (p : Population) (c : Configuration) (n : Name) (e : Effect) → IsPopulation p c → found_in p n ≡ None → intent_in c n ≡ Acts e → C
nobody_acts p c n e h is intends =
    let t = acting c n e intends in
    let s = there_found p c n t.0 h t.1 in
    no_some (sym is ∙ s.1)

-- one acts in its seat
pub acted : {E : Type 0} (r : Result Given E) (p q : Population) (c : Configuration) (e : Effect) (n m : Name) (k : ℕ) (x new : Actor) → IsPopulation p c → number_of n p.roster ≡ Some k → intent_in c n ≡ Acts e → seat_at p.activities.items k ≡ Some x → IsSet p k (Some new) q → m ≡ n
    → ((a : model.Activity) (rs : List RequestShape) → Stands x a rs → IfOk r (IsDoneBy m (intent (chase (values_of p.futures)) rs m a) rs new)) → IfOk r (IsLogAfter (log_in x) (log_in new)) → IfOk r (IsGivenOf (code_of x)) → code_of new ≡ code_of x
    → IfOk r (λ g. IsGiven n e g × IsGivenIn q (with_poll n g (with_activity n e.own c)) g)
acted (Err b) p q c e n m k x new h has intends seat set name acts log coded same = tt
acted (Ok g) p q c e n m k x new h has intends seat set name acts log coded same =
    let rs : List RequestShape = requests_of c n in
    let is : found_in p n ≡ Some x = found_at p n k has ∙ seat in
    let t = acts_as p c n e x h is intends in
    let code : code_of x ≡ h.code = h.actors n x is in
    let intended : intent (chase (values_of p.futures)) rs m t.0 ≡ Acts e = ap (λ (w : Name). intent (chase (values_of p.futures)) rs w t.0) name ∙ t.2 in
    let d = subst (λ (w : Name). IsDoneBy w (Acts e) rs new g) name (subst (λ i. IsDoneBy m i rs new g) intended (acts t.0 rs t.1)) in
    let roster : q.roster ≡ p.roster = ap (λ (r : Population). r.roster) set.same in
    let futures : q.futures ≡ p.futures = ap (λ (r : Population). r.futures) set.same in
    let there = given_there p q c n new e.own g (log_in x) h (put_at p q n k new has set) (subst IsRoster (sym roster) h.roster) futures d.0 (h.logs n x is) log (same ∙ code) in
    (d.1, record { population = there.0; coded = subst (λ j. IsGivenOf j g) (code ∙ sym there.1) coded })

pub nobody_there : {C : Type 0} (p : Population) (c : Configuration) (n : Name) → IsPopulation p c → found_in p n ≡ None → IsThere c n → C
nobody_there p c n h is there =
    let t = is_there (find name_cmp n c.activities) there in
    let s = there_found p c n t.0 h t.1 in
    no_some (sym is ∙ s.1)

-- who has no number is not there
pub absent_nowhere : {C : Type 0} (p : Population) (c : Configuration) (n : Name) → IsPopulation p c → number_of n p.roster ≡ None → IsThere c n → C
absent_nowhere p c n h none there = nobody_there p c n h (ap (λ o. at_number o (seat_at p.activities.items)) none) there

pub if_ok_with : {T E : Type 0} (r : Result T E) (P Q X : Type 0) → (P → Q → X) → OnOk r P → OnOk r Q → OnOk r X
if_ok_with (Ok t) P Q X f h k = f h k
if_ok_with (Err e) P Q X f h k = tt

-- Members that are passed

none_under : (es : List (ℕ × ℕ)) (k : ℕ) → length es ≡ 0 → lookup (is_at (nat_cmp k)) es ≡ None
none_under [] k e = refl
none_under (x ∷ es) k e = absurd (omega (arith, e))

-- where nothing is noted, nothing is noted of anyone
pub none_passed : (p : Population) (n : Name) → length p.passed.entries ≡ 0 → passed_in p n ≡ None
none_passed p n e = by (number_of n p.roster)
  where
    by : (o : Option ℕ) → at_number o (λ k. lookup (is_at (nat_cmp k)) p.passed.entries) ≡ None
    by None = refl
    by (Some k) = none_under p.passed.entries k e

-- what is noted was noted before, or is this
pub passing : (old : Population) (t : Passed) (n : Name) (k passed : ℕ) → number_of n old.roster ≡ Some k → trees.Updates nat_cmp old.passed t k (Some passed) → IsPassing old n passed (record old { passed = t })
passing old t n k passed here u = record { same = refl; noted = λ m j is. by m j (number_of m old.roster) refl is }
  where
    by : (m : Name) (j : ℕ) (o : Option ℕ) → number_of m old.roster ≡ o → at_number o (λ i. lookup (is_at (nat_cmp i)) t.entries) ≡ Some j → (passed_in old m ≡ Some j) ⊎ ((m ≡ n) × (j ≡ passed))
    by m j None e is = no_some is
    by m j (Some i) e is = ⊎_elim
        (λ same. inr (one_name old.roster m n k (e ∙ ap Some same) here, some_is (sym is ∙ ap (λ (q : ℕ). lookup (is_at (nat_cmp q)) t.entries) same ∙ u.1)))
        (λ apart. inl (ap (λ o. at_number o (λ i. lookup (is_at (nat_cmp i)) old.passed.entries)) e ∙ sym (u.2 i (other_key i k apart)) ∙ is))
        (number_case i k)

pub still_none : (p q : Population) (n : Name) → KeepsPassed p q → passed_in p n ≡ None → passed_in q n ≡ None
still_none p q n keeps none = by (passed_in q n) refl
  where
    by : (o : Option ℕ) → passed_in q n ≡ o → o ≡ None
    by None e = refl
    by (Some j) e = no_some (sym none ∙ keeps n j e)
