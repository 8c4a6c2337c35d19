-- What a delivery leaves of a population.
use Rattle.std.proofs.Common.{◌≡◌, ◌⊎◌, ◌<◌, ℕ, Bool, true, false, Option, Some, None, List, is_some, length, refl, sym, ap, subst, ◌∙◌, ⊎_elim}
use Rattle.std.proofs.lemmas.Bool.{false≢true}
use Rattle.std.specs.Arc.{arc_value}
use Rattle.std.specs.FinMap.{find}
use Rattle.std.specs.Option.{option_map}
use Rattle.asp_model.specs.Names.{Name, FutureShape, name_cmp, future_cmp, same_future}
use Rattle.asp_model.specs.Order.{same_future_same}
use Rattle.asp_model.specs.Parcel.{ParcelShape, unpack_at}
use Rattle.asp_model.specs.Store.{CellShape, Future, Store, cell}
use Rattle.asp_model.specs.Contraction.{is_future}
use Rattle.asp_model.specs.Chase.{Chase, Cycle, Unfilled, Value, Values, chase}
use Rattle.asp_model.specs.Configuration as model
use Rattle.asp_model.specs.Configuration.{Configuration, RequestShape, log_of, requests_of}
use Rattle.code_table.proofs.CodedLemmas.{length-store_of}
use Rattle.def_journals.specs.Deliveries.{at_holders, at_place, edge_delivered, holders_from, need_delivered, unpack_each, value_needed, value_of, with_store}
use Rattle.future_table.specs.Values as chases
use Rattle.future_table.specs.Values.{told}
use Rattle.law_chases.proofs.ChaseLemmas.{chase_finds}
use Rattle.law_steps.proofs.ClosedLaws.{in_store}
use Rattle.step_activity.specs.declared.actor.Actor.{Actor}
use Rattle.step_activity.specs.Actors.{Stands, code_of, log_in}
use Rattle.replay_population.specs.declared.population.Population.{Population}
use Rattle.replay_population.specs.Deliveries.{IsDelivered, IsStored, store_at, store_with}
use Rattle.replay_population.specs.Population.{IsPopulation}
use Rattle.replay_parts.specs.Roster.{IsRoster}
use Rattle.replay_population.proofs.PopulationLemmas.{IsPut, changed, set_at}

-- an edge leads to the activity with another store
pub edge_is : (c : Configuration) (f : FutureShape) (n : Name) (a : model.Activity) → find name_cmp n c.activities ≡ Some a → edge_delivered c f n ≡ option_map (with_store c n a) (store_with c.futures f a)
edge_is c f n a is = ap (λ (o : Option model.Activity). elim o [ None ↦ None | Some b ↦ at_holders c f n b (find future_cmp f c.futures) ]) is ∙ by (find future_cmp f c.futures)
  where
    by : (o : Option ParcelShape) → at_holders c f n a o ≡ option_map (with_store c n a) (option_map (λ p. unpack_each a.store (holders_from 0 f a.store) p) o)
    by None = refl
    by (Some p) = refl

-- to nobody there is none
pub edge_nowhere : (c : Configuration) (f : FutureShape) (n : Name) → find name_cmp n c.activities ≡ None → edge_delivered c f n ≡ None
edge_nowhere c f n is = ap (λ (o : Option model.Activity). elim o [ None ↦ None | Some b ↦ at_holders c f n b (find future_cmp f c.futures) ]) is

-- the activity is put back with its store
pub delivered_there : (p q : Population) (c : Configuration) (n : Name) (x : Actor) (a : model.Activity) (o : Option Store) (b : Bool) (h : IsPopulation p c) → IsPut p q n x → IsRoster q.roster → q.futures ≡ p.futures → find name_cmp n c.activities ≡ Some a → IsStored x a (requests_of c n) o b → log_in x ≡ log_of c n → code_of x ≡ h.code → IsDelivered q c (option_map (with_store c n a) o) b
delivered_there p q c n x a (Some s) true h u roster f is stored log e = (changed p q c n x (record a { store = s }) h u roster f stored log e).0
delivered_there p q c n x a None false h u roster f is stored log e = (set_at p q c c n x a h u roster f refl is stored log (λ m d. (refl, refl, refl)) e).0
delivered_there p q c n x a (Some s) false h u roster f is stored log e = absurd stored
delivered_there p q c n x a None true h u roster f is stored log e = absurd stored

-- Needs

-- a need leads to the activity with another store
pub need_is : (c : Configuration) (f : FutureShape) (n : Name) (place : ℕ) (a : model.Activity) → find name_cmp n c.activities ≡ Some a → need_delivered c f n place ≡ option_map (with_store c n a) (store_at c.futures f place a)
need_is c f n place a is = ap (λ (o : Option model.Activity). elim o [ None ↦ None | Some b ↦ at_place c n place b (value_needed (chase c.futures) f (cell b.store place)) ]) is ∙ by (value_needed (chase c.futures) f (cell a.store place))
  where
    by : (o : Option ParcelShape) → at_place c n place a o ≡ option_map (with_store c n a) (option_map (λ p. unpack_at a.store place p) o)
    by None = refl
    by (Some p) = refl

pub need_nowhere : (c : Configuration) (f : FutureShape) (n : Name) (place : ℕ) → find name_cmp n c.activities ≡ None → need_delivered c f n place ≡ None
need_nowhere c f n place is = ap (λ (o : Option model.Activity). elim o [ None ↦ None | Some b ↦ at_place c n place b (value_needed (chase c.futures) f (cell b.store place)) ]) is

same_some : (p : ParcelShape) (b : Bool) → b ≡ is_some (elim b [ true ↦ Some p | false ↦ None ])
same_some p true = refl
same_some p false = refl

pub leads_there : (f g : FutureShape) (c : Chase) → chases.Value g ≡ told c → same_future f g ≡ is_some (value_of f c)
leads_there f g (Value h p) e =
    let same : g ≡ h = cc in
    ap (same_future f) same ∙ same_some p (same_future f h)
leads_there f g (Unfilled h) e = absurd cc
leads_there f g (Cycle h) e = absurd cc

pub leads_nowhere : (f g : FutureShape) (c : Chase) → (chases.Unfilled g ≡ told c) ⊎ (chases.Cycle g ≡ told c) → false ≡ is_some (value_of f c)
leads_nowhere f g (Value h p) e = absurd (⊎_elim (λ is. value_ends g h is) (λ is. value_goes_on g h is) e)
  where
    value_ends : (g h : FutureShape) → chases.Unfilled g ≡ chases.Value h → ⊥
    value_ends g h e = cc

    value_goes_on : (g h : FutureShape) → chases.Cycle g ≡ chases.Value h → ⊥
    value_goes_on g h e = cc
leads_nowhere f g (Unfilled h) e = refl
leads_nowhere f g (Cycle h) e = refl

-- where no future stands nothing is needed
pub not_needed : (leads : FutureShape → Chase) (f : FutureShape) (c : CellShape) → is_future c ≡ false → value_needed leads f c ≡ None
not_needed leads f (Future g) e = absurd (false≢true (sym e))
not_needed leads f c e = refl

-- where something is needed a future stands
needed_future : (leads : FutureShape → Chase) (f : FutureShape) (c : CellShape) → is_some (value_needed leads f c) ≡ true → (g : FutureShape) × (c ≡ Future g)
needed_future leads f (Future g) e = (g, refl)
needed_future leads f c e = absurd (false≢true e)

pub needed_within : (leads : FutureShape → Chase) (f : FutureShape) (s : Store) (place : ℕ) → is_some (value_needed leads f (cell s place)) ≡ true → place < length s
needed_within leads f s place e = let g = needed_future leads f (cell s place) e in in_store s place g.0 g.1

-- what is needed is the future's own value
pub need_value : (values : Values) (f : FutureShape) (c : CellShape) → is_some (value_needed (chase values) f c) ≡ true → value_needed (chase values) f c ≡ find future_cmp f values
need_value values f (Future g) e = by (chase values g) refl e
  where
    by : (x : Chase) → chase values g ≡ x → is_some (value_of f x) ≡ true → value_of f x ≡ find future_cmp f values
    by (Value h p) is e = same (same_future f h) refl e
      where
        same : (b : Bool) → same_future f h ≡ b → is_some (elim b [ true ↦ Some p | false ↦ None ]) ≡ true → elim b [ true ↦ Some p | false ↦ None ] ≡ find future_cmp f values
        same true t e = sym (ap (λ (k : FutureShape). find future_cmp k values) (same_future_same f h t) ∙ (chase_finds values g h p is).0)
        same false t e = absurd (false≢true e)
    by (Unfilled h) is e = absurd (false≢true e)
    by (Cycle h) is e = absurd (false≢true e)
need_value values f c e = absurd (false≢true e)

-- the store as it is then
pub need_stored : (x : Actor) (a : model.Activity) (rs : List RequestShape) (values : Values) (f : FutureShape) (place : ℕ) (p : ParcelShape) → is_some (value_needed (chase values) f (cell a.store place)) ≡ true → Some p ≡ find future_cmp f values → Stands x (record a { store = unpack_at a.store place p }) rs → IsStored x a rs (store_at values f place a) true
need_stored x a rs values f place p needed has st = subst (λ (o : Option ParcelShape). IsStored x a rs (option_map (λ q. unpack_at a.store place q) o) true) (has ∙ sym (need_value values f (cell a.store place) needed)) st

pub none_stored : (x : Actor) (a : model.Activity) (rs : List RequestShape) (values : Values) (f : FutureShape) (place : ℕ) → is_some (value_needed (chase values) f (cell a.store place)) ≡ false → Stands x a rs → IsStored x a rs (store_at values f place a) false
none_stored x a rs values f place needed st = by (value_needed (chase values) f (cell a.store place)) needed
  where
    by : (o : Option ParcelShape) → is_some o ≡ false → IsStored x a rs (option_map (λ q. unpack_at a.store place q) o) false
    by None e = st
    by (Some p) e = absurd (false≢true (sym e))

-- the place is one of its cells
pub needed_place : (x : Actor) (a : model.Activity) (rs : List RequestShape) (leads : FutureShape → Chase) (f : FutureShape) (place : ℕ) → Stands x a rs → is_some (value_needed leads f (cell a.store place)) ≡ true → place < length x.activity.state.store.cells
needed_place x a rs leads f place st e = subst (λ (l : ℕ). place < l) (ap length (sym st.activity.state.store) ∙ length-store_of (arc_value x.activity.code) x.activity.state.store.cells) (needed_within leads f a.store place e)
