-- Chases where one future more is filled.
use Rattle.std.specs.Prelude.{◌≡◌, ◌≢◌, ℕ, zero, suc, ◌≤◌, T, Option, Some, None, length, is_some}
use Rattle.std.proofs.Common.{refl, sym, ap, subst, ◌∙◌, arith, inl, inr, ⊎_elim, ◌⊎◌}
use Rattle.std.specs.FinMap.{find, put, is_sorted}
use Rattle.std.specs.FinMap.Entries.{is_sorted-put}
use Rattle.asp_model.specs.Names.{FutureShape, future_cmp}
use Rattle.asp_model.specs.Store.{cell}
use Rattle.asp_model.specs.Parcel.{ParcelShape}
use Rattle.asp_model.specs.Chase.{Values, Lead, Ends, Goes, Misses, lead_by, lead_of, lead, Chase, Value, Unfilled, Cycle, walk_end, walked_to, cycle_of, chase}
use Rattle.law_chases.proofs.FutureLemmas.{no_some, some_is, true_false, future_total, future_same, future_case}
use Rattle.law_chases.proofs.MapLemmas as Maps
use Rattle.law_chases.specs.Walks.{IsFilled}
use Rattle.law_chases.proofs.ChaseLemmas.{MoreFilled, walk_by, chase_by, chase_value, end_kept, is_end}
use Rattle.law_chases.proofs.EndLemmas.{goes_on}
use Rattle.law_chases.proofs.CycleLemmas.{HasNoEnd, Meet, goes_to, stays_to, lead_case, never_next, AtMost, IsNameOf, cycle_name, chase_never}
use Rattle.law_chases.proofs.MeetLemmas.{meet_back, meet_then, meet_walked, never_meets, one_name, never_same, chase_goes, chase_walked, chase_meets, cycle_never, named_cycle}

abbrev unfilled_in : Chase → Option FutureShape
unfilled_in (Unfilled f) = Some f
unfilled_in c = None

abbrev cycle_in : Chase → Option FutureShape
cycle_in (Cycle f) = Some f
cycle_in c = None

abbrev next_in : Lead → Option FutureShape
next_in (Goes f) = Some f
next_in l = None

pub unfilled_is : {f g : FutureShape} → Unfilled f ≡ Unfilled g → f ≡ g
unfilled_is e = some_is (ap unfilled_in e)

pub cycle_is : {f g : FutureShape} → Cycle f ≡ Cycle g → f ≡ g
cycle_is e = some_is (ap cycle_in e)

pub no_cycle_unfilled : {A : Type 0} {f g : FutureShape} → Cycle f ≡ Unfilled g → A
no_cycle_unfilled e = no_some (sym (ap cycle_in e))

pub no_value_unfilled : {A : Type 0} {f g : FutureShape} {p : ParcelShape} → Value f p ≡ Unfilled g → A
no_value_unfilled e = no_some (ap unfilled_in e)

pub no_cycle_value : {A : Type 0} {f g : FutureShape} {p : ParcelShape} → Cycle f ≡ Value g p → A
no_cycle_value e = no_some (sym (ap cycle_in e))

module _ (vs : Values) (sorted : T (is_sorted future_cmp vs)) (f : FutureShape) (new : find future_cmp f vs ≡ None) (v : ParcelShape) where
  abbrev pub ws : Values
  ws = put future_cmp f v vs

  pub still_sorted : T (is_sorted future_cmp ws)
  still_sorted = is_sorted-put future_cmp future_total f v vs sorted

  more : MoreFilled vs ws
  more = Maps.put_extends future_cmp future_total future_same f v vs new

  longer : length vs ≤ length ws
  longer = Maps.longer future_cmp future_total future_same f v vs sorted

  find_else : (x : FutureShape) → x ≢ f → find future_cmp x ws ≡ find future_cmp x vs
  find_else x ne = Maps.find_other future_cmp future_total future_same x f v vs ne

  pub lead_there : lead ws f ≡ lead_by v (cell v.cells 0)
  lead_there = ap lead_of (Maps.find_same future_cmp future_total future_same f v vs)

  lead_else : (x : FutureShape) → x ≢ f → lead ws x ≡ lead vs x
  lead_else x ne = ap lead_of (find_else x ne)

  lead_before : lead vs f ≡ Misses
  lead_before = ap lead_of new

  pub chase_before : chase vs f ≡ Unfilled f
  chase_before = ap (chase_by vs f) (ap (λ l. walk_by l (walk_end (length vs) vs) f) lead_before)

  going_else : (x g : FutureShape) → lead vs x ≡ Goes g → x ≢ f
  going_else x g e d = no_some (sym (ap next_in (ap (lead vs) d ∙ lead_before)) ∙ ap next_in e)

  -- What stays

  pub keeps_value : (x g : FutureShape) (p : ParcelShape) → chase vs x ≡ Value g p → chase ws x ≡ Value g p
  keeps_value x g p e = chase_value vs ws more longer x g p e

  end_unfilled : (x h : FutureShape) → chase vs x ≡ Unfilled h → walk_end (suc (length vs)) vs x ≡ Some (Unfilled h)
  end_unfilled x h e = by (walk_end (suc (length vs)) vs x) e
    where
      by : (o : Option Chase) → chase_by vs x o ≡ Unfilled h → o ≡ Some (Unfilled h)
      by (Some y) e = ap Some e
      by None e = no_cycle_unfilled e

  -- it is not filled
  pub not_filled : (x h : FutureShape) → chase vs x ≡ Unfilled h → find future_cmp h vs ≡ None
  not_filled x h e = is_end vs (suc (length vs)) x (Unfilled h) (end_unfilled x h e)

  pub keeps_unfilled : (x h : FutureShape) → chase vs x ≡ Unfilled h → h ≢ f → chase ws x ≡ Unfilled h
  keeps_unfilled x h e ne = ap (chase_by ws x) (end_kept vs ws more (suc (length vs)) (suc (length ws)) (omega (arith, longer)) x (Unfilled h) (find_else h ne ∙ not_filled x h e) (end_unfilled x h e))

  -- Walks that come to f

  comes_to : (n : ℕ) (x : FutureShape) → walk_end n vs x ≡ Some (Unfilled f) → (i : ℕ) × (walked_to i ws x ≡ f)
  comes_to zero x e = no_some e
  comes_to (suc n) x e = elim (lead vs x) as (λ l. lead vs x ≡ l → walk_by l (walk_end n vs) x ≡ Some (Unfilled f) → (i : ℕ) × (walked_to i ws x ≡ f)) [
    | Ends p ↦ λ d e. no_some (ap unfilled_in (some_is e))
    | Goes g ↦ λ d e. let y = comes_to n g e in (suc y.0, goes_to ws y.0 x g (lead_else x (going_else x g d) ∙ d) ∙ y.1)
    | Misses ↦ λ d e. (0, unfilled_is (some_is e))
  ] refl e

  pub meets_f : (x : FutureShape) → chase vs x ≡ Unfilled f → Meet ws x f
  meets_f x e = let y = comes_to (suc (length vs)) x (end_unfilled x f e) in meet_walked ws y.0 x f y.1

  pub follows_f : (x : FutureShape) → chase vs x ≡ Unfilled f → chase ws x ≡ chase ws f
  follows_f x e = chase_meets ws still_sorted x f (meets_f x e)

  -- Walks that never end

  pub never_still : (x : FutureShape) → HasNoEnd vs x → HasNoEnd ws x
  never_still x h n = goes_on vs ws more n x (h n)

  pub walked_still : (i : ℕ) (x : FutureShape) → HasNoEnd vs x → walked_to i ws x ≡ walked_to i vs x
  walked_still zero x h = refl
  walked_still (suc i) x h = let y = never_next vs x h in goes_to ws i x y.0 (lead_else x (going_else x y.0 y.1) ∙ y.1) ∙ walked_still i y.0 y.2 ∙ sym (goes_to vs i x y.0 y.1)

  pub meet_still : (x y : FutureShape) → HasNoEnd vs x → HasNoEnd vs y → Meet vs x y → Meet ws x y
  meet_still x y h k m = record { steps = m.steps; others = m.others; same = walked_still m.steps x h ∙ m.same ∙ sym (walked_still m.others y k) }

  meet_before : (x y : FutureShape) → HasNoEnd vs x → HasNoEnd vs y → Meet ws x y → Meet vs x y
  meet_before x y h k m = record { steps = m.steps; others = m.others; same = sym (walked_still m.steps x h) ∙ m.same ∙ walked_still m.others y k }

  filled_still : (x : FutureShape) → IsFilled vs x → IsFilled ws x
  filled_still x = Maps.stays_there future_cmp future_total future_same f v vs x

  filled_before : (x : FutureShape) → x ≢ f → IsFilled ws x → IsFilled vs x
  filled_before x ne h = ap is_some (sym (find_else x ne)) ∙ h

  -- a cycle into which no walk comes by f keeps its name
  pub keeps_cycle : (x m : FutureShape) → chase vs x ≡ Cycle m → ((y : FutureShape) → chase vs y ≡ Unfilled f → Meet ws x y → ⊥) → chase ws x ≡ Cycle m
  keeps_cycle x m e none =
      let never = cycle_never vs sorted x m e in
      let now = never_still x never in
      let name = named_cycle vs sorted x m e in
      let never_m = never_meets vs x m never name.meets in
      let chased : chase ws x ≡ Cycle (cycle_of ws x) = chase_never ws still_sorted x now in
      chased ∙ ap Cycle (one_name ws x x (cycle_of ws x) m (cycle_name ws still_sorted x now) (record {
        filled = filled_still m name.filled;
        meets = meet_still x m never never_m name.meets;
        least = λ y h meet. by_chase name never chased y h meet (chase vs y) refl;
      }) (meet_walked ws 0 x x refl))
    where
      by_chase : IsNameOf vs x m → HasNoEnd vs x → chase ws x ≡ Cycle (cycle_of ws x) → (y : FutureShape) → IsFilled ws y → Meet ws x y → (c : Chase) → chase vs y ≡ c → AtMost m y
      by_chase name never chased y h meet (Value g p) d = no_cycle_value (sym chased ∙ chase_meets ws still_sorted x y meet ∙ keeps_value y g p d)
      by_chase name never chased y h meet (Unfilled g) d = ⊎_elim
          (λ same. absurd (none y (d ∙ ap Unfilled same) meet))
          (λ apart. no_cycle_unfilled (sym chased ∙ chase_meets ws still_sorted x y meet ∙ keeps_unfilled y g d apart))
          (future_case g f)
      by_chase name never chased y h meet (Cycle n) d =
          let k = cycle_never vs sorted y n d in
          name.least y (filled_before y (λ same. no_cycle_unfilled (sym d ∙ ap (chase vs) same ∙ chase_before)) h) (meet_before x y never k meet)

  -- where f itself comes into no cycle, all cycles keep their names
  pub keeps_cycles : (x m : FutureShape) → ((n : FutureShape) → chase ws f ≢ Cycle n) → chase vs x ≡ Cycle m → chase ws x ≡ Cycle m
  keeps_cycles x m ends e = keeps_cycle x m e (λ y d meet. ends (cycle_of ws x) (sym (follows_f y d) ∙ sym (chase_meets ws still_sorted x y meet) ∙ chase_never ws still_sorted x (never_still x (cycle_never vs sorted x m e))))

  -- A cycle that f closes, or comes into

  -- the awaited name of the root: f itself, or that of a cycle
  module _ (g h : FutureShape) (goes : lead ws f ≡ Goes g) (root : ((chase vs g ≡ Unfilled f) × (h ≡ f)) ⊎ (chase vs g ≡ Cycle h)) where
    -- its walk comes to f, or into the cycle
    abbrev pub Turns : FutureShape → Type 0
    Turns y = (chase vs y ≡ Unfilled f) ⊎ (chase vs y ≡ Cycle h)

    root_turns : Turns g
    root_turns = ⊎_elim (λ x. inl x.0) (λ x. inr x) root

    turns_else : (y z : FutureShape) → y ≢ f → lead ws y ≡ Goes z → Turns y → Turns z
    turns_else y z ne e t = let same = chase_goes vs sorted y z (sym (lead_else y ne) ∙ e) in ⊎_elim (λ x. inl (sym same ∙ x)) (λ x. inr (sym same ∙ x)) t

    turns_next : (y z : FutureShape) → lead ws y ≡ Goes z → Turns y → Turns z
    turns_next y z e t = ⊎_elim
        (λ same. subst Turns (some_is (ap next_in (sym goes ∙ sym (ap (lead ws) same) ∙ e))) root_turns)
        (λ apart. turns_else y z apart e t)
        (future_case y f)

    turns_walked : (i : ℕ) (y : FutureShape) → Turns y → Turns (walked_to i ws y)
    turns_walked zero y t = t
    turns_walked (suc i) y t = ⊎_elim
        (λ x. subst Turns (sym (goes_to ws i y x.0 x.1)) (turns_walked i x.0 (turns_next y x.0 x.1 t)))
        (λ k. subst Turns (sym (stays_to ws (suc i) y k)) t)
        (lead_case ws y)

    pub meets_too : (y : FutureShape) → Turns y → Meet ws f y
    meets_too y (inl e) = meet_back ws y f (meets_f y e)
    meets_too y (inr e) = ⊎_elim
        (λ x. no_some (sym new ∙ some_filled (subst (λ k. IsFilled vs k) x.1 (named_cycle vs sorted y h e).filled)))
        (λ x.
        let a = named_cycle vs sorted g h x in
        let b = named_cycle vs sorted y h e in
        meet_then ws f g y (meet_walked ws 1 f g (goes_to ws 0 f g goes)) (meet_still g y (cycle_never vs sorted g h x) (cycle_never vs sorted y h e) (meet_then vs g h y a.meets (meet_back vs y h b.meets))))
        root
      where
        some_filled : IsFilled vs f → find future_cmp f vs ≡ Some v
        some_filled k = absurd (true_false (is_some (find future_cmp f vs)) k (ap is_some new))

    -- such a walk goes on
    turns_go : (y : FutureShape) → Turns y → (z : FutureShape) × (lead ws y ≡ Goes z)
    turns_go y t = ⊎_elim
        (λ same. (g, ap (lead ws) same ∙ goes))
        (λ apart. let x = by_turn y t apart in (x.0, lead_else y apart ∙ x.1))
        (future_case y f)
      where
        by_lead : (y : FutureShape) → y ≢ f → (l : Lead) → walk_by l (walk_end (length vs) vs) y ≡ Some (Unfilled f) → (z : FutureShape) × (l ≡ Goes z)
        by_lead y apart (Ends p) e = no_some (ap unfilled_in (some_is e))
        by_lead y apart (Goes z) e = (z, refl)
        by_lead y apart Misses e = absurd (apart (unfilled_is (some_is e)))

        by_turn : (y : FutureShape) → Turns y → y ≢ f → (z : FutureShape) × (lead vs y ≡ Goes z)
        by_turn y (inl e) apart = by_lead y apart (lead vs y) (end_unfilled y f e)
        by_turn y (inr e) apart = let x = never_next vs y (cycle_never vs sorted y h e) in (x.0, x.1)

    turning : (n : ℕ) (y : FutureShape) → Turns y → walk_end n ws y ≡ None
    turning zero y t = refl
    turning (suc n) y t = let x = turns_go y t in ap (λ l. walk_by l (walk_end n ws) y) x.1 ∙ turning n x.0 (turns_next y x.0 x.1 t)

    pub never_turns : (y : FutureShape) → Turns y → HasNoEnd ws y
    never_turns y t n = turning n y t

    abbrev pub name : FutureShape
    name = cycle_of ws f

    f_turns : Turns f
    f_turns = inl chase_before

    -- all of them are in one cycle now
    pub turns_named : (y : FutureShape) → Turns y → chase ws y ≡ Cycle name
    turns_named y t = sym (never_same ws still_sorted f y (never_turns f f_turns) (never_turns y t) (meets_too y t)) ∙ chase_never ws still_sorted f (never_turns f f_turns)

    meet_turns : (y x : FutureShape) (m : FutureShape) → Turns y → chase vs x ≡ Cycle m → Meet ws x y → m ≡ h
    meet_turns y x m t e meet =
        let never = cycle_never vs sorted x m e in
        let u = walked_to meet.steps ws x in
        let at : chase vs u ≡ Cycle m = ap (chase vs) (walked_still meet.steps x never) ∙ sym (chase_walked vs sorted meet.steps x) ∙ e in
        ⊎_elim (λ k. no_cycle_unfilled (sym at ∙ k)) (λ k. cycle_is (sym at ∙ k)) (subst Turns (sym meet.same) (turns_walked meet.others y t))

    -- other cycles keep their names
    pub others_keep : (x m : FutureShape) → chase vs x ≡ Cycle m → m ≢ h → chase ws x ≡ Cycle m
    others_keep x m e apart = keeps_cycle x m e (λ y d meet. apart (meet_turns y x m (inl d) e meet))

    pub name_of : IsNameOf ws f name
    name_of = cycle_name ws still_sorted f (never_turns f f_turns)

    -- the name is one of them
    pub name_turns : Turns name
    name_turns = by (chase vs name) refl
      where
        now : chase ws name ≡ Cycle name
        now = sym (chase_meets ws still_sorted f name name_of.meets) ∙ chase_never ws still_sorted f (never_turns f f_turns)

        by : (c : Chase) → chase vs name ≡ c → Turns name
        by (Value y p) d = no_cycle_value (sym now ∙ keeps_value name y p d)
        by (Unfilled y) d = ⊎_elim (λ same. inl (d ∙ ap Unfilled same)) (λ apart. no_cycle_unfilled (sym now ∙ keeps_unfilled name y d apart)) (future_case y f)
        by (Cycle m) d = inr (d ∙ ap Cycle (meet_turns f name m f_turns d (meet_back ws f name name_of.meets)))

    -- and the least of them that is filled
    pub name_least : (y : FutureShape) → IsFilled ws y → Turns y → AtMost name y
    name_least y k t = name_of.least y k (meets_too y t)
