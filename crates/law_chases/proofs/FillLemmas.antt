-- What one more filled future changes: whose chase stays, and which chases become one.
use Rattle.std.specs.Prelude.{◌≡◌, ◌≢◌, Bool, true, false, T, None, length, is_some}
use Rattle.std.proofs.Common.{refl, sym, ap, ◌∙◌, inl, inr, ⊎_elim, ◌⊎◌}
use Rattle.std.specs.FinMap.{find, put, is_sorted}
use Rattle.asp_model.specs.Names.{FutureShape, future_cmp}
use Rattle.asp_model.specs.Store.{CellShape, Number, Object, Reference, Future, Group, cell}
use Rattle.asp_model.specs.Parcel.{ParcelShape}
use Rattle.asp_model.specs.Chase.{Values, Lead, Ends, Goes, lead_by, lead, Chase, Value, Unfilled, Cycle, walk_end, chase}
use Rattle.law_chases.specs.Fills.{IsElsewhere, ChasesStayTogether, ChasesStayElsewhere, FilledIsOfRoot}
use Rattle.law_chases.proofs.FutureLemmas.{true_false, none_true, future_case}
use Rattle.law_chases.proofs.ChaseLemmas.{walk_by, chase_by, chase_finds}
use Rattle.law_chases.proofs.MeetLemmas.{meet_back, meet_then, chase_goes, chase_meets, cycle_never, named_cycle}
use Rattle.law_chases.proofs.FilledLemmas.{still_sorted, lead_there, chase_before, keeps_value, keeps_unfilled, follows_f, meet_still, keeps_cycles, others_keep, turns_named, name_turns, name, cycle_is, no_cycle_unfilled, no_cycle_value, no_value_unfilled, unfilled_is}

module _ (vs : Values) (f : FutureShape) (p : ParcelShape) (sorted : T (is_sorted future_cmp vs)) (new : find future_cmp f vs ≡ None) where
  abbrev pub after : Values
  after = put future_cmp f p vs

  no_cycle : {A : Type 0} (x : FutureShape) → chase vs x ≡ Cycle f → A
  no_cycle x e = absurd (true_false (is_some (find future_cmp f vs)) (named_cycle vs sorted x f e).filled (ap is_some new))

  -- futures of one chase
  pub together : (x y : FutureShape) → chase vs x ≡ chase vs y → chase after x ≡ chase after y
  together x y same = by (chase vs x) refl
    where
      by : (c : Chase) → chase vs x ≡ c → chase after x ≡ chase after y
      by (Value g q) e = keeps_value vs sorted f new p x g q e ∙ sym (keeps_value vs sorted f new p y g q (sym same ∙ e))
      by (Unfilled g) e = ⊎_elim
          (λ is. follows_f vs sorted f new p x (e ∙ ap Unfilled is) ∙ sym (follows_f vs sorted f new p y (sym same ∙ e ∙ ap Unfilled is)))
          (λ apart. keeps_unfilled vs sorted f new p x g e apart ∙ sym (keeps_unfilled vs sorted f new p y g (sym same ∙ e) apart))
          (future_case g f)
      by (Cycle n) e =
          let d : chase vs y ≡ Cycle n = sym same ∙ e in
          let a = named_cycle vs sorted x n e in
          let b = named_cycle vs sorted y n d in
          let meet = meet_then vs x n y a.meets (meet_back vs y n b.meets) in
          chase_meets after (still_sorted vs sorted f new p) x y (meet_still vs sorted f new p x y (cycle_never vs sorted x n e) (cycle_never vs sorted y n d) meet)

  -- How the filled future's own walk goes on

  pub data Onward : Type 0 where
    -- the value's root is no future
    ends : chase after f ≡ Value f p → ((g : FutureShape) → lead after f ≢ Goes g) → Onward
    -- its chase ends, elsewhere than at f
    goes_on : (g : FutureShape) → lead after f ≡ Goes g → chase after f ≡ chase vs g → chase vs g ≢ Unfilled f → ((n : FutureShape) → chase after f ≢ Cycle n) → Onward
    -- it comes to f, or into a cycle
    turns : (g h : FutureShape) → lead after f ≡ Goes g → ((chase vs g ≡ Unfilled f) × (h ≡ f)) ⊎ (chase vs g ≡ Cycle h) → Onward

  by_chase : (g : FutureShape) → lead after f ≡ Goes g → (c : Chase) → chase vs g ≡ c → Onward
  by_chase g goes (Value h q) e =
      let now : chase after f ≡ Value h q = chase_goes after (still_sorted vs sorted f new p) f g goes ∙ keeps_value vs sorted f new p g h q e in
      goes_on g goes (now ∙ sym e) (λ d. no_value_unfilled (sym e ∙ d)) (λ n d. no_cycle_value (sym d ∙ now))
  by_chase g goes (Unfilled h) e = ⊎_elim {C = Onward}
      (λ is. turns g h goes (inl (e ∙ ap Unfilled is, is)))
      (λ apart.
      let now : chase after f ≡ Unfilled h = chase_goes after (still_sorted vs sorted f new p) f g goes ∙ keeps_unfilled vs sorted f new p g h e apart in
      goes_on g goes (now ∙ sym e) (λ d. apart (unfilled_is (sym e ∙ d))) (λ n d. no_cycle_unfilled (sym d ∙ now)))
      (future_case h f)
  by_chase g goes (Cycle h) e = turns g h goes (inr e)

  plain_lead : (c : CellShape) → cell p.cells 0 ≡ c → ((g : FutureShape) → lead_by p c ≢ Goes g) → Onward
  plain_lead c e none = ends (ap (chase_by after f) (ap (λ l. walk_by l (walk_end (length after) after) f) (lead_there vs sorted f new p ∙ ap (lead_by p) e ∙ ends_in c none))) (λ g d. none g (ap (lead_by p) (sym e) ∙ sym (lead_there vs sorted f new p) ∙ d))
    where
      ends_in : (c : CellShape) → ((g : FutureShape) → lead_by p c ≢ Goes g) → lead_by p c ≡ Ends p
      ends_in (Future g) h = absurd (h g refl)
      ends_in (Number z) h = refl
      ends_in (Object fields methods) h = refl
      ends_in (Reference n) h = refl
      ends_in (Group ns) h = refl

  abbrev is_going : Lead → Bool
  is_going (Goes g) = true
  is_going l = false

  pub onward : Onward
  onward = by (cell p.cells 0) refl
    where
      by : (c : CellShape) → cell p.cells 0 ≡ c → Onward
      by (Future g) e = by_chase g (lead_there vs sorted f new p ∙ ap (lead_by p) e) (chase vs g) refl
      by (Number z) e = plain_lead (Number z) e (λ g d. none_true (ap is_going d))
      by (Object fields methods) e = plain_lead (Object fields methods) e (λ g d. none_true (ap is_going d))
      by (Reference n) e = plain_lead (Reference n) e (λ g d. none_true (ap is_going d))
      by (Group ns) e = plain_lead (Group ns) e (λ g d. none_true (ap is_going d))

  -- elsewhere chases stay
  pub elsewhere : (x : FutureShape) → IsElsewhere vs after f x → chase after x ≡ chase vs x
  elsewhere x else = by (chase vs x) refl
    where
      by_onward : (m : FutureShape) → chase vs x ≡ Cycle m → Onward → chase after x ≡ Cycle m
      by_onward m e (ends now none) = keeps_cycles vs sorted f new p x m (λ n d. no_cycle_value (sym d ∙ now)) e
      by_onward m e (goes_on g goes now other none) = keeps_cycles vs sorted f new p x m none e
      by_onward m e (turns g h goes root) = others_keep vs sorted f new p g h goes root x m e (λ same. ⊎_elim
          (λ a. no_cycle x (e ∙ ap Cycle (same ∙ a.1)))
          (λ a. else.1 g goes (e ∙ ap Cycle same ∙ sym a))
          root)

      by : (c : Chase) → chase vs x ≡ c → chase after x ≡ chase vs x
      by (Value g q) e = keeps_value vs sorted f new p x g q e ∙ sym e
      by (Unfilled g) e = keeps_unfilled vs sorted f new p x g e (λ same. else.0 (e ∙ ap Unfilled same)) ∙ sym e
      by (Cycle m) e = by_onward m e onward ∙ sym e

  abbrev OfRoot : FutureShape → Type 0
  OfRoot x = (g : FutureShape) × (lead after f ≡ Goes g) × (chase vs x ≡ chase vs g)

  -- a chase that the filled future has and another had is that of the value's root
  pub of_root : (x : FutureShape) → chase after f ≡ chase vs x → OfRoot x
  of_root x e = by onward
    where
      by : Onward → OfRoot x
      by (ends now none) = absurd (true_false (is_some (find future_cmp f vs)) (ap is_some (chase_finds vs x f p (sym e ∙ now)).0) (ap is_some new))
      by (goes_on g goes now other none) = (g, goes, sym e ∙ now)
      by (turns g h goes root) =
          let n = name vs sorted f new p g h goes root in
          let at : chase vs x ≡ Cycle n = sym e ∙ turns_named vs sorted f new p g h goes root f (inl (chase_before vs sorted f new p)) in
          let here : chase vs n ≡ Cycle n = sym (chase_meets vs sorted x n (named_cycle vs sorted x n at).meets) ∙ at in
          ⊎_elim {C = OfRoot x}
          (λ d. no_cycle_unfilled (sym here ∙ d))
          (λ d.
          let same : n ≡ h = cycle_is (sym here ∙ d) in
          ⊎_elim {C = OfRoot x} (λ a. no_cycle x (at ∙ ap Cycle (same ∙ a.1))) (λ a. (g, goes, at ∙ ap Cycle same ∙ sym a)) root)
          (name_turns vs sorted f new p g h goes root)

pub chases_stay_together : ChasesStayTogether
chases_stay_together vs f p sorted new = together vs f p sorted new

pub chases_stay_elsewhere : ChasesStayElsewhere
chases_stay_elsewhere vs f p sorted new = elsewhere vs f p sorted new

pub filled_is_of_root : FilledIsOfRoot
filled_is_of_root vs f p sorted new = of_root vs f p sorted new
