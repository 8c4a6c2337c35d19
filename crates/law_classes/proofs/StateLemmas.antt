-- Views and logs by classes as a system of labelled steps under lists.
use Rattle.std.specs.Prelude.{◌≡◌, ◌≢◌, ℕ, true, Some, None, is_some}
use Rattle.std.proofs.Common.{refl, sym, ap, subst, ◌∙◌}
use Rattle.std.specs.FinMap.{find}
use Rattle.law_steps.specs.Systems.{System}
use Rattle.asp_model.specs.Names.{Name, Text, name_cmp}
use Rattle.asp_model.specs.Term.{Tree}
use Rattle.asp_model.specs.Configuration.{Configuration}
use Rattle.asp_model.specs.Intent.{Effect}
use Rattle.asp_model.specs.Step.{with_effect}
use Rattle.law_steps.specs.Reached.{IsReached, Steps}
use Rattle.law_steps.proofs.NameLemmas.{name_case}
use Rattle.law_steps.proofs.StepLemmas.{Takes, takes_step}
use Rattle.law_steps.proofs.SoundLemmas.{Took}
use Rattle.law_steps.proofs.FactLemmas.{acts_is, acts_facts}
use Rattle.law_steps.proofs.CommuteLemmas.{took}
use Rattle.law_steps.proofs.ReachedLemmas.{reached_right, moves_go_on}
use Rattle.law_classes.specs.Alike.{AreAlike, asked_at, AreOneClass, AsksInClass}
use Rattle.law_classes.specs.Runs.{view, ClassLogs, Entry, entered, entry_of, with_entry, IsTurn, State, ClassStep}
use Rattle.law_classes.proofs.AlikeLemmas.{TakesAlike, takes_alike, asked_alike, alike_back}
use Rattle.law_classes.proofs.EntryLemmas.{entries_back, swap_entries, turn_kept, turns_apart, EnteredBy, entered_by}
use Rattle.law_classes.proofs.ApartLemmas.{asked_kept, free_still, both_alike}

-- Views

pub alike_view : (K : Text → ℕ) (c d : Configuration) → AreAlike K c d → view K c ≡ view K d
alike_view K c d h = λ i. record {
  activities = λ m. h.activities m i;
  futures = h.futures i;
  received = λ m κ. (h.boxes m).received κ i;
  waits = λ m κ. (h.boxes m).waits κ i;
}

pub view_alike : (K : Text → ℕ) (c d : Configuration) → view K c ≡ view K d → AreAlike K c d
view_alike K c d h = record {
  activities = λ m. ap (λ v. v.activities m) h;
  futures = ap (λ v. v.futures) h;
  boxes = λ m. record { received = λ κ. ap (λ v. v.received m κ) h; waits = λ κ. ap (λ v. v.waits m κ) h };
}

pub asks_alike : (K : Text → ℕ) (c d : Configuration) (n : Name) → AreAlike K c d → AsksInClass K c n → AsksInClass K d n
asks_alike K c d n alike h = subst (AreOneClass K) (asked_alike K c d n alike) h

pub asks_kept : (K : Text → ℕ) (c : Configuration) (n m : Name) (e : Effect) → n ≢ m → Took c m e → is_some (find name_cmp n c.activities) ≡ true → AsksInClass K c n → AsksInClass K (with_effect m e c) n
asks_kept K c n m e apart t there h = subst (AreOneClass K) (sym (asked_kept c n m e apart t there)) h

pub asks_back : (K : Text → ℕ) (c : Configuration) (n m : Name) (e : Effect) → n ≢ m → Took c m e → is_some (find name_cmp n c.activities) ≡ true → AsksInClass K (with_effect m e c) n → AsksInClass K c n
asks_back K c n m e apart t there h = subst (AreOneClass K) (asked_kept c n m e apart t there) h

pub entry_kept : (K : Text → ℕ) (c : Configuration) (n m : Name) (e d : Effect) → n ≢ m → Took c m d → is_some (find name_cmp n c.activities) ≡ true → entry_of K (with_effect m d c) n e ≡ entry_of K c n e
entry_kept K c n m e d apart t there = ap (λ ls. entered K ls e.sent e.logged) (asked_kept c n m d apart t there)

-- the same is entered by a step of what is alike
pub entry_alike : (K : Text → ℕ) (c d : Configuration) (n : Name) (e : Effect) → AreAlike K c d → (x : TakesAlike K c d n e) → entry_of K c n e ≡ entry_of K d n x.effect
entry_alike K c d n e alike x = λ i. entered K (asked_alike K c d n alike i) (x.sent i) (x.logged i)

pub its_entry : (K : Text → ℕ) (c : Configuration) (n : Name) (e : Effect) → Takes None c n e → (x : Entry) → entry_of K c n e ≡ Some x → EnteredBy n x
its_entry K c n e can x is = entered_by K (asked_at c n) n e.sent e.logged x (acts_facts c n e can.intends).1.logged is

-- The system

pub went_on : (program : Tree) (c : Configuration) (n : Name) (e : Effect) → IsReached program c → Takes None c n e → IsReached program (with_effect n e c)
went_on program c n e r x = moves_go_on program c (with_effect n e c) (Steps None n) r (takes_step None c n e x)

-- a state that a configuration of the program shows
pub record IsShown (K : Text → ℕ) (program : Tree) (v : State) : Type 0 where
  pub at : Configuration
  pub reached : IsReached program at
  pub is : view K at ≡ v.0

module _ (K : Text → ℕ) (program : Tree) (lists : ClassLogs) where
  pub takes_of : (n : Name) (v w : State) (s : ClassStep K program lists n v w) → Takes None s.at n s.effect
  takes_of n v w s = record { intends = s.intends; may = s.may }

  pub one_state : (n : Name) (v w u : State) → ClassStep K program lists n v w → ClassStep K program lists n v u → w ≡ u
  one_state n v w u s r =
      let alike = view_alike K s.at r.at (s.is ∙ sym r.is) in
      let x = takes_alike K program s.at r.at n s.effect s.reached r.reached alike s.asks (takes_of n v w s) in
      let effects : x.effect ≡ r.effect = effect_is r.at n x.effect r.effect x.takes (takes_of n v u r) in
      let views : w.0 ≡ u.0 = sym s.then ∙ alike_view K (with_effect n s.effect s.at) (with_effect n x.effect r.at) x.alike ∙ ap (λ f. view K (with_effect n f r.at)) effects ∙ r.then in
      let entries : entry_of K s.at n s.effect ≡ entry_of K r.at n r.effect = entry_alike K s.at r.at n s.effect alike x ∙ ap (entry_of K r.at n) effects in
      let logs : w.1 ≡ u.1 = sym s.enters ∙ ap (λ o. with_entry o v.1) entries ∙ r.enters in
      λ i. (views i, logs i)
    where
      effect_is : (c : Configuration) (n : Name) (e f : Effect) → Takes None c n e → Takes None c n f → e ≡ f
      effect_is c n e f x y = acts_is (sym x.intends ∙ y.intends)

  pub states_commute : (n m : Name) (v w u : State) → n ≢ m → ClassStep K program lists n v w → ClassStep K program lists m v u → (z : State) × ClassStep K program lists m w z × ClassStep K program lists n u z
  states_commute n m v w u apart s r =
      let c = s.at in
      let back = view_alike K r.at c (r.is ∙ sym s.is) in
      let x = takes_alike K program r.at c m r.effect r.reached s.reached back r.asks (takes_of m v u r) in
      let d = x.effect in
      let e = s.effect in
      let can_n = takes_of n v w s in
      let same_m = entry_alike K r.at c m r.effect back x in
      let turn_m : IsTurn lists v.1 (entry_of K c m d) = subst (IsTurn lists v.1) same_m r.turn in
      let asks_m = asks_alike K r.at c m back r.asks in
      let entries = turns_apart lists v.1 n m (entry_of K c n e) (entry_of K c m d) apart (its_entry K c n e can_n) (its_entry K c m d x.takes) s.turn turn_m in
      let others = entries_back (entry_of K c n e) (entry_of K c m d) entries in
      let sound = (reached_right program c s.reached).sound in
      let t = took None c n e sound can_n in
      let q = took None c m d sound x.takes in
      let away : m ≢ n = λ p. apart (sym p) in
      let rn = went_on program c n e s.reached can_n in
      let rm = went_on program c m d s.reached x.takes in
      let ends = both_alike K c n m e d sound apart can_n x.takes asks_m entries (reached_right program (with_effect n e c) rn).sound in
      let can_m = free_still K c m n d e away t t.facts.logged x.takes asks_m others in
      let can_then = free_still K c n m e d apart q q.facts.logged can_n s.asks entries in
      let kept_m = entry_kept K c m n d e away t q.there in
      let kept_n = entry_kept K c n m e d apart q t.there in
      let logs_w : with_entry (entry_of K c n e) v.1 ≡ w.1 = s.enters in
      let logs_u : with_entry (entry_of K c m d) v.1 ≡ u.1 = ap (λ o. with_entry o v.1) (sym same_m) ∙ r.enters in (
        (view K (with_effect m d (with_effect n e c)), with_entry (entry_of K c m d) w.1),
        record {
          at = with_effect n e c;
          effect = d;
          reached = rn;
          is = s.then;
          intends = can_m.intends;
          may = can_m.may;
          turn = subst (IsTurn lists w.1) (sym kept_m) (subst (λ l. IsTurn lists l (entry_of K c m d)) logs_w (turn_kept lists v.1 (entry_of K c m d) (entry_of K c n e) others turn_m));
          asks = asks_kept K c m n e away t q.there asks_m;
          then = refl;
          enters = ap (λ o. with_entry o w.1) kept_m;
        },
        record {
          at = with_effect m d c;
          effect = e;
          reached = rm;
          is = alike_view K (with_effect m d c) (with_effect m r.effect r.at) (alike_back K (with_effect m r.effect r.at) (with_effect m d c) x.alike) ∙ r.then;
          intends = can_then.intends;
          may = can_then.may;
          turn = subst (IsTurn lists u.1) (sym kept_n) (subst (λ l. IsTurn lists l (entry_of K c n e)) logs_u (turn_kept lists v.1 (entry_of K c n e) (entry_of K c m d) entries s.turn));
          asks = asks_kept K c n m d apart q t.there s.asks;
          then = sym (alike_view K (with_effect m d (with_effect n e c)) (with_effect n e (with_effect m d c)) ends);
          enters = ap (λ o. with_entry o u.1) kept_n ∙ ap (with_entry (entry_of K c n e)) (sym logs_u) ∙ swap_entries (entry_of K c n e) (entry_of K c m d) v.1 entries ∙ ap (with_entry (entry_of K c m d)) logs_w;
        },
      )

  -- so runs under lists by classes join, and one that has stopped contains the others
  abbrev pub system : System
  system = record {
    State = State;
    Label = Name;
    Good = IsShown K program;
    Step = ClassStep K program lists;
    alike = name_case;
    keeps = λ n v w g s. record { at = with_effect n s.effect s.at; reached = went_on program s.at n s.effect s.reached (takes_of n v w s); is = s.then };
    one = λ n v w u s r. one_state n v w u s r;
    commutes = λ n m v w u g apart s r. states_commute n m v w u apart s r;
  }
