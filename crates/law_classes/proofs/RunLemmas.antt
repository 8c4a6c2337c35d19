-- Runs under lists by classes, and where on them one who intends something does it.
use Rattle.std.specs.Prelude.{◌≡◌, ◌≢◌, ◌≤◌, ◌&&◌, ℕ, cond, true, false, Bool, List, [], ◌∷◌, Option, Some, None, length, take, is_some}
use Rattle.std.proofs.Common.{refl, sym, ap, subst, ◌∙◌, arith, ⊎_elim}
use Rattle.std.proofs.lemmas.Bool.{and_parts}
use Rattle.std.specs.FinMap.{find}
use Rattle.law_steps.specs.Systems.{Run}
use Rattle.asp_model.specs.Names.{Name, Text, name_cmp}
use Rattle.asp_model.specs.Term.{Tree}
use Rattle.asp_model.specs.Configuration.{RequestShape, ReceptionShape, Poll, Configuration, start}
use Rattle.asp_model.specs.Intent.{Effect}
use Rattle.asp_model.specs.Step.{intent_in, with_effect, reception_at, may_log}
use Rattle.asp_model.specs.Status.{IsStuck}
use Rattle.law_steps.specs.Reached.{IsReached, RunsTo}
use Rattle.law_chases.proofs.FutureLemmas.{no_some}
use Rattle.law_steps.proofs.NameLemmas.{name_case}
use Rattle.law_steps.proofs.StepLemmas.{Takes, takes_step}
use Rattle.law_steps.proofs.FactLemmas.{IsLogged, acts_is, acts_facts}
use Rattle.law_steps.proofs.SoundLemmas.{Took}
use Rattle.law_steps.proofs.ExactLemmas.{here_after}
use Rattle.law_steps.proofs.CommuteLemmas.{took, acts_after}
use Rattle.law_steps.proofs.ListLemmas.{IsPrefix, prefix_both, prefix_same}
use Rattle.law_steps.proofs.MergeLemmas.{prefix_length, prefix_anti}
use Rattle.law_steps.proofs.ReachedLemmas.{reached_right, start_is_reached}
use Rattle.law_steps.proofs.LinkedLemmas.{stuck_is_still}
use Rattle.law_steps.proofs.JoinLemmas.{NobodySteps}
use Rattle.law_families.proofs.CutLemmas.{past, taken}
use Rattle.law_classes.specs.Alike.{asked_at, class_of, AsksInClass}
use Rattle.law_classes.specs.Runs.{view, ClassLogs, Entry, entered, entry_of, with_entry, IsTurn, State, ClassStep, first_state}
use Rattle.law_classes.specs.Families.{IsInside, cut_logs}
use Rattle.law_classes.proofs.AlikeLemmas.{takes_alike}
use Rattle.law_classes.proofs.EntryLemmas.{is_at, at_itself, at_ties, grown_entry, turn_in, inside_entry, poll_not_sent}
use Rattle.law_classes.proofs.ApartLemmas.{asked_kept}
use Rattle.law_classes.proofs.StateLemmas.{alike_view, view_alike, asks_alike, asks_kept, asks_back, entry_kept, entry_alike, went_on, IsShown, takes_of, system}

-- Who intends to enter something still does

poll_entry : (K : Text → ℕ) (ls : List Text) (n : Name) (o : Option (Name × RequestShape)) (l : Option (Name × ReceptionShape)) → IsLogged n o l → l ≡ Some (n, Poll) → entered K ls o l ≡ Some (n, class_of K ls, Poll)
poll_entry K ls n None l f is = ap (entered K ls None) is
poll_entry K ls n (Some w) l f is = absurd (poll_not_sent n w.0 l is f)

-- who can step can when another has stepped, and enters the same
still_enters : (K : Text → ℕ) (c : Configuration) (n m : Name) (e d : Effect) → n ≢ m → Took c m d → is_some (find name_cmp n c.activities) ≡ true → Takes None c n e → (x : Effect) × Takes None (with_effect m d c) n x × (entry_of K (with_effect m d c) n x ≡ entry_of K c n e)
still_enters K c n m e d apart t there can = ⊎_elim
    (λ p. (e, record { intends = p; may = may e.logged refl }, entry_kept K c n m e d apart t there))
    (λ y.
    let x : Takes None (with_effect m d c) n y.1 = record { intends = y.2; may = may y.1.logged (y.3 ∙ sym y.0) } in
    let now = poll_entry K (asked_at (with_effect m d c) n) n y.1.sent y.1.logged (acts_facts (with_effect m d c) n y.1 y.2).1.logged y.3 in
    let was = poll_entry K (asked_at c n) n e.sent e.logged (acts_facts c n e can.intends).1.logged y.0 in
    (y.1, x, now ∙ ap (λ ls. Some (n, class_of K ls, Poll)) (asked_kept c n m d apart t there) ∙ sym was))
    (acts_after c n m e d apart t can.intends)
  where
    kept : (o : Option (Name × ReceptionShape)) → may_log None c o ≡ true → may_log None (with_effect m d c) o ≡ true
    kept None h = refl
    kept (Some z) h = ap (λ b. b && true) (here_after c m d z.0 (and_parts (is_some (find name_cmp z.0 c.activities)) true h).0)

    may : (o : Option (Name × ReceptionShape)) → o ≡ e.logged → may_log None (with_effect m d c) o ≡ true
    may o same = ap (may_log None (with_effect m d c)) same ∙ kept e.logged can.may

module _ (K : Text → ℕ) (program : Tree) where
  -- Other lists

  grown_step : (lists : ClassLogs) (n : Name) (v w : State) → ClassStep K program lists n v w → (q : Name) (κ : ℕ) → IsPrefix (v.1 q κ) (w.1 q κ)
  grown_step lists n v w s q κ = subst (λ l. IsPrefix (v.1 q κ) (l q κ)) s.enters (grown_entry (entry_of K s.at n s.effect) v.1 q κ)

  pub grown_run : (lists : ClassLogs) (ns : List Name) (v w : State) → Run (system K program lists) v ns w → (q : Name) (κ : ℕ) → IsPrefix (v.1 q κ) (w.1 q κ)
  grown_run lists [] v w run q κ = prefix_same _ _ (ap (λ x. x.1 q κ) run)
  grown_run lists (n ∷ ns) v w run q κ = prefix_both _ _ _ (grown_step lists n v run.0 run.1 q κ) (grown_run lists ns run.0 w run.2 q κ)

  relist_step : (lists others : ClassLogs) (n : Name) (v w : State) → ClassStep K program lists n v w → IsInside w.1 others → ClassStep K program others n v w × IsInside v.1 others
  relist_step lists others n v w s inside = (
    record { at = s.at; effect = s.effect; reached = s.reached; is = s.is; intends = s.intends; may = s.may; turn = turn_in others v.1 (entry_of K s.at n s.effect) (subst (λ l. IsInside l others) (sym s.enters) inside); asks = s.asks; then = s.then; enters = s.enters },
    λ q κ. prefix_both _ _ _ (grown_step lists n v w s q κ) (inside q κ),
  )

  -- a run is one under all lists that begin with the logs that it leaves
  pub relist : (lists others : ClassLogs) (ns : List Name) (v w : State) → Run (system K program lists) v ns w → IsInside w.1 others → Run (system K program others) v ns w × IsInside v.1 others
  relist lists others [] v w run inside = (run, subst (λ x. IsInside x.1 others) (sym run) inside)
  relist lists others (n ∷ ns) v w run inside =
      let more = relist lists others ns run.0 w run.2 inside in
      let s = relist_step lists others n v run.0 run.1 more.1 in
      ((run.0, s.0, more.0), s.1)

  -- The first step of a run, from a configuration that looks so

  pub record Moved (lists : ClassLogs) (c : Configuration) (logs : ClassLogs) (l : Name) (w : State) : Type 0 where
    pub effect : Effect
    pub takes : Takes None c l effect
    pub turn : IsTurn lists logs (entry_of K c l effect)
    pub asks : AsksInClass K c l
    pub then : view K (with_effect l effect c) ≡ w.0
    pub enters : with_entry (entry_of K c l effect) logs ≡ w.1

  pub moved : (lists : ClassLogs) (c : Configuration) (logs : ClassLogs) (l : Name) (w : State) → IsReached program c → ClassStep K program lists l (view K c, logs) w → Moved lists c logs l w
  moved lists c logs l w reached s =
      let back = view_alike K s.at c s.is in
      let x = takes_alike K program s.at c l s.effect s.reached reached back s.asks (takes_of K program lists l (view K c, logs) w s) in
      let entry = entry_alike K s.at c l s.effect back x in
      record {
        effect = x.effect;
        takes = x.takes;
        turn = subst (IsTurn lists logs) entry s.turn;
        asks = asks_alike K s.at c l back s.asks;
        then = sym (alike_view K (with_effect l s.effect s.at) (with_effect l x.effect c) x.alike) ∙ s.then;
        enters = ap (λ o. with_entry o logs) (sym entry) ∙ s.enters;
      }

  -- the rest of the run, from the configuration after it
  onward : (lists : ClassLogs) (c : Configuration) (logs : ClassLogs) (l : Name) (w : State) (m : Moved lists c logs l w) (ls : List Name) (f : State) → Run (system K program lists) w ls f → Run (system K program lists) (view K (with_effect l m.effect c), with_entry (entry_of K c l m.effect) logs) ls f
  onward lists c logs l w m ls f run = subst (λ v. Run (system K program lists) v ls f) (λ i. (sym m.then i, sym m.enters i)) run

  -- steps by classes are steps of the program
  pub real_run : (lists : ClassLogs) (ls : List Name) (c : Configuration) (logs : ClassLogs) (f : State) → IsReached program c → Run (system K program lists) (view K c, logs) ls f → (d : Configuration) × RunsTo None c ls d × (view K d ≡ f.0)
  real_run lists [] c logs f reached run = (c, refl, ap (λ v. v.0) run)
  real_run lists (l ∷ ls) c logs f reached run =
      let m = moved lists c logs l run.0 reached run.1 in
      let d = with_effect l m.effect c in
      let r = real_run lists ls d (with_entry (entry_of K c l m.effect) logs) f (went_on program c l m.effect reached m.takes) (onward lists c logs l run.0 m ls f run.2) in
      (r.0, (d, takes_step None c l m.effect m.takes, r.1), r.2)

  -- whoever is there asks in one class, where all do in the end
  pub asks_run : (lists : ClassLogs) (ls : List Name) (c : Configuration) (logs : ClassLogs) (x : Configuration) (others : ClassLogs) (n : Name) → IsReached program c → is_some (find name_cmp n c.activities) ≡ true → AsksInClass K x n → Run (system K program lists) (view K c, logs) ls (view K x, others) → AsksInClass K c n
  asks_run lists [] c logs x others n reached there asks run = asks_alike K x c n (view_alike K x c (sym (ap (λ v. v.0) run))) asks
  asks_run lists (l ∷ ls) c logs x others n reached there asks run =
      let m = moved lists c logs l run.0 reached run.1 in
      ⊎_elim
      (λ p. subst (AsksInClass K c) (sym p) m.asks)
      (λ apart.
      let d = with_effect l m.effect c in
      let t = took None c l m.effect (reached_right program c reached).sound m.takes in
      asks_back K c n l m.effect apart t there (asks_run lists ls d (with_entry (entry_of K c l m.effect) logs) x others n (went_on program c l m.effect reached m.takes) (here_after c l m.effect n there) asks (onward lists c logs l run.0 m ls (view K x, others) run.2)))
      (name_case n l)

  -- what one who can step would enter has a place in the lists of a run after which nobody steps
  abbrev pub HasPlace : (lists logs : ClassLogs) → Entry → Type 0
  HasPlace lists logs z = (i : ℕ) × (length (logs z.0 z.1) ≤ i) × (reception_at (lists z.0 z.1) i ≡ Some z.2)

  pub later : (lists : ClassLogs) (ls : List Name) (c : Configuration) (logs : ClassLogs) (x : Configuration) (others : ClassLogs) (n : Name) (e : Effect) (z : Entry) → IsReached program c → IsReached program x → Takes None c n e → AsksInClass K c n → NobodySteps x → entry_of K c n e ≡ Some z → Run (system K program lists) (view K c, logs) ls (view K x, others) → HasPlace lists logs z
  later lists [] c logs x others n e z reached end can asks still is run =
      let y = takes_alike K program c x n e reached end (view_alike K c x (ap (λ v. v.0) run)) asks can in
      absurd (still n (with_effect n y.effect x) (takes_step None x n y.effect y.takes))
  later lists (l ∷ ls) c logs x others n e z reached end can asks still is run =
      let m = moved lists c logs l run.0 reached run.1 in
      ⊎_elim
      (λ p.
      let same : m.effect ≡ e = acts_is (sym m.takes.intends ∙ ap (intent_in c) (sym p) ∙ can.intends) in
      let entry : entry_of K c l m.effect ≡ Some z = ap (λ k. entry_of K c k m.effect) (sym p) ∙ ap (entry_of K c n) same ∙ is in
      (length (logs z.0 z.1), omega arith, subst (IsTurn lists logs) entry m.turn))
      (λ apart.
      let r = reached_right program c reached in
      let t = took None c l m.effect r.sound m.takes in
      let u = took None c n e r.sound can in
      let d = with_effect l m.effect c in
      let y = still_enters K c n l e m.effect apart t u.there can in
      let w = later lists ls d (with_entry (entry_of K c l m.effect) logs) x others n y.0 z (went_on program c l m.effect reached m.takes) end y.1 (asks_kept K c n l m.effect apart t u.there asks) still (y.2 ∙ is) (onward lists c logs l run.0 m ls (view K x, others) run.2) in
      (w.0, omega (arith, w.1, prefix_length _ _ (grown_entry (entry_of K c l m.effect) logs z.0 z.1)), w.2))
      (name_case n l)

  -- at the end of a run it can step and enters this, and the list there is used up
  pub record Held (lists : ClassLogs) (f : State) (n : Name) (z : Entry) : Type 0 where
    pub at : Configuration
    pub effect : Effect
    pub reached : IsReached program at
    pub is : view K at ≡ f.0
    pub takes : Takes None at n effect
    pub asks : AsksInClass K at n
    pub entry : entry_of K at n effect ≡ Some z
    pub full : f.1 z.0 z.1 ≡ lists z.0 z.1

  pub held : (lists : ClassLogs) (ls : List Name) (c : Configuration) (logs : ClassLogs) (f : State) (n : Name) (e : Effect) (z : Entry) → IsReached program c → Takes None c n e → AsksInClass K c n → entry_of K c n e ≡ Some z → IsInside logs lists → logs z.0 z.1 ≡ lists z.0 z.1 → Run (system K program lists) (view K c, logs) ls f → Held lists f n z
  held lists [] c logs f n e z reached can asks is inside full run = record { at = c; effect = e; reached = reached; is = ap (λ v. v.0) run; takes = can; asks = asks; entry = is; full = sym (ap (λ v. v.1 z.0 z.1) run) ∙ full }
  held lists (l ∷ ls) c logs f n e z reached can asks is inside full run =
      let m = moved lists c logs l run.0 reached run.1 in
      let now = with_entry (entry_of K c l m.effect) logs in
      let inside' = inside_entry lists logs (entry_of K c l m.effect) m.turn inside in
      ⊎_elim
      (λ p.
      let same : m.effect ≡ e = acts_is (sym m.takes.intends ∙ ap (intent_in c) (sym p) ∙ can.intends) in
      let entry : entry_of K c l m.effect ≡ Some z = ap (λ k. entry_of K c k m.effect) (sym p) ∙ ap (entry_of K c n) same ∙ is in
      let at : reception_at (lists z.0 z.1) (length (logs z.0 z.1)) ≡ Some z.2 = subst (IsTurn lists logs) entry m.turn in
      no_some (sym (past (lists z.0 z.1)) ∙ ap (λ l. reception_at (lists z.0 z.1) (length l)) (sym full) ∙ at))
      (λ apart.
      let r = reached_right program c reached in
      let t = took None c l m.effect r.sound m.takes in
      let u = took None c n e r.sound can in
      let d = with_effect l m.effect c in
      let y = still_enters K c n l e m.effect apart t u.there can in
      let full' : now z.0 z.1 ≡ lists z.0 z.1 = prefix_anti _ _ (inside' z.0 z.1) (subst (λ k. IsPrefix k (now z.0 z.1)) full (grown_entry (entry_of K c l m.effect) logs z.0 z.1)) in
      held lists ls d now f n y.0 z (went_on program c l m.effect reached m.takes) y.1 (asks_kept K c n l m.effect apart t u.there asks) (y.2 ∙ is) inside' full' (onward lists c logs l run.0 m ls f run.2))
      (name_case n l)

  -- nobody steps under lists from what looks like a still configuration
  pub still_state : (lists : ClassLogs) (x : Configuration) (logs : ClassLogs) → IsReached program x → NobodySteps x → (n : Name) (w : State) → ClassStep K program lists n (view K x, logs) w → ⊥
  still_state lists x logs reached still n w s = let m = moved lists x logs n w reached s in still n (with_effect n m.effect x) (takes_step None x n m.effect m.takes)

pub still_at : (program : Tree) (x : Configuration) → IsReached program x → IsStuck x → NobodySteps x
still_at program x reached stuck n d st = no_some (sym ((stuck_is_still program x reached).0 stuck n) ∙ st)

pub good_start : (K : Text → ℕ) (program : Tree) → IsShown K program (first_state K program)
good_start K program = record { at = start program; reached = start_is_reached program; is = refl }

-- Lists that are cut

cut_at : (lists : ClassLogs) (p : Name) (ν k : ℕ) → cut_logs lists p ν k p ν ≡ take k (lists p ν)
cut_at lists p ν k = ap (λ b. cond b (take k (lists p ν)) (lists p ν)) (at_itself (p, ν, Poll))

-- logs inside lists are inside them, cut behind the log
pub cut_inside : (lists logs : ClassLogs) (p : Name) (ν : ℕ) → IsInside logs lists → IsInside logs (cut_logs lists p ν (length (logs p ν)))
cut_inside lists logs p ν inside q κ = by_test (is_at (p, ν, Poll) q κ) refl
  where
    here : IsPrefix (logs p ν) (take (length (logs p ν)) (lists p ν))
    here = prefix_same _ _ (sym (taken (logs p ν) (lists p ν) (inside p ν)))

    by_test : (b : Bool) → is_at (p, ν, Poll) q κ ≡ b → IsPrefix (logs q κ) (cond b (take (length (logs p ν)) (lists q κ)) (lists q κ))
    by_test false h = inside q κ
    by_test true h =
        let x = at_ties (p, ν, Poll) q κ h in
        subst (λ y. IsPrefix (logs y κ) (take (length (logs p ν)) (lists y κ))) (sym x.0) (subst (λ μ. IsPrefix (logs p μ) (take (length (logs p ν)) (lists p μ))) (sym x.1) here)

pub cut_full : (lists logs : ClassLogs) (p : Name) (ν : ℕ) → IsInside logs lists → logs p ν ≡ cut_logs lists p ν (length (logs p ν)) p ν
cut_full lists logs p ν inside = sym (cut_at lists p ν (length (logs p ν)) ∙ taken (logs p ν) (lists p ν) (inside p ν))
