-- Grants of a lease that are entered one by one.
use Rattle.std.proofs.Common.{◌≡◌, ◌≢◌, ◌+◌, ◌*◌, ◌<◌, ◌≤◌, ◌==◌, ◌&&◌, ◌∷◌, not, ℕ, Bool, true, false, nat_lt, min, ◌-◌, List, Result, Ok, Err, refl, sym, ap, ◌∙◌, subst, arith}
use Rattle.std.proofs.lemmas.Bool.{true≢false}
use Rattle.asp_model.specs.History.{BeginsWith, Committed, HistoryShape, Lent, with_entry}
use Rattle.asp_model.proofs.HistoryLemmas.{begins_with_earlier, begins_with_itself}
use Rattle.asp_model.specs.declared.limits.TheConstants.{MOST_GRANTED}
use Rattle.def_journals.specs.Journals.{RunShape, granted, out_but}
use Rattle.law_renewals.specs.Renewals.{renewed}
use Rattle.law_renewals.proofs.RenewalLemmas.{out_twice}
use Rattle.core_edges.specs.Answers.{Answering, Counting}
use Rattle.core_state.proofs.ListLemmas.{numbers_apart}
use Rattle.long_leases.specs.declared.long_lease.LongLease.{LongLease}
use Rattle.long_leases.specs.LongLeases.{IsLongLease}
use Rattle.asp_core.specs.declared.cores.Core.{Core}
use Rattle.asp_core.specs.Chosen.{StaysChosen}
use Rattle.asp_core.specs.Cores.{IsKept, IsRun, code_of, history_of}
use Rattle.asp_core.specs.Plans.{StayByPlan}
use Rattle.asp_core.specs.Renewals.{IsRenewedIn, IsReservedFor}
use Rattle.asp_core.specs.Stopping.{StaysStopped}
use Rattle.asp_core.proofs.OutAfterLemmas.{ComesFrom, runs_are_one}
use Rattle.race_desks.specs.Desks.{KeepsUnlessSpent}
use Rattle.race_desks.specs.Rows.{IsOut}
use Rattle.race_desks.specs.Settling.{IsSettled}
use Rattle.race_desks.specs.Turns.{IsFinished}
use Rattle.race_desks.proofs.CoreLemmas.{KeepsLeft}
use Rattle.race_desks.proofs.OutLemmas.{out_lasts}

-- some grants of a lease were entered, and this is left of it
pub record Settling {P : Type 0} (answers : Answering P) (counts : Counting P) (old : Core P) (l : LongLease)
    (core : Core P) (long : LongLease) : Type 0 where
  pub later : BeginsWith (history_of core) (history_of old)
  pub code : code_of core ≡ code_of old
  pub kept : IsKept core
  pub keeps : KeepsUnlessSpent answers counts old core
  pub others : (j burst : ℕ) → j ≢ l.lease.number → IsOut (history_of old) j burst → IsOut (history_of core) j burst
  pub comes : (t : RunShape) → IsRun core t → (s : RunShape) × IsRun old s
      × (out_but l.lease.number t.out ≡ out_but l.lease.number s.out) × (s.left + long.rounds * MOST_GRANTED ≡ t.left + l.rounds * MOST_GRANTED)
  pub lease : IsFinished (history_of core) (code_of core) long
  pub number : long.lease.number ≡ l.lease.number

number_itself : (k : ℕ) → (k == k) ≡ true
number_itself k = grind arith

module _ {P : Type 0} (answers : Answering P) (counts : Counting P) (old : Core P) (l : LongLease) where
  -- none was
  pub settling_begins : IsKept old → IsFinished (history_of old) (code_of old) l → Settling answers counts old l old l
  settling_begins kept lease = record {
    later = begins_with_itself (history_of old);
    code = refl;
    kept = kept;
    keeps = λ fresh. record { fresh = fresh; plan = λ plan policies is. is; chosen = λ is. is; stopped = λ is. is };
    others = λ j burst apart out. out;
    comes = λ t is. (t, is, refl, refl);
    lease = lease;
    number = refl;
  }

  module _ (core : Core P) (long : LongLease) (x : Settling answers counts old l core long) (reserved : IsReservedFor old l) where
    -- budget is kept for what is left of it
    pub still_reserved : IsReservedFor core long
    still_reserved s run = let c = x.comes s run in let some = reserved c.0 c.1 in omega (arith, some, c.3)

    -- all that was kept may be used
    pub settled : IsSettled answers counts old l core
    settled = record {
      later = x.later;
      code = x.code;
      kept = x.kept;
      core = x.keeps;
      others = x.others;
      comes = λ t is. let c = x.comes t is in (c.0, c.1, c.2, omega (arith, c.3));
    }

    -- one more is
    module _ (new : Core P) (now : LongLease) (beyond : long.lease.grant < long.lease.taken) (unspent : core.spent ≡ false) (fresh : long.lease.spent ≡ false) (plan : StayByPlan answers counts core.edges new.edges) (chosen : StaysChosen core new)
        (stopped : StaysStopped (history_of core) (history_of new)) (kept : IsKept new) (begins : BeginsWith (history_of new) (history_of core)) (code : code_of new ≡ code_of core)
        (renews : (s : RunShape) → IsRun core s → (lease : IsLongLease (history_of core) (code_of core) long) → IsRenewedIn core s long lease new now) where
      before : (s : RunShape) × IsRun core s
      before = x.kept unspent

      abbrev renewal : IsRenewedIn core before.0 long x.lease.0 new now
      renewal = renews before.0 before.1 x.lease.0

      comes_now : (t : RunShape) → IsRun new t → (s : RunShape) × IsRun old s
          × (out_but l.lease.number t.out ≡ out_but l.lease.number s.out) × (s.left + now.rounds * MOST_GRANTED ≡ t.left + l.rounds * MOST_GRANTED)
      comes_now t is =
          let c = x.comes before.0 before.1 in
          let k = long.lease.number in
          let same : t ≡ renewed before.0 k x.lease.0.name renewal.by.renewal.here = runs_are_one new t _ is renewal.run in
          let out : out_but k t.out ≡ out_but k before.0.out =
          ap (λ (r : RunShape). out_but k r.out) same
          ∙ ap (λ b. elim b [ true ↦ out_but k (out_but k before.0.out) | false ↦ (k, granted before.0) ∷ out_but k (out_but k before.0.out) ]) (number_itself k)
          ∙ out_twice k before.0.out in
          let left : t.left ≡ before.0.left - min MOST_GRANTED before.0.left = ap (λ (r : RunShape). r.left) same in
          let some : long.rounds * MOST_GRANTED ≤ before.0.left = still_reserved before.0 before.1 in
          (c.0, c.1, subst (λ j. out_but j t.out ≡ out_but j before.0.out) x.number out ∙ c.2, omega (arith, left, some, renewal.by.rounds, c.3))

      -- and fewer may follow
      pub settling_less : now.rounds < long.rounds
      settling_less = omega (arith, renewal.by.rounds)

      pub settling_on : Settling answers counts old l new now
      settling_on = record {
        later = begins_with_earlier (history_of new) (history_of core) (history_of old) begins x.later;
        code = code ∙ x.code;
        kept = kept;
        keeps = λ still. let first = x.keeps unspent in record {
          fresh = first.fresh;
          plan = λ p policies is. plan p policies (first.plan p policies is);
          chosen = λ is. chosen (first.chosen is);
          stopped = λ is. stopped (first.stopped is);
        };
        others = λ j burst apart out.
            let k = long.lease.number in
            let other : (not (j == k) && true) ≡ true = ap (λ b. not b && true) (numbers_apart j k (λ same. apart (same ∙ x.number))) in
            let h = history_of core in
            subst (λ (g : HistoryShape). IsOut g j burst) (sym renewal.entered)
            (out_lasts (with_entry h (Committed k long.lease.grant)) (Lent k) j burst other (out_lasts h (Committed k long.lease.grant) j burst other (x.others j burst apart out)));
        comes = comes_now;
        lease = (renewal.still, λ fresh_now. renewal.ended (x.lease.1 fresh));
        number = renewal.by.number ∙ x.number;
      }

    -- memory ran out
    pub settling_ends : (new : Core P) → new.spent ≡ true → IsKept new → BeginsWith (history_of new) (history_of core) → history_of new ≡ history_of core → code_of new ≡ code_of core
        → IsSettled answers counts old l new
    settling_ends new spent kept begins same code = record {
      later = begins_with_earlier (history_of new) (history_of core) (history_of old) begins x.later;
      code = code ∙ x.code;
      kept = kept;
      core = λ fresh. absurd (true≢false (sym spent ∙ fresh));
      others = λ j burst apart out. subst (λ (g : HistoryShape). IsOut g j burst) (sym same) (x.others j burst apart out);
      comes = λ t is. absurd (true≢false (sym spent ∙ is.fresh));
    }

pub not_beyond : (grant taken : ℕ) → nat_lt grant taken ≡ false → taken ≤ grant
not_beyond grant taken is = grind (arith, is)

pub beyond_then : (grant taken : ℕ) → nat_lt grant taken ≡ true → grant < taken
beyond_then grant taken is = grind (arith, is)

-- A commit behind it

module _ {P : Type 0} (answers : Answering P) (counts : Counting P) (old mid new : Core P) (l : LongLease) (x : IsSettled answers counts old l mid) where
  abbrev k : ℕ
  k = l.lease.number

  pub then_keeps : KeepsUnlessSpent answers counts mid new → KeepsUnlessSpent answers counts old new
  then_keeps keeps fresh =
      let last = keeps fresh in
      let first = x.core last.fresh in record {
        fresh = first.fresh;
        plan = λ plan policies is. last.plan plan policies (first.plan plan policies is);
        chosen = λ is. last.chosen (first.chosen is);
        stopped = λ is. last.stopped (first.stopped is);
      }

  pub then_comes : (j : ℕ) → j ≡ k → ComesFrom mid new (λ s. out_but j s.out) → ComesFrom old new (λ s. out_but k s.out)
  then_comes j same comes t is =
      let last = comes t is in
      let first = x.comes last.0 last.1 in
      (first.0, first.1, last.2 ∙ ap (λ i. out_but i last.0.out) same ∙ first.2)

  pub then_left : KeepsLeft mid new 0 → KeepsLeft old new (l.rounds * MOST_GRANTED)
  then_left lefts t is =
      let last = lefts t is in
      let first = x.comes last.0 last.1 in
      (first.0, first.1, omega (arith, last.2, first.3))

-- where memory ran out before it, nothing is asked of a run
module _ {P : Type 0} (old new : Core P) (spent : new.spent ≡ true) where
  pub none_comes : (f : RunShape → List (ℕ × ℕ)) → ComesFrom old new f
  none_comes f t is = absurd (true≢false (sym spent ∙ is.fresh))

  pub none_left : (n : ℕ) → KeepsLeft old new n
  none_left n t is = absurd (true≢false (sym spent ∙ is.fresh))

abbrev is_ok : {A E : Type 0} → Result A E → Bool
is_ok (Ok y) = true
is_ok (Err y) = false

-- a core that answered was not spent
pub unspent : {A E : Type 0} (spent : Bool) (x : A) (e : E) → (spent ≡ true → Ok x ≡ Err e) → spent ≡ false
unspent true x e err = absurd (true≢false (ap is_ok (err refl)))
unspent false x e err = refl
