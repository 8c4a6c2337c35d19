-- What is done in a turn, and one thing after another.
use Rattle.std.proofs.Common.{◌≡◌, ◌≢◌, ◌⊎◌, ◌<◌, ◌≤◌, ◌+◌, ◌-◌, ◌*◌, ℕ, List, Option, Some, None, set, vec_len, sym, ap, refl, ◌∙◌, subst, ⊎_elim, length, arith}
use Rattle.std.proofs.lemmas.Option.{none-some, same_Some}
use Rattle.asp_model.specs.History.{BeginsWith, HistoryShape}
use Rattle.asp_model.proofs.HistoryLemmas.{begins_with_earlier, begins_with_itself}
use Rattle.def_journals.specs.Journals.{RunShape, grant_of, granted, out_but}
use Rattle.asp_model.specs.declared.limits.TheConstants.{MOST_GRANTED}
use Rattle.core_state.specs.declared.lease.Lease.{Lease}
use Rattle.long_leases.specs.declared.long_lease.LongLease.{LongLease}
use Rattle.long_leases.specs.LongLeases.{IsLongLease}
use Rattle.core_edges.specs.Answers.{Answering, Counting}
use Rattle.asp_core.specs.Cores.{IsHome, IsKept, IsRun}
use Rattle.asp_core.proofs.OutAfterLemmas.{ComesFrom, home_by}
use Rattle.race_desks.specs.declared.desk.Desk.{Desk}
use Rattle.race_desks.specs.Desks.{IsOrderly, KeepsDesk, KeepsUnlessSpent, code_at, core_at, history_at, row_at, seats_at}
use Rattle.race_desks.specs.LeaseRows.{rounds_of}
use Rattle.race_desks.specs.Rows.{AreApart, AreHeld, AreOut, AreReserved, IsOut, Row, rounds_in, row}
use Rattle.race_desks.specs.Turns.{HasLease, IsTurn}
use Rattle.race_desks.proofs.CoreLemmas.{KeepsLeft, Lends}
use Rattle.race_desks.proofs.OutLemmas.{back_or, lease_is_out, lent_or}
use Rattle.race_desks.proofs.RowLemmas.{else_set, got_set, rounds_set}

module _ {P : Type 0} (desk : Desk P) (seat : ℕ) where
  -- a seat without a lease has nothing out
  pub has_none : (held : Option LongLease) → held ≡ None → row_at desk seat ≡ None → HasLease IsLongLease desk seat held
  has_none held none free = subst (λ (o : Option LongLease). HasLease IsLongLease desk seat o) (sym none) free

  -- where no seat has anything out, all are home
  pub all_home : IsOrderly desk → ((n : ℕ) → n < seats_at desk → row_at desk n ≡ None) → IsHome (core_at desk)
  all_home orderly none = home_by (core_at desk) (λ s is k. free s is k (grant_of k s.out) refl)
    where
      free : (s : RunShape) → IsRun (core_at desk) s → (k : ℕ) (o : Option ℕ) → grant_of k s.out ≡ o → grant_of k s.out ≡ None
      free s is k None e = e
      free s is k (Some grant) e =
          let r = orderly.held s is k grant e in
          absurd (none-some (k, r.1, r.2) (sym (none r.0 r.3) ∙ r.4))

module _ {P : Type 0} (answers : Answering P) (counts : Counting P) where
  pub keeps_further : (a b c : Desk P) → KeepsDesk answers counts a b → KeepsDesk answers counts b c → KeepsDesk answers counts a c
  keeps_further a b c x y = record {
    code = y.code ∙ x.code;
    seats = y.seats ∙ x.seats;
    core = λ fresh.
        let last = y.core fresh in
        let first = x.core last.fresh in record {
          fresh = first.fresh;
          plan = λ plan policies is. last.plan plan policies (first.plan plan policies is);
          chosen = λ is. last.chosen (first.chosen is);
          stopped = λ is. last.stopped (first.stopped is);
        };
    orderly = y.orderly;
  }

  pub turn_further : (seat : ℕ) (a b c : Desk P) → IsTurn answers counts seat a b → IsTurn answers counts seat b c → IsTurn answers counts seat a c
  turn_further seat a b c x y = record {
    later = begins_with_earlier (history_at c) (history_at b) (history_at a) y.later x.later;
    others = λ n other. y.others n other ∙ x.others n other;
    keeps = keeps_further a b c x.keeps y.keeps;
  }

  pub turn_still : (seat : ℕ) (a : Desk P) → IsOrderly a → IsTurn answers counts seat a a
  turn_still seat a orderly = record {
    later = begins_with_itself (history_at a);
    others = λ n other. refl;
    keeps = record { code = refl; seats = refl; core = λ fresh. record { fresh = fresh; plan = λ plan policies is. is; chosen = λ is. is; stopped = λ is. is }; orderly = orderly };
  }

  module _ (seat : ℕ) (old new : Desk P) (orderly : IsOrderly old) (later : BeginsWith (history_at new) (history_at old)) (code : code_at new ≡ code_at old) (kept : IsKept (core_at new)) (core : KeepsUnlessSpent answers counts (core_at old) (core_at new)) (width : seats_at new ≡ seats_at old) where
    by_rows : ((n : ℕ) → n ≢ seat → row_at new n ≡ row_at old n) → AreOut (history_at new) new.rows.items → AreApart new.rows.items
        → ((s : RunShape) → IsRun (core_at new) s → AreHeld s (seats_at new) new.rows.items)
        → new.reserved ≡ rounds_in new.rows.items → ((s : RunShape) → IsRun (core_at new) s → AreReserved s new.rows.items) → IsTurn answers counts seat old new
    by_rows others out apart held counted reserved = record {
      later = later;
      others = others;
      keeps = record { code = code; seats = width; core = core; orderly = record { kept = kept; out = out; apart = apart; held = held; counted = counted; reserved = reserved } };
    }

    -- the rows stay
    pub stood : new.rows.items ≡ old.rows.items → ((k burst : ℕ) → IsOut (history_at old) k burst → IsOut (history_at new) k burst) → ComesFrom (core_at old) (core_at new) (λ s. s.out)
        → new.reserved ≡ old.reserved → KeepsLeft (core_at old) (core_at new) 0 → IsTurn answers counts seat old new
    stood rows stays comes still lefts =
        let same : (n : ℕ) → row_at new n ≡ row_at old n = λ n. ap (λ (rs : List Row). row rs n) rows in
        by_rows (λ n other. same n)
        (λ n x is. stays x.0 x.1 (orderly.out n x (sym (same n) ∙ is)))
        (λ m n x y ne is also. orderly.apart m n x y ne (sym (same m) ∙ is) (sym (same n) ∙ also))
        (λ t is j grant out.
        let c = comes t is in
        let r = orderly.held c.0 c.1 j grant (subst (λ (xs : List (ℕ × ℕ)). grant_of j xs ≡ Some grant) c.2 out) in
        (r.0, r.1, r.2, subst (λ (n : ℕ). r.0 < n) (sym width) r.3, same r.0 ∙ r.4))
        (still ∙ orderly.counted ∙ ap rounds_in (sym rows))
        (λ t is.
        let c = lefts t is in
        let was : AreReserved c.0 old.rows.items = orderly.reserved c.0 c.1 in
        omega (arith, was, c.2, ap rounds_in rows))

    -- the seat's row is cleared
    pub cleared : (k burst rounds : ℕ) → row_at old seat ≡ Some (k, burst, rounds) → new.rows.items ≡ set old.rows.items seat None
        → ((j b : ℕ) → j ≢ k → IsOut (history_at old) j b → IsOut (history_at new) j b) → ComesFrom (core_at old) (core_at new) (λ s. out_but k s.out)
        → seat < length old.rows.items → new.reserved ≡ old.reserved - rounds → KeepsLeft (core_at old) (core_at new) (rounds * MOST_GRANTED)
        → IsTurn answers counts seat old new
    cleared k burst rounds has rows stays comes low taken lefts =
        let sum : rounds_in new.rows.items + rounds ≡ rounds_in old.rows.items = ap (λ (rs : List Row). rounds_in rs + rounds) rows ∙ (let a = rounds_set old.rows.items seat None low in omega (arith, a, ap rounds_of has)) in
        let still : (n : ℕ) (x : ℕ × ℕ × ℕ) → row_at new n ≡ Some x → (n ≢ seat) × (row_at old n ≡ Some x) = λ n x is. ⊎_elim
        (λ (t : (n ≡ seat) × (None ≡ Some x)). absurd (none-some x t.1))
        (λ (t : (n ≢ seat) × (row_at old n ≡ Some x)). t)
        (got_set old.rows.items seat n None x (ap (λ (rs : List Row). row rs n) (sym rows) ∙ is)) in
        let others : (n : ℕ) → n ≢ seat → row_at new n ≡ row_at old n = λ n other. ap (λ (rs : List Row). row rs n) rows ∙ else_set old.rows.items seat n None other in
        by_rows others
        (λ n x is. let t = still n x is in stays x.0 x.1 (orderly.apart n seat x (k, burst, rounds) t.0 t.1 has) (orderly.out n x t.1))
        (λ m n x y ne is also. orderly.apart m n x y ne (still m x is).1 (still n y also).1)
        (λ t is j grant out.
        let c = comes t is in
        let was = back_or j k grant c.0.out (subst (λ (xs : List (ℕ × ℕ)). grant_of j xs ≡ Some grant) c.2 out) in
        let r = orderly.held c.0 c.1 j grant was.1 in
        let other : r.0 ≢ seat = λ same. was.0 (ap (λ (z : ℕ × ℕ × ℕ). z.0) (same_Some (j, r.1, r.2) (k, burst, rounds) (sym (subst (λ (n : ℕ). row_at old n ≡ Some (j, r.1, r.2)) same r.4) ∙ has))) in
        (r.0, r.1, r.2, subst (λ (n : ℕ). r.0 < n) (sym width) r.3, others r.0 other ∙ r.4))
        (omega (arith, taken, orderly.counted, sum))
        (λ t is.
        let c = lefts t is in
        let was : AreReserved c.0 old.rows.items = orderly.reserved c.0 c.1 in
        omega (arith, was, c.2, sum))

    -- the seat's row has a lease
    pub filled : (k : ℕ) (l : Lease) (rounds : ℕ) → Lends (core_at old) (core_at new) k l → seat < seats_at old → row_at old seat ≡ None → new.rows.items ≡ set old.rows.items seat (Some (l.number, l.burst, rounds))
        → row_at new seat ≡ Some (l.number, l.burst, rounds) → seat < length old.rows.items → new.reserved ≡ old.reserved + rounds
        → ((s : RunShape) → IsRun (core_at new) s → (old.reserved + rounds) * MOST_GRANTED ≤ s.left) → IsTurn answers counts seat old new
    filled k l rounds lends low free rows has inside more fits =
        let sum : rounds_in new.rows.items ≡ rounds_in old.rows.items + rounds = ap rounds_in rows ∙ (let a = rounds_set old.rows.items seat (Some (l.number, l.burst, rounds)) inside in omega (arith, a, ap rounds_of free)) in
        let Before : ℕ → ℕ × ℕ × ℕ → Type 0 = λ n x. row_at old n ≡ Some x in
        let Mine : ℕ → ℕ × ℕ × ℕ → Type 0 = λ n x. (n ≡ seat) × (Some (l.number, l.burst, rounds) ≡ Some x) in
        let by : (n : ℕ) (x : ℕ × ℕ × ℕ) → row_at new n ≡ Some x → Mine n x ⊎ ((n ≢ seat) × Before n x) = λ n x is.
        got_set old.rows.items seat n (Some (l.number, l.burst, rounds)) x (ap (λ (rs : List Row). row rs n) (sym rows) ∙ is) in
        let number : (n : ℕ) (x : ℕ × ℕ × ℕ) → Mine n x → x.0 ≡ k = λ n x t. ap (λ (z : ℕ × ℕ × ℕ). z.0) (sym (same_Some (l.number, l.burst, rounds) x t.1)) ∙ lends.number in
        let apart : (n : ℕ) (x : ℕ × ℕ × ℕ) → Before n x → x.0 ≢ k = λ n x is same. lends.free x.1 (subst (λ (j : ℕ). IsOut (history_at old) j x.1) same (orderly.out n x is)) in
        let others : (n : ℕ) → n ≢ seat → row_at new n ≡ row_at old n = λ n other. ap (λ (rs : List Row). row rs n) rows ∙ else_set old.rows.items seat n (Some (l.number, l.burst, rounds)) other in
        by_rows others
        (λ n x is. ⊎_elim
        (λ (t : Mine n x). subst (λ (z : ℕ × ℕ × ℕ). IsOut (history_at new) z.0 z.1) (same_Some (l.number, l.burst, rounds) x t.1) (lease_is_out (history_at new) (code_at new) l lends.lease))
        (λ (t : (n ≢ seat) × Before n x). lends.others x.0 x.1 (orderly.out n x t.1))
        (by n x is))
        (λ m n x y ne is also. ⊎_elim
        (λ (t : Mine m x). ⊎_elim
        (λ (u : Mine n y). absurd (ne (t.0 ∙ sym u.0)))
        (λ (u : (n ≢ seat) × Before n y). λ same. apart n y u.1 (sym same ∙ number m x t))
        (by n y also))
        (λ (t : (m ≢ seat) × Before m x). ⊎_elim
        (λ (u : Mine n y). λ same. apart m x t.1 (same ∙ number n y u))
        (λ (u : (n ≢ seat) × Before n y). orderly.apart m n x y ne t.1 u.1)
        (by n y also))
        (by m x is))
        (λ t is j grant out.
        let c = lends.comes t is in
        ⊎_elim
        (λ (same : j ≡ k). (seat, l.burst, rounds, subst (λ (n : ℕ). seat < n) (sym width) low, has ∙ ap (λ (i : ℕ). Some (i, l.burst, rounds)) (lends.number ∙ sym same)))
        (λ (was : grant_of j c.0.out ≡ Some grant).
        let r = orderly.held c.0 c.1 j grant was in
        let other : r.0 ≢ seat = λ same. none-some (j, r.1, r.2) (sym free ∙ subst (λ (n : ℕ). row_at old n ≡ Some (j, r.1, r.2)) same r.4) in
        (r.0, r.1, r.2, subst (λ (n : ℕ). r.0 < n) (sym width) r.3, others r.0 other ∙ r.4))
        (lent_or j k (granted c.0) grant c.0.out (subst (λ (xs : List (ℕ × ℕ)). grant_of j xs ≡ Some grant) c.2 out)))
        (more ∙ ap (λ n. n + rounds) orderly.counted ∙ sym sum)
        (λ t is.
        let some = fits t is in
        omega (arith, some, orderly.counted, sum))

  -- nothing but whether the core is spent changes
  pub looked : (seat : ℕ) (old new : Desk P) → IsOrderly old → history_at new ≡ history_at old → code_at new ≡ code_at old → IsKept (core_at new)
      → KeepsUnlessSpent answers counts (core_at old) (core_at new) → new.rows ≡ old.rows → ComesFrom (core_at old) (core_at new) (λ s. s.out)
      → new.reserved ≡ old.reserved → KeepsLeft (core_at old) (core_at new) 0 → IsTurn answers counts seat old new
  looked seat old new orderly same code kept core rows comes still lefts =
      stood seat old new orderly (subst (λ (h : HistoryShape). BeginsWith h (history_at old)) (sym same) (begins_with_itself (history_at old))) code kept core
      (ap vec_len rows) (ap (λ v. v.items) rows) (λ k burst out. subst (λ (h : HistoryShape). IsOut h k burst) (sym same) out) comes still lefts
