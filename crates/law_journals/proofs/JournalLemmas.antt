-- What moves keep, the entries of a lawful journal keep.
use Rattle.std.specs.Prelude.{◌≡◌, ℕ, zero, suc, ◌&&◌, ◌-◌, nat_le, nat_lt, is_none, Bool, true, false, List, [], ◌∷◌, Option, Some, None, is_some}
use Rattle.std.proofs.Common.{refl, sym, subst}
use Rattle.std.specs.FinMap.{find}
use Rattle.asp_model.specs.Names.{Name, name_cmp}
use Rattle.asp_model.specs.Configuration.{Configuration}
use Rattle.asp_model.specs.Step.{name_at, step}
use Rattle.asp_model.specs.Status.{is_running, status_of}
use Rattle.asp_model.specs.History.{Edge, Need, EntryShape, Lent, Committed, Delivered}
use Rattle.def_journals.specs.Deliveries.{edge_delivered, need_delivered}
use Rattle.def_journals.specs.Communications.{communicates_next}
use Rattle.def_journals.specs.Journals.{RunShape, begun, grant_of, is_in, granted, may_lend, lent, reduced, back, committed, over, entered, all_entered}
use Rattle.law_steps.specs.Reached.{Move, Steps, Edges, Needs, Makes, IsReached}
use Rattle.law_steps.specs.Sound.{IsSound}
use Rattle.law_steps.specs.Closed.{IsClosed}
use Rattle.law_chases.proofs.FutureLemmas.{no_some, some_is, none_true}
use Rattle.law_steps.proofs.ReachedLemmas.{start_is_reached, moves_go_on}
use Rattle.law_steps.proofs.WholeLemmas.{moves_keep_sound, moves_keep_closed}
use Rattle.law_journals.specs.Entries.{JournalsReach, EntriesKeepSound, EntriesKeepClosed}

-- one step of those that a commit takes, then the others
pub first_reduced : (r : ℕ) (n : Name) (c d : Configuration) → reduced (suc r) n c ≡ Some d → (e : Configuration) × (step None c n ≡ Some e) × (reduced r n e ≡ Some d)
first_reduced zero n c d e = (d, e, refl)
first_reduced (suc r) n c d e = by_test (communicates_next c n) e
  where
    by_step : (o : Option Configuration) → step None c n ≡ o → elim o [ None ↦ None | Some x ↦ reduced (suc r) n x ] ≡ Some d → (e : Configuration) × (step None c n ≡ Some e) × (reduced (suc r) n e ≡ Some d)
    by_step None is e = no_some e
    by_step (Some x) is e = (x, is, e)

    by_test : (b : Bool) → elim b [ true ↦ None | false ↦ elim (step None c n) [ None ↦ None | Some x ↦ reduced (suc r) n x ] ] ≡ Some d → (e : Configuration) × (step None c n ≡ Some e) × (reduced (suc r) n e ≡ Some d)
    by_test true e = no_some e
    by_test false e = by_step (step None c n) refl e

-- What an entry does

pub record DoneLent (k : ℕ) (s t : RunShape) : Type 0 where
  pub free : grant_of k s.out ≡ None
  pub result : t ≡ record s { left = s.left - granted s; out = (k, granted s) ∷ s.out }

pub record DoneCommit (k r : ℕ) (s t : RunShape) : Type 0 where
  pub name : Name
  pub grant : ℕ
  pub named : name_at s.names k ≡ Some name
  pub out : grant_of k s.out ≡ Some grant
  pub within : nat_le r grant ≡ true
  pub end : Configuration
  pub reduces : reduced r name s.configuration ≡ Some end
  pub result : back s k (grant - r) (Some end) ≡ Some t

pub record DoneDelivery (o : Option Configuration) (s t : RunShape) : Type 0 where
  pub end : Configuration
  pub delivers : o ≡ Some end
  pub result : t ≡ record s { configuration = end }

abbrev pub Done : EntryShape → RunShape → RunShape → Type 0
Done (Lent k) s t = DoneLent k s t
Done (Committed k r) s t = DoneCommit k r s t
Done (Delivered (Edge f from to)) s t = DoneDelivery (edge_delivered s.configuration f to) s t
Done (Delivered (Need f to place)) s t = DoneDelivery (need_delivered s.configuration f to place) s t

is_free : (k : ℕ) (s : RunShape) (n : Name) → may_lend s k n ≡ true → grant_of k s.out ≡ None
is_free k s n h = by (grant_of k s.out) h
  where
    by : (o : Option ℕ) → (is_none o && is_running (status_of s.configuration n) && nat_lt 0 s.left) ≡ true → o ≡ None
    by None h = refl
    by (Some g) h = none_true h

lent_done : (k : ℕ) (s t : RunShape) (o : Option Name) → lent k s o ≡ Some t → DoneLent k s t
lent_done k s t None e = no_some e
lent_done k s t (Some n) e = by_test (may_lend s k n) refl e
  where
    by_test : (b : Bool) → may_lend s k n ≡ b → elim b [ true ↦ Some (record s { left = s.left - granted s; out = (k, granted s) ∷ s.out }) | false ↦ None ] ≡ Some t → DoneLent k s t
    by_test true is e = record { free = is_free k s n is; result = sym (some_is e) }
    by_test false is e = no_some e

commit_done : (k r : ℕ) (s t : RunShape) (o : Option Name) (g : Option ℕ) → name_at s.names k ≡ o → grant_of k s.out ≡ g → committed k r s o g ≡ Some t → DoneCommit k r s t
commit_done k r s t None g is at e = no_some e
commit_done k r s t (Some n) None is at e = no_some e
commit_done k r s t (Some n) (Some grant) is at e = by_test (nat_le r grant) refl e
  where
    by_end : nat_le r grant ≡ true → (o : Option Configuration) → reduced r n s.configuration ≡ o → back s k (grant - r) o ≡ Some t → DoneCommit k r s t
    by_end le None red e = no_some e
    by_end le (Some d) red e = record { name = n; grant = grant; named = is; out = at; within = le; end = d; reduces = red; result = e }

    by_test : (b : Bool) → nat_le r grant ≡ b → elim b [ true ↦ back s k (grant - r) (reduced r n s.configuration) | false ↦ None ] ≡ Some t → DoneCommit k r s t
    by_test true le e = by_end le (reduced r n s.configuration) refl e
    by_test false le e = no_some e

over_done : (s t : RunShape) (b : Bool) (o : Option Configuration) → elim b [ true ↦ over s o | false ↦ None ] ≡ Some t → DoneDelivery o s t
over_done s t false o e = no_some e
over_done s t true None e = no_some e
over_done s t true (Some d) e = record { end = d; delivers = refl; result = sym (some_is e) }

pub entry_done : (x : EntryShape) (s t : RunShape) → entered x s ≡ Some t → Done x s t
entry_done (Lent k) s t e = lent_done k s t (name_at s.names k) e
entry_done (Committed k r) s t e = commit_done k r s t (name_at s.names k) (grant_of k s.out) refl refl e
entry_done (Delivered (Edge f from to)) s t e = over_done s t (is_some (find name_cmp from s.configuration.activities) && is_in s to) (edge_delivered s.configuration f to) e
entry_done (Delivered (Need f to place)) s t e = over_done s t (is_in s to) (need_delivered s.configuration f to place) e

-- the first entry, then the others
pub first_entered : (x : EntryShape) (xs : List EntryShape) (s t : RunShape) → all_entered (x ∷ xs) s ≡ Some t → (u : RunShape) × (entered x s ≡ Some u) × (all_entered xs u ≡ Some t)
first_entered x xs s t e = by_entry (entered x s) refl e
  where
    by_entry : (o : Option RunShape) → entered x s ≡ o → elim o [ None ↦ None | Some u ↦ all_entered xs u ] ≡ Some t → (u : RunShape) × (entered x s ≡ Some u) × (all_entered xs u ≡ Some t)
    by_entry None is e = no_some e
    by_entry (Some u) is e = (u, is, e)

-- What moves keep

module _ (P : Configuration → Type 0) (keeps : (move : Move) (c d : Configuration) → P c → Makes move c d → P d) where
  pub reduced_keeps : (r : ℕ) (n : Name) (c d : Configuration) → reduced r n c ≡ Some d → P c → P d
  reduced_keeps zero n c d e h = subst P (some_is e) h
  reduced_keeps (suc r) n c d e h = let x = first_reduced r n c d e in reduced_keeps r n x.0 d x.2 (keeps (Steps None n) c x.0 h x.1)

  pub entry_keeps : (x : EntryShape) (s t : RunShape) → Done x s t → P s.configuration → P t.configuration
  entry_keeps (Lent k) s t x h = subst (λ z. P z.configuration) (sym x.result) h
  entry_keeps (Committed k r) s t x h = subst (λ z. P z.configuration) (some_is x.result) (reduced_keeps r x.name s.configuration x.end x.reduces h)
  entry_keeps (Delivered (Edge f from to)) s t x h = subst (λ z. P z.configuration) (sym x.result) (keeps (Edges f to) s.configuration x.end h x.delivers)
  entry_keeps (Delivered (Need f to place)) s t x h = subst (λ z. P z.configuration) (sym x.result) (keeps (Needs f to place) s.configuration x.end h x.delivers)

  -- from any run on
  pub entries_keep : (entries : List EntryShape) (s t : RunShape) → all_entered entries s ≡ Some t → P s.configuration → P t.configuration
  entries_keep [] s t e h = subst (λ x. P x.configuration) (some_is e) h
  entries_keep (x ∷ entries) s t e h = let u = first_entered x entries s t e in entries_keep entries u.0 t u.2 (entry_keeps x s u.0 (entry_done x s u.0 u.1) h)

pub journals_reach : JournalsReach
journals_reach program budget journal s e = entries_keep (IsReached program) (λ move c d h m. moves_go_on program c d move h m) journal (begun program budget) s e (start_is_reached program)

pub entries_keep_sound : EntriesKeepSound
entries_keep_sound entries s t e h = entries_keep IsSound moves_keep_sound entries s t e h

pub entries_keep_closed : EntriesKeepClosed
entries_keep_closed entries s t e h = entries_keep IsClosed moves_keep_closed entries s t e h
