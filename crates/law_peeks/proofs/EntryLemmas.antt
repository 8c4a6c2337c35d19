-- What a lease did is lawful entries.
use Rattle.std.proofs.Common.{◌≡◌, ◌≤◌, ◌+◌, ◌-◌, ◌==◌, ◌∷◌, [], ℕ, zero, suc, Bool, true, false, List, Some, None, map, refl, sym, ap, subst, ◌∙◌, arith}
use Rattle.std.proofs.lemmas.Bool.{le-leb}
use Rattle.std.proofs.lemmas.List.{append-nil}
use Rattle.asp_model.specs.Names.{Name}
use Rattle.asp_model.specs.Configuration.{Activity, Configuration}
use Rattle.asp_model.specs.Step.{name_at, step, with_effect}
use Rattle.asp_model.specs.History.{Committed, EntryShape}
use Rattle.def_journals.specs.Journals.{RunShape, all_entered, back, committed, entered, grant_of, newcomers, out_but, reduced}
use Rattle.law_steps.specs.Linked.{Each}
use Rattle.law_steps.specs.Reached.{IsAt}
use Rattle.law_steps.proofs.FrameLemmas.{effects_on}
use Rattle.law_steps.proofs.LinkedLemmas.{step_on}
use Rattle.law_steps.proofs.WholeLemmas.{right_of}
use Rattle.law_journals.specs.Entered.{IsIn}
use Rattle.law_journals.specs.Numbered.{AreNumbered}
use Rattle.law_journals.proofs.EntryLemmas as Entering
use Rattle.law_journals.proofs.NumberLemmas.{entries_keep_numbers}
use Rattle.law_paths.specs.Whole.{IsWhole}
use Rattle.law_paths.proofs.WholeLemmas.{entries_keep_whole}
use Rattle.law_core.specs.Commits.{made_by, returned, with_activity}
use Rattle.law_core.proofs.NewcomerLemmas.{absent_before, made_is_new, no_newcomer}
use Rattle.law_peeks.specs.Needs.{Peek, with_peek}
use Rattle.law_peeks.specs.Moves.{AreConfirmed, Contracts, IsMoved, LeaseMove, Peeks, contractions, peeks, trailing, unless_followed}
use Rattle.law_peeks.specs.Commits.{HasMoved, MovesAndActsAreCommits, MovesAreCommits, need_entry}
use Rattle.law_peeks.proofs.NeedLemmas.{peek_value}
use Rattle.law_peeks.proofs.MoveLemmas.{at_itself, contracted, contracted_whole, itself, moved_whole, moves_are_reduced, over, peeked, peeked_whole}

-- Trailing values

module _ (P : Peek → Type 0) where
  each_unless : (k : ℕ) (x : Peek) (xs : List Peek) → P x → Each P xs → Each P (unless_followed k x xs)
  each_unless zero x xs h hs = (h, hs)
  each_unless (suc k) x xs h hs = hs

  pub each_trailing : (ms : List LeaseMove) → Each P (peeks ms) → Each P (trailing ms)
  each_trailing [] h = tt
  each_trailing (Contracts ∷ ms) h = each_trailing ms h
  each_trailing (Peeks x ∷ ms) h = each_unless (contractions ms) x (trailing ms) h.0 (each_trailing ms h.1)

-- without contractions, all that was read is trailing
only_peeks : (ms : List LeaseMove) (a b : Activity) → contractions ms ≡ 0 → IsMoved ms a b → IsMoved (map Peeks (trailing ms)) a b
only_peeks [] a b e run = run
only_peeks (Contracts ∷ ms) a b e run = absurd (omega (arith, e))
only_peeks (Peeks x ∷ ms) a b e run = subst (λ j. IsMoved (map Peeks (unless_followed j x (trailing ms))) a b) (sym e) (run.0, only_peeks ms (with_peek a x) b e run.1)

-- The contractions lead to an activity, and the trailing values from that to the one that comes back

pub record Settled (c : Configuration) (n : Name) (ms : List LeaseMove) (b : Activity) : Type 0 where
  pub middle : Activity
  pub reduces : reduced (contractions ms) n c ≡ Some (with_activity n middle c)
  pub rest : IsMoved (map Peeks (trailing ms)) middle b

module _ (n : Name) where
  pub settled : (ms : List LeaseMove) (c : Configuration) (a b : Activity) → IsWhole c → IsAt c n a → IsMoved ms a b → AreConfirmed c.futures (peeks ms) → Settled c n ms b
  settled [] c a b whole is run sure = record { middle = a; reduces = ap Some (sym (itself c n a whole is)); rest = run }
  settled (Contracts ∷ ms) c a b whole is run sure =
      let y = settled ms (with_activity n run.0 c) run.0 b (contracted_whole c n a run.0 whole is run.1) (at_itself c n run.0) run.2 sure in record {
        middle = y.middle;
        reduces = contracted c n a run.0 whole is run.1 (contractions ms) ∙ y.reduces ∙ ap Some (over c n run.0 y.middle whole);
        rest = y.rest;
      }
  settled (Peeks x ∷ ms) c a b whole is run sure =
      let m : Activity = with_peek a x in
      by (contractions ms) refl (settled ms (with_activity n m c) m b (peeked_whole c n a x whole is run.0 sure.0) (at_itself c n m) run.1 sure.1)
    where
      by : (j : ℕ) → contractions ms ≡ j → Settled (with_activity n (with_peek a x) c) n ms b → Settled c n (Peeks x ∷ ms) b
      by zero e later = record {
        middle = a;
        reduces = ap (λ i. reduced i n c) e ∙ ap Some (sym (itself c n a whole is));
        rest = only_peeks (Peeks x ∷ ms) a b e run;
      }
      by (suc j) e later = record {
        middle = later.middle;
        reduces =
            ap (λ i. reduced i n c) e
            ∙ peeked c n a x whole is run.0 sure.0 j
            ∙ ap (λ i. reduced i n (with_activity n (with_peek a x) c)) (sym e)
            ∙ later.reduces
            ∙ ap Some (over c n (with_peek a x) later.middle whole);
        rest = subst (λ i. IsMoved (map Peeks (unless_followed i x (trailing ms))) later.middle b) (sym e) later.rest;
      }

-- The commit

-- what was reduced within the grant comes back
committed_so : (s : RunShape) (k grant r : ℕ) (n : Name) (d : Configuration) (made : List Name) → name_at s.names k ≡ Some n → grant_of k s.out ≡ Some grant → r ≤ grant
    → reduced r n s.configuration ≡ Some d → newcomers s.configuration d ≡ made → entered (Committed k r) s ≡ Some (returned s k (grant - r) d made)
committed_so s k grant r n d made named out within reduces new =
    (λ i. committed k r s (named i) (out i))
    ∙ ap (λ b. elim b [ true ↦ back s k (grant - r) (reduced r n s.configuration) | false ↦ None ]) (le-leb r grant within)
    ∙ ap (back s k (grant - r)) reduces
    ∙ ap (λ ns. Some (returned s k (grant - r) d ns)) new

-- Needs

-- nobody is out with its own number after that came in
grant_gone : (k : ℕ) (xs : List (ℕ × ℕ)) → grant_of k (out_but k xs) ≡ None
grant_gone k [] = refl
grant_gone k (x ∷ xs) = by (k == x.0) refl (grant_gone k xs)
  where
    by : (b : Bool) → (k == x.0) ≡ b → grant_of k (out_but k xs) ≡ None → grant_of k (elim b [ true ↦ out_but k xs | false ↦ x ∷ out_but k xs ]) ≡ None
    by true e rest = rest
    by false e rest = ap (λ b. elim b [ true ↦ Some x.1 | false ↦ grant_of k (out_but k xs) ]) e ∙ rest

-- one entry, and those behind it
pub entered_then : (x : EntryShape) (xs : List EntryShape) (s t : RunShape) → entered x s ≡ Some t → all_entered (x ∷ xs) s ≡ all_entered xs t
entered_then x xs s t e = ap (λ o. elim o [ None ↦ None | Some t ↦ all_entered xs t ]) e

-- a run in which the activity is in
pub record HasIn (s : RunShape) (k : ℕ) (n : Name) (a : Activity) : Type 0 where
  pub whole : IsWhole s.configuration
  pub numbered : AreNumbered s
  pub here : IsIn s k n a

abbrev pub with_peek_in : RunShape → Name → Activity → Peek → RunShape
with_peek_in s n a x = record s { configuration = with_activity n (with_peek a x) s.configuration }

module _ (s : RunShape) (k : ℕ) (n : Name) (a b : Activity) (x : Peek) (xs : List Peek) (h : HasIn s k n a) (run : IsMoved (map Peeks (x ∷ xs)) a b) (sure : AreConfirmed s.configuration.futures (x ∷ xs)) where
  pub need_entered : entered (need_entry n x) s ≡ Some (with_peek_in s n a x)
  need_entered = Entering.needs_are_entered s k x.future n x.place a x.value h.numbered h.here (peek_value s.configuration.futures a x run.0 sure.0)

  pub still_in : HasIn (with_peek_in s n a x) k n (with_peek a x)
  still_in =
      let t : RunShape = with_peek_in s n a x in
      let one : all_entered (need_entry n x ∷ []) s ≡ Some t = entered_then (need_entry n x) [] s t need_entered in record {
        whole = entries_keep_whole (need_entry n x ∷ []) s t one h.whole;
        numbered = entries_keep_numbers (need_entry n x ∷ []) s t one h.whole.sound h.numbered;
        here = record { named = h.here.named; free = h.here.free; there = at_itself s.configuration n (with_peek a x) };
      }

module _ (k : ℕ) (n : Name) where
  needs_entered : (xs : List Peek) (s : RunShape) (a b : Activity) → HasIn s k n a → IsMoved (map Peeks xs) a b → AreConfirmed s.configuration.futures xs
      → all_entered (map (need_entry n) xs) s ≡ Some (record s { configuration = with_activity n b s.configuration })
  needs_entered [] s a b h run sure = ap (λ c. Some (record s { configuration = c })) (sym (itself s.configuration n b h.whole (h.here.there ∙ ap Some run)))
  needs_entered (x ∷ xs) s a b h run sure =
      let t : RunShape = with_peek_in s n a x in
      entered_then (need_entry n x) (map (need_entry n) xs) s t (need_entered s k n a b x xs h run sure)
      ∙ needs_entered xs t (with_peek a x) b (still_in s k n a b x xs h run sure) run.1 sure.1
      ∙ ap (λ c. Some (record s { configuration = c })) (over s.configuration n (with_peek a x) b h.whole)

-- Both

module _ (s : RunShape) (k grant : ℕ) (n : Name) (ms : List LeaseMove) (b : Activity) (h : HasMoved s k grant n ms b) (within : contractions ms ≤ grant) where
  pub halfway : Settled s.configuration n ms b
  halfway = settled n ms s.configuration h.activity b h.whole h.there h.moved h.confirmed

  -- the run behind the commit, before the needs
  abbrev pub after : RunShape
  after = returned s k (grant - contractions ms) (with_activity n halfway.middle s.configuration) []

  pub commits : entered (Committed k (contractions ms)) s ≡ Some after
  commits = committed_so s k grant (contractions ms) n (with_activity n halfway.middle s.configuration) [] h.named h.out within halfway.reduces (no_newcomer s.configuration n h.activity h.there halfway.middle)

  pub after_in : HasIn after k n halfway.middle
  after_in =
      let one : all_entered (Committed k (contractions ms) ∷ []) s ≡ Some after = entered_then (Committed k (contractions ms)) [] s after commits in record {
        whole = entries_keep_whole (Committed k (contractions ms) ∷ []) s after one h.whole;
        numbered = entries_keep_numbers (Committed k (contractions ms) ∷ []) s after one h.whole.sound h.numbered;
        here = record {
          named = ap (λ ns. name_at ns k) (append-nil s.names) ∙ h.named;
          free = grant_gone k s.out;
          there = at_itself s.configuration n halfway.middle;
        };
      }

  pub trailing_confirmed : AreConfirmed after.configuration.futures (trailing ms)
  trailing_confirmed = each_trailing _ ms h.confirmed

pub moves_are_commits : MovesAreCommits
moves_are_commits s k grant n ms b h within =
    let t : RunShape = after s k grant n ms b h within in
    let half = halfway s k grant n ms b h within in
    entered_then (Committed k (contractions ms)) (map (need_entry n) (trailing ms)) s t (commits s k grant n ms b h within)
    ∙ needs_entered k n (trailing ms) t half.middle b (after_in s k grant n ms b h within) half.rest (trailing_confirmed s k grant n ms b h within)
    ∙ ap (λ c. Some (returned s k (grant - contractions ms) c [])) (over s.configuration n half.middle b h.whole)

pub moves_and_acts_are_commits : MovesAndActsAreCommits
moves_and_acts_are_commits s k grant n ms b e h within intends =
    let c : Configuration = with_activity n b s.configuration in
    let d : Configuration = with_effect n e c in
    let sound = (moved_whole n ms s.configuration h.activity b h.whole h.there h.moved h.confirmed).sound in
    let right = right_of c sound in
    let steps : step None c n ≡ Some d = step_on c n e right sound.linked intends in
    let one : suc (contractions ms) ≡ contractions ms + 1 = omega arith in
    let reduces : reduced (suc (contractions ms)) n s.configuration ≡ Some d =
    ap (λ j. reduced j n s.configuration) one ∙ moves_are_reduced ms 0 s.configuration n h.activity b h.whole h.there h.moved h.confirmed ∙ steps in
    let new = made_is_new s.configuration n h.activity h.there b e (λ x is. absent_before s.configuration n x.0 b ((effects_on c n e right.sound intends).made x is)) in
    committed_so s k grant (suc (contractions ms)) n d (made_by e.made) h.named h.out within reduces new
