-- Ranks by the first strict operand that is a future, and what becomes of them.
use Rattle.std.specs.Prelude.{◌≡◌, ◌≢◌, ◌⊎◌, ◌&&◌, ℕ, suc, Bool, true, false, T, List, Option, Some, None, is_none, is_some, length}
use Rattle.std.proofs.Common.{refl, sym, ap, subst, ◌∙◌, inl, inr, ⊎_elim}
use Rattle.std.specs.FinMap.{find, put, is_sorted}
use Rattle.asp_model.specs.Names.{Name, FutureShape, name_cmp, future_cmp, same_future}
use Rattle.asp_model.specs.Split.{Redex, Context, Split, Stands, Splits, split}
use Rattle.asp_model.specs.Store as stores
use Rattle.asp_model.specs.Store.{CellShape, cell}
use Rattle.asp_model.specs.Parcel.{ParcelShape}
use Rattle.asp_model.specs.Contraction.{contract, first_future}
use Rattle.asp_model.specs.Chase.{Chase, Value, Unfilled, Cycle, Values, chase, walk_end}
use Rattle.asp_model.specs.Configuration.{Activity, Configuration, RequestShape, requests_of, ReceptionShape, From, Poll}
use Rattle.asp_model.specs.Intent as intents
use Rattle.asp_model.specs.Intent.{Acts, Awaits, Done, Effect, Faulted, Intent, Running, Serving, intent}
use Rattle.asp_model.specs.Status.{is_awaiting, is_running, status_of_intent}
use Rattle.asp_model.specs.Step.{intent_in, put_some, with_effect}
use Rattle.def_journals.specs.Owed.{need_at, need_in, need_of, needed_at}
use Rattle.law_steps.specs.Reached.{IsAt}
use Rattle.law_steps.specs.Steps.{IsPoll}
use Rattle.law_steps.proofs.FactLemmas.{IsLogged, acts_facts}
use Rattle.law_steps.specs.Sound.{HasRightIntents, IsSound, LeavesOthers}
use Rattle.law_chases.proofs.MapLemmas as Maps
use Rattle.law_steps.proofs.NameLemmas.{name_total, name_same}
use Rattle.law_chases.proofs.FutureLemmas.{no_some, future_total, none_true, future_case, future_itself, futures_apart}
use Rattle.law_steps.proofs.OrderLemmas.{sorted_some}
use Rattle.law_steps.proofs.WakeLemmas.{none_rests_running}
use Rattle.law_steps.proofs.WholeLemmas.{sound_intents, sound_steps}
use Rattle.law_chases.proofs.FilledLemmas.{follows_f, no_cycle_unfilled, keeps_unfilled, keeps_value, never_still, still_sorted}
use Rattle.law_chases.proofs.CycleLemmas.{chase_never}
use Rattle.law_chases.proofs.MeetLemmas.{cycle_never, named_cycle}
use Rattle.law_chases.proofs.ChaseLemmas.{awaited}
use Rattle.law_chases.proofs.ChaseLemmas.{chase_by, is_end}
use Rattle.core_ranks.specs.Ranks.{RankShape, Circles, Goes, Waits, Rests, awaits, goes, has_need, shifted}
use Rattle.law_core.specs.Ranked.{rank_at, rank_awaiting, rank_by, rank_in, rank_of, rank_unless}
use Rattle.law_core.specs.Keeping.{RanksTell, ReceiversRank, StepsKeepRanks, WritesKeepRanks, shifted_by}
use Rattle.law_core.proofs.OperandLemmas.{AwaitsNothing, future_at, future_of, intent_by, lacks_so, operand_by, operand_of, operands, quiet_by}

-- who is awaited, where a chase ends without a value, is not filled
unfilled_end : (values : Values) (g h : FutureShape) → chase values g ≡ Unfilled h → find future_cmp h values ≡ None
unfilled_end values g h e = by (walk_end (suc (length values)) values g) refl e
  where
    by : (o : Option Chase) → walk_end (suc (length values)) values g ≡ o → chase_by values g o ≡ Unfilled h → find future_cmp h values ≡ None
    by (Some y) is e = is_end values (suc (length values)) g (Unfilled h) (is ∙ ap Some e)
    by None is e = no_cycle_unfilled e

-- A rank is that of the operand's chase, or else of the intent

abbrev by_operand_of : Configuration → Intent → Option FutureShape → RankShape
by_operand_of c p None = rank_by c.futures p
by_operand_of c p (Some g) = rank_at (chase c.futures g)

abbrev by_need : Configuration → Intent → Option (FutureShape × ℕ) → RankShape
by_need c p o = rank_unless o (rank_by c.futures p)

abbrev by_activity : Configuration → Name → Option Activity → RankShape
by_activity c m o = elim o [ None ↦ Rests | Some a ↦ rank_of c.futures (requests_of c m) m a ]

module _ (c : Configuration) (sorted : T (is_sorted future_cmp c.futures)) where
  abbrev F : FutureShape → Chase
  F = chase c.futures

  awaits_unfilled : (g h : FutureShape) → F g ≡ Unfilled h → rank_awaiting c.futures h ≡ Waits h
  awaits_unfilled g h e = ap (λ o. elim o [ None ↦ Waits h | Some p ↦ Circles ]) (unfilled_end c.futures g h e)

  awaits_filled : (h : FutureShape) (o : Option ParcelShape) → is_some o ≡ true → elim o [ None ↦ Waits h | Some p ↦ Circles ] ≡ Circles
  awaits_filled h None e = none_true e
  awaits_filled h (Some p) e = refl

  awaits_cycle : (g h : FutureShape) → F g ≡ Cycle h → rank_awaiting c.futures h ≡ Circles
  awaits_cycle g h e = awaits_filled h (find future_cmp h c.futures) (named_cycle c.futures sorted g h e).filled

  module _ (rs : List RequestShape) (m : Name) (a : Activity) where
    by_chase : (k : ℕ) (g : FutureShape) (p : Intent) → ((h : FutureShape) → awaited (F g) ≡ Some h → p ≡ intents.Rests (Awaits h)) → (y : Chase) → F g ≡ y → by_need c p (needed_at y k) ≡ rank_at y
    by_chase k g p awaits (Value f v) e = refl
    by_chase k g p awaits (Unfilled h) e = ap (rank_by c.futures) (awaits h (ap awaited e)) ∙ awaits_unfilled g h e
    by_chase k g p awaits (Cycle h) e = ap (rank_by c.futures) (awaits h (ap awaited e)) ∙ awaits_cycle g h e

    by_cell : (contexts : List Context) (redex : Redex) (k : ℕ) → first_future a.store (operands a.store redex) ≡ Some k → (x : CellShape) → cell a.store k ≡ x
        → by_need c (intent_by rs m a F (Splits contexts redex)) (need_in F k x) ≡ by_operand_of c (intent_by rs m a F (Splits contexts redex)) (future_of x)
    by_cell contexts redex k first (stores.Future g) is =
        by_chase k g (intent_by rs m a F (Splits contexts redex))
        (λ h e. ap (λ o. elim o [ intents.Lacks f ↦ intents.Rests (Awaits f) | intents.Reads s ↦ intents.contracts rs m a contexts s (contract s redex) ]) (lacks_so F a.store k g h is e redex first))
        (F g) refl
    by_cell contexts redex k first (stores.Number z) is = refl
    by_cell contexts redex k first (stores.Object fields methods) is = refl
    by_cell contexts redex k first (stores.Reference n) is = refl
    by_cell contexts redex k first (stores.Group ns) is = refl

    by_first : (contexts : List Context) (redex : Redex) (o : Option ℕ) → first_future a.store (operands a.store redex) ≡ o
        → by_need c (intent_by rs m a F (Splits contexts redex)) (need_at F a.store o) ≡ by_operand_of c (intent_by rs m a F (Splits contexts redex)) (future_at a.store o)
    by_first contexts redex None is = refl
    by_first contexts redex (Some k) is = by_cell contexts redex k is (cell a.store k) refl

    abbrev need_by : Split → Option (FutureShape × ℕ)
    need_by t = elim t [ Stands place ↦ None | Splits contexts r ↦ need_at F a.store (first_future a.store (operands a.store r)) ]

    by_split : (t : Split) → by_need c (intent_by rs m a F t) (need_by t) ≡ by_operand_of c (intent_by rs m a F t) (operand_by a t)
    by_split (Stands place) = refl
    by_split (Splits contexts redex) = by_first contexts redex (first_future a.store (operands a.store redex)) refl

  ranked : (m : Name) (a : Activity) → IsAt c m a → rank_in c m ≡ by_operand_of c (intent F (requests_of c m) m a) (operand_of a)
  ranked m a is =
      ap (by_activity c m) is
      ∙ by_split (requests_of c m) m a (split a.term)

-- Who awaits nothing

abbrev plain : Intent → RankShape
plain (Acts e) = Goes
plain (intents.Rests status) = Rests

plain_rank : (c : Configuration) (p : Intent) → AwaitsNothing p → rank_by c.futures p ≡ plain p
plain_rank c (Acts e) h = refl
plain_rank c (intents.Rests Done) h = refl
plain_rank c (intents.Rests Serving) h = refl
plain_rank c (intents.Rests Running) h = refl
plain_rank c (intents.Rests (Awaits f)) h = absurd h
plain_rank c (intents.Rests (Faulted x)) h = refl

plain_stays : (o : Option (FutureShape × ParcelShape)) (d : Configuration) (p : Intent) → shifted_by o d (plain p) ≡ plain p
plain_stays None d p = refl
plain_stays (Some y) d (Acts e) = refl
plain_stays (Some y) d (intents.Rests status) = refl

-- Who needs a future

abbrev after : Option (FutureShape × ParcelShape) → Values → Values
after o values = put_some future_cmp o values

shifts_same : (f g : FutureShape) (then : RankShape) → f ≡ g → shifted f then (Waits g) ≡ then
shifts_same f g then e = ap (λ b. elim b [ true ↦ then | false ↦ Waits g ]) (ap (same_future f) (sym e) ∙ future_itself f)

shifts_other : (f g : FutureShape) (then : RankShape) → f ≢ g → shifted f then (Waits g) ≡ Waits g
shifts_other f g then e = ap (λ b. elim b [ true ↦ then | false ↦ Waits g ]) (futures_apart f g e)

module _ (values : Values) (sorted : T (is_sorted future_cmp values)) (f : FutureShape) (v : ParcelShape) (new : find future_cmp f values ≡ None) where
  abbrev then_values : Values
  then_values = put future_cmp f v values

  rank_after : (g : FutureShape) (y : Chase) → chase values g ≡ y → rank_at (chase then_values g) ≡ shifted f (rank_at (chase then_values f)) (rank_at y)
  rank_after g (Value h p) e = ap rank_at (keeps_value values sorted f new v g h p e)
  rank_after g (Unfilled h) e = ⊎_elim
      (λ same. ap rank_at (follows_f values sorted f new v g (e ∙ ap Unfilled same)) ∙ sym (shifts_same f h (rank_at (chase then_values f)) (sym same)))
      (λ apart. ap rank_at (keeps_unfilled values sorted f new v g h e apart) ∙ sym (shifts_other f h (rank_at (chase then_values f)) (λ x. apart (sym x))))
      (future_case h f)
  rank_after g (Cycle h) e = ap rank_at (chase_never then_values (still_sorted values sorted f new v) g (never_still values sorted f new v g (cycle_never values sorted g h e)))

-- What one more filled future makes of who needs one

rank_filled : (o : Option (FutureShape × ParcelShape)) (d : Configuration) (values : Values) → T (is_sorted future_cmp values)
    → ((z : FutureShape × ParcelShape) → o ≡ Some z → find future_cmp z.0 values ≡ None) → d.futures ≡ put_some future_cmp o values
    → (g : FutureShape) → rank_at (chase d.futures g) ≡ shifted_by o d (rank_at (chase values g))
rank_filled None d values sorted new is g = ap (λ vs. rank_at (chase vs g)) is
rank_filled (Some z) d values sorted new is g =
    subst (λ vs. rank_at (chase vs g) ≡ shifted z.0 (rank_at (chase vs z.0)) (rank_at (chase values g))) (sym is)
    (rank_after values sorted z.0 z.1 (new z refl) g (chase values g) refl)

no_going : Goes ≡ Rests → ⊥
no_going h = none_true (sym (ap goes h))

-- A step of another

module _ (c : Configuration) (n m : Name) (a : Activity) (e : Effect) (sound : IsSound c) (is : IsAt c m a) (apart : m ≢ n) (intends : intent_in c n ≡ Acts e) where
  abbrev d : Configuration
  d = with_effect n e c

  abbrev right : HasRightIntents c
  right = sound_intents c sound

  left_alone : LeavesOthers c d n
  left_alone = sound_steps None c d n sound (right.step n e intends)

  there : IsAt d m a
  there = left_alone.others m a apart is

  d_sorted : T (is_sorted future_cmp d.futures)
  d_sorted = sorted_some future_cmp future_total e.filled c.futures sound.ordered.futures

  abbrev before : Intent
  before = intent (chase c.futures) (requests_of c m) m a

  before_is : intent_in c m ≡ before
  before_is = ap (λ (o : Option Activity). elim o [ None ↦ intents.Rests Done | Some a ↦ intent (chase c.futures) (requests_of c m) m a ]) is

  abbrev then : Intent
  then = intent (chase d.futures) (requests_of d m) m a

  then_is : intent_in d m ≡ then
  then_is = ap (λ (o : Option Activity). elim o [ None ↦ intents.Rests Done | Some a ↦ intent (chase d.futures) (requests_of d m) m a ]) there

  -- who acts does so after the step too
  acts_on : (x : Effect) → before ≡ Acts x → (y : Effect) × (then ≡ Acts y)
  acts_on x e = by_logged x.sent (acts_facts c m x (before_is ∙ e)).1.logged
    where
      still : (IsPoll m x → ⊥) → (y : Effect) × (then ≡ Acts y)
      still calm = (x, sym then_is ∙ left_alone.intents m x apart (λ p. absurd (calm p)) (before_is ∙ e))

      asks : Option (Name × ReceptionShape) → Bool
      asks None = false
      asks (Some (k, From n)) = false
      asks (Some (k, Poll)) = true

      no_poll : (z : Name × RequestShape) (l : Option (Name × ReceptionShape)) → l ≡ Some (z.0, From m) → l ≡ Some (m, Poll) → ⊥
      no_poll z l h p = none_true (sym (ap asks h) ∙ ap asks p)

      by_logged : (o : Option (Name × RequestShape)) → IsLogged m o x.logged → (y : Effect) × (then ≡ Acts y)
      by_logged None (inl h) = still (λ p. no_some (sym h ∙ p))
      by_logged None (inr h) = let y = left_alone.polls m x apart h (before_is ∙ e) in (y.0, sym then_is ∙ y.1)
      by_logged (Some z) h = still (λ p. no_poll z x.logged h p)

  quiet_stays : AwaitsNothing before → rank_in c m ≡ plain before → (p : Intent) → before ≡ p → (rank_by d.futures then ≡ rank_by d.futures p) ⊎ (plain p ≡ Rests)
  quiet_stays nothing ranked (Acts x) e = inl (ap (rank_by d.futures) (acts_on x e).1)
  quiet_stays nothing ranked (intents.Rests status) e = inr refl

  by_operand : (o : Option FutureShape) → operand_of a ≡ o → (requests_of d m ≡ requests_of c m) ⊎ (rank_in c m ≢ Rests)
      → by_operand_of d then o ≡ shifted_by e.filled d (by_operand_of c before o)
  by_operand (Some g) none allowed = rank_filled e.filled d c.futures sound.ordered.futures (right.effects n e intends).filled refl g
  by_operand None none allowed =
      let here = quiet_by (requests_of c m) m a (chase c.futures) (chase d.futures) (split a.term) none in
      let rank_before : rank_by c.futures before ≡ plain before = plain_rank c before here.1 in
      let ranked_so : rank_in c m ≡ plain before = ranked c sound.ordered.futures m a is ∙ ap (by_operand_of c before) none ∙ rank_before in
      let same : rank_by d.futures then ≡ rank_by d.futures before = ⊎_elim
      (λ rs. ap (rank_by d.futures) (ap (λ qs. intent (chase d.futures) qs m a) rs ∙ sym here.0))
      (λ goes. ⊎_elim (λ e. e) (λ e. absurd (goes (ranked_so ∙ e))) (quiet_stays here.1 ranked_so before refl))
      allowed in
      same ∙ plain_rank d before here.1 ∙ sym (plain_stays e.filled d before) ∙ ap (shifted_by e.filled d) (sym rank_before)

  shifts : (requests_of d m ≡ requests_of c m) ⊎ (rank_in c m ≢ Rests) → rank_in d m ≡ shifted_by e.filled d (rank_in c m)
  shifts allowed =
      ranked d d_sorted m a there
      ∙ by_operand (operand_of a) refl allowed
      ∙ ap (shifted_by e.filled d) (sym (ranked c sound.ordered.futures m a is))

  gains_by : (p q : Intent) → AwaitsNothing p → AwaitsNothing q → ((x : Effect) → p ≡ Acts x → (y : Effect) × (q ≡ Acts y)) → (rank_by d.futures q ≡ rank_by c.futures p) ⊎ ((rank_by c.futures p ≡ Rests) × (rank_by d.futures q ≡ Goes))
  gains_by (Acts x) q r t still = inl (ap (rank_by d.futures) (still x refl).1)
  gains_by (intents.Rests status) (Acts y) r t still = inr (plain_rank c (intents.Rests status) r, refl)
  gains_by (intents.Rests status) (intents.Rests other) r t still = inl (plain_rank d (intents.Rests other) t ∙ sym (plain_rank c (intents.Rests status) r))

  gains : e.filled ≡ None → (o : Option FutureShape) → operand_of a ≡ o → (by_operand_of d then o ≡ by_operand_of c before o) ⊎ ((by_operand_of c before o ≡ Rests) × (by_operand_of d then o ≡ Goes))
  gains none (Some g) first = inl (ap (λ o. rank_at (chase (put_some future_cmp o c.futures) g)) none)
  gains none None first =
      let was = quiet_by (requests_of c m) m a (chase c.futures) (chase c.futures) (split a.term) first in
      let now = quiet_by (requests_of d m) m a (chase d.futures) (chase d.futures) (split a.term) first in
      gains_by before then was.1 now.1 acts_on

  receiver : e.filled ≡ None → (rank_in d m ≡ rank_in c m) ⊎ ((rank_in c m ≡ Rests) × (rank_in d m ≡ Goes))
  receiver none =
      let was = ranked c sound.ordered.futures m a is in
      let now = ranked d d_sorted m a there in
      ⊎_elim (λ p. inl (now ∙ p ∙ sym was)) (λ p. inr (was ∙ p.0, now ∙ p.1)) (gains none (operand_of a) refl)

pub receivers_rank : ReceiversRank
receivers_rank c n m a e sound is apart intends none = receiver c n m a e sound is apart intends none

pub steps_keep_ranks : StepsKeepRanks
steps_keep_ranks c n m a e sound is apart intends = shifts c n m a e sound is apart intends

-- Another activity's store and term

pub writes_keep_ranks : WritesKeepRanks
writes_keep_ranks c n m b apart =
    ap (by_activity c m)
    (Maps.find_other name_cmp name_total name_same m n b c.activities apart)

-- What a rank tells

going_by : (c : Configuration) (f : FutureShape) (o : Option ParcelShape) → goes (elim o [ None ↦ Waits f | Some p ↦ Circles ]) ≡ false
going_by c f None = refl
going_by c f (Some p) = refl

needy_by : (c : Configuration) (f : FutureShape) (o : Option ParcelShape) → has_need (elim o [ None ↦ Waits f | Some p ↦ Circles ]) ≡ false
needy_by c f None = refl
needy_by c f (Some p) = refl

awaiting_by : (c : Configuration) (f : FutureShape) (o : Option ParcelShape) → awaits (elim o [ None ↦ Waits f | Some p ↦ Circles ]) ≡ true
awaiting_by c f None = refl
awaiting_by c f (Some p) = refl

and_true : (b : Bool) → (b && true) ≡ b
and_true true = refl
and_true false = refl

and_false : (b : Bool) → (b && false) ≡ false
and_false true = refl
and_false false = refl

goes_by : (c : Configuration) (p : Intent) → p ≢ intents.Rests Running → goes (rank_by c.futures p) ≡ is_running (status_of_intent p)
goes_by c (Acts e) x = refl
goes_by c (intents.Rests Done) x = refl
goes_by c (intents.Rests Serving) x = refl
goes_by c (intents.Rests Running) x = absurd (x refl)
goes_by c (intents.Rests (Awaits f)) x = going_by c f (find future_cmp f c.futures)
goes_by c (intents.Rests (Faulted y)) x = refl

needs_by : (c : Configuration) (p : Intent) → has_need (rank_by c.futures p) ≡ false
needs_by c (Acts e) = refl
needs_by c (intents.Rests Done) = refl
needs_by c (intents.Rests Serving) = refl
needs_by c (intents.Rests Running) = refl
needs_by c (intents.Rests (Awaits f)) = needy_by c f (find future_cmp f c.futures)
needs_by c (intents.Rests (Faulted x)) = refl

awaits_by : (c : Configuration) (p : Intent) → awaits (rank_by c.futures p) ≡ is_awaiting (status_of_intent p)
awaits_by c (Acts e) = refl
awaits_by c (intents.Rests Done) = refl
awaits_by c (intents.Rests Serving) = refl
awaits_by c (intents.Rests Running) = refl
awaits_by c (intents.Rests (Awaits f)) = awaiting_by c f (find future_cmp f c.futures)
awaits_by c (intents.Rests (Faulted x)) = refl

tells_going : (c : Configuration) (p : Intent) (o : Option (FutureShape × ℕ)) → p ≢ intents.Rests Running → goes (by_need c p o) ≡ (is_running (status_of_intent p) && is_none o)
tells_going c p (Some y) x = sym (and_false (is_running (status_of_intent p)))
tells_going c p None x = goes_by c p x ∙ sym (and_true (is_running (status_of_intent p)))

tells_needy : (c : Configuration) (p : Intent) (o : Option (FutureShape × ℕ)) → has_need (by_need c p o) ≡ is_some o
tells_needy c p (Some x) = refl
tells_needy c p None = needs_by c p

tells_awaiting : (c : Configuration) (p : Intent) (o : Option (FutureShape × ℕ)) → awaits (by_need c p o) ≡ (is_awaiting (status_of_intent p) && is_none o)
tells_awaiting c p (Some x) = sym (and_false (is_awaiting (status_of_intent p)))
tells_awaiting c p None = awaits_by c p ∙ sym (and_true (is_awaiting (status_of_intent p)))

pub ranks_tell : RanksTell
ranks_tell c n = record { going = going_at (find name_cmp n c.activities) refl; needy = needy_at (find name_cmp n c.activities); awaiting = awaiting_at (find name_cmp n c.activities) }
  where
    intended : (o : Option Activity) → find name_cmp n c.activities ≡ o → elim o [ None ↦ intents.Rests Done | Some a ↦ intent (chase c.futures) (requests_of c n) n a ] ≢ intents.Rests Running
    intended o is e = none_rests_running c n (ap (λ (o : Option Activity). elim o [ None ↦ intents.Rests Done | Some a ↦ intent (chase c.futures) (requests_of c n) n a ]) is ∙ e)

    going_at : (o : Option Activity) → find name_cmp n c.activities ≡ o
        → goes (by_activity c n o) ≡ (is_running (status_of_intent (elim o [ None ↦ intents.Rests Done | Some a ↦ intent (chase c.futures) (requests_of c n) n a ])) && is_none (elim o [ None ↦ None | Some a ↦ need_of (chase c.futures) a ]))
    going_at None is = refl
    going_at (Some a) is = tells_going c (intent (chase c.futures) (requests_of c n) n a) (need_of (chase c.futures) a) (intended (Some a) is)

    needy_at : (o : Option Activity) → has_need (by_activity c n o) ≡ is_some (elim o [ None ↦ None | Some a ↦ need_of (chase c.futures) a ])
    needy_at None = refl
    needy_at (Some a) = tells_needy c (intent (chase c.futures) (requests_of c n) n a) (need_of (chase c.futures) a)

    awaiting_at : (o : Option Activity)
        → awaits (by_activity c n o) ≡ (is_awaiting (status_of_intent (elim o [ None ↦ intents.Rests Done | Some a ↦ intent (chase c.futures) (requests_of c n) n a ])) && is_none (elim o [ None ↦ None | Some a ↦ need_of (chase c.futures) a ]))
    awaiting_at None = refl
    awaiting_at (Some a) = tells_awaiting c (intent (chase c.futures) (requests_of c n) n a) (need_of (chase c.futures) a)
