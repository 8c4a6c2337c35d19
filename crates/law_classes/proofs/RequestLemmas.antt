-- Runs in which nobody asks what is pending, as runs under lists by classes.
use Rattle.std.specs.Prelude.{◌≡◌, ◌==◌, ◌&&◌, ◌||◌, ◌+◌, ◌-◌, ◌≤◌, ℕ, zero, suc, cond, true, false, Bool, List, [], ◌∷◌, ◌++◌, Option, Some, None, map, is_some}
use Rattle.std.proofs.Common.{refl, sym, ap, subst, ◌∙◌, arith, inl, inr, ⊎_elim}
use Rattle.std.proofs.lemmas.Bool.{eq-eqb, eqb-true}
use Rattle.std.proofs.lemmas.List.{append-nil, map-append}
use Rattle.std.proofs.lemmas.Slice.Eq.{bytes_eq-Decides}
use Rattle.std.specs.List.{Contains}
use Rattle.std.specs.FinMap.{find}
use Rattle.law_steps.specs.Systems.{Run}
use Rattle.asp_model.specs.Names.{Name, Text, name_cmp, same_name, same_text}
use Rattle.asp_model.specs.Term.{Head, Serve, Pending, Tree, has_text}
use Rattle.asp_model.specs.Split.{Split, Stands, Splits, split}
use Rattle.asp_model.specs.Store.{CellShape, cell}
use Rattle.asp_model.specs.Chase.{chase}
use Rattle.asp_model.specs.Configuration.{RequestShape, ReceptionShape, From, Poll, Activity, Configuration, or_none, start, requests_of, log_of}
use Rattle.asp_model.specs.Intent.{Effect, Acts, labels_served}
use Rattle.asp_model.specs.Services.{ArrivalShape}
use Rattle.asp_model.specs.Step.{ListsShape, intent_in, with_effect, with_last}
use Rattle.asp_model.specs.Replay.{CountsShape, total, replay}
use Rattle.law_steps.specs.Reached.{IsReached, RunsTo}
use Rattle.law_steps.specs.Steps.{IsPoll}
use Rattle.law_chases.proofs.FutureLemmas.{none_true, true_false}
use Rattle.law_steps.proofs.NameLemmas.{name_case, name_itself, names_apart}
use Rattle.law_steps.proofs.StepLemmas.{Takes, step_taken}
use Rattle.law_steps.proofs.FactLemmas.{Face, face_of, Facts, IsSent, IsLogged, acts_facts}
use Rattle.law_steps.proofs.CommuteLemmas.{took, intended_is}
use Rattle.law_steps.proofs.ListLemmas.{prefix_both, prefix_same, grown_by, logged_list}
use Rattle.law_steps.proofs.ReachedLemmas.{reached_right, start_is_reached}
use Rattle.law_steps.proofs.SystemCounts.{run_both}
use Rattle.law_steps.proofs.SystemJoins.{stopped_end}
use Rattle.law_services.specs.Services.{arrival_of, set_of_head, set_by, set_at, has_poll, replayed_to}
use Rattle.law_services.specs.Told.{HaveSameTexts, IsKept, entry_at}
use Rattle.law_services.proofs.BareLemmas.{is_pending, pending_by, calm_at}
use Rattle.law_services.proofs.EndLemmas.{replay_run}
use Rattle.law_classes.specs.Alike.{in_class, labels_of_asker, labels_in, asked_of, asked_at, AreOneClass, AsksInClass}
use Rattle.law_classes.specs.Runs.{view, ClassLogs, entered, entry_of, with_entry, IsTurn, ClassStep, first_state}
use Rattle.law_classes.specs.Families.{ClassEnd, state_of, IsInside, IsClassEnd}
use Rattle.law_classes.specs.Requests.{request_logs, NobodyPolled, StuckReplaysAreEnds, RestingRunsAreFull, arrived_in, arrival_logs, ServicesShowClasses}
use Rattle.law_classes.proofs.BoxLemmas.{class_more}
use Rattle.law_classes.proofs.AlikeLemmas.{sent_to, target_box, other_box}
use Rattle.law_classes.proofs.EntryLemmas.{grown_entry, turn_in}
use Rattle.law_classes.proofs.StateLemmas.{went_on, system}
use Rattle.law_classes.proofs.RunLemmas.{moved, relist, asks_run, still_state, still_at, good_start}

-- Logs without a poll

unpolled_front : (xs ys : List ReceptionShape) → has_poll (xs ++ ys) ≡ false → has_poll xs ≡ false
unpolled_front [] ys h = refl
unpolled_front (Poll ∷ xs) ys h = h
unpolled_front (From n ∷ xs) ys h = unpolled_front xs ys h

poll_last : (xs : List ReceptionShape) → has_poll (xs ++ Poll ∷ []) ≡ true
poll_last [] = refl
poll_last (Poll ∷ xs) = refl
poll_last (From n ∷ xs) = poll_last xs

unpolled_back : (c : Configuration) (n : Name) (e : Effect) → NobodyPolled (with_effect n e c) → NobodyPolled c
unpolled_back c n e h q = let p = grown_by e.logged c q in unpolled_front (log_of c q) p.0 (ap has_poll p.1 ∙ h q)

no_poll : (c : Configuration) (n : Name) (e : Effect) → NobodyPolled (with_effect n e c) → IsPoll n e → ⊥
no_poll c n e h poll = true_false (has_poll (log_of (with_effect n e c) n)) (ap (λ o. has_poll (or_none (find name_cmp n (with_last o c.logs)))) poll ∙ ap has_poll (logged_list (n, Poll) c) ∙ poll_last (log_of c n)) (h n)

-- Logs of requests

same_eq : (a b : ℕ) → (a == b) ≡ (b == a)
same_eq a b = elim (a == b) as (λ x. (a == b) ≡ x → x ≡ (b == a)) [
  | true ↦ λ h. sym (eq-eqb b a (sym (eqb-true a b h)))
  | false ↦ λ h. elim (b == a) as (λ y. (b == a) ≡ y → false ≡ y) [
    | true ↦ λ k. none_true (sym h ∙ eq-eqb a b (sym (eqb-true b a k)))
    | false ↦ λ k. refl
  ] refl
] refl

abbrev IsSender : Name → Option (Name × RequestShape) → Type 0
IsSender n None = Unit {0}
IsSender n (Some z) = z.1.sender ≡ n

sender_is : (requests : List RequestShape) (n : Name) (x : Face) (e : Effect) → Facts requests n x e → (o : Option (Name × RequestShape)) → e.sent ≡ o → IsSender n o
sender_is requests n x e f None is = tt
sender_is requests n x e f (Some z) is = (subst (IsSent n x (face_of e.own)) is f.sent).2

-- the log of a class with one request more
one_more : (K : Text → ℕ) (κ : ℕ) (rs : List RequestShape) (r : RequestShape) (b : Bool) → (κ == K r.label) ≡ b → map (λ q. From q.sender) (in_class K κ (rs ++ r ∷ [])) ≡ cond b (map (λ q. From q.sender) (in_class K κ rs) ++ From r.sender ∷ []) (map (λ q. From q.sender) (in_class K κ rs))
one_more K κ rs r b h =
    let logs = map (λ (q : RequestShape). From q.sender) (in_class K κ rs) in
    ap (map (λ (q : RequestShape). From q.sender)) (class_more K κ rs r) ∙ map-append (λ (q : RequestShape). From q.sender) (in_class K κ rs) (in_class K κ (r ∷ []))
    ∙ ap (λ (t : Bool). logs ++ map (λ (q : RequestShape). From q.sender) (elim t [ true ↦ r ∷ [] | false ↦ [] ])) (same_eq (K r.label) κ ∙ h)
    ∙ by_test b logs
  where
    by_test : (t : Bool) (logs : List ReceptionShape) → logs ++ map (λ (q : RequestShape). From q.sender) (elim t [ true ↦ r ∷ [] | false ↦ [] ]) ≡ cond t (logs ++ From r.sender ∷ []) logs
    by_test true logs = refl
    by_test false logs = append-nil logs

logs_by : (K : Text → ℕ) (ls : List Text) (c : Configuration) (n : Name) (o : Option (Name × RequestShape)) (l : Option (Name × ReceptionShape)) → IsSender n o → IsLogged n o l → (l ≡ Some (n, Poll) → ⊥) → with_entry (entered K ls o l) (request_logs K c) ≡ (λ q κ. map (λ r. From r.sender) (in_class K κ (sent_to o c q)))
logs_by K ls c n None l is (inl none) calm = ap (λ k. with_entry (entered K ls None k) (request_logs K c)) none
logs_by K ls c n None l is (inr poll) calm = absurd (calm poll)
logs_by K ls c n (Some z) l is logged calm =
    let p : with_entry (Some (z.0, K z.1.label, From n)) (request_logs K c) ≡ (λ q κ. map (λ r. From r.sender) (in_class K κ (sent_to (Some z) c q))) = λ i q κ. at q κ i in
    ap (λ k. with_entry (entered K ls (Some z) k) (request_logs K c)) logged ∙ p
  where
    here : (κ : ℕ) → cond (same_name z.0 z.0 && (κ == K z.1.label)) (request_logs K c z.0 κ ++ From n ∷ []) (request_logs K c z.0 κ) ≡ map (λ r. From r.sender) (in_class K κ (sent_to (Some z) c z.0))
    here κ =
        let logs = request_logs K c z.0 κ in
        ap (λ b. cond (b && (κ == K z.1.label)) (logs ++ From n ∷ []) logs) (name_itself z.0)
        ∙ ap (λ m. cond (κ == K z.1.label) (logs ++ From m ∷ []) logs) (sym is)
        ∙ sym (one_more K κ (requests_of c z.0) z.1 (κ == K z.1.label) refl)
        ∙ ap (λ rs. map (λ (r : RequestShape). From r.sender) (in_class K κ rs)) (sym (target_box z c))

    at : (q : Name) (κ : ℕ) → with_entry (Some (z.0, K z.1.label, From n)) (request_logs K c) q κ ≡ map (λ r. From r.sender) (in_class K κ (sent_to (Some z) c q))
    at q κ = ⊎_elim
        (λ p. subst (λ k. with_entry (Some (z.0, K z.1.label, From n)) (request_logs K c) k κ ≡ map (λ r. From r.sender) (in_class K κ (sent_to (Some z) c k))) (sym p) (here κ))
        (λ apart.
        ap (λ b. cond (b && (κ == K z.1.label)) (request_logs K c q κ ++ From n ∷ []) (request_logs K c q κ)) (names_apart q z.0 apart)
        ∙ ap (λ rs. map (λ (r : RequestShape). From r.sender) (in_class K κ rs)) (sym (other_box z c q apart)))
        (name_case q z.0)

-- what a step that is no poll enters is one request more
logs_after : (K : Text → ℕ) (c : Configuration) (n : Name) (e : Effect) → intent_in c n ≡ Acts e → (IsPoll n e → ⊥) → with_entry (entry_of K c n e) (request_logs K c) ≡ request_logs K (with_effect n e c)
logs_after K c n e intends calm =
    let facts = (acts_facts c n e intends).1 in
    logs_by K (asked_at c n) c n e.sent e.logged (sender_is _ n _ e facts e.sent refl) facts.logged calm

-- Who asks in one class

asks_head : (K : Text → ℕ) (c : CellShape) (h : Head) → is_pending h ≡ false → ((ls : List Text) → set_of_head h c ≡ Some ls → AreOneClass K ls) → AreOneClass K (labels_of_asker h c)
asks_head K c (Serve labels) calm one = one (labels_served labels c) refl
asks_head K c (Pending labels) calm one = none_true (sym calm)
asks_head K c h calm one = λ l e. none_true e

asks_set : (K : Text → ℕ) (c : CellShape) (t : Split) → pending_by t ≡ false → ((ls : List Text) → set_by t c ≡ Some ls → AreOneClass K ls) → AreOneClass K (labels_in t c)
asks_set K c (Stands place) calm one = λ l e. none_true e
asks_set K c (Splits contexts redex) calm one = asks_head K c redex.head calm one

asks_acting : (K : Text → ℕ) (c : Configuration) (n : Name) (e : Effect) → intent_in c n ≡ Acts e → (IsPoll n e → ⊥) → ((a : Activity) (ls : List Text) → find name_cmp n c.activities ≡ Some a → set_at a ≡ Some ls → AreOneClass K ls) → AsksInClass K c n
asks_acting K c n e intends calm one = by_entry (find name_cmp n c.activities) refl
  where
    by_entry : (o : Option Activity) → find name_cmp n c.activities ≡ o → AreOneClass K (asked_of o)
    by_entry None is = λ l h. none_true h
    by_entry (Some a) is = asks_set K (cell a.store a.active) (split a.term) (calm_at (chase c.futures) (requests_of c n) n a e (sym (intended_is c n a is) ∙ intends) calm) (λ ls h. one a ls is h)

-- A run under lists

module _ (K : Text → ℕ) (program : Tree) (lists : ClassLogs) where
  -- what comes later lies within the lists, and nobody polls
  record Past (c : Configuration) : Type 0 where
    unpolled : NobodyPolled c
    inside : IsInside (request_logs K c) lists

  past_step : (c : Configuration) (n : Name) (e : Effect) → Takes None c n e → Past (with_effect n e c) → Past c
  past_step c n e can p =
      let grown : IsInside (request_logs K c) (request_logs K (with_effect n e c)) = subst (λ l. IsInside (request_logs K c) l) (logs_after K c n e can.intends (no_poll c n e p.unpolled)) (λ q κ. grown_entry (entry_of K c n e) (request_logs K c) q κ) in
      record { unpolled = unpolled_back c n e p.unpolled; inside = λ q κ. prefix_both _ _ _ (grown q κ) (p.inside q κ) }

  past_run : (ns : List Name) (c d : Configuration) → RunsTo None c ns d → Past d → Past c
  past_run [] c d run p = subst Past (sym run) p
  past_run (n ∷ ns) c d run p =
      let x = step_taken None c n run.0 run.1 in
      past_step c n x.0 x.1 (subst Past (sym x.2) (past_run ns run.0 d run.2 p))

  record Walk (c : Configuration) : Type 0 where
    reached : IsReached program c
    names : List Name
    run : Run (system K program lists) (first_state K program) names (view K c, request_logs K c)

  walk_start : Walk (start program)
  walk_start = record { reached = start_is_reached program; names = []; run = refl }

  walk_on : (c : Configuration) (n : Name) (e : Effect) → Walk c → Takes None c n e → AsksInClass K c n → Past (with_effect n e c) → Walk (with_effect n e c)
  walk_on c n e w can asks p =
      let d = with_effect n e c in
      let logs = request_logs K c in
      let same : with_entry (entry_of K c n e) logs ≡ request_logs K d = logs_after K c n e can.intends (no_poll c n e p.unpolled) in
      let turn : IsTurn lists logs (entry_of K c n e) = turn_in lists logs (entry_of K c n e) (subst (λ l. IsInside l lists) (sym same) p.inside) in
      let s : ClassStep K program lists n (view K c, logs) (view K d, request_logs K d) = record { at = c; effect = e; reached = w.reached; is = refl; intends = can.intends; may = can.may; turn = turn; asks = asks; then = refl; enters = same } in
      record {
        reached = went_on program c n e w.reached can;
        names = w.names ++ n ∷ [];
        run = run_both (system K program lists) w.names (n ∷ []) (first_state K program) (view K c, logs) (view K d, request_logs K d) w.run ((view K d, request_logs K d), s, refl);
      }

  -- whoever is there asks in one class, since the run leads on to an end
  asks_there : (x : ClassEnd) → IsClassEnd K program x → IsInside lists x.1 → (c : Configuration) (n : Name) → Walk c → Past c → is_some (find name_cmp n c.activities) ≡ true → AsksInClass K c n
  asks_there x e cut c n w p there =
      let logs = request_logs K c in
      let run = (relist K program lists x.1 w.names (first_state K program) (view K c, logs) w.run (λ q κ. prefix_both _ _ _ (p.inside q κ) (cut q κ))).0 in
      let rest = stopped_end (system K program x.1) e.names w.names (first_state K program) (state_of K x) (view K c, logs) (good_start K program) e.run run (λ q v s. absurd (still_state K program x.1 x.0 x.1 e.reached (still_at program x.0 e.reached e.stuck) q v s)) in
      asks_run K program x.1 rest.labels c logs x.0 x.1 n w.reached there (e.asks n) rest.run

  walk_run : (x : ClassEnd) → IsClassEnd K program x → IsInside lists x.1 → (ns : List Name) (c d : Configuration) → Walk c → RunsTo None c ns d → Past d → Walk d
  walk_run x e cut [] c d w run p = subst Walk run w
  walk_run x e cut (n ∷ ns) c d w run p =
      let y = step_taken None c n run.0 run.1 in
      let later : Past (with_effect n y.0 c) = subst Past (sym y.2) (past_run ns run.0 d run.2 p) in
      let there = (took None c n y.0 (reached_right program c w.reached).sound y.1).there in
      let asks = asks_there x e cut c n w (past_step c n y.0 y.1 later) there in
      walk_run x e cut ns run.0 d (subst Walk y.2 (walk_on c n y.0 w y.1 asks later)) run.2 p

pub resting_runs_are_full : RestingRunsAreFull
resting_runs_are_full K program x lists ns c e cut run unpolled inside next =
    let w = walk_run K program lists x e cut ns (start program) c (walk_start K program lists) run (record { unpolled = unpolled; inside = inside }) in
    record {
      reached = w.reached;
      names = w.names;
      run = w.run;
      rests = λ n v s.
          let m = moved K program lists c (request_logs K c) n v w.reached s in
          let h = next n m.effect m.takes.intends in
          h.2 (subst (IsTurn lists (request_logs K c)) h.1 m.turn);
    }

-- A replay

module _ (K : Text → ℕ) (program : Tree) (all : ListsShape) (counts : CountsShape) (unpolled : NobodyPolled (replay program all counts)) (stood : (k : ℕ) (n : Name) (a : Activity) (ls : List Text) → find name_cmp n (replayed_to program all counts k).activities ≡ Some a → set_at a ≡ Some ls → AreOneClass K ls) where
  abbrev R : ℕ → Configuration
  R = replayed_to program all counts

  abbrev lists : ClassLogs
  lists = request_logs K (R (total counts))

  past_at : (m k : ℕ) → m + k ≡ total counts → Past K program lists (R k)
  past_at zero k e = let p : total counts ≡ k = omega (arith, e) in subst (λ j. Past K program lists (R j)) p (record { unpolled = unpolled; inside = λ q κ. prefix_same _ _ refl })
  past_at (suc m) k e =
      let later = past_at m (suc k) (omega (arith, e)) in
      ⊎_elim
      (λ same. subst (Past K program lists) same later)
      (λ x. let y = step_taken None (R k) x.0 (R (suc k)) x.1 in past_step K program lists (R k) x.0 y.0 y.1 (subst (Past K program lists) (sym y.2) later))
      ((replay_run program all counts).goes k)

  walk_at : (k : ℕ) → k ≤ total counts → Walk K program lists (R k)
  walk_at zero le = walk_start K program lists
  walk_at (suc k) le =
      let w = walk_at k (omega (arith, le)) in
      ⊎_elim
      (λ same. subst (Walk K program lists) (sym same) w)
      (λ x.
      let y = step_taken None (R k) x.0 (R (suc k)) x.1 in
      let e : (total counts - suc k) + suc k ≡ total counts = omega (arith, le) in
      let later : Past K program lists (with_effect x.0 y.0 (R k)) = subst (Past K program lists) (sym y.2) (past_at (total counts - suc k) (suc k) e) in
      let asks = asks_acting K (R k) x.0 y.0 y.1.intends (no_poll (R k) x.0 y.0 later.unpolled) (stood k x.0) in
      subst (Walk K program lists) y.2 (walk_on K program lists (R k) x.0 y.0 w y.1 asks later))
      ((replay_run program all counts).goes k)

pub stuck_replays_are_ends : StuckReplaysAreEnds
stuck_replays_are_ends K program all counts stuck unpolled serves asks =
    let w = walk_at K program all counts unpolled (λ k n a ls is at. serves n ls (k, a, is, at)) (total counts) (omega arith) in
    record { reached = w.reached; names = w.names; run = w.run; stuck = stuck; asks = asks }

-- Services

arrived_more : (r : RequestShape) (qs : List RequestShape) (xs : List ArrivalShape) (b : Bool) → map (λ (q : RequestShape). From q.sender) qs ≡ map (λ (x : ArrivalShape). From x.sender) xs → map (λ (q : RequestShape). From q.sender) (elim b [ true ↦ r ∷ qs | false ↦ qs ]) ≡ map (λ (x : ArrivalShape). From x.sender) (elim b [ true ↦ arrival_of r ∷ xs | false ↦ xs ])
arrived_more r qs xs true more = ap (λ (l : List ReceptionShape). From r.sender ∷ l) more
arrived_more r qs xs false more = more

arrived_alike : (K : Text → ℕ) (κ : ℕ) (rs : List RequestShape) → map (λ (r : RequestShape). From r.sender) (in_class K κ rs) ≡ map (λ (x : ArrivalShape). From x.sender) (arrived_in K κ (map arrival_of rs))
arrived_alike K κ [] = refl
arrived_alike K κ (r ∷ rs) = arrived_more r (in_class K κ rs) (arrived_in K κ (map arrival_of rs)) (K r.label == κ) (arrived_alike K κ rs)

same_itself : (x : Text) → same_text x x ≡ true
same_itself x = (bytes_eq-Decides x x).1 refl

-- what has the texts of one class is of one class
one_class_same : (K : Text → ℕ) (others labels : List Text) → HaveSameTexts others labels → AreOneClass K others → AreOneClass K labels
one_class_same K others [] same one = λ l h. none_true h
one_class_same K others (x ∷ xs) same one = λ l h. one l (same l ∙ h) ∙ sym (one x (same x ∙ ap (λ b. b || has_text x xs) (same_itself x)))

kept_one_class : (K : Text → ℕ) (sets : List (List Text)) (labels : List Text) → ((set : List Text) → Contains sets set → AreOneClass K set) → IsKept sets labels → AreOneClass K labels
kept_one_class K sets labels one (inl none) = subst (AreOneClass K) (sym none) (λ l h. none_true h)
kept_one_class K sets labels one (inr kept) = one_class_same K kept.0 labels kept.2 (one kept.0 kept.1)

pub services_show_classes : ServicesShowClasses
services_show_classes K program all counts s shown = record {
  logs = λ i q κ. at q κ i;
  unpolled = λ none n. sym (shown.polled n) ∙ none n;
  serves = λ one n labels stood. kept_one_class K (entry_at s n).sets labels (one n) (shown.sets n labels stood);
}
  where
    at : (q : Name) (κ : ℕ) → request_logs K (replay program all counts) q κ ≡ arrival_logs K s q κ
    at q κ = arrived_alike K κ (requests_of (replay program all counts) q) ∙ ap (λ (xs : List ArrivalShape). map (λ (x : ArrivalShape). From x.sender) (arrived_in K κ xs)) (sym (shown.arrivals q))
