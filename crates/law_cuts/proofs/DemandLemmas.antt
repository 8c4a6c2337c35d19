-- Where a label that cannot step waits for one other, each label has a least run that steps it so often.
use Rattle.std.specs.Prelude.{◌≡◌, ◌≢◌, ℕ, zero, suc, ◌+◌, ◌-◌, ◌≤◌, List, [], ◌∷◌, ◌++◌, Option, Some, None, length}
use Rattle.std.proofs.Common.{refl, sym, ap, subst, ◌∙◌, arith, inl, inr, ⊎_elim, ◌⊎◌}
use Rattle.law_chases.proofs.FutureLemmas.{no_some, some_is}
use Rattle.law_steps.specs.Systems.{System, Run, hit, count}
use Rattle.law_steps.proofs.SystemCounts.{either, without, hit_same, hit_other, good_after, run_both, count_both, count_without}
use Rattle.law_steps.proofs.SystemJoins.{runs_join}

abbrev pub Able : (y : System) → y.State → y.Label → Type 0
Able y c n = (d : y.State) × y.Step n c d

-- a label that cannot step waits for one label at most, until that steps
pub record Demand (y : System) : Type 0 where
  pub wanted : y.State → y.Label → Option y.Label
  pub able : (c : y.State) (n : y.Label) → Able y c n ⊎ (Able y c n → ⊥)
  pub waits : (c d : y.State) (n m : y.Label) → y.Good c → (Able y c n → ⊥) → y.Step m c d → m ≢ n → wanted c n ≢ Some m
      → (Able y d n → ⊥) × (wanted d n ≡ wanted c n)

module _ (y : System) where
  -- a list with fewer of each label is shorter

  length_by : (n m : y.Label) (ms : List y.Label) → (1 ≤ count y n ms → suc (length (without y n ms)) ≡ length ms) → (s : (n ≡ m) ⊎ (n ≢ m)) → 1 ≤ count y n (m ∷ ms) → suc (length {A = y.Label} (either s ms (m ∷ without y n ms))) ≡ suc (length ms)
  length_by n m ms less (inl e) h = refl
  length_by n m ms less (inr a) h = ap suc (less (omega (arith, h, hit_other y n m a)))

  length_without : (n : y.Label) (ms : List y.Label) → 1 ≤ count y n ms → suc (length (without y n ms)) ≡ length ms
  length_without n [] h = absurd (omega (arith, h))
  length_without n (m ∷ ms) h = length_by n m ms (length_without n ms) (y.alike n m) h

  shorter : (w : y.Label) (xs ys : List y.Label) → ((q : y.Label) → count y q xs + hit y q w ≤ count y q ys) → suc (length xs) ≤ length ys
  shorter w [] [] le = absurd (omega (arith, le w, hit_same y w w refl))
  shorter w [] (m ∷ ms) le = omega arith
  shorter w (x ∷ xs) ys le =
      let one : 1 ≤ count y x ys = omega (arith, le x, hit_same y x x refl) in
      omega (arith, length_without x ys one, shorter w xs (without y x ys) (λ q. omega (arith, le q, count_without y q x ys)))

  no_labels : (ns : List y.Label) (d e : y.State) → ((q : y.Label) → count y q ns ≡ 0) → Run y d ns e → d ≡ e
  no_labels [] d e z r = r
  no_labels (n ∷ ns) d e z r = absurd (omega (arith, z n, hit_same y n n refl))

  -- what is left of a run behind another one with no more of each label
  pub record After (ls : List y.Label) (e : y.State) (ms : List y.Label) (f : y.State) : Type 0 where
    pub names : List y.Label
    pub run : Run y e names f
    pub counts : (q : y.Label) → count y q names ≡ count y q ms - count y q ls

  pub rest_after : (ls ms : List y.Label) (c e f : y.State) → y.Good c → Run y c ls e → Run y c ms f → ((q : y.Label) → count y q ls ≤ count y q ms) → After ls e ms f
  rest_after ls ms c e f g r s le =
      let j = runs_join y ls ms c e f g r s in
      let same : f ≡ j.end = no_labels j.right f j.end (λ q. omega (arith, j.counts_right q, le q)) j.on_right in
      record { names = j.left; run = subst (Run y e j.left) (sym same) j.on_left; counts = j.counts_left }

  -- a run up to the first step of a label
  pub record Until (c : y.State) (n : y.Label) (ms : List y.Label) : Type 0 where
    pub front : List y.Label
    pub state : y.State
    pub run : Run y c front state
    pub able : Able y state n
    pub none : count y n front ≡ 0
    pub counts : (q : y.Label) → count y q front + hit y q n ≤ count y q ms

  until_by : (c : y.State) (n m : y.Label) (ms : List y.Label) (d f : y.State) → y.Step m c d → Run y d ms f → (n ≡ m) ⊎ (n ≢ m) → (n ≢ m → Until d n ms) → Until c n (m ∷ ms)
  until_by c n m ms d f st r (inl e) more = record {
    front = [];
    state = c;
    run = refl;
    able = (d, subst (λ k. y.Step k c d) (sym e) st);
    none = refl;
    counts = λ q. let h : hit y q n ≡ hit y q m = ap (hit y q) e in omega (arith, h);
  }
  until_by c n m ms d f st r (inr a) more =
      let u = more a in
      record {
        front = m ∷ u.front;
        state = u.state;
        run = (d, st, u.run);
        able = u.able;
        none = omega (arith, u.none, hit_other y n m a);
        counts = λ q. omega (arith, u.counts q);
      }

  pub until : (ms : List y.Label) (c f : y.State) (n : y.Label) → Run y c ms f → 1 ≤ count y n ms → Until c n ms
  until [] c f n r h = absurd (omega (arith, h))
  until (m ∷ ms) c f n r h = until_by c n m ms r.0 f r.1 r.2 (y.alike n m) (λ a. until ms r.0 f n r.2 (omega (arith, h, hit_other y n m a)))

  -- a run that steps a label k times, and has no more of any label than each run that does
  pub record LeastRun (c : y.State) (n : y.Label) (k : ℕ) : Type 0 where
    pub names : List y.Label
    pub end : y.State
    pub run : Run y c names end
    pub has : k ≤ count y n names
    pub least : (ms : List y.Label) (f : y.State) → Run y c ms f → k ≤ count y n ms → (q : y.Label) → count y q names ≤ count y q ms

  module _ (w : Demand y) where
    -- in a run behind which a label can step that could not, the label that it waits for steps
    pub record Wanted (c : y.State) (n : y.Label) (ps : List y.Label) : Type 0 where
      pub who : y.Label
      pub wants : w.wanted c n ≡ Some who
      pub front : List y.Label
      pub state : y.State
      pub run : Run y c front state
      pub able : Able y state who
      pub none : count y who front ≡ 0
      pub counts : (q : y.Label) → count y q front + hit y q who ≤ count y q ps

    want_case : (o : Option y.Label) (p : y.Label) → (o ≡ Some p) ⊎ (o ≢ Some p)
    want_case None p = inr (λ e. no_some e)
    want_case (Some q) p = ⊎_elim (λ e. inl (ap Some e)) (λ a. inr (λ e. a (some_is e))) (y.alike q p)

    pub finds : (ps : List y.Label) (c f : y.State) (n : y.Label) → y.Good c → (Able y c n → ⊥) → Run y c ps f → count y n ps ≡ 0 → Able y f n → Wanted c n ps
    finds [] c f n g not r none able = absurd (not (subst (λ z. Able y z n) (sym r) able))
    finds (p ∷ ps) c f n g not r none able = ⊎_elim
        (λ e. record { who = p; wants = e; front = []; state = c; run = refl; able = (r.0, r.1); none = refl; counts = λ q. omega arith })
        (λ other.
        let apart : p ≢ n = λ e. omega (arith, none, hit_same y n p (sym e)) in
        let x = w.waits c r.0 n p g not r.1 apart other in
        let z = finds ps r.0 f n (y.keeps p c r.0 g r.1) x.0 r.2 (omega (arith, none)) able in
        let wants = sym x.1 ∙ z.wants in
        let far : hit y z.who p ≡ 0 = hit_other y z.who p (λ e. other (wants ∙ ap Some e)) in
        record {
          who = z.who;
          wants = wants;
          front = p ∷ z.front;
          state = z.state;
          run = (r.0, r.1, z.run);
          able = z.able;
          none = omega (arith, z.none, far);
          counts = λ q. omega (arith, z.counts q);
        })
        (want_case (w.wanted c n) p)

    -- the label that is waited for steps in each run in which this one does
    pub wants_first : (ms : List y.Label) (c f : y.State) (n m : y.Label) → y.Good c → (Able y c n → ⊥) → Run y c ms f → 1 ≤ count y n ms → w.wanted c n ≡ Some m → 1 ≤ count y m ms
    wants_first ms c f n m g not r h is =
        let u = until ms c f n r h in
        let z = finds u.front c u.state n g not u.run u.none u.able in
        let same : z.who ≡ m = some_is (sym z.wants ∙ is) in
        subst (λ k. 1 ≤ count y k ms) same (omega (arith, u.counts z.who, z.counts z.who, hit_same y z.who z.who refl))

    -- a label that can step steps at once
    at_once : (c d : y.State) (n : y.Label) → y.Step n c d → LeastRun c n 1
    at_once c d n st = record {
      names = n ∷ [];
      end = d;
      run = (d, st, refl);
      has = omega (arith, hit_same y n n refl);
      least = λ ms f r h q. ⊎_elim
          (λ e. let same : count y q ms ≡ count y n ms = ap (λ z. count y z ms) e in omega (arith, h, same, hit_same y q n e))
          (λ a. omega (arith, hit_other y q n a))
          (y.alike q n);
    }

    -- a run and one step more
    step_more : (ps : List y.Label) (c f g : y.State) (n : y.Label) → Run y c ps f → y.Step n f g → Run y c (ps ++ n ∷ []) g
    step_more ps c f g n r st = run_both y ps (n ∷ []) c f g r (g, st, refl)

    -- the least run of one that is waited for, and the least run from there
    both_runs : (ps : List y.Label) (c : y.State) (n : y.Label) → y.Good c → (Able y c n → ⊥) → (z : Wanted c n ps) → (a : LeastRun c z.who 1) → count y n a.names ≡ 0 → LeastRun a.end n 1 → LeastRun c n 1
    both_runs ps c n g not z a none d = record {
      names = a.names ++ d.names;
      end = d.end;
      run = run_both y a.names d.names c a.end d.end a.run d.run;
      has = omega (arith, d.has, count_both y n a.names d.names);
      least = λ ms f r h q.
          let first = a.least ms f r (wants_first ms c f n z.who g not r h z.wants) in
          let b = rest_after a.names ms c a.end f g a.run r first in
          omega (arith, first q, b.counts q, d.least b.names f b.run (omega (arith, b.counts n, none, h)) q, count_both y q a.names d.names);
    }

    -- how many labels of a run stand before a label
    abbrev pub place_of : y.Label → List y.Label → ℕ
    place_of n [] = 0
    place_of n (p ∷ ps) = either (y.alike n p) 0 (suc (place_of n ps))

    place_same : (n p : y.Label) (ps : List y.Label) → n ≡ p → (s : (n ≡ p) ⊎ (n ≢ p)) → either s 0 (suc (place_of n ps)) ≡ 0
    place_same n p ps e (inl q) = refl
    place_same n p ps e (inr a) = absurd (a e)

    place_other : (n p : y.Label) (ps : List y.Label) → n ≢ p → (s : (n ≡ p) ⊎ (n ≢ p)) → either s 0 (suc (place_of n ps)) ≡ suc (place_of n ps)
    place_other n p ps a (inl q) = absurd (a q)
    place_other n p ps a (inr b) = refl

    -- the label that is waited for steps before the one that waits
    pub wanted_before : (ms : List y.Label) (c f : y.State) (n m : y.Label) → y.Good c → (Able y c n → ⊥) → Run y c ms f → 1 ≤ count y n ms → w.wanted c n ≡ Some m → suc (place_of m ms) ≤ place_of n ms
    wanted_before [] c f n m g not r h is = absurd (omega (arith, h))
    wanted_before (p ∷ ms) c f n m g not r h is =
        let apart : n ≢ p = λ e. not (r.0, subst (λ k. y.Step k c r.0) (sym e) r.1) in
        let late = place_other n p ms apart (y.alike n p) in
        ⊎_elim {C = suc (place_of m (p ∷ ms)) ≤ place_of n (p ∷ ms)}
        (λ e. omega (arith, late, place_same m p ms e (y.alike m p)))
        (λ a.
        let x = w.waits c r.0 n p g not r.1 (λ e. apart (sym e)) (λ e. a (some_is (sym is ∙ e))) in
        omega (arith, late, place_other m p ms a (y.alike m p), wanted_before ms r.0 f n m (y.keeps p c r.0 g r.1) x.0 r.2 (omega (arith, h, hit_other y n p apart)) (x.1 ∙ is)))
        (y.alike m p)

    pub least_one : (k : ℕ) (ps : List y.Label) (c f : y.State) (n : y.Label) → length ps ≤ k → y.Good c → Run y c ps f → count y n ps ≡ 0 → Able y f n → LeastRun c n 1
    least_one zero ps c f n le g r none able = ⊎_elim {C = LeastRun c n 1}
        (λ x. at_once c x.0 n x.1)
        (λ not. let z = finds ps c f n g not r none able in absurd (omega (arith, le, shorter z.who z.front ps z.counts)))
        (w.able c n)
    least_one (suc k) ps c f n le g r none able = ⊎_elim {C = LeastRun c n 1}
        (λ x. at_once c x.0 n x.1)
        (λ not.
        let z = finds ps c f n g not r none able in
        let a = least_one k z.front c z.state z.who (omega (arith, le, shorter z.who z.front ps z.counts)) g z.run z.none z.able in
        let to = step_more z.front c z.state z.able.0 z.who z.run z.able.1 in
        let has : 1 ≤ count y z.who (z.front ++ z.who ∷ []) = omega (arith, count_both y z.who z.front (z.who ∷ []), hit_same y z.who z.who refl) in
        let below : (q : y.Label) → count y q a.names ≤ count y q ps = λ q. omega (arith, z.counts q, a.least (z.front ++ z.who ∷ []) z.able.0 to has q, count_both y q z.front (z.who ∷ [])) in
        let b = rest_after a.names ps c a.end f g a.run r below in
        let less : (q : y.Label) → count y q b.names + hit y q z.who ≤ count y q ps = λ q. ⊎_elim {C = count y q b.names + hit y q z.who ≤ count y q ps}
        (λ e. let same : count y q a.names ≡ count y z.who a.names = ap (λ u. count y u a.names) e in omega (arith, b.counts q, below q, a.has, same, hit_same y q z.who e))
        (λ e. omega (arith, b.counts q, hit_other y q z.who e))
        (y.alike q z.who) in
        let d = least_one k b.names a.end f n (omega (arith, le, shorter z.who b.names ps less)) (good_after y a.names c a.end g a.run) b.run (omega (arith, b.counts n, none)) able in
        both_runs ps c n g not z a (omega (arith, below n, none)) d)
        (w.able c n)

    -- of each run that steps a label so often there is a least one
    pub least_many : (k : ℕ) (ns : List y.Label) (c d : y.State) (n : y.Label) → y.Good c → Run y c ns d → k ≤ count y n ns → LeastRun c n k
    least_many zero ns c d n g r h = record { names = []; end = c; run = refl; has = omega arith; least = λ ms f s l q. omega arith }
    least_many (suc k) ns c d n g r h =
        let u = until ns c d n r (omega (arith, h)) in
        let a = least_one (length u.front) u.front c u.state n (omega arith) g u.run u.none u.able in
        let to = step_more u.front c u.state u.able.0 n u.run u.able.1 in
        let has : 1 ≤ count y n (u.front ++ n ∷ []) = omega (arith, count_both y n u.front (n ∷ []), hit_same y n n refl) in
        let once : count y n a.names ≤ 1 = omega (arith, a.least (u.front ++ n ∷ []) u.able.0 to has n, count_both y n u.front (n ∷ []), u.none, hit_same y n n refl) in
        let b = rest_after a.names ns c a.end d g a.run r (a.least ns d r (omega (arith, h))) in
        let e = least_many k b.names a.end d n (good_after y a.names c a.end g a.run) b.run (omega (arith, b.counts n, once, h)) in
        record {
          names = a.names ++ e.names;
          end = e.end;
          run = run_both y a.names e.names c a.end e.end a.run e.run;
          has = omega (arith, a.has, e.has, count_both y n a.names e.names);
          least = λ ms f s l q.
              let first = a.least ms f s (omega (arith, l)) in
              let v = rest_after a.names ms c a.end f g a.run s first in
              omega (arith, first q, v.counts q, e.least v.names f v.run (omega (arith, v.counts n, once, l)) q, count_both y q a.names e.names);
        }
