-- Two runs from one state lead on to one state.
use Rattle.std.specs.Prelude.{◌≡◌, ◌≢◌, suc, ◌+◌, ◌-◌, ◌≤◌, List, [], ◌∷◌, length}
use Rattle.std.proofs.Common.{refl, sym, ap, subst, ◌∙◌, arith, inl, inr, ⊎_elim, ◌⊎◌}
use Rattle.law_steps.specs.Systems.{System, Run, one_where, count}
use Rattle.law_steps.proofs.SystemCounts.{either, without, hit_same, hit_other, count_without}

-- a step of n beside a run: the rest of the run after it, and that n was the run's own or may follow it
pub record Beside (y : System) (n : y.Label) (d : y.State) (ms : List y.Label) (e : y.State) : Type 0 where
  pub end : y.State
  pub rest : Run y d (without y n ms) end
  pub last : ((count y n ms ≡ 0) × y.Step n e end) ⊎ ((suc (length (without y n ms)) ≡ length ms) × (1 ≤ count y n ms) × (e ≡ end))

-- the same for one label more, where it is told how n stands to it
abbrev Next : (y : System) (n m : y.Label) (d : y.State) (ms : List y.Label) (e : y.State) → (n ≡ m) ⊎ (n ≢ m) → Type 0
Next y n m d ms e s = (end : y.State) × Run y d (either s ms (m ∷ without y n ms)) end × (((one_where s + count y n ms ≡ 0) × y.Step n e end) ⊎ ((suc (length {A = y.Label} (either s ms (m ∷ without y n ms))) ≡ suc (length ms)) × (1 ≤ one_where s + count y n ms) × (e ≡ end)))

beside_more : (y : System) (n m : y.Label) (d : y.State) (ms : List y.Label) (e : y.State) (c' d' : y.State) → n ≢ m → y.Step m d d' → Beside y n d' ms e → (s : (n ≡ m) ⊎ (n ≢ m))
    → Next y n m d ms e s
beside_more y n m d ms e c' d' apart st b (inl p) = absurd (apart p)
beside_more y n m d ms e c' d' apart st b (inr p) = (b.end, (d', st, b.rest), ⊎_elim (λ x. inl (omega (arith, x.0), x.1)) (λ x. inr (ap suc x.0, omega (arith, x.1), x.2)) b.last)

beside_first : (y : System) (n m : y.Label) (d : y.State) (ms : List y.Label) (e : y.State) → n ≡ m → Run y d ms e → (s : (n ≡ m) ⊎ (n ≢ m))
    → Next y n m d ms e s
beside_first y n m d ms e p r (inl q) = (e, r, inr (refl, omega arith, refl))
beside_first y n m d ms e p r (inr q) = absurd (q p)

to_beside : (y : System) (n m : y.Label) (d : y.State) (ms : List y.Label) (e : y.State) → Next y n m d ms e (y.alike n m) → Beside y n d (m ∷ ms) e
to_beside y n m d ms e x = record { end = x.0; rest = x.1; last = x.2 }

pub beside : (y : System) (n : y.Label) (ms : List y.Label) (c d e : y.State) → y.Good c → y.Step n c d → Run y c ms e → Beside y n d ms e
beside y n [] c d e g st r = record { end = d; rest = refl; last = inl (refl, subst (λ x. y.Step n x d) r st) }
beside y n (m ∷ ms) c d e g st r = to_beside y n m d ms e (⊎_elim
    (λ p. beside_first y n m d ms e p (subst (λ x. Run y x ms e) (y.one m c r.0 d r.1 (subst (λ k. y.Step k c d) p st)) r.2) (y.alike n m))
    (λ a.
    let f = y.commutes n m c d r.0 g a st r.1 in
    beside_more y n m d ms e c f.0 a f.1 (beside y n ms r.0 f.0 e (y.keeps m c r.0 g r.1) f.2 r.2) (y.alike n m))
    (y.alike n m))

-- Two runs from one state lead on to one state
pub record Joined (y : System) (ns : List y.Label) (d : y.State) (ms : List y.Label) (e : y.State) : Type 0 where
  pub end : y.State
  pub left : List y.Label
  pub right : List y.Label
  pub on_left : Run y d left end
  pub on_right : Run y e right end
  pub counts_left : (q : y.Label) → count y q left ≡ count y q ms - count y q ns
  pub counts_right : (q : y.Label) → count y q right ≡ count y q ns - count y q ms

join_more : (y : System) (n : y.Label) (ns : List y.Label) (d : y.State) (ms : List y.Label) (c' e : y.State) (b : Beside y n c' ms e) → Joined y ns d (without y n ms) b.end → ((count y n ms ≡ 0) × y.Step n e b.end) ⊎ ((suc (length (without y n ms)) ≡ length ms) × (1 ≤ count y n ms) × (e ≡ b.end)) → Joined y (n ∷ ns) d ms e
join_more y n ns d ms c' e b j (inl x) = record {
  end = j.end;
  left = j.left;
  right = n ∷ j.right;
  on_left = j.on_left;
  on_right = (b.end, x.1, j.on_right);
  counts_left = λ q. omega (arith, j.counts_left q, count_without y q n ms);
  counts_right = λ q. ⊎_elim
      (λ p. let z : count y q ms ≡ 0 = ap (λ k. count y k ms) p ∙ x.0 in omega (arith, j.counts_right q, count_without y q n ms, z))
      (λ a. omega (arith, j.counts_right q, count_without y q n ms, hit_other y q n a))
      (y.alike q n);
}
join_more y n ns d ms c' e b j (inr x) = record {
  end = j.end;
  left = j.left;
  right = j.right;
  on_left = j.on_left;
  on_right = subst (λ z. Run y z j.right j.end) (sym x.2) j.on_right;
  counts_left = λ q. omega (arith, j.counts_left q, count_without y q n ms);
  counts_right = λ q. ⊎_elim
      (λ p. let z : 1 ≤ count y q ms = subst (λ k. 1 ≤ count y k ms) (sym p) x.1 in omega (arith, j.counts_right q, count_without y q n ms, z, hit_same y q n p))
      (λ a. omega (arith, j.counts_right q, count_without y q n ms, hit_other y q n a))
      (y.alike q n);
}

pub runs_join : (y : System) (ns ms : List y.Label) (c d e : y.State) → y.Good c → Run y c ns d → Run y c ms e → Joined y ns d ms e
runs_join y [] ms c d e g r s = record { end = e; left = ms; right = []; on_left = subst (λ x. Run y x ms e) r s; on_right = refl; counts_left = λ q. omega arith; counts_right = λ q. omega arith }
runs_join y (n ∷ ns) ms c d e g r s =
    let b = beside y n ms c r.0 e g r.1 s in
    join_more y n ns d ms r.0 e b (runs_join y ns (without y n ms) r.0 d b.end (y.keeps n c r.0 g r.1) r.2 b.rest) b.last

-- a list without labels is empty
no_labels : (y : System) (ns : List y.Label) (d e : y.State) → ((q : y.Label) → count y q ns ≡ 0) → Run y d ns e → d ≡ e
no_labels y [] d e z r = r
no_labels y (n ∷ ns) d e z r = absurd (omega (arith, z n, hit_same y n n refl))

-- runs in which each label stands equally often lead to one state
pub one_end : (y : System) (ns ms : List y.Label) (c d e : y.State) → y.Good c → Run y c ns d → Run y c ms e → ((q : y.Label) → count y q ns ≡ count y q ms) → d ≡ e
one_end y ns ms c d e g r s same =
    let j = runs_join y ns ms c d e g r s in
    no_labels y j.left d j.end (λ q. omega (arith, j.counts_left q, same q)) j.on_left ∙ sym (no_labels y j.right e j.end (λ q. omega (arith, j.counts_right q, same q)) j.on_right)

no_left : (y : System) (ns ms ls : List y.Label) (d f : y.State) → ((q : y.Label) (x : y.State) → y.Step q d x → count y q ms ≤ count y q ns) → Run y d ls f → ((q : y.Label) → count y q ls ≡ count y q ms - count y q ns) → (d ≡ f) × ((q : y.Label) → count y q ms ≤ count y q ns)
no_left y ns ms [] d f stuck r cl = (r, λ q. omega (arith, cl q))
no_left y ns ms (l ∷ ls) d f stuck r cl = absurd (omega (arith, cl l, hit_same y l l refl, stuck l r.0 r.1))

-- what is left of one run when another has stopped
pub record Rest (y : System) (ns : List y.Label) (d : y.State) (ms : List y.Label) (e : y.State) : Type 0 where
  pub labels : List y.Label
  pub run : Run y e labels d
  pub counts : (q : y.Label) → count y q ms + count y q labels ≡ count y q ns

-- where the first run ends, no label can step that stands oftener in the second: then the second leads on to that end
pub stopped_end : (y : System) (ns ms : List y.Label) (c d e : y.State) → y.Good c → Run y c ns d → Run y c ms e → ((q : y.Label) (x : y.State) → y.Step q d x → count y q ms ≤ count y q ns) → Rest y ns d ms e
stopped_end y ns ms c d e g r s stuck =
    let j = runs_join y ns ms c d e g r s in
    let z = no_left y ns ms j.left d j.end stuck j.on_left j.counts_left in
    record { labels = j.right; run = subst (λ x. Run y e j.right x) (sym z.0) j.on_right; counts = λ q. omega (arith, j.counts_right q, z.1 q) }
