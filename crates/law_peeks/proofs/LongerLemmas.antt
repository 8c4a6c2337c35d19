-- Moves that go on.
use Rattle.std.proofs.Common.{◌≡◌, ◌+◌, ◌∷◌, ◌++◌, [], ℕ, zero, suc, List, refl, sym, ap, subst, ◌∙◌, arith}
use Rattle.std.proofs.lemmas.List.{append-nil}
use Rattle.asp_model.specs.Configuration.{Activity}
use Rattle.activity_step.specs.Local.{LocalRun}
use Rattle.law_peeks.specs.Needs.{Peek, with_peek}
use Rattle.law_peeks.specs.Moves.{Contracts, IsMoved, LeaseMove, MovesReadOn, MovesRunOn, Peeks, bare, contractions, peeks, trailing, trailing_then, unless_followed}

-- One list of moves behind another

moved_both : (ms ns : List LeaseMove) (a b c : Activity) → IsMoved ms a b → IsMoved ns b c → IsMoved (ms ++ ns) a c
moved_both [] ns a b c run more = subst (λ z. IsMoved ns z c) (sym run) more
moved_both (Contracts ∷ ms) ns a b c run more = (run.0, run.1, moved_both ms ns run.0 b c run.2 more)
moved_both (Peeks x ∷ ms) ns a b c run more = (run.0, moved_both ms ns (with_peek a x) b c run.1 more)

contractions_both : (ms ns : List LeaseMove) → contractions (ms ++ ns) ≡ contractions ms + contractions ns
contractions_both [] ns = omega arith
contractions_both (Contracts ∷ ms) ns = omega (arith, contractions_both ms ns)
contractions_both (Peeks x ∷ ms) ns = contractions_both ms ns

peeks_both : (ms ns : List LeaseMove) → peeks (ms ++ ns) ≡ peeks ms ++ peeks ns
peeks_both [] ns = refl
peeks_both (Contracts ∷ ms) ns = peeks_both ms ns
peeks_both (Peeks x ∷ ms) ns = ap (λ xs. x ∷ xs) (peeks_both ms ns)

-- Contractions

bare_moved : (r : ℕ) (a b : Activity) → LocalRun r a b → IsMoved (bare r) a b
bare_moved zero a b run = run
bare_moved (suc r) a b run = (run.0, run.1, bare_moved r run.0 b run.2)

bare_contractions : (r : ℕ) → contractions (bare r) ≡ r
bare_contractions zero = refl
bare_contractions (suc r) = ap suc (bare_contractions r)

bare_peeks : (r : ℕ) → peeks (bare r) ≡ []
bare_peeks zero = refl
bare_peeks (suc r) = bare_peeks r

bare_trailing : (r : ℕ) → trailing (bare r) ≡ []
bare_trailing zero = refl
bare_trailing (suc r) = bare_trailing r

longer : (ms : List LeaseMove) (r : ℕ) → contractions (ms ++ bare r) ≡ contractions ms + r
longer ms r = contractions_both ms (bare r) ∙ ap (λ k. contractions ms + k) (bare_contractions r)

none_trailing : (ms : List LeaseMove) (r : ℕ) → trailing (ms ++ bare (suc r)) ≡ []
none_trailing [] r = bare_trailing r
none_trailing (Contracts ∷ ms) r = none_trailing ms r
none_trailing (Peeks x ∷ ms) r =
    let some : contractions (ms ++ bare (suc r)) ≡ suc (contractions ms + r) = omega (arith, longer ms (suc r)) in
    ap (λ k. unless_followed k x (trailing (ms ++ bare (suc r)))) some ∙ none_trailing ms r

trailing_on : (ms : List LeaseMove) (r : ℕ) → trailing (ms ++ bare r) ≡ trailing_then r (trailing ms)
trailing_on ms zero = ap trailing (append-nil ms)
trailing_on ms (suc r) = none_trailing ms r

pub moves_run_on : MovesRunOn
moves_run_on ms r a b c run more = (
  moved_both ms (bare r) a b c run (bare_moved r b c more),
  longer ms r,
  peeks_both ms (bare r) ∙ ap (λ xs. peeks ms ++ xs) (bare_peeks r) ∙ append-nil (peeks ms),
  trailing_on ms r,
)

-- Values

one_more : (ms : List LeaseMove) (x : Peek) → contractions (ms ++ Peeks x ∷ []) ≡ contractions ms
one_more ms x = omega (arith, contractions_both ms (Peeks x ∷ []))

behind_all : (k : ℕ) (y x : Peek) (xs : List Peek) → unless_followed k y (xs ++ x ∷ []) ≡ unless_followed k y xs ++ x ∷ []
behind_all zero y x xs = refl
behind_all (suc k) y x xs = refl

trailing_more : (ms : List LeaseMove) (x : Peek) → trailing (ms ++ Peeks x ∷ []) ≡ trailing ms ++ x ∷ []
trailing_more [] x = refl
trailing_more (Contracts ∷ ms) x = trailing_more ms x
trailing_more (Peeks y ∷ ms) x = (λ i. unless_followed (one_more ms x i) y (trailing_more ms x i)) ∙ behind_all (contractions ms) y x (trailing ms)

pub moves_read_on : MovesReadOn
moves_read_on ms a b x run peeked = (
  moved_both ms (Peeks x ∷ []) a b (with_peek b x) run (peeked, refl),
  one_more ms x,
  peeks_both ms (Peeks x ∷ []),
  trailing_more ms x,
)
