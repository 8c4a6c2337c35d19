-- More ends leave what was found.
use Rattle.std.specs.Prelude.{◌≡◌, ◌⊎◌, ◌<◌, ◌+◌, ℕ, zero, suc, true, List, [], ◌∷◌, ◌++◌, length, map, take}
use Rattle.std.proofs.Common.{refl, sym, ap, subst, ◌∙◌, arith, inl, inr, ⊎_elim, append_assoc, slice_index_or}
use Rattle.std.proofs.lemmas.List.{append-nil, map-append, take_more}
use Rattle.std.specs.List.{starts_with}
use Rattle.asp_model.specs.Term.{Tree}
use Rattle.asp_model.specs.Step.{ListsShape, same_reception}
use Rattle.asp_model.specs.Replay.{log_in}
use Rattle.law_families.specs.Families.{RunLogs, Has, AreBeginnings, IsWithin}
use Rattle.outcome_search.specs.declared.runs.EndedRun.{EndedRun}
use Rattle.outcome_search.specs.Ends.{run_logs, IsReplayableEnd, AreReplayableEnds}
use Rattle.outcome_search.specs.Found.{HasLists, AreDistinct, Grows, AreWithin}

-- Ends that are there

has_more : (old more : List RunLogs) (x : RunLogs) → Has old x → Has (old ++ more) x
has_more [] more x h = absurd h
has_more (y ∷ ys) more x (inl p) = inl p
has_more (y ∷ ys) more x (inr h) = inr (has_more ys more x h)

pub has_grown : (old new : List RunLogs) (x : RunLogs) → Grows old new → Has old x → Has new x
has_grown old new x g h = subst (λ l. Has l x) g.is (has_more old g.more x h)

pub has_last : (xs : List RunLogs) (x : RunLogs) → Has (xs ++ x ∷ []) x
has_last [] x = inl refl
has_last (y ∷ ys) x = inr (has_last ys x)

pub has_apart : (xs : List RunLogs) (x y : RunLogs) → Has (xs ++ x ∷ []) y → Has xs y ⊎ (x ≡ y)
has_apart [] x y (inl p) = inr p
has_apart [] x y (inr h) = absurd h
has_apart (z ∷ zs) x y (inl p) = inl (inl p)
has_apart (z ∷ zs) x y (inr h) = ⊎_elim (λ a. inl (inr a)) (λ p. inr p) (has_apart zs x y h)

pub has_at : (xs : List EndedRun) (k : ℕ) (x y : EndedRun) → k < length xs → x ≡ slice_index_or xs k y → Has (map run_logs xs) (run_logs x)
has_at [] k x y lt h = absurd (omega (arith, lt))
has_at (z ∷ zs) zero x y lt h = inl (ap run_logs (sym h))
has_at (z ∷ zs) (suc k) x y lt h = inr (has_at zs k x y (omega (arith, lt)) h)

-- the first ends with one more
pub ends_more : (xs : List EndedRun) (k : ℕ) (x : EndedRun) → k < length xs → x ≡ slice_index_or xs k x → map run_logs (take (k + 1) xs) ≡ map run_logs (take k xs) ++ run_logs x ∷ []
ends_more xs k x lt is = ap (map run_logs) (take_more xs k x lt ∙ ap (λ z. take k xs ++ z ∷ []) (sym is)) ∙ map-append run_logs (take k xs) (x ∷ [])

-- Growth

pub grows_not : (l : List RunLogs) → Grows l l
grows_not l = record { more = []; is = append-nil l; distinct = λ d. d }

pub grows_on : (a b c : List RunLogs) → Grows a b → Grows b c → Grows a c
grows_on a b c g h = record {
  more = g.more ++ h.more;
  is = sym (append_assoc a g.more h.more) ∙ ap (λ l. l ++ h.more) g.is ∙ h.is;
  distinct = λ d. h.distinct (g.distinct d);
}

distinct_more : (xs : List RunLogs) (x : RunLogs) → (Has xs x → ⊥) → AreDistinct xs → AreDistinct (xs ++ x ∷ [])
distinct_more [] x new d = ((λ h. h), tt)
distinct_more (y ∷ ys) x new d = (λ h. ⊎_elim d.0 (λ p. new (inl (sym p))) (has_apart ys x y h), distinct_more ys x (λ h. new (inr h)) d.1)

pub grows_by : (xs : List RunLogs) (x : RunLogs) → (Has xs x → ⊥) → Grows xs (xs ++ x ∷ [])
grows_by xs x new = record { more = x ∷ []; is = refl; distinct = distinct_more xs x new }

pub ends_one_more : (program : Tree) (xs : List RunLogs) (x : RunLogs) → AreReplayableEnds program xs → IsReplayableEnd program x → AreReplayableEnds program (xs ++ x ∷ [])
ends_one_more program xs x are is y h = ⊎_elim (are y) (λ p. subst (IsReplayableEnd program) p is) (has_apart xs x y h)

-- Within the ends

pub within_grown : (old new : List RunLogs) (l : ListsShape) → Grows old new → IsWithin old l → IsWithin new l
within_grown old new l g w = (w.0, has_grown old new w.0 g w.1, w.2)

pub all_within_grown : (old new : List RunLogs) (ls : List ListsShape) → Grows old new → AreWithin old ls → AreWithin new ls
all_within_grown old new [] g w = tt
all_within_grown old new (l ∷ ls) g w = (within_grown old new l g w.0, all_within_grown old new ls g w.1)

pub within_more : (ends : List RunLogs) (ls ms : List ListsShape) → AreWithin ends ls → AreWithin ends ms → AreWithin ends (ls ++ ms)
within_more ends [] ms w v = v
within_more ends (l ∷ ls) ms w v = (w.0, within_more ends ls ms w.1 v)

pub within_each : (ends : List RunLogs) (ls : List ListsShape) (l : ListsShape) → AreWithin ends ls → HasLists ls l → IsWithin ends l
within_each ends [] l w h = absurd h
within_each ends (k ∷ ks) l w (inl p) = (w.0.0, w.0.1, λ m. subst (λ s. starts_with same_reception (log_in w.0.0.0 m) s ≡ true) (p m) (w.0.2 m))
within_each ends (k ∷ ks) l w (inr h) = within_each ends ks l w.1 h

-- none of the first ends begins so, and the next one does not
pub none_more : (xs : List EndedRun) (l : ListsShape) (k : ℕ) (x : EndedRun) → k < length xs → x ≡ slice_index_or xs k x → (IsWithin (map run_logs (take k xs)) l → ⊥) → (AreBeginnings l (run_logs x).0 → ⊥) → IsWithin (map run_logs (take (k + 1) xs)) l → ⊥
none_more xs l k x lt is none not w = ⊎_elim
    (λ h. none (w.0, h, w.2))
    (λ p. not (subst (λ y. AreBeginnings l y.0) (sym p) w.2))
    (has_apart (map run_logs (take k xs)) (run_logs x) w.0 (subst (λ z. Has z w.0) (ends_more xs k x lt is) w.1))
