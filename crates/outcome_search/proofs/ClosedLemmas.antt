-- What more ends leave of what was closed, and when all is closed.
use Rattle.std.specs.Prelude.{◌≡◌, ◌<◌, ℕ, zero, suc, ◌+◌, List, [], ◌∷◌, ◌++◌, Some}
use Rattle.std.proofs.Common.{refl, sym, ap, subst, ◌∙◌, arith, inl, inr, ⊎_elim, ◌⊎◌}
use Rattle.std.specs.FinMap.{find}
use Rattle.std.specs.Prelude.{cond}
use Rattle.asp_model.specs.Names.{Name, name_cmp}
use Rattle.asp_model.specs.Term.{Tree}
use Rattle.asp_model.specs.Configuration.{ReceptionShape, or_none}
use Rattle.asp_model.specs.Step.{ListsShape, reception_at}
use Rattle.asp_model.specs.Replay.{log_in, lists_of}
use Rattle.law_chases.proofs.FutureLemmas.{no_some}
use Rattle.law_steps.proofs.NameLemmas.{name_case, names_apart}
use Rattle.law_families.specs.Families.{RunLogs, Has, ComesBehind, IsOffer, IsClosed}
use Rattle.outcome_search.specs.Found.{HasLists, HasOffers, HasOffersTo, Grows, AreWithin, IsClosedAt, IsClosedIn, AreClosed}
use Rattle.outcome_search.proofs.GrownLemmas.{within_grown, within_each}

-- Offers

lists_more : (ls ms : List ListsShape) (l : ListsShape) → HasLists ls l → HasLists (ls ++ ms) l
lists_more [] ms l h = absurd h
lists_more (k ∷ ks) ms l (inl p) = inl p
lists_more (k ∷ ks) ms l (inr h) = inr (lists_more ks ms l h)

lists_later : (ls ms : List ListsShape) (l : ListsShape) → HasLists ms l → HasLists (ls ++ ms) l
lists_later [] ms l h = h
lists_later (k ∷ ks) ms l h = inr (lists_later ks ms l h)

split_less : (k count : ℕ) → k < suc count → (k < count) ⊎ (k ≡ count)
split_less zero zero lt = inr refl
split_less zero (suc c) lt = inl (omega arith)
split_less (suc k) zero lt = absurd (omega (arith, lt))
split_less (suc k) (suc c) lt = ⊎_elim (λ l. inl (omega (arith, l))) (λ p. inr (ap suc p)) (split_less k c (omega (arith, lt)))

-- the offers of one place more
pub offers_more : (program : Tree) (x : RunLogs) (q : Name) (places : ℕ) (ls ms : List ListsShape) → HasOffersTo program x q places ls → HasOffers program x q places ms → HasOffersTo program x q (places + 1) (ls ++ ms)
offers_more program x q places ls ms has more k lt entry d b o = ⊎_elim
    (λ less. lists_more ls ms (lists_of d) (has k less entry d b o))
    (λ p. lists_later ls ms (lists_of d) (more entry d (subst (λ j. ComesBehind (log_in x.0 q) j entry) p b) (subst (λ j. IsOffer program x q j entry d) p o)))
    (split_less k places (omega (arith, lt)))

-- a log is closed where its offers are within the ends
pub closed_by : (program : Tree) (ends : List RunLogs) (x : RunLogs) (q : Name) (places : ℕ) (ls : List ListsShape) → ((k : ℕ) (entry : ReceptionShape) → ComesBehind (log_in x.0 q) k entry → k < places) → HasOffersTo program x q places ls → AreWithin ends ls → IsClosedAt program ends x q
closed_by program ends x q places ls first has within k entry d b o = within_each ends ls (lists_of d) within (has k (first k entry b) entry d b o)

-- More ends

log_grown : (program : Tree) (old new : List RunLogs) (x : RunLogs) (q : Name) → Grows old new → IsClosedAt program old x q → IsClosedAt program new x q
log_grown program old new x q g c k entry d b o = within_grown old new (lists_of d) g (c k entry d b o)

pub run_grown : (program : Tree) (old new : List RunLogs) (x : RunLogs) (ls : ListsShape) → Grows old new → IsClosedIn program old x ls → IsClosedIn program new x ls
run_grown program old new x [] g c = tt
run_grown program old new x (l ∷ ls) g c = (log_grown program old new x l.0 g c.0, run_grown program old new x ls g c.1)

pub logs_more : (program : Tree) (ends : List RunLogs) (x : RunLogs) (ls ms : ListsShape) → IsClosedIn program ends x ls → IsClosedIn program ends x ms → IsClosedIn program ends x (ls ++ ms)
logs_more program ends x [] ms c d = d
logs_more program ends x (l ∷ ls) ms c d = (c.0, logs_more program ends x ls ms c.1 d)

pub runs_grown : (program : Tree) (old new xs : List RunLogs) → Grows old new → AreClosed program old xs → AreClosed program new xs
runs_grown program old new [] g c = tt
runs_grown program old new (x ∷ xs) g c = (run_grown program old new x x.0 g c.0, runs_grown program old new xs g c.1)

-- All is closed

closed_in : (program : Tree) (ends : List RunLogs) (x : RunLogs) (q : Name) (k : ℕ) (here : ReceptionShape) (ls : ListsShape) → IsClosedIn program ends x ls → reception_at (or_none (find name_cmp q ls)) k ≡ Some here → IsClosedAt program ends x q
closed_in program ends x q k here [] c at = no_some at
closed_in program ends x q k here (l ∷ ls) c at = ⊎_elim
    (λ p. subst (IsClosedAt program ends x) (sym p) c.0)
    (λ apart. closed_in program ends x q k here ls c.1 (ap (λ b. reception_at (or_none (cond b (Some l.1) (find name_cmp q ls))) k) (sym (names_apart q l.0 apart)) ∙ at))
    (name_case q l.0)

closed_run : (program : Tree) (ends xs : List RunLogs) (x : RunLogs) → AreClosed program ends xs → Has xs x → IsClosedIn program ends x x.0
closed_run program ends [] x c h = absurd h
closed_run program ends (y ∷ ys) x c (inl p) = subst (λ z. IsClosedIn program ends z z.0) p c.0
closed_run program ends (y ∷ ys) x c (inr h) = closed_run program ends ys x c.1 h

pub all_closed : (program : Tree) (ends : List RunLogs) → AreClosed program ends ends → IsClosed program ends
all_closed program ends c x q k entry d has b o = closed_in program ends x q k b.here x.0 (closed_run program ends ends x c has) b.at k entry d b o
