-- Entries in logs by classes: whose they are, and two that are apart.
use Rattle.std.specs.Prelude.{◌≡◌, ◌≢◌, ◌&&◌, ◌==◌, ℕ, cond, true, false, Bool, List, [], ◌∷◌, ◌++◌, Option, Some, None, length}
use Rattle.std.proofs.Common.{refl, sym, ap, subst, ◌∙◌, inl, inr, ◌⊎◌, append_assoc}
use Rattle.std.proofs.lemmas.Bool.{eqb-true, eq-eqb, and_parts, and_from}
use Rattle.std.proofs.lemmas.List.{append-nil}
use Rattle.asp_model.specs.Names.{Name, Text, same_name}
use Rattle.asp_model.specs.Configuration.{RequestShape, ReceptionShape, From, Poll}
use Rattle.asp_model.specs.Step.{reception_at}
use Rattle.law_chases.proofs.FutureLemmas.{no_some, some_is, none_true}
use Rattle.law_steps.proofs.NameLemmas.{name_itself, names_tied}
use Rattle.law_steps.proofs.FactLemmas.{IsLogged}
use Rattle.law_steps.proofs.ListLemmas.{IsPrefix, reception_next}
use Rattle.law_classes.specs.Alike.{class_of}
use Rattle.law_classes.specs.Runs.{ClassLogs, Entry, entered, with_entry, IsTurn}
use Rattle.law_classes.specs.Families.{IsInside}

-- it is the log of this entry
abbrev pub is_at : Entry → Name → ℕ → Bool
is_at x q κ = same_name q x.0 && (κ == x.1)

pub at_itself : (x : Entry) → is_at x x.0 x.1 ≡ true
at_itself x = and_from (same_name x.0 x.0) (x.1 == x.1) (name_itself x.0) (eq-eqb x.1 x.1 refl)

pub at_ties : (x : Entry) (q : Name) (κ : ℕ) → is_at x q κ ≡ true → (q ≡ x.0) × (κ ≡ x.1)
at_ties x q κ h = let b = and_parts (same_name q x.0) (κ == x.1) h in (names_tied q x.0 b.0, eqb-true κ x.1 b.1)

-- Logs with one entry more

pub grown_entry : (o : Option Entry) (logs : ClassLogs) (q : Name) (κ : ℕ) → IsPrefix (logs q κ) (with_entry o logs q κ)
grown_entry None logs q κ = ([], append-nil (logs q κ))
grown_entry (Some x) logs q κ = by_test (is_at x q κ)
  where
    by_test : (b : Bool) → IsPrefix (logs q κ) (cond b (logs q κ ++ x.2 ∷ []) (logs q κ))
    by_test true = (x.2 ∷ [], refl)
    by_test false = ([], append-nil (logs q κ))

pub entry_here : (x : Entry) (logs : ClassLogs) → with_entry (Some x) logs x.0 x.1 ≡ logs x.0 x.1 ++ x.2 ∷ []
entry_here x logs = ap (λ b. cond b (logs x.0 x.1 ++ x.2 ∷ []) (logs x.0 x.1)) (at_itself x)

-- a log after the same entry on both sides
pub entries_both : (x : Entry) (logs others : ClassLogs) → logs x.0 x.1 ≡ others x.0 x.1 → IsInside logs others → IsInside (with_entry (Some x) logs) (with_entry (Some x) others)
entries_both x logs others same inside q κ = by_test (is_at x q κ) refl
  where
    by_test : (b : Bool) → is_at x q κ ≡ b → IsPrefix (cond b (logs q κ ++ x.2 ∷ []) (logs q κ)) (cond b (others q κ ++ x.2 ∷ []) (others q κ))
    by_test false h = inside q κ
    by_test true h =
        let p = at_ties x q κ h in
        let here : logs q κ ≡ others q κ = ap (λ k. logs k κ) p.0 ∙ ap (logs x.0) p.1 ∙ same ∙ sym (ap (λ k. others k κ) p.0 ∙ ap (others x.0) p.1) in
        ([], append-nil (logs q κ ++ x.2 ∷ []) ∙ ap (λ l. l ++ x.2 ∷ []) here)

-- in different logs
abbrev pub EntriesApart : Option Entry → Option Entry → Type 0
EntriesApart None p = Unit {0}
EntriesApart (Some x) None = Unit {0}
EntriesApart (Some x) (Some y) = x.0 ≡ y.0 → x.1 ≡ y.1 → ⊥

pub entries_back : (o p : Option Entry) → EntriesApart o p → EntriesApart p o
entries_back None None a = tt
entries_back None (Some y) a = tt
entries_back (Some x) None a = tt
entries_back (Some x) (Some y) a = λ to class. a (sym to) (sym class)

-- both orders leave the same
pub swap_entries : (o p : Option Entry) (logs : ClassLogs) → EntriesApart o p → with_entry o (with_entry p logs) ≡ with_entry p (with_entry o logs)
swap_entries None p logs apart = refl
swap_entries (Some x) None logs apart = refl
swap_entries (Some x) (Some y) logs apart = λ i q κ. at q κ i
  where
    swap_at : (b c : Bool) (l : List ReceptionShape) → (b ≡ true → c ≡ true → ⊥) → cond b (cond c (l ++ y.2 ∷ []) l ++ x.2 ∷ []) (cond c (l ++ y.2 ∷ []) l) ≡ cond c (cond b (l ++ x.2 ∷ []) l ++ y.2 ∷ []) (cond b (l ++ x.2 ∷ []) l)
    swap_at true true l not = absurd (not refl refl)
    swap_at true false l not = refl
    swap_at false true l not = refl
    swap_at false false l not = refl

    at : (q : Name) (κ : ℕ) → with_entry (Some x) (with_entry (Some y) logs) q κ ≡ with_entry (Some y) (with_entry (Some x) logs) q κ
    at q κ = swap_at (is_at x q κ) (is_at y q κ) (logs q κ) (λ h k. let p = at_ties x q κ h in let r = at_ties y q κ k in apart (sym p.0 ∙ r.0) (sym p.1 ∙ r.1))

-- Turns

kept_apart : (x : Entry) (p : Option Entry) (logs : ClassLogs) → EntriesApart (Some x) p → with_entry p logs x.0 x.1 ≡ logs x.0 x.1
kept_apart x None logs apart = refl
kept_apart x (Some y) logs apart = by_test (is_at y x.0 x.1) refl
  where
    by_test : (b : Bool) → is_at y x.0 x.1 ≡ b → cond b (logs x.0 x.1 ++ y.2 ∷ []) (logs x.0 x.1) ≡ logs x.0 x.1
    by_test true h = let p = at_ties y x.0 x.1 h in absurd (apart p.0 p.1)
    by_test false h = refl

pub turn_kept : (lists logs : ClassLogs) (o p : Option Entry) → EntriesApart o p → IsTurn lists logs o → IsTurn lists (with_entry p logs) o
turn_kept lists logs None p apart h = tt
turn_kept lists logs (Some x) p apart h = subst (λ l. reception_at (lists x.0 x.1) (length l) ≡ Some x.2) (sym (kept_apart x p logs apart)) h

-- an entry is next in any lists that begin with the logs that have it
pub turn_in : (lists logs : ClassLogs) (o : Option Entry) → IsInside (with_entry o logs) lists → IsTurn lists logs o
turn_in lists logs None inside = tt
turn_in lists logs (Some x) inside =
    let p = inside x.0 x.1 in
    let q : logs x.0 x.1 ++ x.2 ∷ p.0 ≡ lists x.0 x.1 = sym (append_assoc (logs x.0 x.1) (x.2 ∷ []) p.0) ∙ ap (λ l. l ++ p.0) (sym (entry_here x logs)) ∙ p.1 in
    ap (λ l. reception_at l (length (logs x.0 x.1))) (sym q) ∙ reception_next (logs x.0 x.1) x.2 p.0

prefix_next : (xs zs : List ReceptionShape) (n : ReceptionShape) → reception_at (xs ++ zs) (length xs) ≡ Some n → IsPrefix (xs ++ n ∷ []) (xs ++ zs)
prefix_next [] [] n h = no_some h
prefix_next [] (z ∷ zs) n h = (zs, ap (λ k. k ∷ zs) (sym (some_is h)))
prefix_next (x ∷ xs) zs n h = let p = prefix_next xs zs n h in (p.0, ap (λ l. x ∷ l) p.1)

-- and what enters in its turn leaves the logs beginnings of the lists
pub inside_entry : (lists logs : ClassLogs) (o : Option Entry) → IsTurn lists logs o → IsInside logs lists → IsInside (with_entry o logs) lists
inside_entry lists logs None turn inside q κ = inside q κ
inside_entry lists logs (Some x) turn inside q κ = by_test (is_at x q κ) refl
  where
    here : IsPrefix (logs x.0 x.1 ++ x.2 ∷ []) (lists x.0 x.1)
    here =
        let p = inside x.0 x.1 in
        let r = prefix_next (logs x.0 x.1) p.0 x.2 (ap (λ l. reception_at l (length (logs x.0 x.1))) p.1 ∙ turn) in
        (r.0, r.1 ∙ p.1)

    by_test : (b : Bool) → is_at x q κ ≡ b → IsPrefix (cond b (logs q κ ++ x.2 ∷ []) (logs q κ)) (lists q κ)
    by_test false h = inside q κ
    by_test true h =
        let p = at_ties x q κ h in
        subst (λ k. IsPrefix (logs k κ ++ x.2 ∷ []) (lists k κ)) (sym p.0) (subst (λ μ. IsPrefix (logs x.0 μ ++ x.2 ∷ []) (lists x.0 μ)) (sym p.1) here)

-- Whose an entry is

-- that of the sender, or of the activity itself
abbrev pub EnteredBy : Name → Entry → Type 0
EnteredBy n x = (x.2 ≡ From n) ⊎ ((x.0 ≡ n) × (x.2 ≡ Poll))

pub entered_by : (K : Text → ℕ) (ls : List Text) (n : Name) (o : Option (Name × RequestShape)) (l : Option (Name × ReceptionShape)) (x : Entry) → IsLogged n o l → entered K ls o l ≡ Some x → EnteredBy n x
entered_by K ls n None l x (inl p) h = no_some (subst (λ k. entered K ls None k ≡ Some x) p h)
entered_by K ls n None l x (inr p) h = let q = some_is (subst (λ k. entered K ls None k ≡ Some x) p h) in inr (sym (ap (λ y. y.0) q), sym (ap (λ y. y.2) q))
entered_by K ls n (Some z) l x p h = let q = some_is (subst (λ k. entered K ls (Some z) k ≡ Some x) p h) in inl (sym (ap (λ y. y.2) q))

abbrev sender_or : Name → ReceptionShape → Name
sender_or n (From m) = m
sender_or n Poll = n

abbrev pub is_poll : ReceptionShape → Bool
is_poll (From m) = false
is_poll Poll = true

-- so one entry in one log is of one activity
one_owner : (n m : Name) (x y : Entry) → x.0 ≡ y.0 → x.2 ≡ y.2 → EnteredBy n x → EnteredBy m y → n ≡ m
one_owner n m x y at same (inl p) (inl q) = ap (sender_or n) (sym p ∙ same ∙ q)
one_owner n m x y at same (inl p) (inr q) = none_true (ap is_poll (sym p ∙ same ∙ q.1))
one_owner n m x y at same (inr p) (inl q) = none_true (ap is_poll (sym q ∙ sym same ∙ p.1))
one_owner n m x y at same (inr p) (inr q) = sym p.0 ∙ at ∙ q.0

-- who are next at once, enter in different logs
pub turns_apart : (lists logs : ClassLogs) (n m : Name) (o p : Option Entry) → n ≢ m → ((x : Entry) → o ≡ Some x → EnteredBy n x) → ((y : Entry) → p ≡ Some y → EnteredBy m y) → IsTurn lists logs o → IsTurn lists logs p → EntriesApart o p
turns_apart lists logs n m None p apart f g a b = tt
turns_apart lists logs n m (Some x) None apart f g a b = tt
turns_apart lists logs n m (Some x) (Some y) apart f g a b = λ to class.
    let at : Name → ℕ → Option ReceptionShape = λ q κ. reception_at (lists q κ) (length (logs q κ)) in
    apart (one_owner n m x y to (some_is (sym a ∙ ap (λ q. at q x.1) to ∙ ap (at y.0) class ∙ b)) (f x refl) (g y refl))

-- Sendings and polls

-- two sendings are to different activities, or of different classes
abbrev pub ClassApart : (Text → ℕ) → Option (Name × RequestShape) → Option (Name × RequestShape) → Type 0
ClassApart K None p = Unit {0}
ClassApart K (Some x) None = Unit {0}
ClassApart K (Some x) (Some y) = x.0 ≡ y.0 → K x.1.label ≡ K y.1.label → ⊥

pub class_apart : (K : Text → ℕ) (ls ks : List Text) (n m : Name) (o p : Option (Name × RequestShape)) (l k : Option (Name × ReceptionShape)) → IsLogged n o l → IsLogged m p k → EntriesApart (entered K ls o l) (entered K ks p k) → ClassApart K o p
class_apart K ls ks n m None p l k f g apart = tt
class_apart K ls ks n m (Some x) None l k f g apart = tt
class_apart K ls ks n m (Some x) (Some y) l k f g apart =
    subst (λ z. EntriesApart (entered K ls (Some x) z) (Some (y.0, K y.1.label, From m))) f (subst (λ z. EntriesApart (entered K ls (Some x) l) (entered K ks (Some y) z)) g apart)

-- a poll is no sending
pub poll_not_sent : (n q : Name) (l : Option (Name × ReceptionShape)) → l ≡ Some (n, Poll) → l ≡ Some (q, From n) → ⊥
poll_not_sent n q l p r = none_true (sym (ap (λ y. is_poll y.1) (some_is (sym p ∙ r))))

-- a poll is of another class than a request that comes there
pub poll_apart : (K : Text → ℕ) (ls ks : List Text) (n m : Name) (o : Option (Name × RequestShape)) (z : Name × RequestShape) (l k : Option (Name × ReceptionShape)) → l ≡ Some (n, Poll) → IsLogged n o l → IsLogged m (Some z) k → EntriesApart (entered K ls o l) (entered K ks (Some z) k) → n ≡ z.0 → class_of K ls ≡ K z.1.label → ⊥
poll_apart K ls ks n m None z l k poll f g apart =
    subst (λ y. EntriesApart (entered K ls None y) (Some (z.0, K z.1.label, From m))) poll (subst (λ y. EntriesApart (entered K ls None l) (entered K ks (Some z) y)) g apart)
poll_apart K ls ks n m (Some w) z l k poll f g apart = absurd (poll_not_sent n w.0 l poll f)
