-- What services tell, entry by entry.
use Rattle.std.specs.Prelude.{◌≡◌, ◌&&◌, ◌==◌, ◌||◌, ◌<◌, ◌+◌, T, cond, ℕ, zero, suc, Bool, true, false, List, [], ◌∷◌, ◌++◌, Some, None, length, map, take}
use Rattle.std.proofs.Common.{refl, sym, ap, subst, ◌∙◌, arith, inl, inr, ⊎_elim, slice_index_or, append_assoc}
use Rattle.std.proofs.lemmas.List.{append-nil, map-append}
use Rattle.std.proofs.lemmas.Slice.Eq.{bytes_eq-Decides}
use Rattle.std.specs.FinMap.{find, is_sorted}
use Rattle.std.specs.FinMap.Entries.{below_all}
use Rattle.std.specs.List.{Contains}
use Rattle.std.specs.Ordering.{is_lt, is_eq}
use Rattle.std.specs.declared.cmp.Ordering.{Ordering}
use Rattle.std.specs.declared.cmp.Ordering.TheVariants.{Less, Equal, Greater}
use Rattle.asp_model.specs.declared.services.Arrival.{Arrival}
use Rattle.asp_model.specs.declared.services.ServiceEntry.{ServiceEntry}
use Rattle.asp_model.specs.Shapes.{arrival_shape, service_entry_shape}
use Rattle.asp_model.specs.Names.{Name, Text, name_cmp, same_name, same_text}
use Rattle.asp_model.specs.Term.{has_text}
use Rattle.asp_model.specs.Configuration.{From, ReceptionShape}
use Rattle.asp_model.specs.Services.{ArrivalShape, ServiceEntryShape, ServicesShape}
use Rattle.law_chases.proofs.FutureLemmas.{none_true}
use Rattle.law_steps.proofs.NameLemmas.{names_tied}
use Rattle.law_classes.specs.Alike.{AreOneClass, class_of}
use Rattle.law_classes.specs.Requests.{arrived_in, arrival_logs}
use Rattle.law_services.specs.Told.{NamesAscend, by_name, entry_at, entry_or_none, no_services}
use Rattle.end_search.specs.Found.{AreAll}
use Rattle.end_search.proofs.GrownLemmas.{all_at}
use Rattle.class_search.specs.declared.ends.Sending.{Sending}
use Rattle.replay_classes.specs.Sendings.{entry_logs, is_to, logs_from}
use Rattle.replay_classes.proofs.RequestLemmas.{same_eq}
use Rattle.replay_classes.proofs.SendingLemmas.{sent_last, take_last}

-- what holds of all entries, and where there is none, holds of the entry of a name
pub entry_so : (P : ServiceEntryShape → Type 0) → ((n : Name) → P (no_services n)) → (es : ServicesShape) → AreAll P es → (n : Name) → P (entry_at es n)
entry_so P none [] h n = none n
entry_so P none (e ∷ es) h n = by_test (same_name n e.name) (entry_so P none es h.1 n)
  where
    by_test : (b : Bool) → P (entry_or_none n (find name_cmp n (by_name es))) → P (entry_or_none n (cond b (Some e) (find name_cmp n (by_name es))))
    by_test true later = h.0
    by_test false later = later

-- Labels of one class

text_same : (x y : Text) → same_text x y ≡ true → x ≡ y
text_same x y h = (bytes_eq-Decides x y).0 h

pub one_class_of : (K : Text → ℕ) (κ : ℕ) (ls : List Text) → AreAll (λ l. K l ≡ κ) ls → (l : Text) → has_text l ls ≡ true → K l ≡ κ
one_class_of K κ [] h l e = none_true e
one_class_of K κ (x ∷ xs) h l e = by_test (same_text l x) refl e (one_class_of K κ xs h.1 l)
  where
    by_test : (b : Bool) → same_text l x ≡ b → (b || has_text l xs) ≡ true → (has_text l xs ≡ true → K l ≡ κ) → K l ≡ κ
    by_test true same e later = ap K (text_same l x same) ∙ h.0
    by_test false same e later = later e

pub one_class_by : (K : Text → ℕ) (κ : ℕ) (ls : List Text) → AreAll (λ l. K l ≡ κ) ls → AreOneClass K ls
one_class_by K κ [] h l e = none_true e
one_class_by K κ (x ∷ xs) h l e = one_class_of K κ (x ∷ xs) h l e ∙ sym h.0

-- each set of an activity is of one class
abbrev pub AskInClasses : (Text → ℕ) → ServiceEntryShape → Type 0
AskInClasses K e = (ls : List Text) → Contains e.sets ls → AreOneClass K ls

-- What came to one activity

abbrev came_one : (Text → ℕ) → ℕ → ArrivalShape → List ReceptionShape → List ReceptionShape
came_one K κ x ys = elim (K x.label == κ) [ true ↦ From x.sender ∷ ys | false ↦ ys ]

came : (K : Text → ℕ) (κ : ℕ) (x : ArrivalShape) (xs : List ArrivalShape) → map (λ (y : ArrivalShape). From y.sender) (arrived_in K κ (x ∷ xs)) ≡ came_one K κ x (map (λ (y : ArrivalShape). From y.sender) (arrived_in K κ xs))
came K κ x xs = by_test (K x.label == κ)
  where
    by_test : (b : Bool) → map (λ (y : ArrivalShape). From y.sender) (elim b [ true ↦ x ∷ arrived_in K κ xs | false ↦ arrived_in K κ xs ]) ≡ elim b [ true ↦ From x.sender ∷ map (λ (y : ArrivalShape). From y.sender) (arrived_in K κ xs) | false ↦ map (λ (y : ArrivalShape). From y.sender) (arrived_in K κ xs) ]
    by_test true = refl
    by_test false = refl

abbrev pub came_all : (Text → ℕ) → ℕ → List ArrivalShape → List ReceptionShape
came_all K κ xs = map (λ x. From x.sender) (arrived_in K κ xs)

pub came_last : (K : Text → ℕ) (κ : ℕ) (xs : List ArrivalShape) (x : ArrivalShape) → came_all K κ (xs ++ x ∷ []) ≡ came_all K κ xs ++ came_one K κ x []
came_last K κ [] x = came K κ x []
came_last K κ (y ∷ ys) x = came K κ y (ys ++ x ∷ []) ∙ ap (came_one K κ y) (came_last K κ ys x) ∙ by_test (K y.label == κ) (came_all K κ ys) (came_one K κ x []) ∙ ap (λ zs. zs ++ came_one K κ x []) (sym (came K κ y ys))
  where
    by_test : (b : Bool) (one two : List ReceptionShape) → elim b [ true ↦ From y.sender ∷ (one ++ two) | false ↦ one ++ two ] ≡ elim b [ true ↦ From y.sender ∷ one | false ↦ one ] ++ two
    by_test true one two = refl
    by_test false one two = refl

-- one more of them is one more sending
pub came_more : (K : Text → ℕ) (n : Name) (xs : List ArrivalShape) (x : ArrivalShape) (old : List ReceptionShape) (ss : List Sending) (s : Sending) (q : Name) (κ : ℕ)
    → logs_from ss q κ ≡ old ++ cond (same_name q n) (came_all K κ xs) [] → s.by ≡ x.sender → s.to ≡ n → s.class ≡ K x.label
    → logs_from (ss ++ s ∷ []) q κ ≡ old ++ cond (same_name q n) (came_all K κ (xs ++ x ∷ [])) []
came_more K n xs x old ss s q κ h by to class =
    sent_last ss s q κ
    ∙ ap (λ (l : List ReceptionShape). cond (is_to s q κ) (l ++ From s.by ∷ []) l) h
    ∙ ap (λ b. cond b ((old ++ cond (same_name q n) (came_all K κ xs) []) ++ From s.by ∷ []) (old ++ cond (same_name q n) (came_all K κ xs) [])) (ap (λ m. same_name q m && (κ == s.class)) to ∙ ap (λ μ. same_name q n && (κ == μ)) class)
    ∙ ap (λ m. cond (same_name q n && (κ == K x.label)) ((old ++ cond (same_name q n) (came_all K κ xs) []) ++ From m ∷ []) (old ++ cond (same_name q n) (came_all K κ xs) [])) by
    ∙ by_name (same_name q n)
  where
    by_class : (b : Bool) → (κ == K x.label) ≡ b → cond b ((old ++ came_all K κ xs) ++ From x.sender ∷ []) (old ++ came_all K κ xs) ≡ old ++ came_all K κ (xs ++ x ∷ [])
    by_class true e = append_assoc old (came_all K κ xs) (From x.sender ∷ []) ∙ ap (λ l. old ++ (came_all K κ xs ++ l)) (ap (λ b. elim b [ true ↦ From x.sender ∷ [] | false ↦ [] ]) (sym (same_eq (K x.label) κ ∙ e))) ∙ ap (λ l. old ++ l) (sym (came_last K κ xs x))
    by_class false e = ap (λ l. old ++ l) (sym (append-nil (came_all K κ xs)) ∙ ap (λ l. came_all K κ xs ++ l) (ap (λ b. elim b [ true ↦ From x.sender ∷ [] | false ↦ [] ]) (sym (same_eq (K x.label) κ ∙ e))) ∙ sym (came_last K κ xs x))

    by_name : (b : Bool) → cond (b && (κ == K x.label)) ((old ++ cond b (came_all K κ xs) []) ++ From x.sender ∷ []) (old ++ cond b (came_all K κ xs) []) ≡ old ++ cond b (came_all K κ (xs ++ x ∷ [])) []
    by_name true = by_class (κ == K x.label) refl
    by_name false = refl

-- What came to all

abbrev pub all_came : (Text → ℕ) → ServicesShape → Name → ℕ → List ReceptionShape
all_came K [] q κ = []
all_came K (e ∷ es) q κ = entry_logs K e q κ ++ all_came K es q κ

pub all_last : (K : Text → ℕ) (es : ServicesShape) (e : ServiceEntryShape) (q : Name) (κ : ℕ) → all_came K (es ++ e ∷ []) q κ ≡ all_came K es q κ ++ entry_logs K e q κ
all_last K [] e q κ = append-nil (entry_logs K e q κ)
all_last K (x ∷ es) e q κ = ap (λ l. entry_logs K x q κ ++ l) (all_last K es e q κ) ∙ sym (append_assoc (entry_logs K x q κ) (all_came K es q κ) (entry_logs K e q κ))

less_other : (o : Ordering) → T (is_lt o) → is_eq o ≡ false
less_other Less h = refl
less_other Equal h = absurd h
less_other Greater h = absurd h

and_first : (a b : Bool) → T (a && b) → T a × T b
and_first true b h = (tt, h)
and_first false b h = absurd h

-- nothing comes to a name below all of them
none_below : (K : Text → ℕ) (es : ServicesShape) (q : Name) (κ : ℕ) → T (below_all name_cmp q (by_name es)) → all_came K es q κ ≡ []
none_below K [] q κ h = refl
none_below K (e ∷ es) q κ h =
    let p = and_first (is_lt (name_cmp q e.name)) (below_all name_cmp q (by_name es)) h in
    let other : same_name q e.name ≡ false = less_other (name_cmp q e.name) p.0 in
    ap (λ b. cond b (came_all K κ e.arrivals) [] ++ all_came K es q κ) other ∙ none_below K es q κ p.1

-- where names ascend, what comes to one stands in one entry
pub all_is : (K : Text → ℕ) (es : ServicesShape) (q : Name) (κ : ℕ) → NamesAscend es → all_came K es q κ ≡ arrival_logs K es q κ
all_is K [] q κ h = refl
all_is K (e ∷ es) q κ h =
    let p = and_first (below_all name_cmp e.name (by_name es)) (is_sorted name_cmp (by_name es)) h in
    by_test (same_name q e.name) refl p.0 (all_is K es q κ p.1)
  where
    by_test : (b : Bool) → same_name q e.name ≡ b → T (below_all name_cmp e.name (by_name es)) → all_came K es q κ ≡ arrival_logs K es q κ → cond b (came_all K κ e.arrivals) [] ++ all_came K es q κ ≡ map (λ (x : ArrivalShape). From x.sender) (arrived_in K κ (entry_or_none q (cond b (Some e) (find name_cmp q (by_name es)))).arrivals)
    by_test true same below later = ap (λ l. came_all K κ e.arrivals ++ l) (none_below K es q κ (subst (λ m. T (below_all name_cmp m (by_name es))) (sym (names_tied q e.name same)) below)) ∙ append-nil _
    by_test false same below later = later

-- what holds of all holds of each that is contained
pub all_contained : {A : Type 0} (P : A → Type 0) (xs : List A) (x : A) → AreAll P xs → Contains xs x → P x
all_contained P xs x all h = all_at P xs h.0 x x all h.1 (sym h.2)

pub none_asks : (K : Text → ℕ) (n : Name) → AskInClasses K (no_services n)
none_asks K n ls h = absurd (omega (arith, h.1))

-- one entry more
pub all_more_came : (K : Text → ℕ) (es : List ServiceEntry) (k : ℕ) (e : ServiceEntry) (ss new : List ReceptionShape) (q : Name) (κ : ℕ) → k < length es → e ≡ slice_index_or es k e
    → new ≡ ss ++ entry_logs K (service_entry_shape e) q κ → ss ≡ all_came K (map service_entry_shape (take k es)) q κ → new ≡ all_came K (map service_entry_shape (take (k + 1) es)) q κ
all_more_came K es k e ss new q κ lt is more before =
    more ∙ ap (λ l. l ++ entry_logs K (service_entry_shape e) q κ) before ∙ sym (all_last K (map service_entry_shape (take k es)) (service_entry_shape e) q κ)
    ∙ ap (λ xs. all_came K xs q κ) (sym (ap (map service_entry_shape) (take_last es k e lt is) ∙ map-append service_entry_shape (take k es) (e ∷ [])))

-- one arrival more
pub one_more_came : (K : Text → ℕ) (n : Name) (xs : List Arrival) (k : ℕ) (x : Arrival) (old : List ReceptionShape) (ss new : List Sending) (s : Sending) (q : Name) (κ : ℕ)
    → k < length xs → x ≡ slice_index_or xs k x → new ≡ ss ++ s ∷ [] → s.by ≡ x.sender → s.to ≡ n → s.class ≡ K x.label.text
    → logs_from ss q κ ≡ old ++ cond (same_name q n) (came_all K κ (map arrival_shape (take k xs))) []
    → logs_from new q κ ≡ old ++ cond (same_name q n) (came_all K κ (map arrival_shape (take (k + 1) xs))) []
one_more_came K n xs k x old ss new s q κ lt is more by to class before =
    ap (λ ts. logs_from ts q κ) more ∙ came_more K n (map arrival_shape (take k xs)) (arrival_shape x) old ss s q κ before by to class
    ∙ ap (λ ys. old ++ cond (same_name q n) (came_all K κ ys) []) (sym (ap (map arrival_shape) (take_last xs k x lt is) ∙ map-append arrival_shape (take k xs) (x ∷ [])))
