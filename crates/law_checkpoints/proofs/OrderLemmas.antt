-- Names stand in the order of creation, in each run.
use Rattle.std.specs.Prelude.{◌≡◌, ◌⊎◌, ℕ, zero, suc, true, List, [], ◌∷◌, ◌++◌, Option, Some, None, is_none, is_some, map}
use Rattle.std.proofs.Common.{refl, sym, ap, subst, ◌∙◌, inl, inr, ⊎_elim, append_assoc}
use Rattle.std.specs.FinMap.{find, put}
use Rattle.asp_model.specs.Names.{Name, name_cmp, created_name}
use Rattle.asp_model.specs.Configuration.{Activity, Configuration}
use Rattle.asp_model.specs.Intent.{Effect, Acts}
use Rattle.asp_model.specs.History.{Edge, Need, EntryShape, Lent, Committed, Delivered}
use Rattle.asp_model.specs.Step.{intent_in, name_at, put_some, with_effect}
use Rattle.def_journals.specs.Journals.{RunShape, newcomers, reduced}
use Rattle.law_chases.proofs.FutureLemmas.{none_true, no_some, some_is}
use Rattle.law_chases.proofs.MapLemmas as Maps
use Rattle.law_steps.specs.Reached.{IsThere}
use Rattle.law_steps.specs.Sound.{IsSound}
use Rattle.law_steps.proofs.EntryLemmas.{In, entry_found}
use Rattle.law_steps.proofs.FactLemmas.{IsMade, Face, face, face_of, acts_facts}
use Rattle.law_steps.proofs.NameLemmas.{name_total, name_same, name_case}
use Rattle.law_steps.proofs.StepLemmas.{step_taken}
use Rattle.law_steps.proofs.WholeLemmas.{moves_keep_sound}
use Rattle.law_journals.proofs.JournalLemmas.{Done, entry_done, entry_keeps, first_entered, first_reduced, reduced_keeps}
use Rattle.law_journals.proofs.NameListLemmas.{entry_of, number_stays, passed_in}
use Rattle.law_checkpoints.specs.Order.{AreBehind, AreInOrder, EntriesKeepOrder}

-- Lists

behind_more : (before ns ms : List Name) → AreBehind before ns → AreBehind (before ++ ns) ms → AreBehind before (ns ++ ms)
behind_more before [] ms h k = subst (λ l. AreBehind l ms) (nothing before) k
  where
    nothing : (xs : List Name) → xs ++ [] ≡ xs
    nothing [] = refl
    nothing (x ∷ xs) = ap (λ l. x ∷ l) (nothing xs)
behind_more before (n ∷ ns) ms h k = (h.0, behind_more (before ++ n ∷ []) ns ms h.1 (subst (λ l. AreBehind l ms) (sym (append_assoc before (n ∷ []) ns)) k))

order_more : (ns ms : List Name) → AreInOrder ns → AreBehind ns ms → AreInOrder (ns ++ ms)
order_more [] ms h k = absurd h
order_more (n ∷ ns) ms h k = (h.0, behind_more (n ∷ []) ns ms h.1 k)

-- those that one has created who stands before
all_behind : (n : Name) (before ms : List Name) (i : ℕ) → name_at before i ≡ Some n → ((m : Name) → In m ms → (k : ℕ) × (m ≡ created_name n (suc k))) → AreBehind before ms
all_behind n before [] i at h = tt
all_behind n before (m ∷ ms) i at h =
    let k = h m (inl refl) in
    ((n, k.0, i, at, k.1), all_behind n (before ++ m ∷ []) ms i (number_stays before (m ∷ []) i n at) (λ q j. h q (inr j)))

-- Steps of one activity

-- who is there was there before, or that one has created it
abbrev ComeBy : Configuration → Name → Configuration → Type 0
ComeBy c n d = (m : Name) → IsThere d m → IsThere c m ⊎ ((k : ℕ) × (m ≡ created_name n (suc k)))

made_by : (n : Name) (x y : Face) (o : Option (Name × Activity)) → IsMade n x y o → (z : Name × Activity) → o ≡ Some z → z.0 ≡ created_name n (suc x.creations)
made_by n x y None h z e = no_some e
made_by n x y (Some w) h z e = ap (λ u. u.0) (sym (some_is e)) ∙ h.0

-- who is there after a step
there_before : (d : Configuration) (n : Name) (e : Effect) → intent_in d n ≡ Acts e → (m : Name) → IsThere (with_effect n e d) m → IsThere d m ⊎ ((k : ℕ) × (m ≡ created_name n (suc k)))
there_before d n e intends m there = by e.made refl there
  where
    here : IsThere d n
    here = (acts_facts d n e intends).0

    own : is_some (find name_cmp m (put name_cmp n e.own d.activities)) ≡ true → IsThere d m
    own t = ⊎_elim
        (λ p. subst (IsThere d) (sym p) here)
        (λ apart. ap is_some (sym (Maps.find_other name_cmp name_total name_same m n e.own d.activities apart)) ∙ t)
        (name_case m n)

    by : (o : Option (Name × Activity)) → e.made ≡ o → is_some (find name_cmp m (put_some name_cmp o (put name_cmp n e.own d.activities))) ≡ true → IsThere d m ⊎ ((k : ℕ) × (m ≡ created_name n (suc k)))
    by None is t = inl (own t)
    by (Some z) is t = ⊎_elim
        (λ p. inr ((face (find name_cmp n d.activities)).creations, p ∙ made_by n (face (find name_cmp n d.activities)) (face_of e.own) e.made (acts_facts d n e intends).1.made z is))
        (λ apart. inl (own (ap is_some (sym (Maps.find_other name_cmp name_total name_same m z.0 z.1 (put name_cmp n e.own d.activities) apart)) ∙ t)))
        (name_case m z.0)

reduced_come : (r : ℕ) (n : Name) (c d e : Configuration) → ComeBy c n d → reduced r n d ≡ Some e → ComeBy c n e
reduced_come zero n c d e h is = subst (ComeBy c n) (some_is is) h
reduced_come (suc r) n c d e h is =
    let x = first_reduced r n d e is in
    let y = step_taken None d n x.0 x.1 in
    reduced_come r n c x.0 e (subst (ComeBy c n) y.2 (λ m t. ⊎_elim (h m) (λ k. inr k) (there_before d n y.0 y.1.intends m t))) x.2

-- those who come have one creator, who has a number
come_behind : (s : RunShape) (d : Configuration) (n : Name) (i r : ℕ) → IsSound d → name_at s.names i ≡ Some n → reduced r n s.configuration ≡ Some d → AreBehind s.names (newcomers s.configuration d)
come_behind s d n i r sound at is = all_behind n s.names (newcomers s.configuration d) i at created
  where
    not_both : (o : Option Activity) → is_none o ≡ true → is_some o ≡ true → ⊥
    not_both None p q = none_true q
    not_both (Some a) p q = none_true p

    created : (m : Name) → In m (newcomers s.configuration d) → (k : ℕ) × (m ≡ created_name n (suc k))
    created m j =
        let y = passed_in (λ q. is_none (find name_cmp q s.configuration.activities)) (map (λ x. x.0) d.activities) m j in
        let e = entry_of d.activities m y.0 in
        let there : IsThere d m = ap is_some (ap (λ q. find name_cmp q d.activities) (sym e.2) ∙ entry_found d.activities e.0 sound.ordered.activities e.1) in
        ⊎_elim
        (λ old. absurd (not_both (find name_cmp m s.configuration.activities) y.1 old))
        (λ k. k)
        (reduced_come r n s.configuration s.configuration d (λ q t. inl t) is m there)

entry_order : (x : EntryShape) (s t : RunShape) → Done x s t → IsSound s.configuration → AreInOrder s.names → AreInOrder t.names
entry_order (Lent k) s t x sound h = subst (λ z. AreInOrder z.names) (sym x.result) h
entry_order (Committed k r) s t x sound h =
    let on = reduced_keeps IsSound moves_keep_sound r x.name s.configuration x.end x.reduces sound in
    subst (λ z. AreInOrder z.names) (some_is x.result) (order_more s.names (newcomers s.configuration x.end) h (come_behind s x.end x.name k r on x.named x.reduces))
entry_order (Delivered (Edge f from to)) s t x sound h = subst (λ z. AreInOrder z.names) (sym x.result) h
entry_order (Delivered (Need f to place)) s t x sound h = subst (λ z. AreInOrder z.names) (sym x.result) h

pub entries_keep_order : EntriesKeepOrder
entries_keep_order [] s t e sound h = subst (λ z. AreInOrder z.names) (some_is e) h
entries_keep_order (x ∷ entries) s t e sound h =
    let u = first_entered x entries s t e in
    let done = entry_done x s u.0 u.1 in
    entries_keep_order entries u.0 t u.2 (entry_keeps IsSound moves_keep_sound x s u.0 done sound) (entry_order x s u.0 done sound h)
