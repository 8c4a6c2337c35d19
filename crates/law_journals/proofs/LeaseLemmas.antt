-- Who is out stays as it was lent.
use Rattle.std.proofs.Common.{◌≡◌, ◌≢◌, ◌-◌, ◌==◌, ◌&&◌, ◌++◌, ◌∷◌, [], ℕ, zero, suc, not, Bool, true, false, List, Option, Some, None, is_none, is_some, refl, sym, ap, subst, ◌∙◌, inl, inr, arith}
use Rattle.std.proofs.lemmas.List.{append-nil, append_assoc, map-append}
use Rattle.std.specs.FinMap.{find}
use Rattle.asp_model.specs.Names.{Name, name_cmp}
use Rattle.asp_model.specs.Configuration.{Activity, Configuration, RequestShape, ReceptionShape, From, log_of, requests_of}
use Rattle.asp_model.specs.Step.{name_at, step}
use Rattle.asp_model.specs.History.{Edge, Need, EntryShape, Lent, Committed, Delivered}
use Rattle.asp_model.specs.Store.{Store}
use Rattle.def_journals.specs.Deliveries.{with_store}
use Rattle.def_journals.specs.Journals.{RunShape, all_entered, entered, first_run, grant_of, granted, is_in, out_but, reduced}
use Rattle.law_journals.proofs.JournalLemmas.{entries_keep_sound, entry_done, entry_keeps, first_entered, first_reduced}
use Rattle.law_steps.specs.Reached.{IsAt, Steps}
use Rattle.law_steps.specs.Steps.{Grown}
use Rattle.law_steps.specs.Sound.{IsSound}
use Rattle.law_steps.proofs.DeliveryLemmas.{edge_done, need_done}
use Rattle.law_steps.proofs.FrameLemmas.{others_on}
use Rattle.law_steps.proofs.LogLemmas.{logs_grow}
use Rattle.law_chases.proofs.MapLemmas.{find_other}
use Rattle.law_steps.proofs.NameLemmas.{is_there, name_total, name_same}
use Rattle.law_chases.proofs.FutureLemmas.{no_some, none_true, some_is}
use Rattle.law_steps.proofs.WholeLemmas.{moves_keep_sound, right_of}
use Rattle.law_journals.specs.Leases.{IsOutSince, LeasesStay, receptions_of, stays_out}
use Rattle.law_journals.proofs.GrowingLemmas.{all_then, entered_then}
use Rattle.law_journals.proofs.NameListLemmas.{number_stays, numbered_in, numbered_so, one_number}
use Rattle.law_journals.proofs.NumberLemmas.{AreNamed, entries_named, entry_named, first_named}

same_number : (i j : ℕ) → (i == j) ≡ true → i ≡ j
same_number i j h = grind (arith, h)

number_itself : (k : ℕ) → (k == k) ≡ true
number_itself k = grind arith

not_both : (a b : Bool) → (not a && b) ≡ true → (a ≡ false) × (b ≡ true)
not_both true b h = none_true h
not_both false b h = (refl, h)

-- Others who come back leave the grant

pub grant_but : (k j : ℕ) (xs : List (ℕ × ℕ)) → (k == j) ≡ false → grant_of k (out_but j xs) ≡ grant_of k xs
grant_but k j [] h = refl
grant_but k j (x ∷ xs) h = by (j == x.0) refl (grant_but k j xs h)
  where
    by : (b : Bool) → (j == x.0) ≡ b → grant_of k (out_but j xs) ≡ grant_of k xs → grant_of k (elim b [ true ↦ out_but j xs | false ↦ x ∷ out_but j xs ]) ≡ elim (k == x.0) [ true ↦ Some x.1 | false ↦ grant_of k xs ]
    by true e rest = rest ∙ ap (λ b. elim b [ true ↦ Some x.1 | false ↦ grant_of k xs ]) (sym (ap (λ m. k == m) (sym (same_number j x.0 e)) ∙ h))
    by false e rest = ap (λ o. elim (k == x.0) [ true ↦ Some x.1 | false ↦ o ]) rest

-- Steps of another

-- an activity is as before, and has received some requests more, which its log notes
record Stays (n : Name) (c d : Configuration) : Type 0 where
  there : find name_cmp n d.activities ≡ find name_cmp n c.activities
  more : List RequestShape
  received : requests_of d n ≡ requests_of c n ++ more
  logged : log_of d n ≡ log_of c n ++ receptions_of more

stays_itself : (n : Name) (c : Configuration) → Stays n c c
stays_itself n c = record { there = refl; more = []; received = sym (append-nil (requests_of c n)); logged = sym (append-nil (log_of c n)) }

-- a log behind another
noted_then : (was mid now : List ReceptionShape) (rs qs : List RequestShape) → mid ≡ was ++ receptions_of rs → now ≡ mid ++ receptions_of qs → now ≡ was ++ receptions_of (rs ++ qs)
noted_then was mid now rs qs x y = y ∙ ap (λ l. l ++ receptions_of qs) x ∙ append_assoc was (receptions_of rs) (receptions_of qs) ∙ ap (λ l. was ++ l) (sym (map-append (λ r. From r.sender) rs qs))

stays_then : (n : Name) (c d e : Configuration) → Stays n c d → Stays n d e → Stays n c e
stays_then n c d e x y = record {
  there = y.there ∙ x.there;
  more = x.more ++ y.more;
  received = y.received ∙ ap (λ rs. rs ++ y.more) x.received ∙ append_assoc (requests_of c n) x.more y.more;
  logged = noted_then (log_of c n) (log_of d n) (log_of e n) x.more y.more x.logged y.logged;
}

module _ (n m : Name) (apart : n ≢ m) where
  step_of_other : (c d : Configuration) (a : Activity) → IsSound c → IsAt c n a → step None c m ≡ Some d → Stays n c d
  step_of_other c d a sound is h = by (logs_grow None c d m n h)
    where
      there : find name_cmp n d.activities ≡ find name_cmp n c.activities
      there = others_on None c d m n a (right_of c sound).sound h apart is ∙ sym is

      by : Grown m n (log_of c n) (log_of d n) (requests_of c n) (requests_of d n) → Stays n c d
      by (inl x) = record { there = there; more = []; received = x.1 ∙ sym (append-nil (requests_of c n)); logged = x.0 ∙ sym (append-nil (log_of c n)) }
      by (inr (inl x)) = record { there = there; more = x.0 ∷ []; received = x.2; logged = x.1 ∙ ap (λ k. log_of c n ++ From k ∷ []) (sym x.3) }
      by (inr (inr x)) = absurd (apart x.0)

  reduced_by_other : (r : ℕ) (c d : Configuration) (a : Activity) → IsSound c → IsAt c n a → reduced r m c ≡ Some d → Stays n c d
  reduced_by_other zero c d a sound is h = subst (Stays n c) (some_is h) (stays_itself n c)
  reduced_by_other (suc r) c d a sound is h =
      let x = first_reduced r m c d h in
      let one = step_of_other c x.0 a sound is x.1 in
      stays_then n c x.0 d one (reduced_by_other r x.0 d a (moves_keep_sound (Steps None m) c x.0 sound x.1) (one.there ∙ is) x.2)

  delivered_to_other : (c d : Configuration) (a : Activity) (t : Store) → d ≡ with_store c m a t → Stays n c d
  delivered_to_other c d a t is = record {
    there = ap (λ z. find name_cmp n z.activities) is ∙ find_other name_cmp name_total name_same n m (record a { store = t }) c.activities apart;
    more = [];
    received = ap (λ z. requests_of z n) is ∙ sym (append-nil (requests_of c n));
    logged = ap (λ z. log_of z n) is ∙ sym (append-nil (log_of c n));
  }

-- One entry

out_on : (s u v : RunShape) (k : ℕ) (n : Name) → IsOutSince s u k n → Stays n u.configuration v.configuration → name_at v.names k ≡ Some n → grant_of k v.out ≡ Some (granted s) → IsOutSince s v k n
out_on s u v k n h x named out = record {
  named = named;
  there = x.there ∙ h.there;
  more = h.more ++ x.more;
  received = x.received ∙ ap (λ rs. rs ++ x.more) h.received ∙ append_assoc (requests_of s.configuration n) h.more x.more;
  logged = noted_then (log_of s.configuration n) (log_of u.configuration n) (log_of v.configuration n) h.more x.more h.logged x.logged;
  out = out;
}

first_true : (b c : Bool) → (b && c) ≡ true → c ≡ true
first_true true c h = h
first_true false c h = none_true h

-- an entry whose condition is a test
passes : (b : Bool) (o : Option RunShape) (v : RunShape) → elim b [ true ↦ o | false ↦ None ] ≡ Some v → b ≡ true
passes true o v h = refl
passes false o v h = no_some h

module _ (s u v : RunShape) (k : ℕ) (n : Name) (sound : IsSound u.configuration) (named : AreNamed u) (out : IsOutSince s u k n) where
  here : (a : Activity) × IsAt u.configuration n a
  here = is_there (find name_cmp n u.configuration.activities) (named.there n (numbered_in u.names k n out.named))

  -- who is out is not in
  not_in : is_in u n ≡ false
  not_in = ap (λ o. elim o [ None ↦ false | Some j ↦ is_none (grant_of j u.out) ]) (numbered_so u.names named.apart k n out.named) ∙ ap is_none out.out

  other_in : (to : Name) → is_in u to ≡ true → n ≢ to
  other_in to is same = none_true (sym not_in ∙ ap (is_in u) same ∙ is)

  over_other : (to : Name) (d : Configuration) → is_in u to ≡ true → (n ≢ to → Stays n u.configuration d) → v ≡ record u { configuration = d } → IsOutSince s v k n
  over_other to d is stays result = subst (λ z. IsOutSince s z k n) (sym result) (out_on s u (record u { configuration = d }) k n out (stays (other_in to is)) out.named out.out)

  entry_stays : (x : EntryShape) → stays_out k (x ∷ []) ≡ true → entered x u ≡ Some v → IsOutSince s v k n
  entry_stays (Lent j) goes h =
      let done = entry_done (Lent j) u v h in
      let later : RunShape = record u { left = u.left - granted u; out = (j, granted u) ∷ u.out } in
      subst (λ z. IsOutSince s z k n) (sym done.result) (out_on s u later k n out (stays_itself n u.configuration) out.named (by (k == j) refl done.free))
    where
      by : (b : Bool) → (k == j) ≡ b → grant_of j u.out ≡ None → elim b [ true ↦ Some (granted u) | false ↦ grant_of k u.out ] ≡ Some (granted s)
      by true e free = no_some (sym free ∙ ap (λ i. grant_of i u.out) (sym (same_number k j e)) ∙ out.out)
      by false e free = out.out
  entry_stays (Committed j r) goes h =
      let done = entry_done (Committed j r) u v h in
      let differs = (not_both (k == j) true goes).0 in
      let apart : n ≢ done.name = λ same. none_true (sym differs ∙ ap (λ i. k == i) (sym (one_number u.names named.apart k j n out.named (done.named ∙ ap Some (sym same)))) ∙ number_itself k) in
      let x = reduced_by_other n done.name apart r u.configuration done.end here.0 sound here.1 done.reduces in
      subst (λ z. IsOutSince s z k n) (some_is done.result) (out_on s u _ k n out x (number_stays u.names _ k n out.named) (grant_but k j u.out differs ∙ out.out))
  entry_stays (Delivered (Edge f from to)) goes h =
      let done = entry_done (Delivered (Edge f from to)) u v h in
      let y = edge_done u.configuration f to done.end done.delivers in
      let is : is_in u to ≡ true = first_true (is_some (find name_cmp from u.configuration.activities)) (is_in u to) (passes (is_some (find name_cmp from u.configuration.activities) && is_in u to) _ v h) in
      over_other to done.end is (λ apart. delivered_to_other n to apart u.configuration done.end y.receiver _ y.result) done.result
  entry_stays (Delivered (Need f to place)) goes h =
      let done = entry_done (Delivered (Need f to place)) u v h in
      let y = need_done u.configuration f to place done.end done.delivers in
      over_other to done.end (passes (is_in u to) _ v h) (λ apart. delivered_to_other n to apart u.configuration done.end y.receiver _ y.result) done.result

-- All entries since

first_stays : (k : ℕ) (x : EntryShape) (xs : List EntryShape) → stays_out k (x ∷ xs) ≡ true → (stays_out k (x ∷ []) ≡ true) × (stays_out k xs ≡ true)
first_stays k (Lent j) xs h = let b = not_both (k == j) (stays_out k xs) h in (ap (λ b. not b && true) b.0, b.1)
first_stays k (Committed j r) xs h = let b = not_both (k == j) (stays_out k xs) h in (ap (λ b. not b && true) b.0, b.1)
first_stays k (Delivered d) xs h = (refl, h)

entries_stay : (entries : List EntryShape) (s u t : RunShape) (k : ℕ) (n : Name) → stays_out k entries ≡ true → all_entered entries u ≡ Some t → IsSound u.configuration → AreNamed u → IsOutSince s u k n → IsOutSince s t k n
entries_stay [] s u t k n goes e sound named out = subst (λ z. IsOutSince s z k n) (some_is e) out
entries_stay (x ∷ entries) s u t k n goes e sound named out =
    let v = first_entered x entries u t e in
    let done = entry_done x u v.0 v.1 in
    let both = first_stays k x entries goes in
    entries_stay entries s v.0 t k n both.1 v.2 (entry_keeps IsSound moves_keep_sound x u v.0 done sound) (entry_named x u v.0 done sound named) (entry_stays s u v.0 k n sound named out x both.0 v.1)

pub leases_stay : LeasesStay
leases_stay h k number n s t f x named e =
    let first : RunShape = first_run h in
    let sound : IsSound s.configuration = entries_keep_sound x.before first s x.run f.sound in
    let names = entries_named x.before first s x.run f.sound (first_named h f) in
    let rest : all_entered (Lent k ∷ x.after) s ≡ Some t = sym (ap (all_then (Lent k ∷ x.after)) x.run) ∙ sym (entered_then x.before (Lent k ∷ x.after) first) ∙ sym (ap (λ xs. all_entered xs first) x.is) ∙ e in
    let u = first_entered (Lent k) x.after s t rest in
    let done = entry_done (Lent k) s u.0 u.1 in
    let lent : IsOutSince s u.0 k n = subst (λ z. IsOutSince s z k n) (sym done.result) (record {
      named = named;
      there = refl;
      more = [];
      received = sym (append-nil (requests_of s.configuration n));
      logged = sym (append-nil (log_of s.configuration n));
      out = ap (λ b. elim b [ true ↦ Some (granted s) | false ↦ grant_of k s.out ]) (number_itself k);
    }) in
    entries_stay x.after s u.0 t k n x.stays u.2 (entry_keeps IsSound moves_keep_sound (Lent k) s u.0 done sound) (entry_named (Lent k) s u.0 done sound names) lent
