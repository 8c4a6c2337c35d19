-- What one who enters something in a log intends, and what its step leaves of the logs.
use Rattle.std.specs.Prelude.{◌≡◌, ◌≢◌, List, [], ◌∷◌, ◌++◌, Option, Some, None, length}
use Rattle.std.proofs.Common.{refl, sym, ap, subst, ◌∙◌, arith, inl, inr, ⊎_elim, length-append}
use Rattle.std.specs.FinMap.{find}
use Rattle.asp_model.specs.Names.{Name, name_cmp}
use Rattle.asp_model.specs.Configuration.{RequestShape, ReceptionShape, Configuration, or_none, log_of}
use Rattle.asp_model.specs.Intent.{Effect}
use Rattle.asp_model.specs.Step.{with_last}
use Rattle.law_chases.proofs.FutureLemmas.{no_some, some_is}
use Rattle.law_steps.proofs.StepLemmas.{Takes, step_taken}
use Rattle.law_steps.proofs.FactLemmas.{IsLogged, acts_facts}
use Rattle.law_steps.proofs.ReachedLemmas.{reached_right, step_right}
use Rattle.law_steps.proofs.ListLemmas.{logged_by, senders_own}
use Rattle.law_families.specs.Complete.{IntendsToLog, OffersShow}

-- the log of an activity once this is logged
abbrev pub log_with : Option (Name × ReceptionShape) → Configuration → Name → List ReceptionShape
log_with o c m = or_none (find name_cmp m (with_last o c.logs))

longer_not : (xs : List ReceptionShape) (x : ReceptionShape) → xs ≡ xs ++ x ∷ [] → ⊥
longer_not xs x h = let p : length xs ≡ length (xs ++ x ∷ []) = ap length h in omega (arith, p, length-append xs (x ∷ []))

last_same : (xs : List ReceptionShape) (x y : ReceptionShape) → xs ++ x ∷ [] ≡ xs ++ y ∷ [] → x ≡ y
last_same [] x y h = ap (λ l. elim l [ [] ↦ x | z ∷ zs ↦ z ]) h
last_same (a ∷ xs) x y h = last_same xs x y (ap (λ l. elim l [ [] ↦ [] | z ∷ zs ↦ zs ]) h)

module _ (c : Configuration) (n : Name) (e : Effect) (can : Takes None c n e) where
  intended : (o : Option (Name × RequestShape)) (z : Name × ReceptionShape) → e.sent ≡ o → IsLogged n o (Some z) → e.logged ≡ Some z → IntendsToLog c n z.0 z.1
  intended None z is (inl h) logs = no_some (sym h)
  intended None z is (inr h) logs = subst (λ y. IntendsToLog c n y.0 y.1) (sym (some_is h)) (refl, (e, can.intends, logs ∙ h))
  intended (Some w) z is h logs = subst (λ y. IntendsToLog c n y.0 y.1) (sym (some_is h)) (refl, (e, can.intends, (w.1, is)))

  -- what is logged at this activity, and nowhere else
  entered : (q : Name) (x : ReceptionShape) (o : Option (Name × ReceptionShape)) → e.logged ≡ o → log_with o c q ≡ log_of c q ++ x ∷ [] → IntendsToLog c n q x × ((m : Name) → m ≢ q → log_with o c m ≡ log_of c m)
  entered q x None is grown = absurd (longer_not (log_of c q) x grown)
  entered q x (Some z) is grown = ⊎_elim
      (λ u. (
        subst (λ k. IntendsToLog c n k x) u.0 (subst (IntendsToLog c n z.0) (last_same (log_of c q) z.1 x (sym u.1 ∙ grown)) (intended e.sent z refl (subst (IsLogged n e.sent) is (acts_facts c n e can.intends).1.logged) is)),
        λ m apart. ⊎_elim (λ v. absurd (apart (sym v.0 ∙ u.0))) (λ v. v) (logged_by z c m),
      ))
      (λ u. absurd (longer_not (log_of c q) x (sym u ∙ grown)))
      (logged_by z c q)

pub offers_show : OffersShow
offers_show program c d n q entry reached st grown =
    let x = step_taken None c n d st in
    let r = reached_right program c reached in
    let rd = step_right None n c d st r in
    let same : (m : Name) → log_of d m ≡ log_with x.0.logged c m = λ m. ap (λ z. log_of z m) (sym x.2) in
    let y = entered c n x.0 x.1 q entry x.0.logged refl (sym (same q) ∙ grown) in (
      y.0,
      λ m apart. senders_own d rd.tidy m ∙ same m ∙ y.1 m apart ∙ sym (senders_own c r.tidy m),
      senders_own d rd.tidy q ∙ grown ∙ ap (λ l. l ++ entry ∷ []) (sym (senders_own c r.tidy q)),
    )
