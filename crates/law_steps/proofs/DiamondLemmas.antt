-- Steps of two activities commute.
use Rattle.std.specs.Prelude.{◌≡◌, ◌≢◌, ◌∷◌, [], ◌++◌, Option, Some, None, List, length}
use Rattle.std.proofs.Common.{refl, sym, ap, subst, ◌∙◌, arith, ⊎_elim, length-append}
use Rattle.std.specs.FinMap.{find}
use Rattle.asp_model.specs.Names.{Name, name_cmp}
use Rattle.asp_model.specs.Configuration.{ReceptionShape, Configuration, or_none, log_of}
use Rattle.asp_model.specs.Intent.{Effect}
use Rattle.asp_model.specs.Step.{ListsShape, with_last, with_effect, step}
use Rattle.law_steps.specs.Commuting.{Commute, StepsCommute, GrowApart, FreeStepsCommute}
use Rattle.law_steps.proofs.NameLemmas.{name_total, name_same}
use Rattle.law_chases.proofs.MapLemmas as Maps
use Rattle.law_steps.proofs.StepLemmas.{Takes, step_taken, takes_step}
use Rattle.law_steps.proofs.SoundLemmas.{Sound}
use Rattle.law_steps.proofs.CommuteLemmas.{LogsApart, logs_apart, effects_commute}
use Rattle.law_steps.proofs.ReachedLemmas.{reached_sound}

-- from a sound configuration
pub sound_commute : (lists : Option ListsShape) (c : Configuration) (n m : Name) (e d : Effect) → Sound c → n ≢ m → Takes lists c n e → Takes lists c m d → LogsApart e.logged d.logged → Commute lists n m (with_effect n e c) (with_effect m d c)
sound_commute lists c n m e d s apart x y sends =
    let k = effects_commute lists c n m e d s apart x y sends in
    (with_effect n e (with_effect m d c), takes_step lists (with_effect n e c) m d k.second ∙ ap Some (sym k.same), takes_step lists (with_effect m d c) n e k.first)

pub listed_commute : (lists : ListsShape) (c d e : Configuration) (n m : Name) → Sound c → n ≢ m → step (Some lists) c n ≡ Some d → step (Some lists) c m ≡ Some e → Commute (Some lists) n m d e
listed_commute lists c d e n m s apart h k =
    let x = step_taken (Some lists) c n d h in
    let y = step_taken (Some lists) c m e k in
    subst (λ z. Commute (Some lists) n m z e) x.2 (subst (Commute (Some lists) n m (with_effect n x.0 c)) y.2
    (sound_commute (Some lists) c n m x.0 y.0 s apart x.1 y.1 (logs_apart lists c n m x.0 y.0 apart x.1 y.1)))

pub steps_commute : StepsCommute
steps_commute program lists c d e n m r apart h k = listed_commute lists c d e n m (reached_sound program c r) apart h k

-- where something is logged the log grows
grown : (c : Configuration) (o : Option (Name × ReceptionShape)) (x : Name × ReceptionShape) → o ≡ Some x → or_none (find name_cmp x.0 (with_last o c.logs)) ≡ log_of c x.0 ++ x.1 ∷ []
grown c o x is = ap (λ z. or_none (find name_cmp x.0 (with_last z c.logs))) is ∙ ap or_none (Maps.find_same name_cmp name_total name_same x.0 (log_of c x.0 ++ x.1 ∷ []) c.logs)

not_same : (xs : List ReceptionShape) (x : ReceptionShape) (ys : List ReceptionShape) → ys ≡ xs ++ x ∷ [] → ys ≡ xs → ⊥
not_same xs x ys p q = omega (arith, ap length (sym q ∙ p), length-append xs (x ∷ []))

apart_by : (c : Configuration) (n m : Name) (e d : Effect) (o p : Option (Name × ReceptionShape)) → e.logged ≡ o → d.logged ≡ p → GrowApart c (with_effect n e c) (with_effect m d c) → LogsApart o p
apart_by c n m e d None p a b apart = tt
apart_by c n m e d (Some x) None a b apart = tt
apart_by c n m e d (Some x) (Some y) a b apart = λ same. ⊎_elim
    (λ h. not_same (log_of c x.0) x.1 (log_of (with_effect n e c) x.0) (grown c e.logged x a) h)
    (λ h. not_same (log_of c y.0) y.1 (log_of (with_effect m d c) y.0) (grown c d.logged y b) (subst (λ q. log_of (with_effect m d c) q ≡ log_of c q) same h))
    (apart x.0)

pub free_steps_commute : FreeStepsCommute
free_steps_commute program c d e n m r apart h k grow =
    let x = step_taken None c n d h in
    let y = step_taken None c m e k in
    let logs = apart_by c n m x.0 y.0 x.0.logged y.0.logged refl refl (subst (λ z. GrowApart c z (with_effect m y.0 c)) (sym x.2) (subst (GrowApart c d) (sym y.2) grow)) in
    subst (λ z. Commute None n m z e) x.2 (subst (Commute None n m (with_effect n x.0 c)) y.2
    (sound_commute None c n m x.0 y.0 (reached_sound program c r) apart x.1 y.1 logs))
