-- Requests and the logs by classes after a step, and who asks in one class.
use Rattle.std.specs.Prelude.{◌≡◌, ◌==◌, ◌&&◌, ℕ, cond, true, false, Bool, List, [], ◌∷◌, ◌++◌, Option, Some, None, map}
use Rattle.std.proofs.Common.{refl, sym, ap, subst, ◌∙◌, inl, inr, ⊎_elim}
use Rattle.std.proofs.lemmas.Bool.{eq-eqb, eqb-true}
use Rattle.std.proofs.lemmas.List.{append-nil, map-append}
use Rattle.asp_model.specs.Names.{Name, Text, same_name}
use Rattle.asp_model.specs.Term.{Head, Serve, Pending}
use Rattle.asp_model.specs.Split.{Split, Stands, Splits}
use Rattle.asp_model.specs.Store.{CellShape}
use Rattle.asp_model.specs.Configuration.{RequestShape, ReceptionShape, From, Poll, Configuration, requests_of}
use Rattle.asp_model.specs.Intent.{Effect, Acts, labels_served}
use Rattle.asp_model.specs.Step.{intent_in, with_effect}
use Rattle.law_steps.specs.Steps.{IsPoll}
use Rattle.law_chases.proofs.FutureLemmas.{none_true}
use Rattle.law_steps.proofs.NameLemmas.{name_case, name_itself, names_apart}
use Rattle.law_steps.proofs.FactLemmas.{Face, face_of, Facts, IsSent, IsLogged, acts_facts}
use Rattle.law_services.specs.Services.{set_of_head, set_by}
use Rattle.law_services.proofs.BareLemmas.{is_pending, pending_by}
use Rattle.law_classes.specs.Alike.{in_class, labels_of_asker, labels_in, asked_at, AreOneClass}
use Rattle.law_classes.specs.Runs.{entered, entry_of, with_entry}
use Rattle.law_classes.specs.Requests.{request_logs}
use Rattle.law_classes.proofs.BoxLemmas.{class_more}
use Rattle.law_classes.proofs.AlikeLemmas.{sent_to, target_box, other_box}

pub same_eq : (a b : ℕ) → (a == b) ≡ (b == a)
same_eq a b = elim (a == b) as (λ x. (a == b) ≡ x → x ≡ (b == a)) [
  | true ↦ λ h. sym (eq-eqb b a (sym (eqb-true a b h)))
  | false ↦ λ h. elim (b == a) as (λ y. (b == a) ≡ y → false ≡ y) [
    | true ↦ λ k. none_true (sym h ∙ eq-eqb a b (sym (eqb-true b a k)))
    | false ↦ λ k. refl
  ] refl
] refl

abbrev IsSender : Name → Option (Name × RequestShape) → Type 0
IsSender n None = Unit {0}
IsSender n (Some z) = z.1.sender ≡ n

sender_is : (requests : List RequestShape) (n : Name) (x : Face) (e : Effect) → Facts requests n x e → (o : Option (Name × RequestShape)) → e.sent ≡ o → IsSender n o
sender_is requests n x e f None is = tt
sender_is requests n x e f (Some z) is = (subst (IsSent n x (face_of e.own)) is f.sent).2

-- the log of a class with one request more
one_more : (K : Text → ℕ) (κ : ℕ) (rs : List RequestShape) (r : RequestShape) (b : Bool) → (κ == K r.label) ≡ b → map (λ q. From q.sender) (in_class K κ (rs ++ r ∷ [])) ≡ cond b (map (λ q. From q.sender) (in_class K κ rs) ++ From r.sender ∷ []) (map (λ q. From q.sender) (in_class K κ rs))
one_more K κ rs r b h =
    let logs = map (λ (q : RequestShape). From q.sender) (in_class K κ rs) in
    ap (map (λ (q : RequestShape). From q.sender)) (class_more K κ rs r) ∙ map-append (λ (q : RequestShape). From q.sender) (in_class K κ rs) (in_class K κ (r ∷ []))
    ∙ ap (λ (t : Bool). logs ++ map (λ (q : RequestShape). From q.sender) (elim t [ true ↦ r ∷ [] | false ↦ [] ])) (same_eq (K r.label) κ ∙ h)
    ∙ by_test b logs
  where
    by_test : (t : Bool) (logs : List ReceptionShape) → logs ++ map (λ (q : RequestShape). From q.sender) (elim t [ true ↦ r ∷ [] | false ↦ [] ]) ≡ cond t (logs ++ From r.sender ∷ []) logs
    by_test true logs = refl
    by_test false logs = append-nil logs

logs_by : (K : Text → ℕ) (ls : List Text) (c : Configuration) (n : Name) (o : Option (Name × RequestShape)) (l : Option (Name × ReceptionShape)) → IsSender n o → IsLogged n o l → (l ≡ Some (n, Poll) → ⊥) → with_entry (entered K ls o l) (request_logs K c) ≡ (λ q κ. map (λ r. From r.sender) (in_class K κ (sent_to o c q)))
logs_by K ls c n None l is (inl none) calm = ap (λ k. with_entry (entered K ls None k) (request_logs K c)) none
logs_by K ls c n None l is (inr poll) calm = absurd (calm poll)
logs_by K ls c n (Some z) l is logged calm =
    let p : with_entry (Some (z.0, K z.1.label, From n)) (request_logs K c) ≡ (λ q κ. map (λ r. From r.sender) (in_class K κ (sent_to (Some z) c q))) = λ i q κ. at q κ i in
    ap (λ k. with_entry (entered K ls (Some z) k) (request_logs K c)) logged ∙ p
  where
    here : (κ : ℕ) → cond (same_name z.0 z.0 && (κ == K z.1.label)) (request_logs K c z.0 κ ++ From n ∷ []) (request_logs K c z.0 κ) ≡ map (λ r. From r.sender) (in_class K κ (sent_to (Some z) c z.0))
    here κ =
        let logs = request_logs K c z.0 κ in
        ap (λ b. cond (b && (κ == K z.1.label)) (logs ++ From n ∷ []) logs) (name_itself z.0)
        ∙ ap (λ m. cond (κ == K z.1.label) (logs ++ From m ∷ []) logs) (sym is)
        ∙ sym (one_more K κ (requests_of c z.0) z.1 (κ == K z.1.label) refl)
        ∙ ap (λ rs. map (λ (r : RequestShape). From r.sender) (in_class K κ rs)) (sym (target_box z c))

    at : (q : Name) (κ : ℕ) → with_entry (Some (z.0, K z.1.label, From n)) (request_logs K c) q κ ≡ map (λ r. From r.sender) (in_class K κ (sent_to (Some z) c q))
    at q κ = ⊎_elim
        (λ p. subst (λ k. with_entry (Some (z.0, K z.1.label, From n)) (request_logs K c) k κ ≡ map (λ r. From r.sender) (in_class K κ (sent_to (Some z) c k))) (sym p) (here κ))
        (λ apart.
        ap (λ b. cond (b && (κ == K z.1.label)) (request_logs K c q κ ++ From n ∷ []) (request_logs K c q κ)) (names_apart q z.0 apart)
        ∙ ap (λ rs. map (λ (r : RequestShape). From r.sender) (in_class K κ rs)) (sym (other_box z c q apart)))
        (name_case q z.0)

-- what a step that is no poll enters is one request more
pub logs_after : (K : Text → ℕ) (c : Configuration) (n : Name) (e : Effect) → intent_in c n ≡ Acts e → (IsPoll n e → ⊥) → with_entry (entry_of K c n e) (request_logs K c) ≡ request_logs K (with_effect n e c)
logs_after K c n e intends calm =
    let facts = (acts_facts c n e intends).1 in
    logs_by K (asked_at c n) c n e.sent e.logged (sender_is _ n _ e facts e.sent refl) facts.logged calm

-- Who asks in one class

asks_head : (K : Text → ℕ) (c : CellShape) (h : Head) → is_pending h ≡ false → ((ls : List Text) → set_of_head h c ≡ Some ls → AreOneClass K ls) → AreOneClass K (labels_of_asker h c)
asks_head K c (Serve labels) calm one = one (labels_served labels c) refl
asks_head K c (Pending labels) calm one = none_true (sym calm)
asks_head K c h calm one = λ l e. none_true e

pub asks_set : (K : Text → ℕ) (c : CellShape) (t : Split) → pending_by t ≡ false → ((ls : List Text) → set_by t c ≡ Some ls → AreOneClass K ls) → AreOneClass K (labels_in t c)
asks_set K c (Stands place) calm one = λ l e. none_true e
asks_set K c (Splits contexts redex) calm one = asks_head K c redex.head calm one
