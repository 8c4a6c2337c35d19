-- Who receives is there, who sends is the future's, and each request is served once.
use Rattle.std.specs.Prelude.{◌≡◌, ℕ, zero, true, List, [], ◌∷◌, Option, Some, None, is_some, slice_get}
use Rattle.std.proofs.Common.{refl, sym, ap, subst, ◌∙◌, ⊎_elim}
use Rattle.std.proofs.lemmas.Bool.{and_parts}
use Rattle.std.specs.FinMap.{find}
use Rattle.asp_model.specs.Names.{Name, name_cmp, main_name}
use Rattle.asp_model.specs.Term.{Tree}
use Rattle.asp_model.specs.Configuration.{RequestShape, ReceptionShape, From, Configuration, or_none, requests_of, log_of, start}
use Rattle.asp_model.specs.Intent.{Effect}
use Rattle.asp_model.specs.Step.{ListsShape, with_last, is_next, may_log, with_effect}
use Rattle.law_steps.specs.Reached.{IsThere}
use Rattle.law_steps.specs.Kept.{Stands, AreDistinct}
use Rattle.law_steps.proofs.NameLemmas.{not_some}
use Rattle.law_chases.proofs.FutureLemmas.{no_some, none_true, true_false}
use Rattle.law_steps.proofs.StepLemmas.{Takes}
use Rattle.law_steps.proofs.FactLemmas.{Face, face_of, IsLogged, acts_facts, Holding, as_before, serving, ending}
use Rattle.law_steps.proofs.SoundLemmas.{Took, at_name, box_sent, came, by_face}
use Rattle.law_steps.proofs.KeptLemmas.{is_sent}
use Rattle.law_steps.proofs.StartLemmas.{start_face}
use Rattle.law_steps.proofs.ExactLemmas.{here_after}

pub record Tidy (c : Configuration) : Type 0 where
  pub main : IsThere c main_name
  pub housed : (m : Name) (k : ℕ) (r : RequestShape) → Stands c m k r → IsThere c m
  pub by : (m : Name) (k : ℕ) (r : RequestShape) → Stands c m k r → r.sender ≡ r.future.by
  pub distinct : (m : Name) → AreDistinct (at_name c m).served
  pub quiet : (m : Name) → find name_cmp m c.activities ≡ None → log_of c m ≡ []

pub tidy_start : (program : Tree) → Tidy (start program)
tidy_start program = record {
  main = refl;
  housed = λ m k r st. no_some st;
  by = λ m k r st. no_some st;
  distinct = λ m. subst (λ x. AreDistinct x.served) (sym (start_face program m)) tt;
  quiet = λ m none. refl;
}

-- where something is logged somebody is there
pub logged_there : (lists : Option ListsShape) (c : Configuration) (n : Name) (e : Effect) → Takes lists c n e → (x : Name × ReceptionShape) → e.logged ≡ Some x → IsThere c x.0
logged_there lists c n e t x is = (and_parts (is_some (find name_cmp x.0 c.activities)) (is_next lists c x.0 x.1) (subst (λ o. may_log lists c o ≡ true) is t.may)).0

-- the target of a request is there
pub target_there : (lists : Option ListsShape) (c : Configuration) (n : Name) (e : Effect) → Takes lists c n e → (x : Name × RequestShape) → e.sent ≡ Some x → IsThere c x.0
target_there lists c n e t x is = logged_there lists c n e t (x.0, From n) (subst (λ o. IsLogged n o e.logged) is (acts_facts c n e t.intends).1.logged)

-- who was not there when it is not there
absent_before : (c : Configuration) (n : Name) (e : Effect) (m : Name) → find name_cmp m (with_effect n e c).activities ≡ None → find name_cmp m c.activities ≡ None
absent_before c n e m none = not_some (find name_cmp m c.activities) (λ h. true_false (is_some (find name_cmp m (with_effect n e c).activities)) (here_after c n e m h) (ap is_some none))

quiet_by : (lists : Option ListsShape) (c : Configuration) (n : Name) (e : Effect) → Takes lists c n e → (m : Name) → find name_cmp m c.activities ≡ None → log_of c m ≡ [] → (o : Option (Name × ReceptionShape)) → e.logged ≡ o → or_none (find name_cmp m (with_last o c.logs)) ≡ []
quiet_by lists c n e t m none old None is = old
quiet_by lists c n e t m none old (Some x) is = ⊎_elim
    (λ y. absurd (true_false (is_some (find name_cmp x.0 c.activities)) (logged_there lists c n e t x is) (ap (λ k. is_some (find name_cmp k c.activities)) y.0 ∙ ap is_some none)))
    (λ y. y ∙ old)
    (box_sent x c.logs m)

own_distinct : (requests : List RequestShape) (x y : Face) (o : _) → Holding requests x y o → AreDistinct x.served → AreDistinct y.served
own_distinct requests x y o (as_before none same hold) h = subst AreDistinct (sym same) h
own_distinct requests x y o (serving k r none st new same hold) h = subst AreDistinct (sym same) (new, h)
own_distinct requests x y o (ending p is same hold) h = subst AreDistinct (sym same) h

pub tidy_after : (lists : Option ListsShape) (c : Configuration) (n : Name) (e : Effect) → Took c n e → Takes lists c n e → Tidy c → Tidy (with_effect n e c)
tidy_after lists c n e t k y = record {
  main = here_after c n e main_name y.main;
  housed = λ m j r st. ⊎_elim
      (λ old. here_after c n e m (y.housed m j r old))
      (λ new. here_after c n e m (subst (IsThere c) new.to (target_there lists c n e k new.sent new.is)))
      (came c n e m j r st);
  by = λ m j r st. ⊎_elim
      (y.by m j r)
      (λ new.
      let x = is_sent c n e t new.sent new.is in
      ap (λ q. q.sender) new.request ∙ x.2 ∙ sym (ap (λ f. f.by) (ap (λ q. q.future) new.request ∙ x.0)))
      (came c n e m j r st);
  distinct = λ m. by_face (λ q u. AreDistinct u.served) c n e t (own_distinct (requests_of c n) (at_name c n) (face_of e.own) e.filled t.facts.holding (y.distinct n)) m (y.distinct m);
  quiet = λ m none. let before = absent_before c n e m none in quiet_by lists c n e k m before (y.quiet m before) e.logged refl;
}

-- who is not there received nothing
pub empty_where_absent : (c : Configuration) → Tidy c → (m : Name) → find name_cmp m c.activities ≡ None → requests_of c m ≡ []
empty_where_absent c y m none = by_first (requests_of c m) refl
  where
    by_first : (rs : List RequestShape) → requests_of c m ≡ rs → rs ≡ []
    by_first [] is = refl
    by_first (r ∷ rs) is = none_true (sym (ap is_some none) ∙ y.housed m zero r (ap (λ l. slice_get l 0) is))
