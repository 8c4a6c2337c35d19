use Rattle.std.proofs.Common.{◌≡◌, ◌∷◌, Option, [], sym, subst}
use Rattle.std.proofs.lemmas.Result.{IfOk-weaker}
use Rattle.std.specs.Option.{option_map}
use Rattle.asp_model.specs.declared.word.Label.{Label}
use Rattle.asp_model.specs.Intent.{start_term}
use Rattle.code_table.specs.Sound.{service_number}
use Rattle.step_machine.specs.Services.{asked_view}
use Rattle.step_machine.specs.Standing.{Standing, View, view_of}
use Rattle.step_machine.specs.declared.machine.Machine.{Machine}
use Rattle.activity_step.specs.Starting.{start_view}
use Rattle.activity_step.proofs.StartLemmas.{call_stands, service_stands}
use Rattle.activity_step.proofs.starting.serving_machine.Goals as goal

pub returns-in-Some : goal.returns-in-Some
returns-in-Some c = record {
  stands = λ k sound.
      let v : View = asked_view c.in-Some.label.text (0 ∷ []) (start_view service_number) in
      let stands : Standing k v (start_term (option_map (λ (l : Label). l.text) c.args.service) 0) [] =
      subst (λ (o : Option Label). Standing k v (start_term (option_map (λ (l : Label). l.text) o) 0) []) (sym c.in-Some.is) (call_stands k service_number c.in-Some.label.text) in
      IfOk-weaker c.calling_machine.result (λ (m : Machine). view_of m ≡ v) (λ (m : Machine). Standing k (view_of m) (start_term (option_map (λ (l : Label). l.text) c.args.service) 0) [])
      (λ m e. subst (λ (w : View). Standing k w (start_term (option_map (λ (l : Label). l.text) c.args.service) 0) []) (sym e) stands) c.calling_machine.ensures.view;
}

pub returns-in-None : goal.returns-in-None
returns-in-None c = record {
  stands = λ k sound.
      let v : View = start_view service_number in
      let stands : Standing k v (start_term (option_map (λ (l : Label). l.text) c.args.service) 0) [] =
      subst (λ (o : Option Label). Standing k v (start_term (option_map (λ (l : Label). l.text) o) 0) []) (sym c.in-None.is) (service_stands k sound) in
      subst (λ (w : View). Standing k w (start_term (option_map (λ (l : Label). l.text) c.args.service) 0) []) (sym c.machine_at.ensures.view) stands;
}
