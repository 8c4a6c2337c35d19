use Rattle.std.proofs.Common.{◌≡◌, List, map, sym, ap, ◌∙◌}
use Rattle.std.specs.Option.{option_map}
use Rattle.asp_model.specs.Names.{Text}
use Rattle.asp_model.specs.Intent.{Numbered, labels_served}
use Rattle.asp_model.specs.Store.{cell}
use Rattle.request_queue.specs.Pending.{oldest, waiting}
use Rattle.serve_rules.specs.Labels.{label_text}
use Rattle.step_activity.specs.declared.actor.Actor.{Actor}
use Rattle.step_activity.proofs.MatchLemmas.{match_told, no_match}
use Rattle.step_activity.proofs.actor.Actor.match_of.Goals as goal

pub returns-then-len-eq0 : goal.returns-then-len-eq0
returns-then-len-eq0 c = record {
  oldest = λ a rs h.
      let x : Actor = c.args.self.now in
      let wanted = labels_served (map label_text c.args.labels.now) (cell a.store a.active) in
      no_match x.queue.pending wanted a.served rs (sym c.len.ensures.len ∙ c.if-len-eq0.true) h.queue.pending;
}

pub returns : goal.returns
returns c = record {
  oldest = λ a rs h.
      let x : Actor = c.args.self.now in
      let wanted : List Text = labels_served (map label_text c.args.labels.now) (cell a.store a.active) in
      let told : c.first_of.result ≡ option_map (λ (y : Numbered). y.0) (oldest wanted (waiting x.queue)) = c.first_of.ensures.oldest ∙ ap (λ (ls : List Text). option_map (λ (y : Numbered). y.0) (oldest ls (waiting x.queue))) (c.served_by.ensures.labels a rs h) in
      match_told x.queue.pending wanted a.served rs c.first_of.result h.queue.pending told;
}
