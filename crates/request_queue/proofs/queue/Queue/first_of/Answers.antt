use Rattle.std.proofs.Common.{◌∙◌, List, sym, ap}
use Rattle.std.specs.Option.{option_map}
use Rattle.asp_model.specs.Names.{Text}
use Rattle.serve_rules.specs.Wanted.{wanted_labels}
use Rattle.request_queue.specs.Led.{behind}
use Rattle.request_queue.specs.Pending.{QueueView, oldest, waiting}
use Rattle.request_queue.proofs.FewLemmas.{led_first, led_next, number_in}
use Rattle.request_queue.proofs.queue.Queue.first_of.Goals as goal

pub returns-in-Some-default : goal.returns-in-Some-default
returns-in-Some-default c =
    let ls : List Text = wanted_labels c.args.wanted in
    record {
      oldest = led_first ls c.self.inside.few (behind c.self.inside.others) c.in-Some-default.number (sym c.in-Some-default.is-0 ∙ c.first_of.ensures.oldest)
          ∙ ap (λ (q : QueueView). option_map (λ x. x.0) (oldest ls (waiting q))) c.self.view_is;
    }

pub returns-in-None-Some : goal.returns-in-None-Some
returns-in-None-Some c =
    let ls : List Text = wanted_labels c.args.wanted in
    record {
      oldest = c.first_of-in-None-Some.ensures.oldest ∙ ap (λ (q : QueueView). number_in ls q.pending) c.deref.ensures ∙ ap (λ o. number_in ls (behind o)) (sym c.in-None-Some.is-1)
          ∙ led_next ls c.self.inside.few (behind c.self.inside.others) (sym c.in-None-Some.is-0 ∙ c.first_of.ensures.oldest)
          ∙ ap (λ (q : QueueView). option_map (λ x. x.0) (oldest ls (waiting q))) c.self.view_is;
    }
