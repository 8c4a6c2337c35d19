use Rattle.std.proofs.Common.{◌∙◌, ap, List}
use Rattle.std.specs.Option.{option_map}
use Rattle.asp_model.specs.Names.{Text}
use Rattle.serve_rules.specs.Wanted.{wanted_labels}
use Rattle.request_queue.specs.Pending.{QueueView, oldest, waiting}
use Rattle.request_queue.proofs.QueueLemmas.{oldest_is}
use Rattle.request_queue.proofs.crowd.Crowd.first_of.Goals as goal

pub returns : goal.returns
returns c =
    let ls : List Text = wanted_labels c.args.wanted in
    record {
      oldest = oldest_is ls c.self.inside.notes c.self.inside.requests.pending c.oldest.result c.self.invariant.ordered c.self.invariant.noted c.oldest.ensures.oldest
          ∙ ap (λ (q : QueueView). option_map (λ x. x.0) (oldest ls (waiting q))) c.self.view_is;
    }
