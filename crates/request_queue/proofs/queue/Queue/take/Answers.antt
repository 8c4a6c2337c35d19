use Rattle.std.proofs.Common.{◌∙◌, ◌++◌, IsSome, sym, ap, subst}
use Rattle.request_queue.specs.Led.{behind}
use Rattle.request_queue.specs.Pending.{QueueView, but, request_at}
use Rattle.request_queue.proofs.FewLemmas.{taken_first, taken_next}
use Rattle.request_queue.proofs.queue.Queue.take.Goals as goal

pub take_behind-requires : goal.take_behind-requires
take_behind-requires c =
    let n = c.args.number in
    let next = taken_next n c.self.inside.few (behind c.self.inside.others) c.in-None.ensures.taken in
    record { pending = subst IsSome (ap (λ (q : QueueView). request_at n q.pending) (sym c.self.view_is) ∙ next.0) c.requires.pending }

pub returns-in-Some-clause-taken : goal.returns-in-Some-clause-taken
returns-in-Some-clause-taken c =
    let n = c.args.number in
    let first = taken_first n c.self.inside.few (behind c.self.inside.others) c.in-Some.request c.in-Some.ensures.taken in
    ap (λ (q : QueueView). request_at n q.pending) (sym c.self.view_is) ∙ first.0

pub returns-in-Some-clause-others : goal.returns-in-Some-clause-others
returns-in-Some-clause-others c =
    let n = c.args.number in
    let others = behind c.self.inside.others in
    let first = taken_first n c.self.inside.few others c.in-Some.request c.in-Some.ensures.taken in
    ap (λ es. es ++ others) c.in-Some.ensures.others ∙ sym first.1 ∙ ap (λ (q : QueueView). but n q.pending) c.self.view_is

pub returns-in-None-clause-taken : goal.returns-in-None-clause-taken
returns-in-None-clause-taken c =
    let n = c.args.number in
    let next = taken_next n c.self.inside.few (behind c.self.inside.others) c.in-None.ensures.taken in
    ap (λ (q : QueueView). request_at n q.pending) (sym c.self.view_is) ∙ next.0 ∙ c.take_behind.ensures.taken

pub returns-in-None-clause-others : goal.returns-in-None-clause-others
returns-in-None-clause-others c =
    let n = c.args.number in
    let few = c.self.inside.few in
    let next = taken_next n few (behind c.self.inside.others) c.in-None.ensures.taken in
    ap (λ es. es ++ behind c.take_behind.new.others) c.in-None.ensures.others ∙ ap (λ es. but n few ++ es) c.take_behind.ensures.others ∙ sym next.1 ∙ ap (λ (q : QueueView). but n q.pending) c.self.view_is
