use Rattle.std.proofs.Common.{◌≡◌, ◌<◌, ◌∙◌, List, None, Some, sym, ap, subst}
use Rattle.request_queue.specs.declared.few.Arrival.{Arrival}
use Rattle.request_queue.specs.Few.{entries, place}
use Rattle.request_queue.specs.Pending.{but, request_at}
use Rattle.request_queue.proofs.FewLemmas.{absent, stands}
use Rattle.request_queue.proofs.few.Few.take.Goals as goal

pub take_out-requires : goal.take_out-requires
take_out-requires c =
    let n = c.args.number in
    let xs : List Arrival = c.self.inside.arrivals.items in
    let at : place n xs ≡ Some c.in-Some.at = ap (place n) (sym c.deref.ensures.value) ∙ sym c.in-Some.ensures.place in
    record { there = subst (λ m. c.in-Some.at < m) (sym c.self.inside.arrivals.ok.0) (stands n xs c.in-Some.at at).0 }

pub returns-in-Some-clause-taken : goal.returns-in-Some-clause-taken
returns-in-Some-clause-taken c =
    let n = c.args.number in
    let xs : List Arrival = c.self.inside.arrivals.items in
    let at : place n xs ≡ Some c.in-Some.at = ap (place n) (sym c.deref.ensures.value) ∙ sym c.in-Some.ensures.place in
    ap (λ (x : Arrival). Some x.request) c.take_out.ensures.value ∙ sym ((stands n xs c.in-Some.at at).1 c.take_out.result) ∙ ap (request_at n) c.self.view_is

pub returns-in-Some-clause-others : goal.returns-in-Some-clause-others
returns-in-Some-clause-others c =
    let n = c.args.number in
    let xs : List Arrival = c.self.inside.arrivals.items in
    let at : place n xs ≡ Some c.in-Some.at = ap (place n) (sym c.deref.ensures.value) ∙ sym c.in-Some.ensures.place in
    ap entries c.take_out.ensures.items ∙ sym (stands n xs c.in-Some.at at).2 ∙ ap (but n) c.self.view_is

pub returns-in-None-clause-taken : goal.returns-in-None-clause-taken
returns-in-None-clause-taken c =
    let n = c.args.number in
    let xs : List Arrival = c.self.inside.arrivals.items in
    let none : place n xs ≡ None = ap (place n) (sym c.deref.ensures.value) ∙ sym c.in-None.ensures.place in
    sym (absent n xs none).0 ∙ ap (request_at n) c.self.view_is

pub returns-in-None-clause-others : goal.returns-in-None-clause-others
returns-in-None-clause-others c =
    let n = c.args.number in
    let xs : List Arrival = c.self.inside.arrivals.items in
    let none : place n xs ≡ None = ap (place n) (sym c.deref.ensures.value) ∙ sym c.in-None.ensures.place in
    sym c.self.view_is ∙ sym (absent n xs none).1 ∙ ap (but n) c.self.view_is
