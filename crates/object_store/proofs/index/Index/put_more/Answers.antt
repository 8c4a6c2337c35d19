use Rattle.std.proofs.Common.{Result, Ok, Err}
use Rattle.std.specs.Prelude.{OnErr, OnOk}
use Rattle.object_store.specs.Places.{places_of, with_place}
use Rattle.object_store.proofs.IndexLemmas.{written}
use Rattle.object_store.proofs.index.Index.put_more.Goals as goal

on_ok : {T E P Q : Type 0} (r : Result T E) → (P → Q) → OnOk r P → OnOk r Q
on_ok (Ok v) f p = f p
on_ok (Err e) f p = tt

on_err : {T E P Q : Type 0} (r : Result T E) → (P → Q) → OnErr r P → OnErr r Q
on_err (Ok v) f p = tt
on_err (Err e) f p = f p

pub returns-in-Some-clause-places : goal.returns-in-Some-clause-places
returns-in-Some-clause-places c =
    let places = c.insert-added.new.self in
    on_ok c.insert-added.result (λ e. written c.args.future.now (λ _. with_place c.args.place (places_of c.args.known)) c.args.self.now.held _ c.in-Some.here.now places c.in-Some.ensures.value e (c.get_mut.follows.holds places)) c.insert-added.ensures.places

pub returns-in-Some-clause-err : goal.returns-in-Some-clause-err
returns-in-Some-clause-err c =
    let places = c.insert-added.new.self in
    on_err c.insert-added.result (λ e. written c.args.future.now (λ _. places_of c.args.known) c.args.self.now.held _ c.in-Some.here.now places c.in-Some.ensures.value e (c.get_mut.follows.holds places)) c.insert-added.ensures.err
