use Rattle.std.proofs.Common.{◌∙◌, sym, ap}
use Rattle.indexmap.specs.IndexMap.{get}
use Rattle.object_store.specs.Index.{is_same, or_none}
use Rattle.object_store.specs.Places.{without_place}
use Rattle.object_store.proofs.IndexLemmas.{unchanged, written}
use Rattle.object_store.proofs.index.Index.take_out.Goals as goal

pub returns-in-None-clause-places : goal.returns-in-None-clause-places
returns-in-None-clause-places c =
    let none = ap or_none (sym c.in-None.ensures.value) in
    unchanged c.args.future.now (without_place c.args.place) (get is_same c.args.self.now.held) (get is_same c.get_mut.follows.lender-at-none) (ap (without_place c.args.place) none ∙ sym none)
    (λ g. ap (λ m. get is_same m g) c.get_mut.follows.holds-at-none)

pub returns-in-Some-clause-places : goal.returns-in-Some-clause-places
returns-in-Some-clause-places c = written c.args.future.now (without_place c.args.place) c.args.self.now.held _ c.in-Some.places.now c.remove.new.self c.in-Some.ensures.value c.remove.ensures.places (c.get_mut.follows.holds c.remove.new.self)
