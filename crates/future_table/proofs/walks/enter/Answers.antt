use Rattle.std.proofs.Common.{◌≡◌, ◌∙◌, ◌++◌, ◌∷◌, [], ◌+◌, true, List, Option, None, length, length-append, map, sym, ap, subst}
use Rattle.asp_model.specs.declared.name.FutureName.{FutureName}
use Rattle.asp_model.specs.Chase.{Values}
use Rattle.asp_model.specs.Names.{FutureShape}
use Rattle.asp_model.specs.Shapes.{future_shape}
use Rattle.code_table.specs.declared.cells.Parcel.{Parcel}
use Rattle.law_chases.proofs.FutureLemmas.{some_is}
use Rattle.future_table.specs.declared.links.Link.{Link}
use Rattle.future_table.specs.Numbers.{IsEntered, number_of}
use Rattle.future_table.specs.Values.{filled_of, values_of}
use Rattle.future_table.specs.Walks.{names_in, values_in}
use Rattle.future_table.specs.Components.{AreComponents, alone}
use Rattle.future_table.proofs.ComponentLemmas.{met, number_new, number_stays}
use Rattle.future_table.proofs.TableLemmas.{filled_met, mapped_more}
use Rattle.future_table.proofs.walks.enter.Goals as goal

pub returns-then-new-clause-filled : goal.returns-then-new-clause-filled
returns-then-new-clause-filled c =
    let w = c.args.walks.now in
    let x : IsEntered c.args.name w.numbers c.enter.new.self true = subst (IsEntered c.args.name w.numbers c.enter.new.self) c.if-new.true c.in_ok-number.ensures.entered in
    let values : c.push_reserved.new.self.items ≡ w.values.items ++ None ∷ [] = c.push_reserved.ensures.items ∙ ap (λ (ps : List (Option Parcel)). ps ++ None ∷ []) c.reserve-2.ensures.items in
    (λ i. filled_of (x.1 i) (values i)) ∙ filled_met w.numbers w.values.items c.args.name c.requires.whole.room

pub returns-then-new-clause-stay : goal.returns-then-new-clause-stay
returns-then-new-clause-stay c =
    let w = c.args.walks.now in
    let names = names_in w in
    let g = future_shape c.args.name in
    let x : IsEntered c.args.name w.numbers c.enter.new.self true = subst (IsEntered c.args.name w.numbers c.enter.new.self) c.if-new.true c.in_ok-number.ensures.entered in
    let named : map future_shape c.enter.new.self ≡ names ++ g ∷ [] = ap (map future_shape) x.1 ∙ mapped_more w.numbers c.args.name in
    λ f n e. ap (number_of f) named ∙ number_stays (values_in w) names w.links.items c.requires.whole.parts g x.0 f n e

pub returns-then-new-clause-whole : goal.returns-then-new-clause-whole
returns-then-new-clause-whole c =
    let w = c.args.walks.now in
    let k = c.requires.whole.parts in
    let vs = values_in w in
    let names = names_in w in
    let g = future_shape c.args.name in
    let x : IsEntered c.args.name w.numbers c.enter.new.self true = subst (IsEntered c.args.name w.numbers c.enter.new.self) c.if-new.true c.in_ok-number.ensures.entered in
    let named : map future_shape c.enter.new.self ≡ names ++ g ∷ [] = ap (map future_shape) x.1 ∙ mapped_more w.numbers c.args.name in
    let number : c.in_ok-number.number ≡ length names = some_is (sym c.in_ok-number.ensures.number ∙ ap (number_of g) named ∙ number_new vs names w.links.items k g x.0) in
    let links : c.push_reserved-then-new.new.self.items ≡ w.links.items ++ alone (length names) ∷ [] = c.push_reserved-then-new.ensures.items ∙ (λ i. c.reserve.ensures.items i ++ alone (number i) ∷ []) in
    let values : c.push_reserved.new.self.items ≡ w.values.items ++ None ∷ [] = c.push_reserved.ensures.items ∙ ap (λ (ps : List (Option Parcel)). ps ++ None ∷ []) c.reserve-2.ensures.items in
    let filled : values_of (filled_of c.enter.new.self c.push_reserved.new.self.items) ≡ vs = ap values_of ((λ i. filled_of (x.1 i) (values i)) ∙ filled_met w.numbers w.values.items c.args.name c.requires.whole.room) in
    record {
      parts = subst (λ (us : Values). AreComponents us (map future_shape c.enter.new.self) c.push_reserved-then-new.new.self.items) (sym filled)
          (subst (λ (fs : List FutureShape). AreComponents vs fs c.push_reserved-then-new.new.self.items) (sym named)
          (subst (λ (ls : List Link). AreComponents vs (names ++ g ∷ []) ls) (sym links) (met vs names w.links.items k g x.0)));
      room = ap (λ (ps : List (Option Parcel)). length ps) values ∙ length-append w.values.items (None ∷ []) ∙ ap (λ n. n + 1) c.requires.whole.room
          ∙ sym (ap (λ (fs : List FutureName). length fs) x.1 ∙ length-append w.numbers (c.args.name ∷ []));
      apart = c.in_ok-number.ensures.apart;
    }
