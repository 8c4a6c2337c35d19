use Rattle.std.proofs.Common.{◌≡◌, ◌∙◌, ◌<◌, List, Option, None, Some, length, length-set, set, sym, ap, subst, arith}
use Rattle.std.specs.FinMap.{find, put}
use Rattle.std.specs.Option.{option_map}
use Rattle.asp_model.specs.Names.{future_cmp}
use Rattle.asp_model.specs.Chase.{Values}
use Rattle.asp_model.specs.Shapes.{future_shape}
use Rattle.code_table.specs.declared.cells.Parcel.{Parcel}
use Rattle.code_table.specs.Shapes.{parcel_shape}
use Rattle.law_chases.proofs.FilledLemmas.{lead_there}
use Rattle.std.proofs.lemmas.List.{with_items_is}
use Rattle.future_table.specs.declared.links.Link.{Link}
use Rattle.future_table.specs.declared.links.End.TheVariants as ending
use Rattle.future_table.specs.Links.{IsAsAt, IsHead, LeadUp}
use Rattle.future_table.specs.Values.{filled_of, values_of}
use Rattle.future_table.specs.Walks.{filled_in, names_in, values_in}
use Rattle.future_table.specs.Components.{AreComponents, chase_at, with_end}
use Rattle.future_table.proofs.NumberLemmas.{named_number}
use Rattle.future_table.proofs.TableLemmas.{fills_number, filled_values, found_shape, sorted_values, value_within}
use Rattle.future_table.proofs.FillingLemmas.{plain_components}
use Rattle.future_table.proofs.walks.fill_plain.Goals as goal

pub head_of-head-requires-clause-within : goal.head_of-head-requires-clause-within
head_of-head-requires-clause-within c =
    let x = named_number (future_shape c.requires.at.0) (names_in c.args.walks.now) c.args.at c.requires.at.1.0 in
    subst (λ (ls : List Link). c.args.at < length ls) (sym c.deref.ensures.value) (omega (arith, x.0, c.requires.whole.parts.count))

pub head_of-head-requires-clause-lead : goal.head_of-head-requires-clause-lead
head_of-head-requires-clause-lead c = subst LeadUp (sym c.deref.ensures.value) c.requires.whole.parts.lead

pub index_mut-requires : goal.index_mut-requires
index_mut-requires c = let w = c.args.walks.now in omega (arith, value_within c.requires.at.0 w.numbers w.values.items c.args.at c.requires.whole.room c.requires.at.1.0, w.values.ok.0)

pub returns-clause-filled : goal.returns-clause-filled
returns-clause-filled c = let w = c.args.walks.now in λ f h. fills_number f c.args.value w.numbers w.values.items c.args.at c.requires.whole.apart c.requires.whole.room h.0 h.1

pub returns-clause-whole : goal.returns-clause-whole
returns-clause-whole c =
    let w = c.args.walks.now in
    let k = c.requires.whole.parts in
    let vs = values_in w in
    let names = names_in w in
    let links = w.links.items in
    let name = c.requires.at.0 in
    let f = future_shape name in
    let p = parcel_shape c.args.value in
    let at = c.args.at in
    let number = c.requires.at.1.0 in
    let a = c.head_of-head.result in
    let sorted = sorted_values w.numbers w.values.items in
    let absent : find future_cmp f vs ≡ None = sym (found_shape name (filled_in w)) ∙ ap (λ (o : Option Parcel). option_map parcel_shape o) c.requires.at.1.1 in
    let first : IsHead links a = subst (λ (ls : List Link). IsHead ls a) c.deref.ensures.value c.head_of-head.ensures.head in
    let alike : IsAsAt links at a = subst (λ (ls : List Link). IsAsAt ls at a) c.deref.ensures.value c.head_of-head.ensures.alike in
    let climbs = alike (chase_at vs names) k.alike in
    let filled : List (Option Parcel) = set w.values.items at (Some c.args.value) in
    let values : values_of (filled_of w.numbers filled) ≡ put future_cmp f p vs = filled_values name c.args.value w.numbers w.values.items at c.requires.whole.apart c.requires.whole.room number c.requires.at.1.1 in
    let ended : c.end_so.new.links ≡ with_end links a (ending.Value at) = c.end_so.ensures ∙ ap (λ (ls : List Link). with_end ls a (ending.Value at)) c.deref_mut.ensures.value in
    let comp = plain_components vs f p sorted absent names links k at number a first climbs (λ g d. c.requires.root g (sym (lead_there vs sorted f absent p) ∙ d)) in
    let size : length c.end_so.new.links ≡ w.links.len = omega (arith, ap (λ (ls : List Link). length ls) ended, comp.count, k.count, w.links.ok.0) in
    record {
      parts = subst (λ (ls : List Link). AreComponents (values_of (filled_of w.numbers filled)) names ls) (sym (with_items_is w.links c.end_so.new.links size ∙ ended))
          (subst (λ (us : Values). AreComponents us names (with_end links a (ending.Value at))) (sym values) comp);
      room = length-set w.values.items at (Some c.args.value) ∙ c.requires.whole.room;
      apart = c.requires.whole.apart;
    }
