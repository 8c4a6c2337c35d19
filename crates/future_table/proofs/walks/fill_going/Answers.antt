use Rattle.std.proofs.Common.{◌≡◌, ◌∙◌, ◌<◌, List, Option, None, Some, length, length-set, set, sym, ap, subst, arith}
use Rattle.std.specs.FinMap.{find, put}
use Rattle.std.specs.Option.{option_map}
use Rattle.asp_model.specs.Names.{future_cmp}
use Rattle.asp_model.specs.Chase.{Values, Goes, lead, chase}
use Rattle.asp_model.specs.Shapes.{future_shape}
use Rattle.code_table.specs.declared.cells.Parcel.{Parcel}
use Rattle.code_table.specs.Shapes.{parcel_shape}
use Rattle.law_chases.proofs.FilledLemmas.{lead_there}
use Rattle.std.proofs.lemmas.List.{with_items_is}
use Rattle.future_table.specs.declared.links.Link.{Link}
use Rattle.future_table.specs.declared.links.End.TheVariants as ending
use Rattle.future_table.specs.Links.{IsAsAt, IsHead, LeadUp, link_at}
use Rattle.future_table.specs.Values.{filled_of, values_of}
use Rattle.future_table.specs.Walks.{filled_in, names_in, values_in}
use Rattle.future_table.specs.Components.{AreComponents, chase_at, joined, with_end}
use Rattle.future_table.proofs.NumberLemmas.{named_number}
use Rattle.future_table.proofs.TableLemmas.{fills_number, filled_values, found_shape, sorted_values, value_within, values_count}
use Rattle.future_table.proofs.FillingLemmas.{closed_components, joined_after}
use Rattle.future_table.proofs.walks.fill_going.Goals as goal

pub head_of-first-requires-clause-within : goal.head_of-first-requires-clause-within
head_of-first-requires-clause-within c =
    let x = named_number (future_shape c.requires.at.0) (names_in c.args.walks.now) c.args.at c.requires.at.1.0 in
    subst (λ (ls : List Link). c.args.at < length ls) (sym c.deref.ensures.value) (omega (arith, x.0, c.requires.whole.parts.count))

pub head_of-first-requires-clause-lead : goal.head_of-first-requires-clause-lead
head_of-first-requires-clause-lead c = subst LeadUp (sym c.deref.ensures.value) c.requires.whole.parts.lead

pub head_of-second-requires-clause-within : goal.head_of-second-requires-clause-within
head_of-second-requires-clause-within c =
    let x = named_number c.requires.root.0 (names_in c.args.walks.now) c.args.next c.requires.root.2 in
    subst (λ (ls : List Link). c.args.next < length ls) (sym c.deref-2.ensures.value) (omega (arith, x.0, c.requires.whole.parts.count))

pub head_of-second-requires-clause-lead : goal.head_of-second-requires-clause-lead
head_of-second-requires-clause-lead c = subst LeadUp (sym c.deref-2.ensures.value) c.requires.whole.parts.lead

pub index_mut-requires : goal.index_mut-requires
index_mut-requires c = let w = c.args.walks.now in omega (arith, value_within c.requires.at.0 w.numbers w.values.items c.args.at c.requires.whole.room c.requires.at.1.0, w.values.ok.0)

pub join-requires-clause-low : goal.join-requires-clause-low
join-requires-clause-low c =
    let w = c.args.walks.now in
    let a = c.head_of-first.result in
    let first : IsHead w.links.items a = subst (λ (ls : List Link). IsHead ls a) c.deref.ensures.value c.head_of-first.ensures.head in
    subst (λ (ls : List Link). (link_at ls a).height < 9223372036854775808) (sym c.deref_mut-else-first-second.ensures.value)
    (omega (arith, c.requires.whole.parts.low a first.0, values_count w.numbers w.values.items, w.values.ok.0, w.values.ok.1, w.values.small))

pub join-requires-clause-low_too : goal.join-requires-clause-low_too
join-requires-clause-low_too c =
    let w = c.args.walks.now in
    let b = c.head_of-second.result in
    let second : IsHead w.links.items b = subst (λ (ls : List Link). IsHead ls b) c.deref-2.ensures.value c.head_of-second.ensures.head in
    subst (λ (ls : List Link). (link_at ls b).height < 9223372036854775808) (sym c.deref_mut-else-first-second.ensures.value)
    (omega (arith, c.requires.whole.parts.low b second.0, values_count w.numbers w.values.items, w.values.ok.0, w.values.ok.1, w.values.small))

pub returns-then-first-second-clause-filled : goal.returns-then-first-second-clause-filled
returns-then-first-second-clause-filled c = let w = c.args.walks.now in λ f h. fills_number f c.args.value w.numbers w.values.items c.args.at c.requires.whole.apart c.requires.whole.room h.0 h.1

pub returns-else-first-second-clause-filled : goal.returns-else-first-second-clause-filled
returns-else-first-second-clause-filled c = let w = c.args.walks.now in λ f h. fills_number f c.args.value w.numbers w.values.items c.args.at c.requires.whole.apart c.requires.whole.room h.0 h.1

pub returns-then-first-second-clause-whole : goal.returns-then-first-second-clause-whole
returns-then-first-second-clause-whole c =
    let w = c.args.walks.now in
    let k = c.requires.whole.parts in
    let vs = values_in w in
    let names = names_in w in
    let links = w.links.items in
    let name = c.requires.at.0 in
    let f = future_shape name in
    let p = parcel_shape c.args.value in
    let at = c.args.at in
    let next = c.args.next in
    let number = c.requires.at.1.0 in
    let a = c.head_of-first.result in
    let b = c.head_of-second.result in
    let g = c.requires.root.0 in
    let sorted = sorted_values w.numbers w.values.items in
    let absent : find future_cmp f vs ≡ None = sym (found_shape name (filled_in w)) ∙ ap (λ (o : Option Parcel). option_map parcel_shape o) c.requires.at.1.1 in
    let first : IsHead links a = subst (λ (ls : List Link). IsHead ls a) c.deref.ensures.value c.head_of-first.ensures.head in
    let alike : IsAsAt links at a = subst (λ (ls : List Link). IsAsAt ls at a) c.deref.ensures.value c.head_of-first.ensures.alike in
    let alike-2 : IsAsAt links next b = subst (λ (ls : List Link). IsAsAt ls next b) c.deref-2.ensures.value c.head_of-second.ensures.alike in
    let climbs = alike (chase_at vs names) k.alike in
    let goes : lead (put future_cmp f p vs) f ≡ Goes g = lead_there vs sorted f absent p ∙ c.requires.root.1 in
    let filled : List (Option Parcel) = set w.values.items at (Some c.args.value) in
    let values : values_of (filled_of w.numbers filled) ≡ put future_cmp f p vs = filled_values name c.args.value w.numbers w.values.items at c.requires.whole.apart c.requires.whole.room number c.requires.at.1.1 in
    let back : chase_at vs names a ≡ chase vs g = ap (chase_at vs names) c.if-first-second.true ∙ sym (alike-2 (chase_at vs names) k.alike) ∙ ap (chase vs) (named_number g names next c.requires.root.2).1 in
    let ended : c.end_so.new.links ≡ with_end links a ending.Cycle = c.end_so.ensures ∙ ap (λ (ls : List Link). with_end ls a ending.Cycle) c.deref_mut.ensures.value in
    let comp = closed_components vs f p sorted absent names links k at number a first climbs g goes back in
    let size : length c.end_so.new.links ≡ w.links.len = omega (arith, ap (λ (ls : List Link). length ls) ended, comp.count, k.count, w.links.ok.0) in
    record {
      parts = subst (λ (ls : List Link). AreComponents (values_of (filled_of w.numbers filled)) names ls) (sym (with_items_is w.links c.end_so.new.links size ∙ ended))
          (subst (λ (us : Values). AreComponents us names (with_end links a ending.Cycle)) (sym values) comp);
      room = length-set w.values.items at (Some c.args.value) ∙ c.requires.whole.room;
      apart = c.requires.whole.apart;
    }

pub returns-else-first-second-clause-whole : goal.returns-else-first-second-clause-whole
returns-else-first-second-clause-whole c =
    let w = c.args.walks.now in
    let k = c.requires.whole.parts in
    let vs = values_in w in
    let names = names_in w in
    let links = w.links.items in
    let name = c.requires.at.0 in
    let f = future_shape name in
    let p = parcel_shape c.args.value in
    let at = c.args.at in
    let next = c.args.next in
    let number = c.requires.at.1.0 in
    let a = c.head_of-first.result in
    let b = c.head_of-second.result in
    let g = c.requires.root.0 in
    let sorted = sorted_values w.numbers w.values.items in
    let absent : find future_cmp f vs ≡ None = sym (found_shape name (filled_in w)) ∙ ap (λ (o : Option Parcel). option_map parcel_shape o) c.requires.at.1.1 in
    let first : IsHead links a = subst (λ (ls : List Link). IsHead ls a) c.deref.ensures.value c.head_of-first.ensures.head in
    let alike : IsAsAt links at a = subst (λ (ls : List Link). IsAsAt ls at a) c.deref.ensures.value c.head_of-first.ensures.alike in
    let alike-2 : IsAsAt links next b = subst (λ (ls : List Link). IsAsAt ls next b) c.deref-2.ensures.value c.head_of-second.ensures.alike in
    let climbs = alike (chase_at vs names) k.alike in
    let goes : lead (put future_cmp f p vs) f ≡ Goes g = lead_there vs sorted f absent p ∙ c.requires.root.1 in
    let filled : List (Option Parcel) = set w.values.items at (Some c.args.value) in
    let values : values_of (filled_of w.numbers filled) ≡ put future_cmp f p vs = filled_values name c.args.value w.numbers w.values.items at c.requires.whole.apart c.requires.whole.room number c.requires.at.1.1 in
    let second : IsHead links b = subst (λ (ls : List Link). IsHead ls b) c.deref-2.ensures.value c.head_of-second.ensures.head in
    let root : chase_at vs names b ≡ chase vs g = sym (alike-2 (chase_at vs names) k.alike) ∙ ap (chase vs) (named_number g names next c.requires.root.2).1 in
    let now : c.join.new.links ≡ joined names links a b = c.join.ensures ∙ ap (λ (ls : List Link). joined names ls a b) c.deref_mut-else-first-second.ensures.value in
    let comp = joined_after vs f p sorted absent names links k at number a first climbs b second c.if-first-second.false g goes root in
    let size : length c.join.new.links ≡ w.links.len = omega (arith, ap (λ (ls : List Link). length ls) now, comp.count, k.count, w.links.ok.0) in
    record {
      parts = subst (λ (ls : List Link). AreComponents (values_of (filled_of w.numbers filled)) names ls) (sym (with_items_is w.links c.join.new.links size ∙ now))
          (subst (λ (us : Values). AreComponents us names (joined names links a b)) (sym values) comp);
      room = length-set w.values.items at (Some c.args.value) ∙ c.requires.whole.room;
      apart = c.requires.whole.apart;
    }
