use Rattle.std.proofs.Common.{◌≡◌, ◌∙◌, ◌<◌, List, Some, length, sym, ap, subst, arith}
use Rattle.std.proofs.lemmas.List.{get_or_read}
use Rattle.asp_model.specs.Chase.{chase}
use Rattle.asp_model.specs.Shapes.{future_shape}
use Rattle.future_table.specs.declared.links.Link.{Link}
use Rattle.future_table.specs.Values.{told}
use Rattle.future_table.specs.Numbers.{number_of}
use Rattle.future_table.specs.Links.{IsAsAt, IsHead, LeadUp, link_at, no_link}
use Rattle.future_table.specs.Walks.{names_in, values_in}
use Rattle.future_table.specs.Components.{chase_at, end_told}
use Rattle.future_table.proofs.NumberLemmas.{named_number}
use Rattle.future_table.proofs.walks.chase.Goals as goal

pub head_of-head-requires-clause-within : goal.head_of-head-requires-clause-within
head_of-head-requires-clause-within c =
    let w = c.args.walks.now in
    let number : number_of (future_shape c.args.name.now) (names_in w) ≡ Some c.in-Some.at = sym c.of.ensures.number ∙ c.in-Some.is in
    let x = named_number (future_shape c.args.name.now) (names_in w) c.in-Some.at number in
    subst (λ (ls : List Link). c.in-Some.at < length ls) (sym c.deref.ensures.value) (omega (arith, x.0, c.requires.whole.parts.count))

pub head_of-head-requires-clause-lead : goal.head_of-head-requires-clause-lead
head_of-head-requires-clause-lead c = subst LeadUp (sym c.deref.ensures.value) c.requires.whole.parts.lead

pub returns-in-Some : goal.returns-in-Some
returns-in-Some c =
    let w = c.args.walks.now in
    let vs = values_in w in
    let names = names_in w in
    let links = w.links.items in
    let at = c.in-Some.at in
    let head = c.head_of-head.result in
    let number : number_of (future_shape c.args.name.now) names ≡ Some at = sym c.of.ensures.number ∙ c.in-Some.is in
    let is_head : IsHead links head = subst (λ (ls : List Link). IsHead ls head) c.deref.ensures.value c.head_of-head.ensures.head in
    let alike : IsAsAt links at head = subst (λ (ls : List Link). IsAsAt ls at head) c.deref.ensures.value c.head_of-head.ensures.alike in
    let link : c.index.result.now ≡ link_at links head = get_or_read links head c.index.result.now is_head.0 c.index.ensures no_link in
    c.ending.ensures ∙ ap (λ (x : Link). end_told names x.least x.end) link ∙ sym (c.requires.whole.parts.heads head is_head).ends
    ∙ ap told (sym (alike (chase_at vs names) c.requires.whole.parts.alike) ∙ ap (chase vs) (named_number (future_shape c.args.name.now) names at number).1)
