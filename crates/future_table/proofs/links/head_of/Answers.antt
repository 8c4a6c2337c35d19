use Rattle.std.proofs.Common.{rules, ◌≡◌, ◌∙◌, ◌<◌, Some, length, sym, ap, subst, refl}
use Rattle.future_table.specs.declared.links.Link.{Link}
use Rattle.future_table.specs.Links.{link_at}
use Rattle.future_table.proofs.LinkLemmas.{fewer_higher}
use Rattle.future_table.proofs.links.head_of.Goals as goal

pub bounds-links-up : goal.bounds-links-up
bounds-links-up c =
    let is : (link_at c.args.links.now c.loop-link.at).up ≡ Some c.in-Some.up = ap (λ (x : Link). x.up) (sym c.loop-link.invariant.link) ∙ c.in-Some.is in
    (c.requires.lead c.loop-link.at c.in-Some.up c.loop-link.invariant.within is).0

pub loop-link-smaller : goal.loop-link-smaller
loop-link-smaller c =
    let links = c.args.links.now in
    let is : (link_at links c.loop-link.at).up ≡ Some c.in-Some.up = ap (λ (x : Link). x.up) (sym c.loop-link.invariant.link) ∙ c.in-Some.is in
    let up = c.requires.lead c.loop-link.at c.in-Some.up c.loop-link.invariant.within is in
    let less : c.loop-link.link.height < (link_at links c.in-Some.up).height = subst (λ (x : Link). x.height < (link_at links c.in-Some.up).height) (sym c.loop-link.invariant.link) up.1 in
    fewer_higher c.loop-link.link.height links c.in-Some.up up.0 less

pub loop-link-preserved : goal.loop-link-preserved
loop-link-preserved c =
    let links = c.args.links.now in
    let is : (link_at links c.loop-link.at).up ≡ Some c.in-Some.up = ap (λ (x : Link). x.up) (sym c.loop-link.invariant.link) ∙ c.in-Some.is in
    let up = c.requires.lead c.loop-link.at c.in-Some.up c.loop-link.invariant.within is in
    record {
      within = up.0;
      link = refl;
      alike = λ chases stays. c.loop-link.invariant.alike chases stays ∙ stays c.loop-link.at c.in-Some.up c.loop-link.invariant.within is;
    }

pub offset_bounds-links-up : goal.offset_bounds-links-up
offset_bounds-links-up c =
    let is : (link_at c.args.links.now c.loop-link.at).up ≡ Some c.in-Some.up = ap (λ (x : Link). x.up) (sym c.loop-link.invariant.link) ∙ c.in-Some.is in
    let within : c.in-Some.up < length c.args.links.now = (c.requires.lead c.loop-link.at c.in-Some.up c.loop-link.invariant.within is).0 in
    search rules
