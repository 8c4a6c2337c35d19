use Rattle.std.proofs.Common.{◌≡◌, ◌∙◌, ℕ, List, ap, length, subst, sym}
use Rattle.std.specs.Global.{Vec}
use Rattle.std.proofs.lemmas.List.{with_items_is}
use Rattle.wait_circles.specs.declared.ways.Mark.{Mark}
use Rattle.wait_circles.specs.Walks.{AreEndsIn, IsPathEnd, IsSettledBy, IsStop, IsWalked}
use Rattle.wait_circles.proofs.FoundLemmas.{found_more}
use Rattle.wait_circles.proofs.ways.Found.lead.Goals as goal

pub returns : goal.returns
returns c =
    let f = c.args.self.now in
    let ns = c.args.next.now in
    let path = c.walk.new.path.items in
    let same = c.deref_mut.ensures.value in
    let w = c.in_ok-stop.ensures in
    let walked = subst (λ (ms : List Mark). IsWalked ns ms path c.walk.new.marks) same w.walked in
    let stop = subst (λ (p : List ℕ). IsStop ns c.deref_mut.result.now p c.in_ok-stop.stop) (sym c.deref.ensures.value) w.stop in
    let ends = subst (AreEndsIn ns f.circles.items) (sym same) c.requires.found.ends in
    let end = subst (λ (p : List ℕ). IsPathEnd ns f.circles.items c.end_of.new.self.circles.items p c.in_ok-end.end) c.deref.ensures.value (c.in_ok-end.ensures.end ns c.deref_mut.result.now stop ends) in
    let walked_size : length c.walk.new.marks ≡ f.marks.len = c.walk.auto.marks ∙ ap length same ∙ sym f.marks.ok.0 in
    let marks : c.deref_mut-2.result.now ≡ c.walk.new.marks = c.deref_mut-2.ensures.value ∙ ap (λ (v : Vec Mark). v.items) c.in_ok-end.ensures.marks ∙ with_items_is f.marks c.walk.new.marks walked_size in
    let settled = subst (λ (ms : List Mark). IsSettledBy c.in_ok-end.end path ms c.settle.new.marks) marks (subst (λ (p : List ℕ). IsSettledBy c.in_ok-end.end p c.deref_mut-2.result.now c.settle.new.marks) c.deref-2.ensures.value c.settle.ensures) in
    let last = c.end_of.new.self.marks in
    let same_size : length c.settle.new.marks ≡ length c.walk.new.marks = c.settle.auto.marks ∙ ap length marks in
    let last_size : length c.settle.new.marks ≡ last.len = c.settle.auto.marks ∙ ap length c.deref_mut-2.ensures.value ∙ sym last.ok.0 in
    let is = with_items_is last c.settle.new.marks last_size in
    let size = ap length is ∙ same_size ∙ c.walk.auto.marks ∙ ap length same in
    found_more ns f _ c.args.from c.walk.new.marks path c.in_ok-end.end c.requires.found walked w.begins end (subst (λ (ms : List Mark). IsSettledBy c.in_ok-end.end path c.walk.new.marks ms) (sym is) settled) size
