use Rattle.std.proofs.Common.{◌≡◌, ◌+◌, ◌/◌, ◌<◌, ◌∙◌, ◌&&◌, ℕ, false, get_or, length, nat_lt, refl, sym, ap, subst, arith}
use Rattle.std.proofs.lemmas.List.{get_or_read}
use Rattle.core_sets.specs.declared.marks.Marks.{Marks}
use Rattle.core_sets.specs.Marks.{IsTree, is_marked, room}
use Rattle.core_sets.proofs.MarkLemmas.{all_copied, copied, none_copied, passed_over}
use Rattle.core_sets.proofs.marks.Marks.copy_to.Goals as goal
use Rattle.core_sets.proofs.marks.Marks.copy_to.Goals.{then-index, else-index}

-- the larger marks hold those of the first places
record AreCopied (self from : Marks) (place : ℕ) (m : Marks) : Type 0 where
  pub tree : IsTree m
  pub size : room m ≡ room from
  pub so_far : (p : ℕ) → is_marked m p ≡ (nat_lt p place && is_marked self p)

pub loop-place-init : goal.loop-place-init
loop-place-init c = record {
  tree = c.requires.larger;
  size = refl;
  so_far = none_copied (is_marked c.args.larger.now) (is_marked c.args.self.now) c.requires.none;
}

pub loop-place-preserved : goal.loop-place-preserved
loop-place-preserved c =
    let self = c.args.self.now in
    let place = c.loop-place.place in
    let old = c.loop-place.larger in
    let h = c.loop-place.invariant in
    let low : place < room self = omega (arith, c.loop-place-test.true, c.len-room.ensures, self.nodes.ok.0) in
    let count : c.len-room.result ≡ length self.nodes.items = c.len-room.ensures ∙ self.nodes.ok.0 in
    let read = get_or_read self.nodes.items (room self + place) c.index.result.now (omega (arith, low, c.requires.tree.whole)) (c.index.ensures ∙ ap (λ n. get_or self.nodes.items (n / 2 + place) c.index.result.now) count) false in
    let all : AreCopied self c.args.larger.now (place + 1) c.if-index.larger = elim c.if-index.branch [
      | then-index w ↦ subst (AreCopied self c.args.larger.now (place + 1)) (sym w.larger-is) (record {
        tree = w.set.ensures.tree;
        size = w.set.ensures.room ∙ h.size;
        so_far = copied (is_marked old) (is_marked self) (is_marked w.set.new.self) place h.so_far (sym read ∙ w.if-index.true) w.set.ensures.marked;
      })
      | else-index w ↦ subst (AreCopied self c.args.larger.now (place + 1)) (sym w.larger-is) (record {
        tree = h.tree;
        size = h.size;
        so_far = passed_over (is_marked old) (is_marked self) place h.so_far (sym read ∙ w.if-index.false);
      })
    ] in
    record { tree = all.tree; size = all.size; so_far = all.so_far }

pub returns : goal.returns
returns c = record {
  tree = c.loop-place.invariant.tree;
  room = c.loop-place.invariant.size;
  same = all_copied (is_marked c.loop-place.larger) c.args.self.now c.loop-place.place c.requires.tree (omega (arith, c.loop-place-test.false, c.len-room.ensures)) c.loop-place.invariant.so_far;
}
