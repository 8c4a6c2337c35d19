use Rattle.std.proofs.Common.{◌≡◌, ◌∙◌, ◌+◌, ◌++◌, ◌∷◌, ℕ, List, [], Bool, true, false, cond, sym, ap, subst}
use Rattle.std.specs.declared.alloc.Global.{Global}
use Rattle.std.specs.declared.boxed.Box.{Box}
use Rattle.asp_model.specs.declared.word.Label.{Label}
use Rattle.request_queue.specs.declared.request.Request.{Request}
use Rattle.request_queue.specs.declared.notes.Notes.{Notes}
use Rattle.request_queue.specs.Pending.{QueueView, request_at}
use Rattle.request_queue.specs.Notes.{is_noted, is_that}
use Rattle.request_queue.specs.Kept.{waits}
use Rattle.request_queue.proofs.QueueLemmas.{AreBelow, Ascends, below_more, found_more, notes_back, notes_below, notes_more, ordered_more}
use Rattle.request_queue.proofs.crowd.Crowd.push.Goals as goal

-- the notes change at the number and the label of a request
abbrev AreNoted : Notes → Notes → ℕ → Bool → Label → Type 0
AreNoted old new n b m = (l : Label) (k : ℕ) → is_noted new l k ≡ cond (is_that m n l k) b (is_noted old l k)

pub note-requires : goal.note-requires
note-requires c =
    let es = c.self.inside.requests.pending in
    record { above = notes_below c.self.inside.notes c.arrived-number.result es (subst (λ m. AreBelow m es) (sym c.arrived-number.ensures.arrived) c.self.invariant.below) c.self.invariant.noted }

pub invariant_of-self-in-Ok : goal.invariant_of-self-in-Ok
invariant_of-self-in-Ok c =
    let n = c.arrived-number.result in
    let r = c.args.request.value in
    let es : List (ℕ × Request) = c.self.inside.requests.pending in
    let new = c.push.new.self in
    let below : AreBelow n es = subst (λ m. AreBelow m es) (sym c.arrived-number.ensures.arrived) c.self.invariant.below in
    let entries : new.pending ≡ es ++ (n, r) ∷ [] = c.in-Ok.ensures.pending ∙ ap (λ m. es ++ (m, r) ∷ []) (sym c.arrived-number.ensures.arrived) in
    let asked : c.as_label.result.now ≡ r.label = c.as_label.ensures.label ∙ ap (λ (x : Request). x.label) c.deref.ensures in
    let next : new.arrived ≡ n + 1 = c.in-Ok.ensures.arrived ∙ ap (λ m. m + 1) (sym c.arrived-number.ensures.arrived) in
    record {
      ordered = subst Ascends (sym entries) (ordered_more n r es below c.self.invariant.ordered);
      below = subst (λ m. AreBelow m new.pending) (sym next) (subst (AreBelow (n + 1)) (sym entries) (below_more n r es below));
      noted = notes_more c.self.inside.notes c.note.new.self n r es new.pending below c.self.invariant.noted
          (subst (AreNoted c.self.inside.notes c.note.new.self n true) asked c.in_ok-note.ensures.noted)
          (λ k. ap (request_at k) entries ∙ found_more n r es below k);
    }

pub returns-in-Ok-clause-pending : goal.returns-in-Ok-clause-pending
returns-in-Ok-clause-pending c = c.in-Ok.ensures.pending ∙ ap (λ (q : QueueView). q.pending ++ (q.arrived, c.args.request.value) ∷ []) c.self.view_is

pub invariant_of-self-in-Err : goal.invariant_of-self-in-Err
invariant_of-self-in-Err c =
    let n = c.arrived-number.result in
    let r = c.args.request.value in
    let es : List (ℕ × Request) = c.self.inside.requests.pending in
    let new = c.push.new.self in
    let same : new ≡ c.self.inside.requests = c.in-Err.ensures.err in
    let below : AreBelow n es = subst (λ m. AreBelow m es) (sym c.arrived-number.ensures.arrived) c.self.invariant.below in
    let back : c.deref-in-Err.result.now ≡ r = c.deref-in-Err.ensures ∙ ap (λ (x : Box Request Global). x.value) c.in-Err.ensures.back in
    let asked : c.as_label.result.now ≡ r.label = c.as_label.ensures.label ∙ ap (λ (x : Request). x.label) c.deref.ensures in
    let label : c.as_label-in-Err.result.now ≡ r.label = c.as_label-in-Err.ensures.label ∙ ap (λ (x : Request). x.label) back in
    record {
      ordered = subst (λ (q : QueueView). Ascends q.pending) (sym same) c.self.invariant.ordered;
      below = subst (λ (q : QueueView). AreBelow q.arrived q.pending) (sym same) c.self.invariant.below;
      noted = λ l k. notes_back c.self.inside.notes c.note.new.self c.forget.new.self n r es below c.self.invariant.noted
          (subst (AreNoted c.self.inside.notes c.note.new.self n true) asked c.in_ok-note.ensures.noted)
          (subst (AreNoted c.note.new.self c.forget.new.self n false) label c.forget.ensures.forgotten) l k
          ∙ ap (λ (q : QueueView). waits q.pending l k) (sym same);
    }
