use Rattle.std.proofs.Common.{◌≡◌, ◌∙◌, ◌++◌, ◌∷◌, [], ℕ, List, true, cond, sym, ap, subst, true≢false, Some}
use Rattle.std.specs.BTreeMap.{get, is_at}
use Rattle.asp_model.specs.declared.word.Label.{Label}
use Rattle.request_queue.specs.Notes.{label_order, or_none}
use Rattle.request_queue.specs.Numbers.{Turns, has_number}
use Rattle.request_queue.proofs.NoteLemmas.{changed}
use Rattle.request_queue.proofs.NumberLemmas.{turns_more}
use Rattle.request_queue.proofs.notes.Notes.note_new.Goals as goal

pub push-requires : goal.push-requires
push-requires c = record { above = λ k h. absurd (true≢false (sym h ∙ ap (has_number k) c.new-numbers.ensures.none)) }

pub returns-clause-noted : goal.returns-clause-noted
returns-clause-noted c =
    let old = get label_order c.args.self.now.numbers in
    let new = get label_order c.insert.new.self in
    let now = c.push.new.self in
    let k = c.args.number in
    let label : c.in_ok-label.label ≡ c.args.label.now = λ i. record { text = c.in_ok-label.ensures.label i } in
    let empty : c.new-numbers.result ≡ or_none (old c.args.label.now) = c.new-numbers.ensures.none ∙ sym (ap or_none c.requires.new) in
    let one : now ≡ or_none (old c.args.label.now) ++ k ∷ [] = c.in_ok-push.ensures.ok ∙ ap (λ (xs : List ℕ). xs ++ k ∷ []) empty in
    changed c.args.label.now k true old new now
    (subst (Turns k true (or_none (old c.args.label.now))) (sym one) (turns_more (or_none (old c.args.label.now)) k))
    (subst (λ (l : Label). (m : Label) → new m ≡ cond (is_at (label_order l) m) (Some now) (old m)) label c.in_ok-insert.ensures.updates.0)
