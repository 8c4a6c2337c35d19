use Rattle.std.proofs.Common.{◌∙◌, true, cond, sym, ap, subst}
use Rattle.std.specs.BTreeMap.{get}
use Rattle.request_queue.specs.Notes.{is_that, label_order, or_none}
use Rattle.request_queue.specs.Numbers.{Turns, has_number}
use Rattle.request_queue.proofs.NoteLemmas.{on_err, on_ok, rewritten, written}
use Rattle.request_queue.proofs.NumberLemmas.{turns_more}
use Rattle.request_queue.proofs.notes.Notes.note.Goals as goal

pub push-requires : goal.push-requires
push-requires c = record { above = λ k h. c.requires.above c.args.label.now k (ap (λ o. has_number k (or_none o)) (sym c.in-Some.ensures.value) ∙ h) }

pub returns-in-Some : goal.returns-in-Some
returns-in-Some c =
    let l = c.args.label.now in
    let k = c.args.number in
    let old = c.args.self.now.numbers in
    let was = c.in-Some.numbers.now in
    let now = c.push.new.self in
    let new = c.get_mut.follows.lender now in
    let writes = c.get_mut.follows.holds now in
    record {
      noted = on_ok c.push.result (λ e. written l k true old new was now c.in-Some.ensures.value (subst (Turns k true was) (sym e) (turns_more was k)) writes) c.push.ensures.ok;
      err = on_err c.push.result (λ e. rewritten l old new was now c.in-Some.ensures.value e writes) c.push.ensures.err;
    }

pub note_new-requires : goal.note_new-requires
note_new-requires c = record { new = ap (λ ns. get label_order ns c.args.label.now) c.get_mut.follows.holds-at-none ∙ sym c.in-None.ensures.value }

pub returns-in-None : goal.returns-in-None
returns-in-None c =
    let same = c.get_mut.follows.holds-at-none in
    record {
      noted = on_ok c.note_new.result (λ changes m j. changes m j ∙ ap (λ ns. cond (is_that c.args.label.now c.args.number m j) true (has_number j (or_none (get label_order ns m)))) same) c.note_new.ensures.noted;
      err = on_err c.note_new.result (λ alike m j. alike m j ∙ ap (λ ns. has_number j (or_none (get label_order ns m))) same) c.note_new.ensures.err;
    }
