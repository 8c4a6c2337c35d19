use Rattle.std.proofs.Common.{◌≡◌, ◌∙◌, ◌++◌, ◌∷◌, [], Some, length, sym, subst}
use Rattle.std.proofs.lemmas.List.{length-map}
use Rattle.asp_model.specs.Shapes.{choice_shape}
use Rattle.core_sets.specs.Marks.{MarkedIf}
use Rattle.future_update.specs.declared.passings.Passings.{Passings}
use Rattle.future_update.specs.Passings.{passing_of}
use Rattle.future_update.specs.Records.{answers_of, owes}
use Rattle.future_update.proofs.HolderLemmas.{entered, left_nothing, passings_kept, passings_more}
use Rattle.future_update.proofs.SettlingLemmas.{kept_before, kept_now}
use Rattle.future_update.proofs.entering.enter.Goals as goal

pub returns-then-not-is_sending-clause-owed : goal.returns-then-not-is_sending-clause-owed
returns-then-not-is_sending-clause-owed c =
    let r = c.args.records.now in
    let s = c.enter.new.self in
    let marks = c.args.owed.now.marks in
    let a = choice_shape c.args.answer in
    let as_many : length r.edges.keys ≡ length (answers_of r) = sym (length-map r.answers.items choice_shape ∙ c.requires.records.answers) in
    let marked = left_nothing s (answers_of r) a (length r.edges.keys) marks as_many c.enter.ensures.answers (sym c.is_sending.ensures.sends ∙ c.if-not-is_sending.true) in
    entered r s c.args.edge a marks marks c.requires.records c.requires.passed c.requires.new c.enter.ensures.shape c.enter.ensures.answers c.requires.owed marked

pub returns-clause-passings : goal.returns-clause-passings
returns-clause-passings c =
    let r = c.args.records.now in
    let s = c.enter.new.self in
    let x = c.args.edge in
    let a = choice_shape c.args.answer in
    let before = c.args.passings.now in
    let after : Passings = record { sorted = before.sorted; last = Some (passing_of x c.len-place.result) } in
    let as_many : length (answers_of r) ≡ length r.edges.keys = length-map r.answers.items choice_shape ∙ c.requires.records.answers in
    let more = passings_more before after r.edges.keys x (answers_of r) a as_many c.requires.passings
    (λ k. kept_before before (passing_of x c.len-place.result) k c.requires.ready)
    (λ sends. kept_now before x c.len-place.result (length r.edges.keys) c.len-place.ensures.len) in
    passings_kept after (r.edges.keys ++ x ∷ []) s.edges.keys (answers_of r ++ a ∷ []) (answers_of s) more c.enter.ensures.edges c.enter.ensures.answers

pub returns-clause-owed : goal.returns-clause-owed
returns-clause-owed c =
    let r = c.args.records.now in
    let s = c.enter.new.self in
    let marked = subst (λ n. MarkedIf (owes s n) n c.args.owed.now.marks c.settle_at.new.owed.marks) c.len-place.ensures.len c.settle_at.ensures.marked in
    entered r s c.args.edge (choice_shape c.args.answer) c.args.owed.now.marks c.settle_at.new.owed.marks c.requires.records c.requires.passed c.requires.new c.enter.ensures.shape c.enter.ensures.answers c.requires.owed marked
