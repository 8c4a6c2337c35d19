use Rattle.std.proofs.Common.{◌∙◌, ap, refl, sym, arith}
use Rattle.future_update.specs.Names.{future_of, name_of}
use Rattle.future_update.specs.Records.{answers_of, names_of, shape_of}
use Rattle.future_update.proofs.LanedLemmas.{activities_same, keeps_on}
use Rattle.future_update.specs.Holders.{HoldersView}
use Rattle.future_update.proofs.HolderLemmas.{first_received, kept, owes_same, passings_kept, receive_left, receive_sound, received_before, settled, view_kept}
use Rattle.future_update.proofs.holders.Holders.received.Goals as goal

pub invariant_of-self : goal.invariant_of-self
invariant_of-self c =
    let e = c.enter_receipt.ensures in
    kept c.self.inside c.enter_receipt.new.self c.self.invariant e.records e.edges e.shape e.answers e.keeps

pub invariant_of-self-in_err-receive : goal.invariant_of-self-in_err-receive
invariant_of-self-in_err-receive c =
    let e = c.enter_receipt.ensures in
    let g = c.receive.ensures in
    kept c.self.inside c.receive.new.self c.self.invariant g.records (g.edges ∙ e.edges) (c.in_err-receive.ensures.err ∙ e.shape) (g.answers ∙ e.answers) (keeps_on (names_of c.self.inside.records) (names_of c.enter_receipt.new.self) (names_of c.receive.new.self) e.keeps g.names)

pub settle-requires-clause-sound : goal.settle-requires-clause-sound
settle-requires-clause-sound c =
    let s = c.self.inside in
    let r = c.enter_receipt.new.self in
    let x = c.in_ok-receipt.receipt in
    let f = future_of (names_of r) x.future in
    let n = name_of (names_of r) x.by in
    let shape = c.in_ok-receive.ensures.shape ∙ first_received f n (shape_of r) (sym c.if-branch.true ∙ c.in_ok-receive.ensures.first) in
    λ p e. receive_sound r c.receive.new.self f n shape c.receive.ensures.answers p (owes_same s.records r c.enter_receipt.ensures.shape c.enter_receipt.ensures.answers p ∙ sym (c.self.invariant.owed p) ∙ e)

pub settle-requires-clause-left : goal.settle-requires-clause-left
settle-requires-clause-left c =
    let s = c.self.inside in
    let r = c.enter_receipt.new.self in
    let x = c.in_ok-receipt.receipt in
    let f = future_of (names_of r) x.future in
    let n = name_of (names_of r) x.by in
    let shape = c.in_ok-receive.ensures.shape ∙ first_received f n (shape_of r) (sym c.if-branch.true ∙ c.in_ok-receive.ensures.first) in
    λ p e u. let left = receive_left r c.receive.new.self c.enter_receipt.ensures.records x.future x.by c.in_ok-receipt.ensures.future.0 c.in_ok-receipt.ensures.by.0 c.receive.ensures.edges shape c.receive.ensures.answers p e (owes_same s.records r c.enter_receipt.ensures.shape c.enter_receipt.ensures.answers p ∙ sym (c.self.invariant.owed p) ∙ u) in
    record { future = left.0; least = omega (arith, left.1); most = omega (arith, left.1) }

pub settle-requires-clause-passings : goal.settle-requires-clause-passings
settle-requires-clause-passings c =
    let r = c.self.inside.records in
    let s = c.receive.new.self in
    passings_kept c.self.inside.passings r.edges.keys s.edges.keys (answers_of r) (answers_of s) c.self.invariant.passings (c.receive.ensures.edges ∙ c.enter_receipt.ensures.edges) (c.receive.ensures.answers ∙ c.enter_receipt.ensures.answers)

pub invariant_of-self-then-branch : goal.invariant_of-self-then-branch
invariant_of-self-then-branch c = settled c.self.inside c.receive.new.self c.settle.new.owed c.self.invariant c.receive.ensures.records (c.receive.ensures.edges ∙ c.enter_receipt.ensures.edges) (c.receive.ensures.answers ∙ c.enter_receipt.ensures.answers) (keeps_on (names_of c.self.inside.records) (names_of c.enter_receipt.new.self) (names_of c.receive.new.self) c.enter_receipt.ensures.keeps c.receive.ensures.names) c.settle.ensures.lanes c.settle.ensures.marked

pub invariant_of-self-else-branch : goal.invariant_of-self-else-branch
invariant_of-self-else-branch c =
    let r = c.enter_receipt.new.self in
    let x = c.in_ok-receipt.receipt in
    let f = future_of (names_of r) x.future in
    let n = name_of (names_of r) x.by in
    let shape = c.in_ok-receive.ensures.shape ∙ received_before f n (shape_of r) (sym c.if-branch.false ∙ c.in_ok-receive.ensures.first) in
    kept c.self.inside c.receive.new.self c.self.invariant c.receive.ensures.records (c.receive.ensures.edges ∙ c.enter_receipt.ensures.edges) (shape ∙ c.enter_receipt.ensures.shape) (c.receive.ensures.answers ∙ c.enter_receipt.ensures.answers) (keeps_on (names_of c.self.inside.records) (names_of c.enter_receipt.new.self) (names_of c.receive.new.self) c.enter_receipt.ensures.keeps c.receive.ensures.names)

pub returns-in_err-receipt-clause-activities : goal.returns-in_err-receipt-clause-activities
returns-in_err-receipt-clause-activities c =
    let s = c.self.inside in
    let e = c.enter_receipt.ensures in
    activities_same (names_of s.records) (names_of c.enter_receipt.new.self) s.owed s.owed s.activities.items c.self.invariant.laned.members e.keeps (λ k. refl)
    ∙ ap (λ (v : HoldersView). v.activities) c.self.view_is

pub returns-in_err-receipt-clause-err : goal.returns-in_err-receipt-clause-err
returns-in_err-receipt-clause-err c =
    let s = c.self.inside in
    let e = c.enter_receipt.ensures in
    view_kept s (record s { records = c.enter_receipt.new.self }) c.args.self.now c.self.view_is e.shape e.answers (activities_same (names_of s.records) (names_of c.enter_receipt.new.self) s.owed s.owed s.activities.items c.self.invariant.laned.members e.keeps (λ k. refl)) c.from_residual.result

pub returns-in_err-receive-clause-activities : goal.returns-in_err-receive-clause-activities
returns-in_err-receive-clause-activities c =
    let s = c.self.inside in
    let e = c.enter_receipt.ensures in
    activities_same (names_of s.records) (names_of c.receive.new.self) s.owed s.owed s.activities.items c.self.invariant.laned.members (keeps_on (names_of s.records) (names_of c.enter_receipt.new.self) (names_of c.receive.new.self) e.keeps c.receive.ensures.names) (λ k. refl)
    ∙ ap (λ (v : HoldersView). v.activities) c.self.view_is

pub returns-in_err-receive-clause-err : goal.returns-in_err-receive-clause-err
returns-in_err-receive-clause-err c =
    let s = c.self.inside in
    let e = c.enter_receipt.ensures in
    view_kept s (record s { records = c.receive.new.self }) c.args.self.now c.self.view_is (c.in_err-receive.ensures.err ∙ e.shape) (c.receive.ensures.answers ∙ e.answers) (activities_same (names_of s.records) (names_of c.receive.new.self) s.owed s.owed s.activities.items c.self.invariant.laned.members (keeps_on (names_of s.records) (names_of c.enter_receipt.new.self) (names_of c.receive.new.self) e.keeps c.receive.ensures.names) (λ k. refl)) c.from_residual-in_err-receive.result

pub returns-then-branch-clause-activities : goal.returns-then-branch-clause-activities
returns-then-branch-clause-activities c =
    let s = c.self.inside in
    let e = c.enter_receipt.ensures in
    activities_same (names_of s.records) (names_of c.receive.new.self) s.owed c.settle.new.owed s.activities.items c.self.invariant.laned.members (keeps_on (names_of s.records) (names_of c.enter_receipt.new.self) (names_of c.receive.new.self) e.keeps c.receive.ensures.names) c.settle.ensures.lanes.closed
    ∙ ap (λ (v : HoldersView). v.activities) c.self.view_is

pub returns-else-branch-clause-activities : goal.returns-else-branch-clause-activities
returns-else-branch-clause-activities c =
    let s = c.self.inside in
    let e = c.enter_receipt.ensures in
    activities_same (names_of s.records) (names_of c.receive.new.self) s.owed s.owed s.activities.items c.self.invariant.laned.members (keeps_on (names_of s.records) (names_of c.enter_receipt.new.self) (names_of c.receive.new.self) e.keeps c.receive.ensures.names) (λ k. refl)
    ∙ ap (λ (v : HoldersView). v.activities) c.self.view_is
