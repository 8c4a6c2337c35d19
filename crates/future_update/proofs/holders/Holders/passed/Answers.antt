use Rattle.std.proofs.Common.{◌≡◌, ◌∙◌, ◌++◌, ◌∷◌, [], List, length, refl, sym, ap, arith}
use Rattle.future_update.specs.declared.numbered.Edge.{Edge}
use Rattle.future_update.specs.Records.{answers_of, names_of}
use Rattle.future_update.proofs.LanedLemmas.{activities_same, grown_laned, keeps_lanes, keeps_on, keeps_same, moved}
use Rattle.future_update.specs.Numbered.{edge_at}
use Rattle.future_update.specs.Passings.{passing_of}
use Rattle.future_update.proofs.HolderLemmas.{kept, owes_same, passings_kept, view_kept}
use Rattle.future_update.specs.Holders.{HoldersView}
use Rattle.future_update.proofs.holders.Holders.passed.Goals as goal

pub invariant_of-self : goal.invariant_of-self
invariant_of-self g c =
    let e = c.enter_edge.ensures in
    kept c.self.inside c.enter_edge.new.self c.self.invariant e.records e.edges e.shape e.answers e.keeps

pub invariant_of-self-then-is_no_edge : goal.invariant_of-self-then-is_no_edge
invariant_of-self-then-is_no_edge g c =
    let e = c.enter_edge.ensures in
    kept c.self.inside c.enter_edge.new.self c.self.invariant e.records e.edges e.shape e.answers e.keeps

pub invariant_of-self-in_err-make_room : goal.invariant_of-self-in_err-make_room
invariant_of-self-in_err-make_room g c =
    let s = c.self.inside in
    let h = c.self.invariant in
    let e = c.enter_edge.ensures in
    let m = c.make_room.ensures in
    record {
      records = m.records;
      passings = λ p sends. m.passings (passing_of (edge_at c.make_room.new.records.edges.keys p) p) (passings_kept s.passings s.records.edges.keys c.make_room.new.records.edges.keys (answers_of s.records) (answers_of c.make_room.new.records) h.passings (m.edges ∙ e.edges) (m.answers ∙ e.answers) p sends);
      owed = λ p. m.marks p ∙ h.owed p ∙ sym (owes_same s.records c.make_room.new.records (m.shape ∙ e.shape) (m.answers ∙ e.answers) p);
      laned = moved (names_of s.records) (names_of c.make_room.new.records) s.records.edges.keys c.make_room.new.records.edges.keys s.activities.items s.owed c.make_room.new.owed h.laned (keeps_on (names_of s.records) (names_of c.enter_edge.new.self) (names_of c.make_room.new.records) e.keeps m.names) (m.edges ∙ e.edges) (record { lanes = m.lanes; spots = c.in_err-make_room.ensures.err; closed = m.closed; more = m.more });
    }

pub invariant_of-self-2 : goal.invariant_of-self-2
invariant_of-self-2 g c =
    let s = c.self.inside in
    let h = c.self.invariant in
    let x = c.in_ok-edge.edge in
    let e = c.enter_edge.ensures in
    let m = c.make_room.ensures in
    let before = moved (names_of s.records) (names_of c.enter_edge.new.self) s.records.edges.keys c.enter_edge.new.self.edges.keys s.activities.items s.owed s.owed h.laned e.keeps e.edges (keeps_lanes s.owed h.laned.lanes) in
    let grown = c.enter.ensures.edges ∙ ap (λ (es : List Edge). es ++ x ∷ []) m.edges in
    let between = grown_laned (names_of c.enter_edge.new.self) c.enter_edge.new.self.edges.keys c.enter.new.records.edges.keys s.activities.items s.owed c.make_room.new.owed x before m.lanes c.in_ok-make_room.ensures.place m.closed m.more grown in
    record {
      records = c.enter.ensures.records;
      passings = c.enter.ensures.passings;
      owed = c.enter.ensures.owed;
      laned = moved (names_of c.enter_edge.new.self) (names_of c.enter.new.records) c.enter.new.records.edges.keys c.enter.new.records.edges.keys s.activities.items c.make_room.new.owed c.enter.new.owed between (keeps_same (names_of c.enter_edge.new.self) (names_of c.enter.new.records) (c.enter.ensures.names ∙ m.names)) refl c.enter.ensures.lanes;
    }

pub enter-requires-clause-passings : goal.enter-requires-clause-passings
enter-requires-clause-passings g c =
    let s = c.self.inside in
    let e = c.enter_edge.ensures in
    let m = c.make_room.ensures in
    λ p sends. m.passings (passing_of (edge_at c.make_room.new.records.edges.keys p) p) (passings_kept s.passings s.records.edges.keys c.make_room.new.records.edges.keys (answers_of s.records) (answers_of c.make_room.new.records) c.self.invariant.passings (m.edges ∙ e.edges) (m.answers ∙ e.answers) p sends)

pub enter-requires-clause-room : goal.enter-requires-clause-room
enter-requires-clause-room g c =
    let h = c.self.invariant in
    let e = c.enter_edge.ensures in
    let m = c.make_room.ensures in
    let place = c.in_ok-make_room.ensures.place in
    let same : length c.make_room.new.records.edges.keys ≡ length c.self.inside.records.edges.keys = ap (λ (es : List Edge). length es) (m.edges ∙ e.edges) in
    omega (arith, same, h.laned.size, place.more)

pub returns-in_err-edge-clause-activities : goal.returns-in_err-edge-clause-activities
returns-in_err-edge-clause-activities g c =
    let s = c.self.inside in
    let e = c.enter_edge.ensures in
    activities_same (names_of s.records) (names_of c.enter_edge.new.self) s.owed s.owed s.activities.items c.self.invariant.laned.members e.keeps (λ k. refl)
    ∙ ap (λ (v : HoldersView). v.activities) c.self.view_is

pub returns-in_err-edge-clause-err : goal.returns-in_err-edge-clause-err
returns-in_err-edge-clause-err g c =
    let s = c.self.inside in
    let e = c.enter_edge.ensures in
    view_kept s (record s { records = c.enter_edge.new.self }) c.args.self.now c.self.view_is e.shape e.answers (activities_same (names_of s.records) (names_of c.enter_edge.new.self) s.owed s.owed s.activities.items c.self.invariant.laned.members e.keeps (λ k. refl)) c.from_residual.result

pub returns-then-is_no_edge-clause-activities : goal.returns-then-is_no_edge-clause-activities
returns-then-is_no_edge-clause-activities g c =
    let s = c.self.inside in
    let e = c.enter_edge.ensures in
    activities_same (names_of s.records) (names_of c.enter_edge.new.self) s.owed s.owed s.activities.items c.self.invariant.laned.members e.keeps (λ k. refl)
    ∙ ap (λ (v : HoldersView). v.activities) c.self.view_is

pub returns-in_err-make_room-clause-activities : goal.returns-in_err-make_room-clause-activities
returns-in_err-make_room-clause-activities g c =
    let s = c.self.inside in
    let e = c.enter_edge.ensures in
    let m = c.make_room.ensures in
    activities_same (names_of s.records) (names_of c.make_room.new.records) s.owed c.make_room.new.owed s.activities.items c.self.invariant.laned.members (keeps_on (names_of s.records) (names_of c.enter_edge.new.self) (names_of c.make_room.new.records) e.keeps m.names) m.closed
    ∙ ap (λ (v : HoldersView). v.activities) c.self.view_is

pub returns-in_err-make_room-clause-err : goal.returns-in_err-make_room-clause-err
returns-in_err-make_room-clause-err g c =
    let s = c.self.inside in
    let e = c.enter_edge.ensures in
    let m = c.make_room.ensures in
    view_kept s (record s { records = c.make_room.new.records; owed = c.make_room.new.owed; passings = c.make_room.new.passings }) c.args.self.now c.self.view_is (m.shape ∙ e.shape) (m.answers ∙ e.answers) (activities_same (names_of s.records) (names_of c.make_room.new.records) s.owed c.make_room.new.owed s.activities.items c.self.invariant.laned.members (keeps_on (names_of s.records) (names_of c.enter_edge.new.self) (names_of c.make_room.new.records) e.keeps m.names) m.closed) c.from_residual-in_err-make_room.result

pub returns-clause-activities : goal.returns-clause-activities
returns-clause-activities g c =
    let s = c.self.inside in
    let e = c.enter_edge.ensures in
    let m = c.make_room.ensures in
    activities_same (names_of s.records) (names_of c.enter.new.records) s.owed c.enter.new.owed s.activities.items c.self.invariant.laned.members (keeps_on (names_of s.records) (names_of c.enter_edge.new.self) (names_of c.enter.new.records) e.keeps (c.enter.ensures.names ∙ m.names)) (λ k. c.enter.ensures.lanes.closed k ∙ m.closed k)
    ∙ ap (λ (v : HoldersView). v.activities) c.self.view_is
