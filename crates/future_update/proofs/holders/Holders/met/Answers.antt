use Rattle.std.proofs.Common.{◌≡◌, ◌∙◌, ◌++◌, ◌∷◌, [], ap, false, map, refl, subst, sym}
use Rattle.future_update.specs.Records.{names_of}
use Rattle.future_update.specs.Holders.{HoldersView, is_met}
use Rattle.future_update.specs.Kept.{AreLaned, activity_entry}
use Rattle.future_update.proofs.LanedLemmas.{activities_same, member_laned, met_entries, moved}
use Rattle.future_update.proofs.HolderLemmas.{kept, rebuilt, view_kept}
use Rattle.future_update.proofs.holders.Holders.met.Goals as goal

pub invariant_of-self : goal.invariant_of-self
invariant_of-self c =
    let e = c.enter_activity.ensures in
    kept c.self.inside c.enter_activity.new.self c.self.invariant e.records e.edges e.shape e.answers e.keeps

pub returns-in_err-lane-clause-err : goal.returns-in_err-lane-clause-err
returns-in_err-lane-clause-err c =
    let s = c.self.inside in
    let e = c.enter_activity.ensures in
    view_kept s (record s { records = c.enter_activity.new.self }) c.args.self.now c.self.view_is e.shape e.answers (activities_same (names_of s.records) (names_of c.enter_activity.new.self) s.owed s.owed s.activities.items c.self.invariant.laned.members e.keeps (λ k. refl)) c.from_residual.result

pub invariant_of-self-in_err-make_lane : goal.invariant_of-self-in_err-make_lane
invariant_of-self-in_err-make_lane c =
    let s = c.self.inside in
    let h = c.self.invariant in
    let e = c.enter_activity.ensures in
    let l = c.make_lane.ensures in
    rebuilt s c.enter_activity.new.self c.make_lane.new.self s.activities h e.records e.edges e.shape e.answers l.marks (moved (names_of s.records) (names_of c.enter_activity.new.self) s.records.edges.keys c.enter_activity.new.self.edges.keys s.activities.items s.owed c.make_lane.new.self h.laned e.keeps e.edges (record { lanes = l.lanes; spots = ap (λ v. v.items) l.spots; closed = l.closed; more = l.more }))

pub returns-in_err-make_lane-clause-err : goal.returns-in_err-make_lane-clause-err
returns-in_err-make_lane-clause-err c =
    let s = c.self.inside in
    let e = c.enter_activity.ensures in
    view_kept s (record s { records = c.enter_activity.new.self; owed = c.make_lane.new.self }) c.args.self.now c.self.view_is e.shape e.answers (activities_same (names_of s.records) (names_of c.enter_activity.new.self) s.owed c.make_lane.new.self s.activities.items c.self.invariant.laned.members e.keeps c.make_lane.ensures.closed) c.from_residual-in_err-make_lane.result

pub invariant_of-self-in_err-push : goal.invariant_of-self-in_err-push
invariant_of-self-in_err-push c =
    let s = c.self.inside in
    let h = c.self.invariant in
    let e = c.enter_activity.ensures in
    let l = c.make_lane.ensures in
    rebuilt s c.enter_activity.new.self c.make_lane.new.self c.push.new.self h e.records e.edges e.shape e.answers l.marks
    (subst (λ ks. AreLaned (names_of c.enter_activity.new.self) c.enter_activity.new.self.edges.keys ks c.make_lane.new.self) (sym c.in_err-push.ensures.items) (moved (names_of s.records) (names_of c.enter_activity.new.self) s.records.edges.keys c.enter_activity.new.self.edges.keys s.activities.items s.owed c.make_lane.new.self h.laned e.keeps e.edges (record { lanes = l.lanes; spots = ap (λ v. v.items) l.spots; closed = l.closed; more = l.more })))

pub returns-in_err-push-clause-err : goal.returns-in_err-push-clause-err
returns-in_err-push-clause-err c =
    let s = c.self.inside in
    let e = c.enter_activity.ensures in
    view_kept s (record s { records = c.enter_activity.new.self; owed = c.make_lane.new.self; activities = c.push.new.self }) c.args.self.now c.self.view_is e.shape e.answers
    (ap (map (activity_entry (names_of c.enter_activity.new.self) c.make_lane.new.self)) c.in_err-push.ensures.items ∙ activities_same (names_of s.records) (names_of c.enter_activity.new.self) s.owed c.make_lane.new.self s.activities.items c.self.invariant.laned.members e.keeps c.make_lane.ensures.closed) c.from_residual-in_err-push.result

pub invariant_of-self-2 : goal.invariant_of-self-2
invariant_of-self-2 c =
    let s = c.self.inside in
    let h = c.self.invariant in
    let e = c.enter_activity.ensures in
    let l = c.make_lane.ensures in
    let lane = c.in_ok-lane.lane in
    rebuilt s c.enter_activity.new.self c.make_lane.new.self c.push.new.self h e.records e.edges e.shape e.answers l.marks
    (member_laned (names_of c.enter_activity.new.self) c.enter_activity.new.self.edges.keys s.activities.items c.push.new.self.items c.make_lane.new.self lane (moved (names_of s.records) (names_of c.enter_activity.new.self) s.records.edges.keys c.enter_activity.new.self.edges.keys s.activities.items s.owed c.make_lane.new.self h.laned e.keeps e.edges (record { lanes = l.lanes; spots = ap (λ v. v.items) l.spots; closed = l.closed; more = l.more })) c.in_ok-lane.ensures.number.0 c.in_ok-make_lane.ensures.lane c.in_ok-push.ensures.items)

pub returns-clause-met : goal.returns-clause-met
returns-clause-met c =
    let s = c.self.inside in
    let h = c.self.invariant in
    let e = c.enter_activity.ensures in
    let l = c.make_lane.ensures in
    let unmet = subst (λ (v : HoldersView). is_met c.args.activity.now v.activities ≡ false) (sym c.self.view_is) c.requires.new in
    met_entries (names_of s.records) (names_of c.enter_activity.new.self) s.records.edges.keys s.owed c.make_lane.new.self c.args.activity.now c.in_ok-lane.lane s.activities.items c.push.new.self.items h.laned e.keeps l.closed c.in_ok-lane.ensures.number.1 unmet c.in_ok-push.ensures.items
    ∙ ap (λ (v : HoldersView). v.activities ++ (c.args.activity.now, false) ∷ []) c.self.view_is
