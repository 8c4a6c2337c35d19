use Rattle.std.proofs.Common.{◌≡◌, ◌<◌, ◌∙◌, false, length, sym, ap, arith, subst}
use Rattle.std.proofs.lemmas.List.{length-map}
use Rattle.def_journals.specs.Edges.{has_edge}
use Rattle.future_update.specs.Holders.{HoldersView, edge_in, is_delivered, with_delivery}
use Rattle.future_update.specs.Names.{edge_of}
use Rattle.future_update.specs.Numbered.{edge_at}
use Rattle.future_update.specs.Records.{names_of, shape_of}
use Rattle.future_update.proofs.PlaceLemmas.{edge_stands}
use Rattle.future_update.proofs.LanedLemmas.{keeps_same}
use Rattle.future_update.proofs.HolderLemmas.{delivered_holders}
use Rattle.future_update.proofs.holders.Holders.delivered.Goals as goal

pub deliver-requires-clause-open : goal.deliver-requires-clause-open
deliver-requires-clause-open c =
    let r = c.self.inside.records in
    let within : c.args.place < length r.edges.keys = subst (λ n. c.args.place < n) (length-map r.edges.keys (edge_of (names_of r))) (subst (λ (v : HoldersView). c.args.place < length v.holders.edges) (sym c.self.view_is) c.requires.within) in
    sym (ap (λ x. is_delivered (shape_of r) x) (edge_stands r c.args.place within)) ∙ subst (λ (v : HoldersView). is_delivered v.holders (edge_in v c.args.place) ≡ false) (sym c.self.view_is) c.requires.open

pub invariant_of-self : goal.invariant_of-self
invariant_of-self c =
    let s = c.self.inside in
    let r = c.self.inside.records in
    let within : c.args.place < length r.edges.keys = subst (λ n. c.args.place < n) (length-map r.edges.keys (edge_of (names_of r))) (subst (λ (v : HoldersView). c.args.place < length v.holders.edges) (sym c.self.view_is) c.requires.within) in
    let open_edge : has_edge (edge_of (names_of r) (edge_at r.edges.keys c.args.place)) (shape_of r).delivered ≡ false = sym (ap (λ x. is_delivered (shape_of r) x) (edge_stands r c.args.place within)) ∙ subst (λ (v : HoldersView). is_delivered v.holders (edge_in v c.args.place) ≡ false) (sym c.self.view_is) c.requires.open in
    let e = c.deliver.ensures in
    delivered_holders s c.deliver.new.self c.set.new.self c.args.place c.self.invariant within e.records e.edges e.shape open_edge e.answers (keeps_same (names_of r) (names_of c.deliver.new.self) e.names) (record { lanes = c.set.ensures.lanes; spots = ap (λ v. v.items) c.set.ensures.spots; closed = c.set.ensures.closed; more = omega (arith, c.set.ensures.lane_count) }) c.set.ensures.marked

pub returns-clause-delivered : goal.returns-clause-delivered
returns-clause-delivered c =
    let r = c.self.inside.records in
    let within : c.args.place < length r.edges.keys = subst (λ n. c.args.place < n) (length-map r.edges.keys (edge_of (names_of r))) (subst (λ (v : HoldersView). c.args.place < length v.holders.edges) (sym c.self.view_is) c.requires.within) in
    c.deliver.ensures.shape ∙ sym (ap (λ x. with_delivery (shape_of r) x) (edge_stands r c.args.place within)) ∙ ap (λ (v : HoldersView). with_delivery v.holders (edge_in v c.args.place)) c.self.view_is

pub set-requires-clause-within : goal.set-requires-clause-within
set-requires-clause-within c =
    let r = c.self.inside.records in
    let within : c.args.place < length r.edges.keys = subst (λ n. c.args.place < n) (length-map r.edges.keys (edge_of (names_of r))) (subst (λ (v : HoldersView). c.args.place < length v.holders.edges) (sym c.self.view_is) c.requires.within) in
    omega (arith, within, c.self.invariant.laned.size)
