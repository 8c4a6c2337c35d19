use Rattle.std.proofs.Common.{◌≡◌, ◌∙◌, sym, subst, Some}
use mathlib.Core.Option.{some-injective}
use Rattle.std.proofs.lemmas.Option.{same_Some, none-some}
use Rattle.turn_hub.specs.Seats.{AllIn, Knows}
use Rattle.turn_hub.proofs.EndLemmas.{closes}
use Rattle.turn_hub.proofs.closing.empty_slot.Goals as goal

pub unreachable-requires : goal.unreachable-requires
unreachable-requires g c =
    let end = closes g.H.Lends.history g.H.Lends.out g.H.Lends.keeps c.args.table.shared.key.seats _ _ _ _ _ c.requires.idle.1 c.requires.idle.2 c.requires.all c.requires.some c.close_with-closed.ensures.values.2 in
    none-some end.0 (sym c.in-None.is ∙ some-injective c.take-value.result (Some end.0) (sym c.take-value.ensures.value ∙ end.1))

pub returns-clause-knows : goal.returns-clause-knows
returns-clause-knows g c =
    let end = closes g.H.Lends.history g.H.Lends.out g.H.Lends.keeps c.args.table.shared.key.seats _ _ _ _ _ c.requires.idle.1 c.requires.idle.2 c.requires.all c.requires.some c.close_with-closed.ensures.values.2 in
    let same : end.0 ≡ c.in-Some.value = same_Some end.0 c.in-Some.value (sym (some-injective c.take-value.result (Some end.0) (sym c.take-value.ensures.value ∙ end.1)) ∙ c.in-Some.is) in
    subst (λ (h : g.row.H.Denot). Knows g.H.Lends.history g.H.Lends.out h c.args.place.me.0) same end.2

pub returns-clause-all_in : goal.returns-clause-all_in
returns-clause-all_in g c =
    let end = closes g.H.Lends.history g.H.Lends.out g.H.Lends.keeps c.args.table.shared.key.seats _ _ _ _ _ c.requires.idle.1 c.requires.idle.2 c.requires.all c.requires.some c.close_with-closed.ensures.values.2 in
    let same : end.0 ≡ c.in-Some.value = same_Some end.0 c.in-Some.value (sym (some-injective c.take-value.result (Some end.0) (sym c.take-value.ensures.value ∙ end.1)) ∙ c.in-Some.is) in
    subst (λ (h : g.row.H.Denot). AllIn g.H.Lends.out h c.args.table.shared.key.seats) same end.3

pub returns-clause-kept : goal.returns-clause-kept
returns-clause-kept g c =
    let end = closes g.H.Lends.history g.H.Lends.out g.H.Lends.keeps c.args.table.shared.key.seats _ _ _ _ _ c.requires.idle.1 c.requires.idle.2 c.requires.all c.requires.some c.close_with-closed.ensures.values.2 in
    let same : end.0 ≡ c.in-Some.value = same_Some end.0 c.in-Some.value (sym (some-injective c.take-value.result (Some end.0) (sym c.take-value.ensures.value ∙ end.1)) ∙ c.in-Some.is) in
    subst (λ (h : g.row.H.Denot). g.H.Lends.keeps c.args.table.shared.key.first.value h) same end.4
