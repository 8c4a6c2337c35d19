use Rattle.std.proofs.Common.{◌∙◌, sym}
use Rattle.step_activity.proofs.RedexLemmas.{is_at, is_place, wanted_at, wanted_none}
use Rattle.step_activity.proofs.actor.Actor.wanted.Goals as goal

pub returns-in-Place : goal.returns-in-Place
returns-in-Place c = record {
  labels = λ a rs h.
      let at = is_place a c.in_ok-_place.field-0 c.in-Place._place c.in-Place.is (c.in_ok-_place.ensures.standing a h.activity) in
      sym (wanted_none a c.in-Place._place at);
}

pub returns-in-Redex : goal.returns-in-Redex
returns-in-Redex c = record {
  labels = λ a rs h.
      let at = is_at a c.in_ok-_place.field-0 c.in-Redex.redex c.in-Redex.is (c.in_ok-_place.ensures.standing a h.activity) in
      c.asked_by.ensures.labels a rs h ∙ sym (wanted_at a c.in-Redex.redex at);
}
