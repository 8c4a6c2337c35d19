use Rattle.std.proofs.Common.{◌≡◌, Option, Some, None, Bool, true, false, is_some, refl, sym, ap, subst}
use Rattle.std.specs.Prelude.{◌||◌, ◌&&◌}
use Rattle.asp_model.specs.Configuration as model
use Rattle.asp_model.specs.Names.{Name}
use Rattle.step_activity.specs.declared.actor.Actor.{Actor}
use Rattle.step_activity.specs.declared.act.Given.TheVariants as given
use Rattle.step_activity.specs.Effects.{IsGiven, IsMade}
use Rattle.journal_runs.proofs.stepping.stops.Goals as goal

made_some : (o : Option (Name × model.Activity)) (n : Name) (x : Actor) → IsMade o n x → is_some o ≡ true
made_some None n x h = absurd h
made_some (Some z) n x h = refl

with_true : (m g : Bool) → true ≡ g → m ≡ (m && g)
with_true true g e = e
with_true false g e = refl

with_false : (m g : Bool) → false ≡ g → false ≡ (m && g)
with_false true g e = e
with_false false g e = refl

any_true : (a b : Bool) → b ≡ true → (a || b) ≡ true
any_true true b h = refl
any_true false b h = h

pub returns-in-Made : goal.returns-in-Made
returns-in-Made c = record {
  stops = λ n e h. let g = subst (IsGiven n e) c.in-Made.is h in with_true c.args.more _ (sym (any_true (is_some e.sent) (is_some e.made) (made_some e.made _ _ g.1)));
}

pub returns-in-Sent : goal.returns-in-Sent
returns-in-Sent c = record {
  stops = λ n e h. let g = subst (IsGiven n e) c.in-Sent.is h in with_true c.args.more _ (sym (ap (λ o. is_some o || is_some e.made) g.0));
}

pub returns-in-Nothing : goal.returns-in-Nothing
returns-in-Nothing c = record {
  stops = λ n e h. let g = subst (IsGiven n e) c.in-Nothing.is h in with_false c.args.more _ (λ i. is_some (sym g.0 i) || is_some (sym g.1 i));
}

pub returns-in-Filled : goal.returns-in-Filled
returns-in-Filled c = record {
  stops = λ n e h. let g = subst (IsGiven n e) c.in-Filled.is h in with_false c.args.more _ (λ i. is_some (sym g.0 i) || is_some (sym g.1 i));
}

pub returns-in-Polled : goal.returns-in-Polled
returns-in-Polled c = record {
  stops = λ n e h. let g = subst (IsGiven n e) c.in-Polled.is h in with_false c.args.more _ (λ i. is_some (sym g.0 i) || is_some (sym g.1 i));
}
