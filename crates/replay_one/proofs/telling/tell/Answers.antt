use Rattle.std.proofs.Common.{◌≡◌, ◌∙◌, ◌++◌, ℕ, List, OnOk, map, sym, subst}
use Rattle.asp_model.specs.Names.{Name}
use Rattle.asp_model.specs.Shapes.{line_shape}
use Rattle.law_chases.proofs.FutureLemmas.{some_is}
use Rattle.step_activity.specs.Effects.{IsGiven}
use Rattle.replay_population.specs.declared.population.Population.{Population}
use Rattle.replay_parts.proofs.ResultLemmas.{on_ok}
use Rattle.replay_parts.proofs.RosterLemmas.{number_named, number_within}
use Rattle.replay_parts.specs.Listening.{IsBefore, IsKnownBefore}
use Rattle.replay_parts.specs.Notes.{EventShape, Printed, given_by, noted_as, printed_by}
use Rattle.replay_one.proofs.TellLemmas.{lines_behind, told_given}
use Rattle.replay_one.proofs.telling.tell.Goals as goal

pub name-by-requires : goal.name-by-requires
name-by-requires g c = let n = c.requires.known in record { within = number_within c.args.population.now.roster n.0 c.args.number n.1 }

pub returns : goal.returns
returns g c = record {
  told = λ xs k n a e t known pop has at given.
      let p : Population = c.args.population.now in
      let m : Name = c.name-by.result.now in
      let name : m ≡ n = some_is (sym c.name-by.ensures.name ∙ number_named p.roster n c.args.number has) in
      let b : IsBefore c.in-Some.before a = subst (IsKnownBefore (g.N.Notes.tells c.args.notes.now) a) c.in-Some.is known in
      let f = noted_as m a.reductions in
      let zs = xs ++ map f (given_by e) in
      let handed = subst (λ (j : ℕ). g.N.Notes.tells c.tell_given.new.notes (xs ++ map (noted_as m j) (given_by e))) b.count (c.in_ok-tell_given.ensures.told xs e t (subst (λ (w : Name). IsGiven w e c.args.given.now) (sym name) given)) in
      let lines = lines_behind c.behind-lines.result.now c.lines_of.result.now c.in-Some.before.lines a e.own c.behind-lines.ensures b.lines (c.lines_of.ensures.lines k e.own n pop has at) in
      let printed = subst (λ (x : List EventShape). OnOk c.tell_lines.result (g.N.Notes.tells c.tell_lines.new.notes (zs ++ map f x))) lines (subst (λ (j : ℕ). OnOk c.tell_lines.result (g.N.Notes.tells c.tell_lines.new.notes (zs ++ map (noted_as m j) (map Printed (map line_shape c.behind-lines.result.now))))) b.count (c.tell_lines.ensures.told zs handed)) in
      subst (λ (w : Name). OnOk c.tell_lines.result (g.N.Notes.tells c.tell_lines.new.notes (xs ++ map (noted_as w a.reductions) (given_by e ++ printed_by a e.own)))) name
      (on_ok c.tell_lines.result _ _ (told_given (g.N.Notes.tells c.tell_lines.new.notes) xs m a e) printed);
}
