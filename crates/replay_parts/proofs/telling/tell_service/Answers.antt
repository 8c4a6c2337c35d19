use Rattle.std.proofs.Common.{◌≡◌, ◌∙◌, ◌∷◌, [], true, false, map, refl, sym, ap, rules}
use Rattle.asp_model.specs.Term.{has_text}
use Rattle.law_steps.specs.Waking.{labels_wanted}
use Rattle.serve_rules.specs.Labels.{has_some}
use Rattle.replay_parts.specs.Notes.{Served, noted_as, served_by}
use Rattle.replay_parts.proofs.NoteLemmas.{told_quiet, told_same}
use Rattle.replay_parts.proofs.TellLemmas.{none_served, some_served}
use Rattle.replay_parts.proofs.ResultLemmas.{on_ok}
use Rattle.replay_parts.proofs.telling.tell_service.Goals as goal

pub returns-then-not-asks : goal.returns-then-not-asks
returns-then-not-asks g c = record {
  told = λ xs a t count same.
      let ls = labels_wanted a in
      let f = noted_as c.args.by.now a.reductions in
      let no : c.asks.result ≡ false = search rules in
      let e : has_some ls ≡ false = ap has_some (sym same) ∙ sym c.asks.ensures.asks ∙ no in
      told_quiet (g.N.Notes.tells c.args.notes.now) xs (map f (served_by ls)) (ap (map f) (none_served ls e)) t;
}

pub returns : goal.returns
returns g c = record {
  told = λ xs a t count same.
      let ls = labels_wanted a in
      let f = noted_as c.args.by.now a.reductions in
      let yes : c.asks.result ≡ true = search rules in
      let e : has_some ls ≡ true = ap has_some (sym same) ∙ sym c.asks.ensures.asks ∙ yes in
      on_ok c.note.result _ _ (told_same (g.N.Notes.tells c.note.new.self) xs (f (Served ls) ∷ []) (map f (served_by ls)) (sym (ap (map f) (some_served ls e))))
      (c.note.ensures.told xs (f (Served ls)) t (record { by = refl; count = count; event = λ l. ap (has_text l) same }));
}
