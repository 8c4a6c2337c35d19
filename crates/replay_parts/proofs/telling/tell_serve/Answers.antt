use Rattle.std.proofs.Common.{◌≡◌, ◌∙◌, ◌∷◌, [], true, false, refl, sym, ap, rules}
use Rattle.asp_model.specs.Term.{has_text}
use Rattle.law_steps.specs.Waking.{labels_wanted}
use Rattle.serve_rules.specs.Labels.{has_some}
use Rattle.replay_parts.specs.Notes.{places_by, standing}
use Rattle.replay_parts.proofs.NoteLemmas.{told_quiet, told_same}
use Rattle.replay_parts.proofs.TellLemmas.{none_placed, some_placed}
use Rattle.replay_parts.proofs.ResultLemmas.{on_ok}
use Rattle.replay_parts.proofs.telling.tell_serve.Goals as goal

pub returns-then-not-asks : goal.returns-then-not-asks
returns-then-not-asks g c = record {
  told = λ xs a t count same.
      let n = c.args.by.now in
      let ls = labels_wanted a in
      let no : c.asks.result ≡ false = search rules in
      let e : has_some ls ≡ false = ap has_some (sym same) ∙ sym c.asks.ensures.asks ∙ no in
      told_quiet (g.N.Notes.tells c.args.notes.now) xs (places_by n a ls) (none_placed n a ls e) t;
}

pub returns : goal.returns
returns g c = record {
  told = λ xs a t count same.
      let n = c.args.by.now in
      let ls = labels_wanted a in
      let yes : c.asks.result ≡ true = search rules in
      let e : has_some ls ≡ true = ap has_some (sym same) ∙ sym c.asks.ensures.asks ∙ yes in
      on_ok c.note.result _ _ (told_same (g.N.Notes.tells c.note.new.self) xs (standing n a ∷ []) (places_by n a ls) (sym (some_placed n a ls e)))
      (c.note.ensures.told xs (standing n a) t (record { by = refl; count = count; event = λ l. ap (has_text l) same }));
}
