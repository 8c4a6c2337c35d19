use Rattle.std.proofs.Common.{◌≡◌, ◌∙◌, ◌<◌, ◌≤◌, List, Some, None, length, map, slice_index_or, sym, ap, subst}
use Rattle.std.specs.FinMap.{find}
use Rattle.std.specs.Global.{Vec}
use Rattle.asp_model.specs.declared.outcome.Reception.{Reception}
use Rattle.asp_model.specs.Configuration.{ReceptionShape}
use Rattle.asp_model.specs.Names.{Name, name_cmp}
use Rattle.asp_model.specs.Shapes.{reception_shape}
use Rattle.asp_model.specs.Step.{reception_at}
use Rattle.replay_parts.proofs.EntryLemmas.{entry_numbered, log_found, no_log, none_numbered}
use Rattle.run_waits.proofs.cuts.entries.entry_at.Goals as goal

pub returns-in-Some : goal.returns-in-Some
returns-in-Some c = record {
  entry = λ ns n roster leads has.
      let es : List (Name × Vec Reception) = c.args.lists.now.entries.items in
      let x : Name × Vec Reception = c.in-Some.list.now in
      let k = c.args.to in
      let within : k < length es = subst (λ (xs : List (Name × Vec Reception)). k < length xs) c.deref.ensures.value c.in-Some.ensures.lookup.3.0 in
      let is : x ≡ slice_index_or es k x = subst (λ (xs : List (Name × Vec Reception)). x ≡ slice_index_or xs k x) c.deref.ensures.value c.in-Some.ensures.lookup.1 in
      let here : Some x.1 ≡ find name_cmp n es = entry_numbered es ns n k x c.requires.ascending leads has within is in
      c.entry_among.ensures.entry ∙ ap (λ (xs : List Reception). reception_at (map reception_shape xs) c.args.place) c.deref-in-Some.ensures.value ∙ ap (λ (l : List ReceptionShape). reception_at l c.args.place) (sym (log_found es n x.1 here));
}

pub returns-in-None : goal.returns-in-None
returns-in-None c = record {
  entry = λ ns n roster leads has.
      let es : List (Name × Vec Reception) = c.args.lists.now.entries.items in
      let k = c.args.to in
      let past : length es ≤ k = subst (λ (xs : List (Name × Vec Reception)). length xs ≤ k) c.deref.ensures.value c.in-None.ensures.lookup.3 in
      let here : None ≡ find name_cmp n es = none_numbered es ns n k roster leads has past in
      sym (ap (λ (xs : List ReceptionShape). reception_at xs c.args.place) (no_log es n here));
}
