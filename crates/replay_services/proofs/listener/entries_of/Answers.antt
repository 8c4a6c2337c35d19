use Rattle.std.proofs.Common.{◌≡◌, ◌∙◌, ◌++◌, List, map, sym, ap}
use Rattle.std.proofs.lemmas.List.{append-nil}
use Rattle.asp_model.specs.Names.{Name}
use Rattle.asp_model.specs.Shapes.{service_entry_shape}
use Rattle.replay_services.specs.declared.heard.Heard.{Heard}
use Rattle.replay_services.proofs.EntryLemmas.{entries_ascend, entries_kept, entry_from}
use Rattle.replay_services.proofs.listener.entries_of.Goals as goal

pub loop-name-init : goal.loop-name-init
loop-name-init c = record {
  made = (λ i. map service_entry_shape (c.in_ok-entries.ensures.items i) ++ map entry_from (c.into_iter-name-iterator.ensures.into_iter_gives.0 i));
}

pub returns-clause-ascending : goal.returns-clause-ascending
returns-clause-ascending c =
    let whole : map service_entry_shape c.loop-name.entries.items ≡ map entry_from c.args.heard.entries =
    sym (append-nil (map service_entry_shape c.loop-name.entries.items)) ∙ ap (λ (xs : List (Name × Heard)). map service_entry_shape c.loop-name.entries.items ++ map entry_from xs) (sym c.in-None.ensures.steps.0) ∙ c.loop-name.invariant.made in
    entries_ascend c.args.heard (map service_entry_shape c.loop-name.entries.items) whole c.requires.sorted c.len.ensures.unique

pub returns-clause-kept : goal.returns-clause-kept
returns-clause-kept c =
    let whole : map service_entry_shape c.loop-name.entries.items ≡ map entry_from c.args.heard.entries =
    sym (append-nil (map service_entry_shape c.loop-name.entries.items)) ∙ ap (λ (xs : List (Name × Heard)). map service_entry_shape c.loop-name.entries.items ++ map entry_from xs) (sym c.in-None.ensures.steps.0) ∙ c.loop-name.invariant.made in
    entries_kept c.args.heard (map service_entry_shape c.loop-name.entries.items) whole
