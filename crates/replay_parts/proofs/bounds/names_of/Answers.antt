use Rattle.std.proofs.Common.{◌≡◌, ◌∙◌, ◌+◌, ◌<◌, ◌++◌, ◌∷◌, [], ℕ, List, None, length, map, slice_index_or, sym, ap, take, arith}
use Rattle.std.specs.Global.{Vec}
use Rattle.std.proofs.lemmas.List.{map-append, take_more}
use Rattle.asp_model.specs.declared.outcome.Reception.{Reception}
use Rattle.asp_model.specs.Names.{Name}
use Rattle.def_journals.specs.Journals.{number_of}
use Rattle.replay_parts.proofs.EntryLemmas.{none_before}
use Rattle.replay_parts.proofs.bounds.names_of.Goals as goal

-- one name more
more_names : (es : List (Name × Vec Reception)) (i : ℕ) (e : Name × Vec Reception) (ns new : List Name) (n : Name) → i < length es → e ≡ slice_index_or es i e → ns ≡ map (λ x. x.0) (take i es) → n ≡ e.0 → (number_of n ns ≡ None → new ≡ ns ++ n ∷ []) → number_of (slice_index_or es i e).0 (map (λ x. x.0) (take i es)) ≡ None
    → new ≡ map (λ x. x.0) (take (i + 1) es)
more_names es i e ns new n lt is was name last none =
    let here : n ≡ (slice_index_or es i e).0 = name ∙ ap (λ (x : Name × Vec Reception). x.0) is in
    let absent : number_of n ns ≡ None = (λ j. number_of (here j) (was j)) ∙ none in
    last absent
    ∙ (λ j. was j ++ here j ∷ [])
    ∙ sym (ap (map (λ (x : Name × Vec Reception). x.0)) (take_more es i e lt) ∙ map-append (λ (x : Name × Vec Reception). x.0) (take i es) (slice_index_or es i e ∷ []))

pub loop-list-preserved : goal.loop-list-preserved
loop-list-preserved c =
    let es : List (Name × Vec Reception) = c.args.lists.now in
    let i = c.loop-list.list-index in
    let e : Name × Vec Reception = c.list-item.result in
    let lt : i < length es = omega (arith, c.loop-list-test.true) in (
      more_names es i e c.loop-list.roster c.enter.new.self c.in_ok-copy.field-0 lt c.list-item.is c.loop-list.invariant.0 c.in_ok-copy.ensures.name c.in_ok-enter.ensures.entered.last (none_before es i e c.requires.ascending lt),
      c.enter.ensures.sound,
    )
