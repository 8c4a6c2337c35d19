use Rattle.std.proofs.Common.{◌+◌, ◌∙◌, Option, ap, subst, sym, string_bytes}
use Rattle.std.specs.Prelude.{string_eq}
use Rattle.indexmap.specs.IndexMap.{insert_entry}
use Rattle.outcomes_text.specs.declared.tally.Share.{Share}
use Rattle.outcomes_text.specs.Outcomes.{with_end}
use Rattle.outcomes_text.specs.Tallies.{AreFew, AreWithin, outcomes_in, share_with}
use Rattle.outcomes_text.proofs.TallyLemmas.{are_within, counted, few_found}
use Rattle.outcomes_text.proofs.tally.Tally.add.Goals as goal

pub share_with_one-share-requires : goal.share_with_one-share-requires
share_with_one-share-requires c = record {
  few = subst (AreFew c.args.number) (sym c.get.ensures.value) (few_found c.args.number (string_eq c.args.text) c.self.inside.outcomes.entries (subst (AreWithin c.args.number) (sym c.self.view_is) c.requires.within));
  room = c.requires.room;
}

pub returns-clause-counted : goal.returns-clause-counted
returns-clause-counted c =
    ap outcomes_in c.in_ok-insert.ensures.entries
    ∙ ap (λ (s : Share). outcomes_in (insert_entry string_eq c.self.inside.outcomes.entries c.args.text s)) c.share_with_one-share.ensures.more
    ∙ ap (λ (o : Option Share). outcomes_in (insert_entry string_eq c.self.inside.outcomes.entries c.args.text (share_with c.args.number o))) c.get.ensures.value
    ∙ counted c.args.number c.args.text c.self.inside.outcomes.entries
    ∙ ap (with_end c.args.number (string_bytes c.args.text)) c.self.view_is

pub returns-clause-within : goal.returns-clause-within
returns-clause-within c =
    let os = outcomes_in c.self.inside.outcomes.entries in
    subst (AreWithin (c.args.number + 1))
    (sym (ap outcomes_in c.in_ok-insert.ensures.entries
    ∙ ap (λ (s : Share). outcomes_in (insert_entry string_eq c.self.inside.outcomes.entries c.args.text s)) c.share_with_one-share.ensures.more
    ∙ ap (λ (o : Option Share). outcomes_in (insert_entry string_eq c.self.inside.outcomes.entries c.args.text (share_with c.args.number o))) c.get.ensures.value
    ∙ counted c.args.number c.args.text c.self.inside.outcomes.entries))
    (are_within c.args.number (string_bytes c.args.text) os (subst (AreWithin c.args.number) (sym c.self.view_is) c.requires.within))
