use Rattle.std.proofs.Common.{◌≡◌, Some, true, rules, subst}
use Rattle.asp_model.specs.Names.{Name, same_name}
use Rattle.asp_model.specs.Order.{same_name_same}
use Rattle.def_journals.specs.Journals.{number_of}
use Rattle.replay_parts.proofs.roster.Roster.has.Goals as goal

pub returns : goal.returns
returns c = record {
  has = λ t.
      let n : Name = c.name.result.now in
      let same : same_name n c.args.name.now ≡ true = search rules in
      subst (λ (m : Name). number_of m c.args.self.now ≡ Some c.args.number) (same_name_same n c.args.name.now same) (c.len.ensures.sound.numbers c.args.number n c.name.ensures.name);
}
