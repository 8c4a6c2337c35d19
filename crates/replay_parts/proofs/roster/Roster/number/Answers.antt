use Rattle.std.proofs.Common.{◌∙◌, List, ap, sym, subst}
use Rattle.asp_model.specs.Names.{Name}
use Rattle.def_journals.specs.Journals.{number_of}
use Rattle.replay_parts.specs.Roster.{IsRoster}
use Rattle.replay_parts.proofs.RosterLemmas.{absent_none, found_number}
use Rattle.replay_parts.proofs.roster.Roster.number.Goals as goal

pub returns-in-Some : goal.returns-in-Some
returns-in-Some c =
    let ns = c.self.inside.names.keys in
    let n = c.args.name.now in
    record {
      number = sym (found_number ns n c.in-Some.number c.self.invariant (sym c.in-Some.ensures.index)) ∙ ap (λ (ms : List Name). number_of n ms) c.self.view_is;
      sound = subst IsRoster c.self.view_is c.self.invariant;
    }

pub returns-in-None : goal.returns-in-None
returns-in-None c =
    let ns = c.self.inside.names.keys in
    let n = c.args.name.now in
    record {
      number = sym (absent_none ns n (sym c.in-None.ensures.found)) ∙ ap (λ (ms : List Name). number_of n ms) c.self.view_is;
      sound = subst IsRoster c.self.view_is c.self.invariant;
    }
