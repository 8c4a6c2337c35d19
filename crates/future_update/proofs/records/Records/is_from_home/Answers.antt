use Rattle.std.proofs.Common.{sym, ◌∙◌, ap}
use Rattle.def_journals.specs.Edges.{is_home}
use Rattle.future_update.specs.Names.{name_of}
use Rattle.future_update.specs.Records.{names_of}
use Rattle.future_update.proofs.NumberLemmas.{same_names}
use Rattle.future_update.proofs.records.Records.is_from_home.Goals as goal

pub returns-in-Some : goal.returns-in-Some
returns-in-Some c =
    let ns = names_of c.args.self.now in
    record { home = sym (same_names ns c.requires.records.names c.args.edge.from c.in-Some.home c.requires.known.from c.in-Some.ensures.home.0) ∙ ap (is_home (name_of ns c.args.edge.from)) (sym c.in-Some.ensures.home.1) }
