use Rattle.std.proofs.Common.{alloc_error}
use Rattle.asp_core.proofs.OutAfterLemmas.{home_back}
use Rattle.asp_core.proofs.finishing.bring_back.Goals as goal

pub returns-clause-home : goal.returns-clause-home
returns-clause-home g c =
    let e = c.commit.ensures in
    home_back c.args.core.now c.commit.new.self c.requires.kept c.args.lease c.requires.lease c.commit.result alloc_error e.committed e.spent c.requires.alone

pub returns-clause-stopped : goal.returns-clause-stopped
returns-clause-stopped g c = c.commit.ensures.stopped c.requires.stopped
