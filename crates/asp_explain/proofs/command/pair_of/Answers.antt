use Rattle.std.proofs.Common.{◌∙◌, ap, Some, None}
use Rattle.clap.specs.Matches.{found_of}
use Rattle.clap.proofs.WalkLemmas.{raw_values-rows}
use Rattle.asp_explain.specs.Words.{pair_in}
use Rattle.asp_explain.proofs.command.pair_of.Goals as goal

pub returns-in-Some : goal.returns-in-Some
returns-in-Some c = c.two_of.ensures ∙ ap pair_in (c.in-Some.ensures ∙ raw_values-rows (found_of c.args.matches.now) c.args.id.now)

pub returns-in-None : goal.returns-in-None
returns-in-None c = ap pair_in (c.in-None.ensures ∙ raw_values-rows (found_of c.args.matches.now) c.args.id.now)
