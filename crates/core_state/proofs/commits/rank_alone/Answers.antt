use Rattle.std.proofs.Common.{◌∙◌, ap, sym}
use Rattle.asp_model.specs.Chase.{chase}
use Rattle.future_table.specs.Values.{values_of}
use Rattle.core_state.specs.Returning.{rank_stance}
use Rattle.core_state.proofs.ComeBackLemmas.{stance_rank}
use Rattle.core_state.specs.Commits.{act_of, communicates}
use Rattle.core_state.proofs.CommitLemmas.{acts_then}
use Rattle.core_state.proofs.commits.rank_alone.Goals as goal

pub returns-then-acts : goal.returns-then-acts
returns-then-acts c = record {
  alone = λ a rs n stands.
      let chases = chase (values_of c.args.state.now.futures) in
      let so = ap communicates (c.in_ok-stance.ensures.stance a rs n stands) ∙ acts_then chases rs n a in
      sym (c.acts.ensures.acts (act_of chases rs n a) so) ∙ c.if-acts.true;
}

pub returns : goal.returns
returns c = record {
  alone = λ a rs n stands.
      let values = values_of c.args.state.now.futures in
      let chases = chase values in
      let told = c.in_ok-stance.ensures.stance a rs n stands in
      let so = ap communicates told ∙ acts_then chases rs n a in (
        sym (c.acts.ensures.acts (act_of chases rs n a) so) ∙ c.if-acts.false,
        c.in_ok-rank.ensures.rank ∙ ap (rank_stance values) told ∙ stance_rank values rs n a,
      );
}
