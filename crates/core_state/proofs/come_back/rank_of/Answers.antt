use Rattle.std.proofs.Common.{◌≡◌, ◌∙◌, ap, subst}
use Rattle.std.specs.Result.{IfOk}
use Rattle.future_table.specs.Values.{values_of}
use Rattle.core_ranks.specs.Ranks.{rank_shape}
use Rattle.core_state.specs.Returning.{rank_stance}
use Rattle.core_state.proofs.ComeBackLemmas.{stance_rank}
use Rattle.core_state.proofs.come_back.rank_of.Goals as goal

pub returns : goal.returns
returns c = record {
  rank = λ a rs n st.
      let values = values_of c.args.futures.now in
      subst (λ told. IfOk c.rank_at.result (λ r. rank_shape r ≡ told)) (ap (rank_stance values) (c.in_ok-stance.ensures.stance a rs n st) ∙ stance_rank values rs n a) c.rank_at.ensures.rank;
}
