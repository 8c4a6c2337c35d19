use Rattle.std.proofs.Common.{◌≡◌, ◌∙◌, ◌++◌, ◌∷◌, [], ap, refl, subst, sym}
use Rattle.asp_model.specs.Names.{main_name}
use Rattle.core_ranks.specs.Ranks.{IsRanked, Rests, rank_shape}
use Rattle.core_seats.specs.Seats.{In}
use Rattle.step_activity.specs.Actors.{IsClosedFor, Stands}
use Rattle.law_core.specs.Ranked.{rank_of}
use Rattle.core_state.specs.declared.state.CoreState.{CoreState}
use Rattle.core_state.specs.Cores.{program_of}
use Rattle.core_state.proofs.BeginLemmas.{begins, first_closed, first_of, no_values_closed, nobody_named}
use Rattle.core_state.proofs.state.CoreState.come_first.Goals as goal

pub rank_of-requires-clause-closed : goal.rank_of-requires-clause-closed
rank_of-requires-clause-closed c =
    let m = c.requires.main in
    subst IsClosedFor (sym c.as_ref.ensures) (first_closed (program_of m.0) c.args.actor.value m.1.bare m.1.stands)

pub rank_of-requires-clause-values : goal.rank_of-requires-clause-values
rank_of-requires-clause-values c =
    let m = c.requires.main in
    no_values_closed (program_of m.0) c.args.self.now.futures m.1.bare c.requires.empty.futures

pub rank-requires : goal.rank-requires
rank-requires c = record { rests = c.requires.empty.rests 0 }

pub add-requires-clause-new : goal.add-requires-clause-new
add-requires-clause-new c = nobody_named c.args.self.now.seats c.in_ok-name.name c.requires.empty.names

pub returns : goal.returns
returns c = record {
  begun = λ code main small.
      let x = c.args.self.now in
      let e = c.requires.empty in
      let program = program_of code in
      let y : CoreState = record { alloc = x.alloc; seats = c.add.new.self; ranks = c.rank.new.self; futures = x.futures; journal = c.reserve.new.self; left = x.left; bursts = x.bursts } in
      let told : rank_shape c.in_ok-rank.rank ≡ rank_of [] [] main_name (first_of program) =
      c.in_ok-rank.ensures.rank (first_of program) [] main_name (subst (λ a. Stands a (first_of program) []) (sym c.as_ref.ensures) main.stands) ∙ ap (λ values. rank_of values [] main_name (first_of program)) e.futures in
      begins code y program x.left c.args.actor.value main.bare small
      (c.reserve.ensures.entries ∙ e.entries)
      c.in_ok-add.ensures.kept
      (c.in_ok-add.ensures.names ∙ (λ i. e.names i ++ c.in_ok-name.ensures.name i ∷ []))
      (c.in_ok-add.ensures.seats ∙ ap (λ seats. seats ++ In c.args.actor.value ∷ []) e.seats)
      e.futures refl e.bursts c.in_ok-reserve.ensures.room main.stands main.coded main.logged
      (subst (IsRanked c.rank.new.self 0) told c.in_ok-rank-2.ensures.here)
      (λ j apart. c.in_ok-rank-2.ensures.others j Rests apart (e.rests j));
}
