use Rattle.std.proofs.Common.{◌≡◌, ◌∙◌, ◌++◌, ◌∷◌, ◌≤◌, ◌<◌, ◌+◌, ◌-◌, ◌^◌, [], ap, refl, subst, sym}
use Rattle.asp_model.specs.History.{Committed}
use Rattle.core_ranks.specs.Ranks.{IsRanked, rank_shape}
use Rattle.law_core.specs.Runs.{rank_of_number}
use Rattle.core_state.specs.Journal.{entries_in, room}
use Rattle.core_state.specs.declared.state.CoreState.{CoreState}
use Rattle.core_state.specs.Cores.{IsPopulated}
use Rattle.core_state.proofs.ListLemmas.{number_case}
use Rattle.core_state.proofs.CommitLemmas.{IsSomeActing, acts_back, came, has_room, left, now, t, to_look, to_rank}
use Rattle.core_state.proofs.StandLemmas.{populated_too}
use Rattle.core_state.proofs.coming.come_in.Goals as goal

pub hand_on-requires : goal.hand_on-requires
hand_on-requires c =
    let r = c.requires.giving in
    let k = c.args.number in
    let x = r.5.before in
    let z : IsSomeActing x k c.args.grant c.args.reductions r.5.actor = (r.0, r.1, r.2, r.3, r.4, r.5.acting) in
    record { given = (now x k c.args.grant c.args.reductions r.5.actor z, r.1, came x k c.args.grant c.args.reductions r.5.actor z, r.3, r.4, r.5.hand) }

pub rank_others-requires : goal.rank_others-requires
rank_others-requires c =
    let r = c.requires.giving in
    let k = c.args.number in
    let m = c.args.grant in
    let q = c.args.reductions in
    let x = r.5.before in
    let a = r.5.actor in
    let z : IsSomeActing x k m q a = (r.0, r.1, r.2, r.3, r.4, r.5.acting) in
    let h = now x k m q a z in
    let changed =
    to_rank x k m q a z c.hand_on.new.state c.in_ok-change.change (c.hand_on.ensures.ranks ∙ r.5.ranks)
    (c.in_ok-change.ensures.populated h z.1 (came x k m q a z) z.3 z.4 r.5.hand) (c.in_ok-change.ensures.change h z.1 (came x k m q a z) z.3 z.4 r.5.hand) in
    record { changed = (h, z.1, z.2, z.3, z.5.returning.end, z.4, left x k m q a z, changed) }

pub look-requires : goal.look-requires
look-requires c =
    let r = c.requires.giving in
    let k = c.args.number in
    let m = c.args.grant in
    let q = c.args.reductions in
    let x = r.5.before in
    let a = r.5.actor in
    let z : IsSomeActing x k m q a = (r.0, r.1, r.2, r.3, r.4, r.5.acting) in
    let h = now x k m q a z in
    let y = c.hand_on.new.state in
    let changed =
    to_rank x k m q a z y c.in_ok-change.change (c.hand_on.ensures.ranks ∙ r.5.ranks)
    (c.in_ok-change.ensures.populated h z.1 (came x k m q a z) z.3 z.4 r.5.hand) (c.in_ok-change.ensures.change h z.1 (came x k m q a z) z.3 z.4 r.5.hand) in
    let w = c.rank_others.new.state in
    record { standing = (h, z.1, t x k m q a z, to_look x k m q a z w (populated_too h z.1 y w (t x k m q a z) c.rank_others.ensures.seats c.rank_others.ensures.futures changed.populated)) }

pub rank-requires : goal.rank-requires
rank-requires c =
    let r = c.requires.giving in
    let k = c.args.number in
    let m = c.args.grant in
    let q = c.args.reductions in
    let x = r.5.before in
    let a = r.5.actor in
    let z : IsSomeActing x k m q a = (r.0, r.1, r.2, r.3, r.4, r.5.acting) in
    let h = now x k m q a z in
    let y = c.hand_on.new.state in
    let changed =
    to_rank x k m q a z y c.in_ok-change.change (c.hand_on.ensures.ranks ∙ r.5.ranks)
    (c.in_ok-change.ensures.populated h z.1 (came x k m q a z) z.3 z.4 r.5.hand) (c.in_ok-change.ensures.change h z.1 (came x k m q a z) z.3 z.4 r.5.hand) in
    record { rests = (c.in_ok-rank_others.ensures.ranks h z.1 z.2 z.3 z.5.returning.end z.4 (left x k m q a z) changed).0 }

pub note-requires : goal.note-requires
note-requires c =
    let r = c.requires.giving in
    let x = r.5.before in
    let journal = c.rank_others.ensures.journal ∙ c.hand_on.ensures.journal ∙ r.5.journal in
    record { room = subst (λ j. 0 < room j) (sym journal) (has_room x c.args.number c.args.grant c.args.reductions r.5.actor (r.0, r.1, r.2, r.3, r.4, r.5.acting)) }

pub returns-clause-committed : goal.returns-clause-committed
returns-clause-committed c = λ h code s n e r.
    let k = c.args.number in
    let m = c.args.grant in
    let q = c.args.reductions in
    let x = r.before in
    let a = r.actor in
    let z : IsSomeActing x k m q a = (h, code, s, n, e, r.acting) in
    let g = now x k m q a z in
    let u = t x k m q a z in
    let changed =
    to_rank x k m q a z c.hand_on.new.state c.in_ok-change.change (c.hand_on.ensures.ranks ∙ r.ranks)
    (c.in_ok-change.ensures.populated g code (came x k m q a z) n e r.hand) (c.in_ok-change.ensures.change g code (came x k m q a z) n e r.hand) in
    let others = c.in_ok-rank_others.ensures.ranks g code s n r.acting.returning.end e (left x k m q a z) changed in
    let w = c.rank_others.new.state in
    let there : IsPopulated g code w u = populated_too g code c.hand_on.new.state w u c.rank_others.ensures.seats c.rank_others.ensures.futures changed.populated in
    let told : rank_shape c.in_ok-rank.rank ≡ rank_of_number u k = c.in_ok-rank.ensures.rank g code u (to_look x k m q a z w there) in
    let y : CoreState = record { alloc = w.alloc; seats = w.seats; ranks = c.rank.new.self; futures = w.futures; journal = c.note.new.self; left = c.left_with-state.result; bursts = w.bursts } in
    let journal = c.rank_others.ensures.journal ∙ c.hand_on.ensures.journal ∙ r.journal in
    let same_left : w.left ≡ x.left = c.rank_others.ensures.left ∙ c.hand_on.ensures.left ∙ r.left in
    acts_back x k m q a z y (populated_too g code w y u refl refl there)
    (λ j. number_case j k
    (λ same. subst (λ i. IsRanked c.rank.new.self i (rank_of_number u i)) (sym same) (subst (IsRanked c.rank.new.self k) told c.in_ok-rank-2.ensures.here))
    (λ apart. c.in_ok-rank-2.ensures.others j (rank_of_number u j) apart (others.1 j apart)))
    (c.note.ensures.entries ∙ ap (λ j. entries_in j ++ Committed k q ∷ []) journal)
    (subst (λ j. room j ≤ room c.note.new.self + 1) journal c.note.ensures.room)
    (λ small. c.left_with-state.ensures.left (subst (λ l. l + (m - q) < 2 ^ 64) (sym same_left) small) ∙ ap (λ l. l + (m - q)) same_left)
    (c.rank_others.ensures.bursts ∙ c.hand_on.ensures.bursts ∙ r.bursts)
