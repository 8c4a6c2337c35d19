-- What a listener keeps of a replay is what its services could take.
use Rattle.std.specs.Prelude.{◌≡◌, [], ◌++◌}
use Rattle.std.specs.List.{Contains}
use Rattle.std.proofs.Common.{refl, sym, ap, subst, ◌∙◌, inl, inr, ⊎_elim}
use Rattle.asp_model.specs.Names.{Name}
use Rattle.asp_model.specs.Term.{Tree}
use Rattle.asp_model.specs.Services.{ServicesShape}
use Rattle.asp_model.specs.Step.{ListsShape}
use Rattle.asp_model.specs.Replay.{CountsShape, Fits, replay}
use Rattle.law_services.specs.Told.{AreServicesOf, NamesAscend, entry_at}
use Rattle.replay_parts.specs.Listening.{AreToldPlaces}
use Rattle.replay_parts.specs.Notes.{replay_notes}
use Rattle.replay_services.specs.declared.listener.Listener.{Listener}
use Rattle.replay_services.specs.Listeners.{IsHeard, entry_of, kept_at, nothing}
use Rattle.replay_services.proofs.HeardLemmas.{none_there, notes_tell}
use Rattle.replay_services.proofs.ListenerLemmas.{Tells}

-- nothing was told
pub tells_nothing : (l : Listener) → ((n : Name) → kept_at l n ≡ nothing) → Tells l []
tells_nothing l h n = subst (IsHeard n []) (sym (h n)) (record {
  arrivals = refl;
  polled = refl;
  only = λ ls c. absurd (none_there ls c);
  sets = λ os c. absurd (none_there os c);
})

pub services_of : (program : Tree) (lists : ListsShape) (counts : CountsShape) (l : Listener) (s : ServicesShape) → Fits program lists counts → NamesAscend s → ((n : Name) → entry_at s n ≡ entry_of n (kept_at l n))
    → AreToldPlaces (Tells l) ([] ++ replay_notes program lists counts) (replay program lists counts) → AreServicesOf program lists counts s
services_of program lists counts l s fits ascending kept told =
    let t = notes_tell program lists counts told.0 fits told.1 in
    record {
      ascending = ascending;
      arrivals = λ n. ap (λ e. e.arrivals) (kept n) ∙ (told.2 n).arrivals ∙ t.came n;
      polled = λ n. ap (λ e. e.polled) (kept n) ∙ (told.2 n).polled ∙ t.polled n;
      stood = λ n labels c.
          let o = (told.2 n).only labels (subst (λ e. Contains e.sets labels) (kept n) c) in
          (o.0, o.2, t.stood n o.0 o.1);
      sets = λ n labels st. ⊎_elim
          (λ none. inl none)
          (λ c. let k = (told.2 n).sets labels c in inr (k.0, subst (λ e. Contains e.sets k.0) (sym (kept n)) k.1, k.2))
          (t.sets n labels st);
    }
