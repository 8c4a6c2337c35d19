-- The logs to which offers lead.
use Rattle.std.proofs.Common.{◌≡◌, ◌≢◌, ℕ, List, [], ◌∷◌, ◌++◌, map, Option, Some, None, Result, Ok, Err, refl, sym, ap, subst, ◌∙◌, ◌⊎◌, inl, inr, ⊎_elim}
use Rattle.std.specs.Prelude.{IfOk}
use Rattle.std.specs.Global.{Vec}
use Rattle.std.specs.FinMap.{find}
use Rattle.asp_model.specs.declared.outcome.Lists.{Lists}
use Rattle.asp_model.specs.declared.outcome.Reception.{Reception}
use Rattle.asp_model.specs.Names.{Name, name_cmp}
use Rattle.asp_model.specs.Term.{Tree}
use Rattle.asp_model.specs.Configuration.{Activity, Configuration, ReceptionShape, log_of, or_none}
use Rattle.asp_model.specs.Replay.{CountsShape, Fits, counts_of, lists_of, log_in, replay}
use Rattle.asp_model.specs.Shapes.{lists_shape, reception_shape}
use Rattle.asp_model.specs.Step.{ListsShape, reception_at}
use Rattle.law_chases.proofs.FutureLemmas.{no_some}
use Rattle.law_steps.specs.Reached.{IsReached, IsThere}
use Rattle.law_steps.proofs.NameLemmas.{is_there, name_case}
use Rattle.law_steps.proofs.NamesLaws.{entries_ascend}
use Rattle.law_steps.proofs.ListLemmas.{find_mapped, with_name}
use Rattle.law_schedules.specs.Divergence.{AreInOrder}
use Rattle.law_families.specs.Families.{RunLogs, cut_lists, cut_run}
use Rattle.law_families.proofs.OfferLemmas.{offers_show}
use Rattle.outcome_search.specs.Ends.{IsReplayableEnd}
use Rattle.outcome_search.specs.Found.{AreSameLogs, HasLists, HasOffers}
use Rattle.replay_one.proofs.DifferenceLemmas.{in_order}
use Rattle.replay_offers.specs.Entries.{HasEntry, HasNext}
use Rattle.replay_offers.specs.Logs.{each_cut, each_entered, even}
use Rattle.replay_offers.specs.Offered.{HasEntered}
use Rattle.replay_offers.specs.Replays.{IsHeld}
use Rattle.replay_offers.specs.declared.replays.Held.{Held}
use Rattle.replay_offers.proofs.EntryLemmas.{owner_there}
use Rattle.replay_offers.proofs.LogLemmas.{cut_is, entered_here, entered_others}
use Rattle.replay_offers.proofs.RunLemmas.{names_alike, replay_is_reached}

names_listed : (c : Configuration) (es : List (Name × Activity)) → map (λ x. x.0) (map {B = Name × List ReceptionShape} (λ x. (x.0, log_of c x.0)) es) ≡ map (λ x. x.0) es
names_listed c [] = refl
names_listed c (x ∷ es) = ap (λ (ns : List Name). x.0 ∷ ns) (names_listed c es)

-- what a configuration shows is in order
own_order : (program : Tree) (c : Configuration) → IsReached program c → AreInOrder (lists_of c) (counts_of c)
own_order program c r = record {
  names = names_alike c c.activities;
  ascending = in_order (lists_of c) c.activities (names_listed c c.activities) (entries_ascend program c r).activities;
}

-- so is what fits
pub fits_in_order : (program : Tree) (lists : ListsShape) (counts : CountsShape) → Fits program lists counts → AreInOrder lists counts
fits_in_order program lists counts fits =
    let c : Configuration = replay program lists counts in
    subst (λ (cs : CountsShape). AreInOrder lists cs) fits.reached (subst (λ (ls : ListsShape). AreInOrder ls (counts_of c)) fits.used_up (own_order program c (replay_is_reached program lists counts)))

names_cut : (q : Name) (k : ℕ) (lists : ListsShape) → map (λ x. x.0) (each_cut q k lists) ≡ map (λ x. x.0) lists
names_cut q k [] = refl
names_cut q k (x ∷ lists) = ap (λ (ns : List Name). x.0 ∷ ns) (names_cut q k lists)

-- and what is cut
pub cut_in_order : (q : Name) (k : ℕ) (lists : ListsShape) (counts : CountsShape) → AreInOrder lists counts → AreInOrder (each_cut q k lists) counts
cut_in_order q k lists counts order = record {
  names = names_cut q k lists ∙ order.names;
  ascending = in_order (each_cut q k lists) lists (names_cut q k lists) order.ascending;
}

-- a log that has an entry is there
log_there : (lists : ListsShape) (q : Name) (k : ℕ) (here : ReceptionShape) → reception_at (log_in lists q) k ≡ Some here → (log : List ReceptionShape) × (find name_cmp q lists ≡ Some log)
log_there lists q k here at = by (find name_cmp q lists) refl at
  where
    by : (o : Option (List ReceptionShape)) → find name_cmp q lists ≡ o → reception_at (or_none o) k ≡ Some here → (log : List ReceptionShape) × (find name_cmp q lists ≡ Some log)
    by None is at = no_some at
    by (Some log) is at = (log, is)

-- the log of an activity that is there
own_there : (c : Configuration) (q : Name) → IsThere c q → (log : List ReceptionShape) × (find name_cmp q (lists_of c) ≡ Some log)
own_there c q there =
    let a = is_there (find name_cmp q c.activities) there in
    (log_of c q, find_mapped (λ x. log_of c x.0) q c.activities ∙ ap (with_name (λ x. log_of c x.0) q) a.1)

among : (vs : List ListsShape) (l m : ListsShape) → AreSameLogs l m → HasEntered vs l → HasLists vs m
among [] l m same h = absurd h
among (v ∷ vs) l m same (inl e) = inl (subst (λ (k : ListsShape). AreSameLogs k m) (sym e) same)
among (v ∷ vs) l m same (inr h) = inr (among vs l m same h)

-- each offer has its logs among those with an entry more
pub has_offers : (program : Tree) (x : RunLogs) (q : Name) (k : ℕ) (ls : ListsShape) (es : List Reception) (vs : List ListsShape) → IsReplayableEnd program x
    → ls ≡ lists_of (replay program (each_cut q k x.0) x.1) → HasNext (replay program (each_cut q k x.0) x.1) q es
    → ((entry : ReceptionShape) → HasEntry es entry → HasEntered vs (each_entered q entry ls)) → HasOffers program x q k vs
has_offers program x q k ls es vs end held next each entry d behind offer =
    let log = log_there x.0 q k behind.here behind.at in
    let cut : cut_lists x.0 q k ≡ each_cut q k x.0 = cut_is x.0 q k log.0 (fits_in_order program x.0 x.1 end.0.0).ascending log.1 in
    let c : Configuration = cut_run program x q k in
    let same : c ≡ replay program (each_cut q k x.0) x.1 = ap (λ (l : ListsShape). replay program l x.1) cut in
    let reached : IsReached program c = replay_is_reached program (cut_lists x.0 q k) x.1 in
    let shows = offers_show program c d offer.who q entry reached offer.steps offer.logs in
    let has : HasEntry es entry = subst (λ (e : Configuration). HasNext e q es) (sym same) next offer.who entry shows.0 in
    let own : ls ≡ lists_of c = held ∙ ap lists_of (sym same) in
    let entered : HasEntered vs (each_entered q entry (lists_of c)) = subst (λ (l : ListsShape). HasEntered vs (each_entered q entry l)) own (each entry has) in
    let there = own_there c q (owner_there program c offer.who q entry reached shows.0) in
    among vs (each_entered q entry (lists_of c)) (lists_of d)
    (λ m. ⊎_elim
    (λ (e : m ≡ q). subst (λ (n : Name). log_in (each_entered q entry (lists_of c)) n ≡ log_in (lists_of d) n) (sym e) (entered_here (lists_of c) q entry there.0 there.1 ∙ sym shows.2))
    (λ (a : m ≢ q). entered_others (lists_of c) q m entry a ∙ sym (shows.1 m a))
    (name_case m q))
    entered

-- One entry more

entered_front : (vs ws : List ListsShape) (l : ListsShape) → HasEntered vs l → HasEntered (vs ++ ws) l
entered_front [] ws l h = absurd h
entered_front (v ∷ vs) ws l (inl e) = inl e
entered_front (v ∷ vs) ws l (inr h) = inr (entered_front vs ws l h)

entered_last : (vs : List ListsShape) (w l : ListsShape) → w ≡ l → HasEntered (vs ++ w ∷ []) l
entered_last [] w l e = inl e
entered_last (v ∷ vs) w l e = inr (entered_last vs w l e)

entry_parts : (xs : List Reception) (x : Reception) (e : ReceptionShape) → HasEntry (xs ++ x ∷ []) e → HasEntry xs e ⊎ (reception_shape x ≡ e)
entry_parts [] x e (inl h) = inr h
entry_parts [] x e (inr h) = absurd h
entry_parts (y ∷ xs) x e (inl h) = inl (inl h)
entry_parts (y ∷ xs) x e (inr h) = ⊎_elim (λ g. inl (inr g)) (λ g. inr g) (entry_parts xs x e h)

pub one_offer_more : (q : Name) (e : ReceptionShape) (ls : ListsShape) (xs : List Reception) (x : Reception) (vs : List ListsShape) (w : ListsShape) → (HasEntry xs e → HasEntered vs (each_entered q e ls))
    → w ≡ each_entered q (reception_shape x) ls → HasEntry (xs ++ x ∷ []) e → HasEntered (vs ++ w ∷ []) (each_entered q e ls)
one_offer_more q e ls xs x vs w before is h = ⊎_elim
    (λ g. entered_front vs (w ∷ []) (each_entered q e ls) (before g))
    (λ g. entered_last vs w (each_entered q e ls) (is ∙ ap (λ (y : ReceptionShape). each_entered q y ls) g))
    (entry_parts xs x e h)

pub offers_among : {E : Type 0} (program : Tree) (x : RunLogs) (q : Name) (k : ℕ) (h : Held) (r : Result (Vec Lists) E) → IsReplayableEnd program x → IsHeld (replay program (each_cut q k x.0) x.1) q h
    → ((e : ReceptionShape) → HasEntry h.entries.items e → IfOk r (λ v. HasEntered (map lists_shape v.items) (each_entered q e (lists_shape h.lists)))) → IfOk r (λ v. HasOffers program x q k (map lists_shape v.items))
offers_among program x q k h (Ok v) end held each = has_offers program x q k (lists_shape h.lists) h.entries.items (map lists_shape v.items) end held.lists held.next each
offers_among program x q k h (Err e) end held each = tt

-- one count for all, whatever it is

names_even : {X : Type 0} (a b : ℕ) (es : List (Name × X)) → map (λ x. x.0) (even a es) ≡ map (λ x. x.0) (even b es)
names_even a b [] = refl
names_even a b (x ∷ es) = ap (λ (ns : List Name). x.0 ∷ ns) (names_even a b es)

pub even_in_order : {X : Type 0} (lists : ListsShape) (a b : ℕ) (es : List (Name × X)) → AreInOrder lists (even a es) → AreInOrder lists (even b es)
even_in_order lists a b es order = record { names = order.names ∙ names_even a b es; ascending = order.ascending }
