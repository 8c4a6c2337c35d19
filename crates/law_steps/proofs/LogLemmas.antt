-- Logs grow with requests, and tell their senders.
use Rattle.std.specs.Prelude.{◌≡◌, List, [], ◌∷◌, ◌++◌, Option, Some, None, map}
use Rattle.std.proofs.Common.{refl, sym, ap, subst, ◌∙◌, inl, inr, ⊎_elim}
use Rattle.std.proofs.lemmas.List.{map-append, append-nil}
use Rattle.std.specs.FinMap.{find}
use Rattle.asp_model.specs.Names.{Name, name_cmp}
use Rattle.asp_model.specs.Configuration.{RequestShape, ReceptionShape, From, Poll, Configuration, or_none, requests_of, log_of, start}
use Rattle.asp_model.specs.Step.{with_last}
use Rattle.law_steps.specs.Systems.{Leads}
use Rattle.law_steps.specs.Reached.{Move, Steps, Edges, Needs, Makes}
use Rattle.law_steps.specs.Kept.{LogsTell, Tells, senders_among}
use Rattle.law_steps.specs.Steps.{Grown, LogsGrow}
use Rattle.law_steps.proofs.NameLemmas.{name_total, name_same, name_case}
use Rattle.law_chases.proofs.MapLemmas as Maps
use Rattle.law_steps.proofs.StepLemmas.{step_taken}
use Rattle.law_steps.proofs.FactLemmas.{IsLogged, face_of, acts_facts}
use Rattle.law_steps.proofs.SoundLemmas.{at_name, box_sent}
use Rattle.law_steps.proofs.FrameLemmas.{sender_of}
use Rattle.law_steps.proofs.DeliveryLemmas.{edge_done, need_done}

module _ (c : Configuration) (n m : Name) where
  abbrev GrownBy : Option (Name × RequestShape) → Option (Name × ReceptionShape) → Type 0
  GrownBy o p = Grown n m (log_of c m) (or_none (find name_cmp m (with_last p c.logs))) (requests_of c m) (or_none (find name_cmp m (with_last o c.received)))

  at_target : (z : Name × RequestShape) → z.1.sender ≡ n → m ≡ z.0 → GrownBy (Some z) (Some (z.0, From n))
  at_target z by e = inr (inl (
    z.1,
    ap (λ k. or_none (find name_cmp k (with_last (Some (z.0, From n)) c.logs))) e ∙ ap or_none (Maps.find_same name_cmp name_total name_same z.0 (log_of c z.0 ++ From n ∷ []) c.logs) ∙ ap (λ k. log_of c k ++ From n ∷ []) (sym e),
    ap (λ k. or_none (find name_cmp k (with_last (Some z) c.received))) e ∙ ap or_none (Maps.find_same name_cmp name_total name_same z.0 (requests_of c z.0 ++ z.1 ∷ []) c.received) ∙ ap (λ k. requests_of c k ++ z.1 ∷ []) (sym e),
    by,
  ))

  elsewhere : (z : Name × RequestShape) → (m ≡ z.0 → ⊥) → GrownBy (Some z) (Some (z.0, From n))
  elsewhere z a = inl (
    ap or_none (Maps.find_other name_cmp name_total name_same m z.0 (log_of c z.0 ++ From n ∷ []) c.logs a),
    ap or_none (Maps.find_other name_cmp name_total name_same m z.0 (requests_of c z.0 ++ z.1 ∷ []) c.received a),
  )

  polled : GrownBy None (Some (n, Poll))
  polled = ⊎_elim (λ x. inr (inr (sym x.0, x.1, refl))) (λ x. inl (x, refl)) (box_sent (n, Poll) c.logs m)

  grown_by : (o : Option (Name × RequestShape)) (p : Option (Name × ReceptionShape)) → ((z : Name × RequestShape) → o ≡ Some z → z.1.sender ≡ n) → IsLogged n o p → GrownBy o p
  grown_by None p by (inl q) = subst (λ p. GrownBy None p) (sym q) (inl (refl, refl))
  grown_by None p by (inr q) = subst (λ p. GrownBy None p) (sym q) polled
  grown_by (Some z) p by q = subst (λ p. GrownBy (Some z) p) (sym q) (⊎_elim (at_target z (by z refl)) (elsewhere z) (name_case m z.0))

pub logs_grow : LogsGrow
logs_grow lists c d n m h =
    let x = step_taken lists c n d h in
    let facts = (acts_facts c n x.0 x.1.intends).1 in
    subst (λ z. Grown n m (log_of c m) (log_of z m) (requests_of c m) (requests_of z m)) x.2
    (grown_by c n m x.0.sent x.0.logged (sender_of n (at_name c n) (face_of x.0.own) x.0.sent facts.sent) facts.logged)

among_more : (xs ys : List ReceptionShape) → senders_among (xs ++ ys) ≡ senders_among xs ++ senders_among ys
among_more [] ys = refl
among_more (From n ∷ xs) ys = ap (λ ns. n ∷ ns) (among_more xs ys)
among_more (Poll ∷ xs) ys = among_more xs ys

tells_on : (n m : Name) (was now : List ReceptionShape) (had has : List RequestShape) → Tells was had → Grown n m was now had has → Tells now has
tells_on n m was now had has t (inl p) = ap senders_among p.0 ∙ t ∙ ap (map (λ r. r.sender)) (sym p.1)
tells_on n m was now had has t (inr (inl p)) =
    ap senders_among p.1 ∙ among_more was (From n ∷ []) ∙ (λ i. t i ++ sym p.3 i ∷ []) ∙ sym (ap (map (λ r. r.sender)) p.2 ∙ map-append (λ r. r.sender) had (p.0 ∷ []))
tells_on n m was now had has t (inr (inr p)) =
    ap senders_among p.1 ∙ among_more was (Poll ∷ []) ∙ append-nil (senders_among was) ∙ t ∙ ap (map (λ r. r.sender)) (sym p.2)

abbrev AllTell : Configuration → Type 0
AllTell c = (m : Name) → Tells (log_of c m) (requests_of c m)

move_tells : (move : Move) (c d : Configuration) → Makes move c d → AllTell c → AllTell d
move_tells (Steps lists n) c d h t m = tells_on n m _ _ _ _ (t m) (logs_grow lists c d n m h)
move_tells (Edges f to) c d h t m = subst (λ z. Tells (log_of z m) (requests_of z m)) (sym (edge_done c f to d h).result) (t m)
move_tells (Needs f to place) c d h t m = subst (λ z. Tells (log_of z m) (requests_of z m)) (sym (need_done c f to place d h).result) (t m)

moves_tell : (moves : List Move) (c d : Configuration) → Leads Makes c moves d → AllTell c → AllTell d
moves_tell [] c d r t = subst AllTell r t
moves_tell (m ∷ moves) c d r t = moves_tell moves r.0 d r.2 (move_tells m c r.0 r.1 t)

pub logs_tell : LogsTell
logs_tell program c m r = moves_tell r.moves (start program) c r.run (λ k. refl) m
