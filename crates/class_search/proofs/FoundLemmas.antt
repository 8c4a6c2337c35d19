-- Ends by classes that were found are complete where all that they offer leads to one of them.
use Rattle.std.specs.Prelude.{◌≡◌, ◌≤◌, List, [], ◌∷◌, Some, length, map}
use Rattle.std.proofs.Common.{refl, sym, subst, arith, inl, inr}
use Rattle.asp_model.specs.Term.{Tree}
use Rattle.law_steps.proofs.ListLemmas.{prefix_both}
use Rattle.law_families.specs.Families.{ComesBehind}
use Rattle.law_classes.specs.Runs.{ClassLogs, with_entry}
use Rattle.law_classes.specs.Families.{ClassEnd, Has, IsInside, IsWithin, IsClassEnd, IsClosedAt}
use Rattle.end_search.specs.Found as search
use Rattle.end_search.specs.Found.{AreAll, AreWithin, IsClosed}
use Rattle.class_search.specs.declared.ends.FoundEnd.{FoundEnd}
use Rattle.class_search.specs.declared.ends.Offer.{Offer}
use Rattle.class_search.specs.Logs.{logs_of}
use Rattle.class_search.specs.Found.{end_in, IsFoundEnd, Begins, HasLogs, HasAllOffers, ClosedIsComplete}

-- what holds of all holds of each
each : (P : FoundEnd → Type 0) (program : Tree) (es : List FoundEnd) (x : ClassEnd) → AreAll P es → Has (map (end_in program) es) x → (e : FoundEnd) × P e × (end_in program e ≡ x)
each P program [] x all h = absurd h
each P program (e ∷ es) x all (inl p) = (e, all.0, p)
each P program (e ∷ es) x all (inr h) = each P program es x all.1 h

-- an end that begins as it is offered is among the ends
begun : (program : Tree) (es : List FoundEnd) (o : Offer) (logs : ClassLogs) → IsInside logs (logs_of o.logs.items) → search.IsWithin Begins es o → IsWithin (map (end_in program) es) logs
begun program [] o logs inside w = absurd w
begun program (e ∷ es) o logs inside (inl b) = (end_in program e, inl refl, λ q κ. prefix_both _ _ _ (inside q κ) (b q κ))
begun program (e ∷ es) o logs inside (inr w) = let x = begun program es o logs inside w in (x.0, inr x.1, x.2)

offered : (program : Tree) (es : List FoundEnd) (os : List Offer) (logs : ClassLogs) → HasLogs os logs → AreWithin Begins es os → IsWithin (map (end_in program) es) logs
offered program es [] logs h w = absurd h
offered program es (o ∷ os) logs (inl p) w = begun program es o logs p w.0
offered program es (o ∷ os) logs (inr h) w = offered program es os logs h w.1

first_of : (program : Tree) (es : List FoundEnd) → 1 ≤ length es → (x : ClassEnd) × Has (map (end_in program) es) x
first_of program [] some = absurd (omega (arith, some))
first_of program (e ∷ es) some = (end_in program e, inl refl)

pub closed_is_complete : ClosedIsComplete
closed_is_complete K program es some found closed =
    let one = first_of program es some in
    record {
      one = one.0;
      has = one.1;
      ended = λ x h. let e = each (IsFoundEnd K program) program es x found h in subst (IsClassEnd K program) e.2 e.1.1;
      closed = λ x q κ k entry h behind.
          let e = each (IsClosed Begins (HasAllOffers K program) es) program es x closed h in
          let f = e.1.1 q κ k entry (subst (λ y. ComesBehind (y.1 q κ) k entry) (sym e.2) behind) in
          subst (λ y. IsClosedAt K program (map (end_in program) es) y q κ k entry) e.2
          (f.0, f.1, λ o. offered program es e.1.0 (with_entry (Some (q, κ, entry)) f.0.1) (f.2 o) e.1.2);
    }
