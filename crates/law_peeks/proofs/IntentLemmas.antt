-- An activity intends the same with a value at its first strict operand that is a future.
use Rattle.std.proofs.Common.{◌≡◌, ◌++◌, ◌∷◌, [], Bool, false, List, None, refl, sym, ap, ◌∙◌, is_some}
use Rattle.asp_model.specs.Names.{FutureShape, Name, Text}
use Rattle.asp_model.specs.Split.{Context, Redex, Split, Stands, Splits}
use Rattle.asp_model.specs.Store.{Store}
use Rattle.asp_model.specs.Parcel.{ParcelShape}
use Rattle.asp_model.specs.Contraction.{Contraction, Becomes, Faults, Needs, Communicates, Breaks, Creates, Sends, Serves, Polls, contract, first_future, strict_members, strict_operands}
use Rattle.asp_model.specs.Chase.{Chase}
use Rattle.asp_model.specs.Configuration.{Activity, RequestShape}
use Rattle.asp_model.specs.Intent.{Awaits, Intent, Rests, Ready, Reads, Lacks, contracts, ends_service, newest, redex_ready}
use Rattle.def_journals.specs.Communications.{is_asking}
use Rattle.def_journals.specs.Passing.{redex_read}
use Rattle.law_steps.proofs.ContractionLemmas.{serves_by_head}
use Rattle.law_chases.proofs.FutureLemmas.{no_some}
use Rattle.law_core.proofs.OperandLemmas.{operands}
use Rattle.law_peeks.specs.Needs.{IsNeeded, NeedsKeepIntents, Peek, with_peek}
use Rattle.law_peeks.proofs.RowLemmas.{needs_first}
use Rattle.law_peeks.proofs.ReadAlikeLemmas.{needs_keep_readings}
use Rattle.law_peeks.proofs.NeedLemmas.{places_below}

module _ (chases : FutureShape → Chase) (requests : List RequestShape) (n : Name) (a : Activity) (x : Peek) where
  abbrev b : Activity
  b = with_peek a x

  -- a `serve` alone goes on from the activity's own store, and not from the one that was read
  contracts_alike : (contexts : List Context) (s : Store) (c : Contraction) → ((labels : List Text) → c ≡ Communicates (Serves labels) → ⊥) → contracts requests n b contexts s c ≡ contracts requests n a contexts s c
  contracts_alike contexts s (Becomes t store lines) not = refl
  contracts_alike contexts s (Faults fault) not = refl
  contracts_alike contexts s (Needs q) not = refl
  contracts_alike contexts s Breaks not = refl
  contracts_alike contexts s (Communicates (Creates object service)) not = refl
  contracts_alike contexts s (Communicates (Sends to label arguments)) not = refl
  contracts_alike contexts s (Communicates (Polls labels)) not = refl
  contracts_alike contexts s (Communicates (Serves labels)) not = absurd (not labels refl)

  module _ (r : Redex) (h : IsNeeded chases a.store r x) where
    -- it has no strict operand
    no_serve : (s : Store) (labels : List Text) → contract s r ≡ Communicates (Serves labels) → ⊥
    no_serve s labels e =
        let none : first_future a.store (operands a.store r) ≡ None =
        ap (λ head. first_future a.store (strict_operands head r.places ++ strict_members a.store head r.places)) (serves_by_head s r labels e) in
        no_some (sym none ∙ needs_first a.store r x.place h.needs)

    abbrev read_by : Activity → List Context → Ready → Intent
    read_by y contexts o = elim o [ Lacks g ↦ Rests (Awaits g) | Reads s ↦ contracts requests n y contexts s (contract s r) ]

    alike_by : (contexts : List Context) (o : Ready) → read_by b contexts o ≡ read_by a contexts o
    alike_by contexts (Lacks g) = refl
    alike_by contexts (Reads s) = contracts_alike contexts s (contract s r) (no_serve s)

abbrev intent_by : (FutureShape → Chase) → List RequestShape → Name → Activity → Split → Intent
intent_by chases requests n a t = elim t [
  | Stands place ↦ ends_service a place (newest a.services)
  | Splits contexts redex ↦ elim (redex_ready chases a.store redex) [
    | Lacks g ↦ Rests (Awaits g)
    | Reads s ↦ contracts requests n a contexts s (contract s redex)
  ]
]

abbrev asks_by : Redex → Ready → Bool
asks_by r o = elim o [ Lacks g ↦ false | Reads s ↦ is_asking (contract s r) ]

abbrev communicates_by : (FutureShape → Chase) → Activity → Split → Bool
communicates_by chases a t = elim t [ Stands place ↦ is_some (newest a.services) | Splits contexts redex ↦ asks_by redex (redex_ready chases a.store redex) ]

abbrev unpacked_at : (FutureShape → Chase) → Activity → Split → List (FutureShape × ParcelShape)
unpacked_at chases a t = elim t [ Stands place ↦ [] | Splits contexts redex ↦ redex_read chases a.store redex ]

pub needs_keep_intents : NeedsKeepIntents
needs_keep_intents chases n a contexts r x closed splits h =
    let b : Activity = with_peek a x in
    let y = needs_keep_readings chases a.store r x closed.store (places_below a contexts r closed splits) h in record {
      intent = λ requests.
          ap (intent_by chases requests n b) splits
          ∙ ap (read_by chases requests n a x r h b contexts) y.ready
          ∙ alike_by chases requests n a x r h contexts (redex_ready chases a.store r)
          ∙ sym (ap (intent_by chases requests n a) splits);
      asks = ap (communicates_by chases b) splits ∙ ap (asks_by r) y.ready ∙ sym (ap (communicates_by chases a) splits);
      unpacked = ap (unpacked_at chases a) splits ∙ y.unpacked ∙ ap (λ zs. (x.future, x.value) ∷ zs) (sym (ap (unpacked_at chases b) splits));
    }
