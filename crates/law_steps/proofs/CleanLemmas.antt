-- What holds of the names in all cells holds in what an intent leaves and gives, of the target of a request
-- and of an awaited future.
use Rattle.std.specs.Prelude.{◌≡◌, ℕ, suc, ◌+◌, ◌&&◌, not, true, false, List, [], ◌∷◌, Option, Some, None, length, map}
use Rattle.std.proofs.Common.{refl, sym, ap, subst, ◌∙◌}
use Rattle.asp_model.specs.Names.{Name, FutureShape, Text, created_name}
use Rattle.asp_model.specs.Term.{Head, has_text}
use Rattle.asp_model.specs.Split.{Context, Redex, Split, Stands, Splits, split}
use Rattle.asp_model.specs.Store.{CellShape, Number, Object, Reference, Future, Group, Store, cell, moved_cell}
use Rattle.asp_model.specs.Parcel.{ParcelShape, parcel_of, has_place, place_at}
use Rattle.asp_model.specs.Contraction.{Contraction, Becomes, Faults, Needs, Communicates, Breaks, Creates, Sends, Serves, Polls, contract, strict_operands, strict_members}
use Rattle.asp_model.specs.Chase.{Chase, Value, Unfilled, Cycle}
use Rattle.asp_model.specs.Configuration.{RequestShape, ServiceShape, ReceptionShape, Activity}
use Rattle.asp_model.specs.Intent.{Done, Serving, Running, Awaits, Faulted, Intent, Acts, Rests, Effect, Ready, Reads, Lacks, fetched, operand_ready, operands_ready, redex_ready, Numbered, oldest_match, labels_served, serves, newest, filling, ends_service, sends, creates, contracts, intent}
use Rattle.law_steps.specs.Linked.{Each}
use Rattle.law_chases.proofs.FutureLemmas.{no_some, some_is}
use Rattle.law_steps.proofs.EachLemmas.{each_both}
use Rattle.law_steps.proofs.ContractionLemmas.{IsOfNames, of_cell, all_moved, all_parcel, all_placed, Fine, contract_fine}
use Rattle.law_chases.proofs.ChaseLemmas.{awaited}
use Rattle.law_steps.proofs.FactLemmas.{no_acts, acts_is}

-- all values that are read are of P
abbrev pub AllRead : (CellShape → Type 0) → (FutureShape → Chase) → Type 0
AllRead P chases = (f y : FutureShape) (p : ParcelShape) → chases f ≡ Value y p → Each P p.cells

-- what is awaited is of P where it began from P
abbrev pub AllLacked : (CellShape → Type 0) → (FutureShape → Chase) → Type 0
AllLacked P chases = (f h : FutureShape) → awaited (chases f) ≡ Some h → P (Future f) → P (Future h)

abbrev pub AllSent : (CellShape → Type 0) → List RequestShape → Type 0
AllSent P [] = Unit {0}
AllSent P (r ∷ rs) = Each P r.arguments.cells × AllSent P rs

-- Readings

abbrev pub IsRead : (CellShape → Type 0) → Ready → Type 0
IsRead P (Reads t) = Each P t
IsRead P (Lacks h) = P (Future h)

module _ (P : CellShape → Type 0) (o : IsOfNames P) (chases : FutureShape → Chase) (read : AllRead P chases) (lacked : AllLacked P chases) where
  fetched_is : (s : Store) (n : ℕ) (f : FutureShape) (c : Chase) → chases f ≡ c → Each P s → P (Future f) → IsRead P (fetched s n c)
  fetched_is s n f (Value y p) is h k = all_placed P s n (map (moved_cell (place_at (length s) n)) p.cells) h (all_moved P o (place_at (length s) n) p.cells (read f y p is))
  fetched_is s n f (Unfilled x) is h k = lacked f x (ap awaited is) k
  fetched_is s n f (Cycle x) is h k = lacked f x (ap awaited is) k

  operand_is : (s : Store) (n : ℕ) (c : CellShape) → Each P s → P c → IsRead P (operand_ready chases s n c)
  operand_is s n (Future f) h k = fetched_is s n f (chases f) refl h k
  operand_is s n (Number z) h k = h
  operand_is s n (Object fields methods) h k = h
  operand_is s n (Reference m) h k = h
  operand_is s n (Group ns) h k = h

  then_is : (next : Store → Ready) → ((t : Store) → Each P t → IsRead P (next t)) → (r : Ready) → IsRead P r → IsRead P (elim r [ Reads t ↦ next t | Lacks f ↦ Lacks f ])
  then_is next to (Reads t) h = to t h
  then_is next to (Lacks f) h = h

  operands_are : (ns : List ℕ) (s : Store) → Each P s → IsRead P (operands_ready chases s ns)
  operands_are [] s h = h
  operands_are (n ∷ ns) s h = then_is (λ t. operands_ready chases t ns) (λ t k. operands_are ns t k) (operand_ready chases s n (cell s n)) (operand_is s n (cell s n) h (of_cell P o s h n))

  pub redex_is : (s : Store) (r : Redex) → Each P s → IsRead P (redex_ready chases s r)
  redex_is s r h = then_is (λ t. operands_ready chases t (strict_members t r.head r.places)) (λ t k. operands_are (strict_members t r.head r.places) t k) (operands_ready chases s (strict_operands r.head r.places)) (operands_are (strict_operands r.head r.places) s h)

-- What an intent aims at

-- the target of its request, or what it awaits
abbrev pub Aims : (CellShape → Type 0) → Intent → Type 0
Aims P (Acts e) = (z : Name × RequestShape) → e.sent ≡ Some z → P (Reference z.0)
Aims P (Rests (Awaits h)) = P (Future h)
Aims P (Rests Done) = Unit {0}
Aims P (Rests Serving) = Unit {0}
Aims P (Rests Running) = Unit {0}
Aims P (Rests (Faulted x)) = Unit {0}

module _ (P : CellShape → Type 0) (requests : List RequestShape) (n : Name) (a : Activity) where
  serves_aims : (contexts : List Context) (o : Option Numbered) → Aims P (serves a contexts o)
  serves_aims contexts None = tt
  serves_aims contexts (Some x) = λ z e. no_some e

  ends_aims : (place : ℕ) (o : Option ServiceShape) → Aims P (ends_service a place o)
  ends_aims place None = tt
  ends_aims place (Some v) = λ z e. no_some e

  contraction_aims : (h : Head) (contexts : List Context) (s : Store) (r : Contraction) → Fine P h r → Aims P (contracts requests n a contexts s r)
  contraction_aims h contexts s (Becomes t store lines) fine = λ z e. no_some e
  contraction_aims h contexts s (Faults x) fine = tt
  contraction_aims h contexts s (Needs place) fine = tt
  contraction_aims h contexts s (Communicates (Creates object service)) fine = λ z e. no_some e
  contraction_aims h contexts s (Communicates (Sends to label arguments)) fine = λ z e. subst (λ k. P (Reference k)) (ap (λ x. x.0) (some_is e)) fine
  contraction_aims h contexts s (Communicates (Serves labels)) fine = serves_aims contexts (oldest_match (labels_served labels (cell s a.active)) a.served 0 requests)
  contraction_aims h contexts s (Communicates (Polls labels)) fine = λ z e. no_some e
  contraction_aims h contexts s Breaks fine = tt

module _ (P : CellShape → Type 0) (o : IsOfNames P) (chases : FutureShape → Chase) (read : AllRead P chases) (lacked : AllLacked P chases) (requests : List RequestShape) (n : Name) (a : Activity) (h : Each P a.store) where
  ready_aims : (contexts : List Context) (redex : Redex) (r : Ready) → IsRead P r → Aims P (elim r [ Lacks f ↦ Rests (Awaits f) | Reads s ↦ contracts requests n a contexts s (contract s redex) ])
  ready_aims contexts redex (Lacks f) k = k
  ready_aims contexts redex (Reads s) k = contraction_aims P requests n a redex.head contexts s (contract s redex) (contract_fine P o s k redex)

  split_aims : (t : Split) → Aims P (elim t [
    | Stands place ↦ ends_service a place (newest a.services)
    | Splits contexts redex ↦ elim (redex_ready chases a.store redex) [ Lacks f ↦ Rests (Awaits f) | Reads s ↦ contracts requests n a contexts s (contract s redex) ]
  ])
  split_aims (Stands place) = ends_aims P requests n a place (newest a.services)
  split_aims (Splits contexts redex) = ready_aims contexts redex (redex_ready chases a.store redex) (redex_is P o chases read lacked a.store redex h)

  pub intent_aims : Aims P (intent chases requests n a)
  intent_aims = split_aims (split a.term)

-- What an intent leaves and gives

pub record Clean (P : CellShape → Type 0) (e : Effect) : Type 0 where
  pub own : Each P e.own.store
  pub made : (z : Name × Activity) → e.made ≡ Some z → Each P z.1.store
  pub sent : (z : Name × RequestShape) → e.sent ≡ Some z → Each P z.1.arguments.cells
  pub filled : (z : FutureShape × ParcelShape) → e.filled ≡ Some z → Each P z.1.cells

-- what a step makes and sends is of P
pub record NamesOf (P : CellShape → Type 0) (e : Effect) : Type 0 where
  pub made : (z : Name × Activity) → e.made ≡ Some z → P (Reference z.0)
  pub sent : (z : Name × RequestShape) → e.sent ≡ Some z → P (Future z.1.future)

clean_alone : (P : CellShape → Type 0) (a : Activity) (l : Option (Name × ReceptionShape)) → Each P a.store → Clean P (record { own = a; sent = None; logged = l; made = None; filled = None })
clean_alone P a l h = record { own = h; made = λ z e. no_some e; sent = λ z e. no_some e; filled = λ z e. no_some e }

match_all : (P : CellShape → Type 0) (labels : List Text) (served : List ℕ) (k : ℕ) (rs : List RequestShape) (x : Numbered) → AllSent P rs → oldest_match labels served k rs ≡ Some x → Each P x.1.arguments.cells
match_all P labels served k [] x h e = no_some e
match_all P labels served k (r ∷ rs) x h e = elim (not (has_place k served) && has_text r.label labels) as (λ b. elim b [ true ↦ Some (k, r) | false ↦ oldest_match labels served (suc k) rs ] ≡ Some x → Each P x.1.arguments.cells) [
  | true ↦ λ e. subst (λ z. Each P z.1.arguments.cells) (some_is e) h.0
  | false ↦ λ e. match_all P labels served (suc k) rs x h.1 e
] e

module _ (P : CellShape → Type 0) (o : IsOfNames P) (requests : List RequestShape) (sent : AllSent P requests) (n : Name) (a : Activity) (h : Each P a.store) where
  serves_clean : (contexts : List Context) (v : Option Numbered) → ((x : Numbered) → v ≡ Some x → Each P x.1.arguments.cells) → (e : Effect) → serves a contexts v ≡ Acts e → Clean P e
  serves_clean contexts None k e q = no_acts q
  serves_clean contexts (Some x) k e q = subst (Clean P) (acts_is q) (clean_alone P _ None (each_both P a.store (map (moved_cell (λ i. i + length a.store)) x.1.arguments.cells) h (all_moved P o (λ i. i + length a.store) x.1.arguments.cells (k x refl))))

  filling_all : (f : Option FutureShape) (p : ParcelShape) → Each P p.cells → (z : FutureShape × ParcelShape) → filling f p ≡ Some z → Each P z.1.cells
  filling_all None p k z q = no_some q
  filling_all (Some f) p k z q = subst (λ u. Each P u.1.cells) (some_is q) k

  ends_clean : (place : ℕ) (v : Option ServiceShape) (e : Effect) → ends_service a place v ≡ Acts e → Clean P e
  ends_clean place None e q = no_acts q
  ends_clean place (Some v) e q = subst (Clean P) (acts_is q) (record { own = h; made = λ z r. no_some r; sent = λ z r. no_some r; filled = filling_all a.present (parcel_of a.store (place ∷ [])) (all_parcel P o a.store (place ∷ []) h) })

  creates_clean : (contexts : List Context) (s : Store) (object : ℕ) (service : Option Text) (e : Effect) → Each P s → creates n a contexts s object service ≡ Acts e → NamesOf P e → Clean P e
  creates_clean contexts s object service e g q names =
      let is = acts_is q in
      record {
        own = subst (λ x. Each P x.own.store) is (each_both P s (Reference (created_name n (suc a.creations)) ∷ []) g (names.made _ (ap (λ x. x.made) (sym is)), tt));
        made = λ z r. subst (λ x. Each P x.1.store) (some_is (ap (λ x. x.made) is ∙ r)) (all_moved P o (λ j. j + length {A = CellShape} []) (parcel_of s (object ∷ [])).cells (all_parcel P o s (object ∷ []) g));
        sent = λ z r. no_some (ap (λ x. x.sent) is ∙ r);
        filled = λ z r. no_some (ap (λ x. x.filled) is ∙ r);
      }

  sends_clean : (contexts : List Context) (s : Store) (to : Name) (label : Text) (arguments : List ℕ) (e : Effect) → Each P s → sends n a contexts s to label arguments ≡ Acts e → NamesOf P e → Clean P e
  sends_clean contexts s to label arguments e g q names =
      let is = acts_is q in
      record {
        own = subst (λ x. Each P x.own.store) is (each_both P s (Future (record { by = n; index = suc a.sends }) ∷ []) g (names.sent _ (ap (λ x. x.sent) (sym is)), tt));
        made = λ z r. no_some (ap (λ x. x.made) is ∙ r);
        sent = λ z r. subst (λ x. Each P x.1.arguments.cells) (some_is (ap (λ x. x.sent) is ∙ r)) (all_parcel P o s arguments g);
        filled = λ z r. no_some (ap (λ x. x.filled) is ∙ r);
      }

  contraction_clean : (k : Head) (contexts : List Context) (s : Store) (r : Contraction) (e : Effect) → Each P s → Fine P k r → contracts requests n a contexts s r ≡ Acts e → NamesOf P e → Clean P e
  contraction_clean k contexts s (Becomes t store lines) e g fine q names = subst (Clean P) (acts_is q) (clean_alone P _ None fine)
  contraction_clean k contexts s (Faults x) e g fine q names = no_acts q
  contraction_clean k contexts s (Needs place) e g fine q names = no_acts q
  contraction_clean k contexts s (Communicates (Creates object service)) e g fine q names = creates_clean contexts s object service e g q names
  contraction_clean k contexts s (Communicates (Sends to label arguments)) e g fine q names = sends_clean contexts s to label arguments e g q names
  contraction_clean k contexts s (Communicates (Serves labels)) e g fine q names = serves_clean contexts (oldest_match (labels_served labels (cell s a.active)) a.served 0 requests) (λ x r. match_all P (labels_served labels (cell s a.active)) a.served 0 requests x sent r) e q
  contraction_clean k contexts s (Communicates (Polls labels)) e g fine q names = subst (Clean P) (acts_is q) (clean_alone P _ _ (each_both P s (Number _ ∷ []) g (o.number _, tt)))
  contraction_clean k contexts s Breaks e g fine q names = no_acts q

  ready_clean : (contexts : List Context) (redex : Redex) (r : Ready) → IsRead P r → (e : Effect) → elim r [ Lacks f ↦ Rests (Awaits f) | Reads s ↦ contracts requests n a contexts s (contract s redex) ] ≡ Acts e → NamesOf P e → Clean P e
  ready_clean contexts redex (Lacks f) k e q names = no_acts q
  ready_clean contexts redex (Reads s) k e q names = contraction_clean redex.head contexts s (contract s redex) e k (contract_fine P o s k redex) q names

  split_clean : (chases : FutureShape → Chase) → AllRead P chases → AllLacked P chases → (t : Split) (e : Effect) → elim t [
    | Stands place ↦ ends_service a place (newest a.services)
    | Splits contexts redex ↦ elim (redex_ready chases a.store redex) [ Lacks f ↦ Rests (Awaits f) | Reads s ↦ contracts requests n a contexts s (contract s redex) ]
  ] ≡ Acts e → NamesOf P e → Clean P e
  split_clean chases read lacked (Stands place) e q names = ends_clean place (newest a.services) e q
  split_clean chases read lacked (Splits contexts redex) e q names = ready_clean contexts redex (redex_ready chases a.store redex) (redex_is P o chases read lacked a.store redex h) e q names

  pub intent_clean : (chases : FutureShape → Chase) → AllRead P chases → AllLacked P chases → (e : Effect) → intent chases requests n a ≡ Acts e → NamesOf P e → Clean P e
  intent_clean chases read lacked e q names = split_clean chases read lacked (split a.term) e q names
