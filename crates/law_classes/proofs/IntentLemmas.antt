-- What an activity intends, whatever the order between classes in which it received requests.
use Rattle.std.specs.Prelude.{◌≡◌, ℕ, List, [], ◌∷◌, ◌++◌, Option, Some, None, is_some}
use Rattle.std.proofs.Common.{refl, sym, ap, subst, ◌∙◌, inl, inr, ⊎_elim, ◌⊎◌}
use Rattle.asp_model.specs.Names.{Name, FutureShape, Text}
use Rattle.asp_model.specs.Term.{Serve, Pending}
use Rattle.asp_model.specs.Split.{Context, Redex, Split, Stands, Splits, split}
use Rattle.asp_model.specs.Store.{Store, Number, cell}
use Rattle.asp_model.specs.Contraction.{Contraction, Becomes, Faults, Needs, Communicates, Breaks, Creates, Sends, Serves, Polls, contract, strict_operands, strict_members, truth}
use Rattle.asp_model.specs.Chase.{Chase}
use Rattle.asp_model.specs.Configuration.{RequestShape, ServiceShape, Activity}
use Rattle.asp_model.specs.Intent.{Effect, Intent, Acts, Rests, Ready, Reads, Lacks, Numbered, Awaits, operands_ready, redex_ready, oldest_match, labels_served, serves, polls, newest, ends_service, contracts, intent}
use Rattle.law_chases.proofs.FutureLemmas.{no_some, some_is}
use Rattle.law_steps.proofs.ContractionLemmas.{serves_by_head, polls_by_head}
use Rattle.law_services.specs.Correct.{bare}
use Rattle.law_classes.specs.Alike.{labels_of_asker, labels_in}
use Rattle.law_classes.proofs.BoxLemmas.{request_in}

abbrev pub with_served : Activity → List ℕ → Activity
with_served a t = record a { served = t }

abbrev pub own_of : Activity → Intent → Activity
own_of a (Acts e) = e.own
own_of a (Rests x) = a

-- the labels that an activity asks for
abbrev pub asked : Activity → List Text
asked a = labels_in (split a.term) (cell a.store a.active)

-- what was served by the two effects
pub data AreServed (a : Activity) (rs : List RequestShape) (t : List ℕ) (qs : List RequestShape) (e f : Effect) : Type 0 where
  none : e.own.served ≡ a.served → f.own.served ≡ t → AreServed a rs t qs e f
  one : (x y : Numbered) → oldest_match (asked a) a.served 0 rs ≡ Some x → oldest_match (asked a) t 0 qs ≡ Some y
      → e.own.served ≡ x.0 ∷ a.served → f.own.served ≡ y.0 ∷ t → e.sent ≡ None → e.logged ≡ None → AreServed a rs t qs e f

pub record AreAlikeEffects (a : Activity) (rs : List RequestShape) (t : List ℕ) (qs : List RequestShape) (e f : Effect) : Type 0 where
  pub own : bare e.own ≡ bare f.own
  pub sent : e.sent ≡ f.sent
  pub logged : e.logged ≡ f.logged
  pub made : e.made ≡ f.made
  pub filled : e.filled ≡ f.filled
  pub served : AreServed a rs t qs e f

abbrev store_of : Ready → Store → Store
store_of (Reads s) t = s
store_of (Lacks x) t = t

-- who serves or polls reads no operand
serve_reads : (f : FutureShape → Chase) (s : Store) (r : Redex) (ls : List Text) → r.head ≡ Serve ls → redex_ready f s r ≡ Reads s
serve_reads f s r ls h = ap (λ k. elim (operands_ready f s (strict_operands k r.places)) [ Reads t ↦ operands_ready f t (strict_members t k r.places) | Lacks x ↦ Lacks x ]) h

poll_reads : (f : FutureShape → Chase) (s : Store) (r : Redex) (ls : List Text) → r.head ≡ Pending ls → redex_ready f s r ≡ Reads s
poll_reads f s r ls h = ap (λ k. elim (operands_ready f s (strict_operands k r.places)) [ Reads t ↦ operands_ready f t (strict_members t k r.places) | Lacks x ↦ Lacks x ]) h

module _ (chases : FutureShape → Chase) (rs : List RequestShape) (t : List ℕ) (qs : List RequestShape) (n : Name) (a : Activity) where
  abbrev pub AreAlikeIntents : Intent → Intent → Type 0
  AreAlikeIntents (Acts e) (Acts f) = AreAlikeEffects a rs t qs e f
  AreAlikeIntents (Rests x) (Rests y) = x ≡ y
  AreAlikeIntents (Acts e) (Rests y) = ⊥
  AreAlikeIntents (Rests x) (Acts f) = ⊥

  -- the same request is the oldest of those that are asked for
  abbrev pub SameNext : Type 0
  SameNext = request_in (oldest_match (asked a) a.served 0 rs) ≡ request_in (oldest_match (asked a) t 0 qs)

  serve_alike : (contexts : List Context) (o p : Option Numbered) → oldest_match (asked a) a.served 0 rs ≡ o → oldest_match (asked a) t 0 qs ≡ p → request_in o ≡ request_in p → AreAlikeIntents (serves a contexts o) (serves (with_served a t) contexts p)
  serve_alike contexts None None m w e = refl
  serve_alike contexts None (Some y) m w e = no_some e
  serve_alike contexts (Some x) None m w e = no_some (sym e)
  serve_alike contexts (Some x) (Some y) m w e =
      let same : x.1 ≡ y.1 = some_is e in
      record {
        own = λ i. bare (own_of a (serves a contexts (Some (x.0, same i))));
        sent = refl;
        logged = refl;
        made = refl;
        filled = refl;
        served = one x y m w refl refl refl refl;
      }

  same_answer : (o p : Option Numbered) → request_in o ≡ request_in p → is_some o ≡ is_some p
  same_answer None None e = refl
  same_answer None (Some y) e = no_some e
  same_answer (Some x) None e = no_some (sym e)
  same_answer (Some x) (Some y) e = refl

  poll_alike : (contexts : List Context) (s : Store) (o p : Option Numbered) → request_in o ≡ request_in p → AreAlikeIntents (polls n a contexts s o) (polls n (with_served a t) contexts s p)
  poll_alike contexts s o p e =
      let same : is_some o ≡ is_some p = same_answer o p e in
      record {
        own = ap (λ b. bare (record (own_of a (polls n a contexts s o)) { store = s ++ Number (truth b) ∷ [] })) same;
        sent = refl;
        logged = refl;
        made = refl;
        filled = refl;
        served = none refl refl;
      }

  ends_alike : (place : ℕ) (o : Option ServiceShape) → AreAlikeIntents (ends_service a place o) (ends_service (with_served a t) place o)
  ends_alike place None = refl
  ends_alike place (Some x) = record { own = refl; sent = refl; logged = refl; made = refl; filled = refl; served = none refl refl }

  abbrev IsAsked : Store → Contraction → Type 0
  IsAsked s r = (written : List Text) → (r ≡ Communicates (Serves written)) ⊎ (r ≡ Communicates (Polls written)) → labels_served written (cell s a.active) ≡ asked a

  contracts_alike : (contexts : List Context) (s : Store) (r : Contraction) → IsAsked s r → SameNext → AreAlikeIntents (contracts rs n a contexts s r) (contracts qs n (with_served a t) contexts s r)
  contracts_alike contexts s (Becomes u store lines) asks same = record { own = refl; sent = refl; logged = refl; made = refl; filled = refl; served = none refl refl }
  contracts_alike contexts s (Faults x) asks same = refl
  contracts_alike contexts s (Needs place) asks same = refl
  contracts_alike contexts s Breaks asks same = refl
  contracts_alike contexts s (Communicates (Creates object service)) asks same = record { own = refl; sent = refl; logged = refl; made = refl; filled = refl; served = none refl refl }
  contracts_alike contexts s (Communicates (Sends to label arguments)) asks same = record { own = refl; sent = refl; logged = refl; made = refl; filled = refl; served = none refl refl }
  contracts_alike contexts s (Communicates (Serves written)) asks same =
      subst (λ ls. AreAlikeIntents (serves a contexts (oldest_match ls a.served 0 rs)) (serves (with_served a t) contexts (oldest_match ls t 0 qs))) (sym (asks written (inl refl)))
      (serve_alike contexts (oldest_match (asked a) a.served 0 rs) (oldest_match (asked a) t 0 qs) refl refl same)
  contracts_alike contexts s (Communicates (Polls written)) asks same =
      subst (λ ls. AreAlikeIntents (polls n a contexts s (oldest_match ls a.served 0 rs)) (polls n (with_served a t) contexts s (oldest_match ls t 0 qs))) (sym (asks written (inr refl)))
      (poll_alike contexts s (oldest_match (asked a) a.served 0 rs) (oldest_match (asked a) t 0 qs) same)

  abbrev by_ready : List RequestShape → Activity → List Context → Redex → Ready → Intent
  by_ready ps b contexts redex o = elim o [ Lacks f ↦ Rests (Awaits f) | Reads s ↦ contracts ps n b contexts s (contract s redex) ]

  -- the labels that a redex asks for are those of the activity
  asked_by : (contexts : List Context) (redex : Redex) (s : Store) → split a.term ≡ Splits contexts redex → redex_ready chases a.store redex ≡ Reads s → IsAsked s (contract s redex)
  asked_by contexts redex s splits is written by = ⊎_elim
      (λ e.
      let h = serves_by_head s redex written e in
      let p : s ≡ a.store = ap (λ o. store_of o s) (sym is ∙ serve_reads chases a.store redex written h) in
      ap (λ u. labels_served written (cell u a.active)) p ∙ sym (ap (λ k. labels_of_asker k (cell a.store a.active)) h) ∙ sym (ap (λ x. labels_in x (cell a.store a.active)) splits))
      (λ e.
      let h = polls_by_head s redex written e in
      let p : s ≡ a.store = ap (λ o. store_of o s) (sym is ∙ poll_reads chases a.store redex written h) in
      ap (λ u. labels_served written (cell u a.active)) p ∙ sym (ap (λ k. labels_of_asker k (cell a.store a.active)) h) ∙ sym (ap (λ x. labels_in x (cell a.store a.active)) splits))
      by

  ready_alike : (contexts : List Context) (redex : Redex) (o : Ready) → split a.term ≡ Splits contexts redex → redex_ready chases a.store redex ≡ o → SameNext → AreAlikeIntents (by_ready rs a contexts redex o) (by_ready qs (with_served a t) contexts redex o)
  ready_alike contexts redex (Lacks f) splits is same = refl
  ready_alike contexts redex (Reads s) splits is same = contracts_alike contexts s (contract s redex) (asked_by contexts redex s splits is) same

  abbrev by_split : List RequestShape → Activity → Split → Intent
  by_split ps b x = elim x [ Stands place ↦ ends_service b place (newest b.services) | Splits contexts redex ↦ by_ready ps b contexts redex (redex_ready chases b.store redex) ]

  split_alike : (x : Split) → split a.term ≡ x → SameNext → AreAlikeIntents (by_split rs a x) (by_split qs (with_served a t) x)
  split_alike (Stands place) is same = ends_alike place (newest a.services)
  split_alike (Splits contexts redex) is same = ready_alike contexts redex (redex_ready chases a.store redex) is refl same

  pub intents_alike : SameNext → AreAlikeIntents (intent chases rs n a) (intent chases qs n (with_served a t))
  intents_alike same = split_alike (split a.term) refl same
