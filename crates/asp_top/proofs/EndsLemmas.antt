-- How a call ends, from what was told.
use Rattle.std.proofs.Common.{ℕ, sym, subst, inl, inr, refl}
use Rattle.asp_top.specs.declared.prepare.Prepared.{Prepared}
use Rattle.asp_top.specs.Seen.{Call, Sight, IsUntouched, TakesFront}
use Rattle.asp_top.specs.Refusals.{Refusal, NoMemory, write_message}
use Rattle.asp_top.specs.Endings.{IsCause, IsAnswer, Ends, Written, Refused, Unheard, Unwritten, OfMemory}
use Rattle.asp_top.specs.Ready.{Told, ToldRefusal, ToldOf, WrittenOf, text_in}

-- that a text could not be written was told, or could not be told
pub failed_told : (out err : Sight) (p : Prepared) (result : ℕ) → TakesFront out (text_in p) → Told err write_message 7 result → WrittenOf out err p result
failed_told out err p result f (inl t) = inr (t.0, f, inl t.1)
failed_told out err p result f (inr t) = inr (t.0, f, inr t.1)

ends_refused : (c : Call) (status : ℕ) (r : Refusal) → IsCause c r → IsUntouched c.out → ToldRefusal r c.err status → Ends c status
ends_refused c status r h u (inl t) = Refused r h u t.1 t.0
ends_refused c status r h u (inr t) = Unheard r h u t.1 t.0

pub ends_stopped : (c : Call) (status : ℕ) (r : Refusal) → IsCause c r → IsUntouched c.out → ToldOf r c.err status → Ends c status
ends_stopped c status r h u (inl t) = ends_refused c status r h u t
ends_stopped c status r h u (inr t) = ends_refused c status NoMemory (OfMemory refl) u t

pub ends_written : (c : Call) (status : ℕ) (p : Prepared) → IsAnswer c (text_in p) p.status → WrittenOf c.out c.err p status → Ends c status
ends_written c status p a (inl t) = Written (text_in p) (subst (IsAnswer c (text_in p)) (sym t.0) a) t.1 t.2
ends_written c status p a (inr t) = Unwritten (text_in p) p.status a t.1 t.2 t.0
