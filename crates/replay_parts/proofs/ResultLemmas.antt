-- What holds of a result where it is Ok.
use Rattle.std.proofs.Common.{Ok, Err, Result, IfOk, OnOk}

pub if_ok : {T E : Type 0} (r : Result T E) (P Q : T → Type 0) → ((t : T) → P t → Q t) → IfOk r P → IfOk r Q
if_ok (Ok t) P Q f h = f t h
if_ok (Err e) P Q f h = h

pub on_ok : {T E : Type 0} (r : Result T E) (P Q : Type 0) → (P → Q) → OnOk r P → OnOk r Q
on_ok (Ok t) P Q f h = f h
on_ok (Err e) P Q f h = h

pub any_way : {T E : Type 0} (r : Result T E) (P : Type 0) → P → OnOk r P
any_way (Ok t) P h = h
any_way (Err e) P h = tt
