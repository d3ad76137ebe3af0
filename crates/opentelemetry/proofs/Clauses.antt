-- Clauses that speak of one case of a result or of a truth value.
use Rattle.std.proofs.Common.{◌≡◌, Bool, true, false, Result, Ok, Err, IfOk, OnOk, OnErr}
use Rattle.std.specs.Bool.{OnFalse}

-- what always holds holds on an error
pub always_on_err : {T E P : Type 0} (r : Result T E) → P → OnErr r P
always_on_err (Ok _) p = tt
always_on_err (Err _) p = p

-- what follows on Ok
pub if_ok_map : {T E : Type 0} {A B : T → Type 0} (r : Result T E) → ((x : T) → A x → B x) → IfOk r A → IfOk r B
if_ok_map (Ok x) f h = f x h
if_ok_map (Err e) f h = tt

-- what follows on Ok where nothing is said of the value
pub on_ok_map : {T E : Type 0} {A B : Type 0} (r : Result T E) → (A → B) → OnOk r A → OnOk r B
on_ok_map (Ok x) f h = f h
on_ok_map (Err e) f h = tt

-- what follows on an error
pub on_err_map : {T E : Type 0} {A B : Type 0} (r : Result T E) → (A → B) → OnErr r A → OnErr r B
on_err_map (Ok x) f h = tt
on_err_map (Err e) f h = f h

-- what follows from what holds in the case of false
pub on_false_map : {P Q : Type 0} (b : Bool) → (P → Q) → OnFalse b P → OnFalse b Q
on_false_map true f h = tt
on_false_map false f h = f h

-- what is false is not true
is_no : false ≡ true → ⊥
is_no e = cc

-- where Ok follows, an error shows that the premise fails
pub fails_on_err : {A : Type 0} → (A → false ≡ true) → A → ⊥
fails_on_err h a = is_no (h a)
