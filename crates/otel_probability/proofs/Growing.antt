-- Texts to which a character or another text is put.
use Rattle.std.proofs.Common.{◌≡◌, List, ℕ, ◌++◌, ◌∙◌, cond, ap, append_assoc, sym}
use Rattle.std.specs.Prelude.{Result, Ok, Err}
use Rattle.std.specs.Result.{OnOk, is_ok}

-- after a front, its last part makes the whole
pub grows_by_last : {E : Type 0} (r : Result (Unit {0}) E) (new middle old front last whole : List ℕ)
    → new ≡ cond (is_ok r) (middle ++ last) middle → middle ≡ old ++ front → whole ≡ front ++ last → OnOk r (new ≡ old ++ whole)
grows_by_last (Ok x) new middle old front last whole pushed fronted is =
    pushed ∙ ap (λ m. m ++ last) fronted ∙ append_assoc old front last ∙ ap (λ w. old ++ w) (sym is)
grows_by_last (Err e) new middle old front last whole pushed fronted is = tt
