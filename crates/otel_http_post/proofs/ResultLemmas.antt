-- What holds of the error that a `?` makes.
use Rattle.std.proofs.Common.{◌≡◌, Result, Ok, Err, subst, sym}
use Rattle.std.specs.Prelude.{IfErr, IsErrAnd, MatchResult}

pub match_error : {X E : Type 0} (r : Result X E) (e : E) (P : X → Type 0) (Q : E → Type 0)
    → IsErrAnd r (λ x. x ≡ e) → Q e → MatchResult r P Q
match_error (Ok x) e P Q is h = absurd is
match_error (Err x) e P Q is h = subst Q (sym is) h

pub if_err : {X E : Type 0} (r : Result X E) (e : E) (Q : E → Type 0) → IsErrAnd r (λ x. x ≡ e) → Q e → IfErr r Q
if_err (Ok x) e Q is h = absurd is
if_err (Err x) e Q is h = subst Q (sym is) h
