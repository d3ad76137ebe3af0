-- What is written in turn.
use Rattle.std.proofs.Common.{◌≡◌, ◌∙◌, ◌++◌, List, OnOk, Result, Ok, Err, ap, append_assoc}

-- items, and others after them
pub and_then : {E X : Type 0} (old : List X) (answer : Result (Unit {0}) E) (middle new first second : List X)
    → middle ≡ old ++ first → OnOk answer (new ≡ middle ++ second) → OnOk answer (new ≡ old ++ (first ++ second))
and_then {X = X} old (Ok _) middle new first second e h =
    h ∙ ap (λ (items : List X). items ++ second) e ∙ append_assoc old first second
and_then old (Err _) middle new first second e h = tt
