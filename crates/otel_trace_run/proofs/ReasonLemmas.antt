-- Fields that end in others.
use Rattle.std.proofs.Common.{◌≡◌, ◌++◌, ◌+◌, ◌∙◌, ◌∷◌, ℕ, List, Option, None, Some, add-one, ap, append_assoc, inl, inr, refl, subst, sym}
use Rattle.std.specs.Prelude.{◌⊎◌}
use Rattle.otel_trace_lines.specs.Numbers.{decimal_in}
use Rattle.otel_trace_run.specs.Reasons.{EndsIn, ExplainsAfter, ExplainsMoment, ExplainsRest, ExplainsWord, StandBefore}
use Rattle.otel_trace_run.specs.Reasons.{moment_place}
use Rattle.otel_trace_run.specs.declared.reason.Reason.{Reason}
use Rattle.otel_trace_run.specs.declared.reason.Reason.TheVariants as reasons

-- one field more stands in front of those that are left
pub ends_further : (fields rest field after : List ℕ) → EndsIn fields rest → rest ≡ field ++ 32 ∷ after
    → EndsIn fields after
ends_further fields rest field after (inl e) k = inr (field, e ∙ k)
ends_further fields rest field after (inr (front, e)) k =
    inr (front ++ 32 ∷ field, e ∙ ap (λ bs. front ++ 32 ∷ bs) k ∙ sym (append_assoc front (32 ∷ field) (32 ∷ after)))

pub stand_further : (count : ℕ) (fields rest field after : List ℕ) → StandBefore count fields rest
    → rest ≡ field ++ 32 ∷ after → StandBefore (count + 1) fields after
stand_further count fields rest field after h k =
    subst (λ (n : ℕ). StandBefore n fields after) (sym (add-one count)) (field, rest, h, k)

-- what is said of a last field is said of all fields
pub explains_last : (word fields : List ℕ) (wants reason : Reason) → ExplainsWord word wants
    → (reason ≡ wants) ⊎ ExplainsRest fields reason → ExplainsAfter word fields reason
explains_last word fields wants reason h (inl e) = inl (subst (ExplainsWord word) (sym e) h)
explains_last word fields wants reason h (inr k) = inr (inl (fields, inl refl, k))

-- what is said of the field where a moment is wanted is said of all fields
pub explains_place : (count : ℕ) (fields rest : List ℕ) (wants reason : Reason) → EndsIn fields rest
    → StandBefore count fields rest
    → (reason ≡ wants) ⊎ (ExplainsRest rest reason
    ⊎ ((reason ≡ reasons.Number) × (decimal_in rest ≡ None)))
    → ExplainsMoment count fields wants reason
explains_place count fields rest wants reason ends stand (inl e) = inl (inl e)
explains_place count fields rest wants reason ends stand (inr (inl h)) = inl (inr (rest, ends, h))
explains_place count fields rest wants reason ends stand (inr (inr (e, unread))) =
    inr (e, record { rest = rest; place = stand; unread = unread })

-- the place of a moment, by the command or by one of two
pub either_place : (wants one other : Reason) (place : Option ℕ) → moment_place one ≡ place → moment_place other ≡ place
    → (wants ≡ one) ⊎ (wants ≡ other) → moment_place wants ≡ place
either_place wants one other place h k (inl e) = ap moment_place e ∙ h
either_place wants one other place h k (inr e) = ap moment_place e ∙ k

-- and of the word in front of them
pub explains_moment : (word fields : List ℕ) (wants reason : Reason) (count : ℕ) → ExplainsWord word wants
    → moment_place wants ≡ Some count → ExplainsMoment count fields wants reason → ExplainsAfter word fields reason
explains_moment word fields wants reason count h place (inl (inl e)) = inl (subst (ExplainsWord word) (sym e) h)
explains_moment word fields wants reason count h place (inl (inr (rest, ends, k))) = inr (inl (rest, ends, k))
explains_moment word fields wants reason count h place (inr (e, misread)) =
    inr (inr (e, (wants, count, h, place, misread)))
