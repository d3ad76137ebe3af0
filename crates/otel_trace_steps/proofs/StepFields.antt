-- The fields of a line of steps are determined, so what is found of them is found in the line.
use Rattle.std.proofs.Common.{◌≡◌, ◌≢◌, ℕ, List, ◌∷◌, ◌++◌, Option, None, Some, IsUtf8, codes, inl, inr, refl, arith, rules}
use Rattle.std.proofs.lemmas.List.Elements.{All-from_recursion}
use Rattle.otel_batch.specs.declared.machine.step.Step.TheVariants as steps
use Rattle.otel_trace_lines.specs.Found.{Finds}
use Rattle.otel_trace_lines.specs.Lines.{IsField}
use Rattle.otel_trace_steps.specs.StepLines.{IsWord, ReadsOrder, SomeOffer, TakesFields, TakesName, TakesProducer}
use Rattle.otel_trace_steps.specs.declared.steps.step_lines.Order.{Order}
use Rattle.otel_trace_steps.specs.declared.steps.step_lines.Order.TheVariants as orders
use Rattle.otel_trace_lines.proofs.FieldLemmas.{same_field, no_last_field}
use Rattle.otel_trace_lines.proofs.Numerals.{number_is_field}

-- where a number stands after the word, and a name after that
reads_name : (word fields digits name : List ℕ) → IsField digits → fields ≡ digits ++ 32 ∷ name → (order : Order) → (TakesName word digits name order → ⊥) → TakesFields word fields order → ⊥
reads_name word fields digits name is e order none (inl t) = no_last_field fields fields digits name (number_is_field fields t.0 t.1) refl e
reads_name word fields digits name is e order none (inr t) =
    let same = same_field fields digits name t.0 t.1 is (number_is_field t.0 t.3.0 t.3.1) e t.2 in
    none (rw (same.0, same.1) t.3)

-- what is found of the name is found of the fields
pub name_found : (word fields digits name : List ℕ) → IsField digits → fields ≡ digits ++ 32 ∷ name → (found : Option Order) → Finds (TakesName word digits name) found → Finds (TakesFields word fields) found
name_found word fields digits name is e None h = λ order t. reads_name word fields digits name is e order (h order) t
name_found word fields digits name is e (Some order) h = inr (digits, name, e, h)

-- an offer of the name is one of the fields
pub name_offer : (word fields digits name : List ℕ) → fields ≡ digits ++ 32 ∷ name → SomeOffer (TakesName word digits name) → SomeOffer (TakesFields word fields)
name_offer word fields digits name e offer = (offer.0, (offer.1.0, inr (digits, name, e, offer.1.1)))

-- where no field is followed by a space
reads_producer : (word fields : List ℕ) → ((first rest : List ℕ) → IsField first → fields ≡ first ++ 32 ∷ rest → ⊥) → (order : Order) → (TakesProducer word fields order → ⊥) → TakesFields word fields order → ⊥
reads_producer word fields alone order none (inl t) = none t
reads_producer word fields alone order none (inr t) = alone t.0 t.1 (number_is_field t.0 t.3.0 t.3.1) t.2

-- what is found of the producer is found of the fields
pub producer_found : (word fields : List ℕ) → ((first rest : List ℕ) → IsField first → fields ≡ first ++ 32 ∷ rest → ⊥) → (found : Option Order) → Finds (TakesProducer word fields) found → Finds (TakesFields word fields) found
producer_found word fields alone None h = λ order t. reads_producer word fields alone order (h order) t
producer_found word fields alone (Some order) h = inl h

-- a text that is a word without spaces
is_literal : (text word : List ℕ) → text ≡ word → IsField word → IsField text
is_literal text word e is = rw e is

-- each word that stands alone is a field
word_is_field : (word : List ℕ) (order : Order) → IsWord word order → IsField word
word_is_field word orders.State h = is_literal word (codes "state") h (omega arith, All-from_recursion (λ b. b ≢ 32) (codes "state") (search rules))
word_is_field word (orders.Step (steps.PostResource r)) h = is_literal word (codes "resource") h.0 (omega arith, All-from_recursion (λ b. b ≢ 32) (codes "resource") (search rules))
word_is_field word (orders.Step steps.Take) h = is_literal word (codes "take") h (omega arith, All-from_recursion (λ b. b ≢ 32) (codes "take") (search rules))
word_is_field word (orders.Step steps.Tick) h = is_literal word (codes "tick") h (omega arith, All-from_recursion (λ b. b ≢ 32) (codes "tick") (search rules))
word_is_field word (orders.Step steps.Clear) h = is_literal word (codes "clear") h (omega arith, All-from_recursion (λ b. b ≢ 32) (codes "clear") (search rules))
word_is_field word (orders.Step steps.Load) h = is_literal word (codes "load") h (omega arith, All-from_recursion (λ b. b ≢ 32) (codes "load") (search rules))
word_is_field word (orders.Step steps.Pull) h = is_literal word (codes "pull") h (omega arith, All-from_recursion (λ b. b ≢ 32) (codes "pull") (search rules))
word_is_field word (orders.Step steps.HandOver) h = is_literal word (codes "hand") h (omega arith, All-from_recursion (λ b. b ≢ 32) (codes "hand") (search rules))
word_is_field word (orders.Step steps.Subtract) h = is_literal word (codes "subtract") h (omega arith, All-from_recursion (λ b. b ≢ 32) (codes "subtract") (search rules))
word_is_field word (orders.Step steps.Finish) h = is_literal word (codes "finish") h (omega arith, All-from_recursion (λ b. b ≢ 32) (codes "finish") (search rules))
word_is_field word (orders.Step steps.Close) h = is_literal word (codes "close") h (omega arith, All-from_recursion (λ b. b ≢ 32) (codes "close") (search rules))
word_is_field word (orders.Step _) h = absurd h

-- where a field and a space stand in front
reads_fields : (line word fields : List ℕ) → IsField word → line ≡ word ++ 32 ∷ fields → (order : Order) → (TakesFields word fields order → ⊥) → ReadsOrder line order → ⊥
reads_fields line word fields is e order none (text, inl h) = no_last_field line line word fields (word_is_field line order h) refl e
reads_fields line word fields is e order none (text, inr h) =
    let same = same_field line word fields h.0 h.1 is h.2 e h.3 in
    none (rw (same.0, same.1) h.4)

-- what is found of the fields is found in the line
pub fields_found : (line word fields : List ℕ) → IsUtf8 line → IsField word → line ≡ word ++ 32 ∷ fields → (found : Option Order) → Finds (TakesFields word fields) found → Finds (ReadsOrder line) found
fields_found line word fields text is e None h = λ order r. reads_fields line word fields is e order (h order) r
fields_found line word fields text is e (Some order) h = (text, inr (word, fields, is, e, h))

-- an offer of the fields is one in the line
pub fields_offer : (line word fields : List ℕ) → IsUtf8 line → IsField word → line ≡ word ++ 32 ∷ fields → SomeOffer (TakesFields word fields) → SomeOffer (ReadsOrder line)
fields_offer line word fields text is e offer = (offer.0, (offer.1.0, (text, inr (word, fields, is, e, offer.1.1))))
