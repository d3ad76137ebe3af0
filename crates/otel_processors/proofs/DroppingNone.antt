-- However many spans end at an eager processor, none is dropped while each drain finds memory, or no export that failed is
-- counted.
use Rattle.std.proofs.Common.{◌≡◌, ◌≢◌, ◌∙◌, inl, inr, refl, ap, sym, ℕ, zero, suc, ◌-◌, ◌^◌, ◌<◌, ◌≤◌, ◌==◌, Bool, true, false, List, [], ◌∷◌, Result, if◌then◌else◌, arith}
use Rattle.std.specs.Prelude.{MatchBool}
use Rattle.std.specs.declared.alloc.AllocError.{AllocError}
use Rattle.std.proofs.lemmas.Bool.Decides.{eqb_tells}
use Rattle.otel_export.specs.PlainSpanData.{PlainSpanData}
use Rattle.otel_export.specs.declared.trace.export.SpanExporter.{Ghosts}
use Rattle.otel_batch.specs.Drains.{largest_batch}
use Rattle.otel_batch.specs.MachineRun.{counted_up}
use Rattle.otel_processors.specs.BatchProcessor.{BatchEnds, BatchProcessor, EndInMemory, EndInTurn, EndsByQueue, EndsEagerly}
use Rattle.otel_processors.specs.BatchProcessor.{ends_eagerly}

-- the largest batch of a queue with a place has a span
pub some_batch : (queue batch : ℕ) → 0 < queue → 0 < (if batch == 0 then queue else batch)
some_batch queue batch some = elim (eqb_tells batch 0) [
  | inl none ↦ rw none.0 some
  | inr more ↦ rw more.0 (positive batch more.1)
]
  where
    positive : (n : ℕ) → n ≢ 0 → 0 < n
    positive zero not = absurd (not refl)
    positive (suc n) not = omega arith

module _ {E : Type 0} (calls : Ghosts E) where
  pub ends_drop_none : (p : BatchProcessor E) (spans : List PlainSpanData) (q : BatchProcessor E) → p.is_eager ≡ true →
      0 < largest_batch p.machine.control → EndInMemory calls p spans q →
      q.machine.control.dropped ≡ p.machine.control.dropped
  ends_drop_none p [] q eager some h = ap (λ (r : BatchProcessor E). r.machine.control.dropped) h
  ends_drop_none p (span ∷ spans) q eager some h =
      let ends = h.2 in
      ends_drop_none h.1 spans q (ends.is_eager ∙ eager) (rw ends.largest some) h.4 ∙ ends.loses_none eager some h.3

  -- an end counts on, and where a drain in it found no memory it counts more
  record CountsOn (p q : BatchProcessor E) (refused : Bool) : Type 0 where
    on : p.failed_exports < 2 ^ 64 → (p.failed_exports ≤ q.failed_exports) × (q.failed_exports < 2 ^ 64)
    more : refused ≡ true → p.failed_exports < 2 ^ 64 - 1 → p.failed_exports < q.failed_exports

  counts_on : (p : BatchProcessor E) (span : PlainSpanData) (answer : Result (Unit {0}) AllocError)
      (q : BatchProcessor E) (ends : BatchEnds calls p span answer q) → CountsOn p q ends.refused
  counts_on p span answer q ends = by_kind (ends_eagerly p span) ends.ends
    where
      by_kind : (eagerly : Bool) →
          MatchBool eagerly (EndsEagerly calls p span ends.refused q) (EndsByQueue calls p span ends.refused q) →
          CountsOn p q ends.refused
      by_kind true h =
          let is : q.failed_exports ≡ counted_up p.failed_exports h.failed =
          ap (λ (r : BatchProcessor E). r.failed_exports) h.rest in
          record {
            on = λ fits. (omega (arith, is, fits), omega (arith, is, fits));
            more = λ refused fits. let some = h.counts refused in omega (arith, is, fits, some);
          }
      by_kind false h =
          let is : q.failed_exports ≡ p.failed_exports = ap (λ (r : BatchProcessor E). r.failed_exports) h.rest in
          record {
            on = λ fits. (omega (arith, is, fits), omega (arith, is, fits));
            more = λ refused fits. absurd (let none = h.refusal in cc);
          }

  turns_count_on : (p : BatchProcessor E) (spans : List PlainSpanData) (q : BatchProcessor E) →
      EndInTurn calls p spans q → p.failed_exports < 2 ^ 64 → p.failed_exports ≤ q.failed_exports
  turns_count_on p [] q h fits =
      let is : q.failed_exports ≡ p.failed_exports = ap (λ (r : BatchProcessor E). r.failed_exports) h in
      omega (arith, is)
  turns_count_on p (span ∷ spans) q h fits =
      let first = (counts_on p span h.0 h.1 h.2).on fits in
      let rest = turns_count_on h.1 spans q h.3 first.1 in
      omega (arith, first.0, rest)

  -- ends that count none drop none
  pub uncounted_drop_none : (p : BatchProcessor E) (spans : List PlainSpanData) (q : BatchProcessor E) →
      p.is_eager ≡ true → 0 < largest_batch p.machine.control → p.failed_exports < 2 ^ 64 - 1 →
      EndInTurn calls p spans q → q.failed_exports ≡ p.failed_exports →
      q.machine.control.dropped ≡ p.machine.control.dropped
  uncounted_drop_none p [] q eager some fits h same = ap (λ (r : BatchProcessor E). r.machine.control.dropped) h
  uncounted_drop_none p (span ∷ spans) q eager some fits h same =
      let ends = h.2 in
      let first = counts_on p span h.0 h.1 ends in
      let on = first.on (omega (arith, fits)) in
      let rest = turns_count_on h.1 spans q h.3 on.1 in
      let stays : h.1.failed_exports ≡ p.failed_exports = omega (arith, on.0, rest, same) in
      uncounted_drop_none h.1 spans q (ends.is_eager ∙ eager) (rw ends.largest some) (rw stays fits) h.3
      (same ∙ sym stays)
      ∙ ends.loses_none eager some (found ends.refused (λ refused. first.more refused fits) stays)
    where
      found : (refused : Bool) → (refused ≡ true → p.failed_exports < h.1.failed_exports) →
          h.1.failed_exports ≡ p.failed_exports → refused ≡ false
      found false more stays = refl
      found true more stays = let less = more refl in absurd (omega (arith, less, stays))
