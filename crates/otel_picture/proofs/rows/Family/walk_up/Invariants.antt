-- The walk so far: the spans that it came to lead up to where it is.
use Rattle.std.proofs.Common.{◌≡◌, ◌<◌, ◌⊎◌, ◌-◌, ℕ, suc, Some, None, count_by, get_or, is_some, vec_len}
use Rattle.otel_picture.specs.Parents.{ancestor}
use Rattle.otel_picture.proofs.rows.Family.walk_up.Given as goal

abbrev pub invariant-loop-at : goal.invariant-loop-at
invariant-loop-at l = record {
  there : l.at < vec_len l.self.parents;
  walked : vec_len l.walks ≡ vec_len l.self.parents;
  from : (steps : ℕ) × (ancestor l.self.parents.items steps l.span ≡ Some l.at);
  came : (other began : ℕ) → get_or l.walks.items other None ≡ Some began
      → (get_or l.fn.walks.items other None ≡ Some began)
      ⊎ ((began ≡ l.span) × (steps : ℕ) × (ancestor l.self.parents.items (suc steps) other ≡ Some l.at));
}

abbrev pub decreases-loop-at : goal.decreases-loop-at
decreases-loop-at l = vec_len l.walks - count_by is_some l.walks.items
