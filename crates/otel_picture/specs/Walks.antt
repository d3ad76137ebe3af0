-- Walks up from the spans of a trace, in order of export, each as far as none came before.
use Rattle.std.specs.Prelude.{◌≡◌, ◌<◌, ◌⊎◌, ℕ, suc, Bool, Option, Some, None, List, get_or, length}
use Rattle.otel_picture.specs.Parents.{ancestor}
use Rattle.otel_picture.specs.Turns.{LeadsTo}

-- no walk began at this span or after it
abbrev pub AreBelow : ℕ → List (Option ℕ) → Type 0
AreBelow bound walks = (span began : ℕ) → get_or walks span None ≡ Some began → began < bound

-- each span to which a walk came is under a root
abbrev pub AreOver : List (Option ℕ) → List Bool → List (Option ℕ) → Type 0
AreOver parents tops walks = (span began : ℕ) → get_or walks span None ≡ Some began → LeadsTo parents tops span

-- a walk came to a span twice: what it came to is under that span
pub record CameUp (parents : List (Option ℕ)) (tops : List Bool) (walks : List (Option ℕ)) (span above : ℕ)
    : Type 0 where
  pub there : above < length parents
  pub circle : (steps : ℕ) × (ancestor parents (suc steps) above ≡ Some above)
  pub from : (steps : ℕ) × (ancestor parents steps span ≡ Some above)
  pub over : (other began : ℕ) → get_or walks other None ≡ Some began
      → LeadsTo parents tops other ⊎ ((steps : ℕ) × (ancestor parents steps other ≡ Some above))
