-- A bad line is a line of its text, so that there is a reason for it.
use Rattle.std.proofs.Common.{◌≡◌, ◌<◌, ◌≤◌, ◌⊎◌, ◌∷◌, inl, inr, ℕ, List, Option, Some, None}
use Rattle.std.proofs.Common.{IfNone, IfSome, length, ap, arith, refl, length-append, subst, sym, true}
use Rattle.std.proofs.lemmas.List.{length-map}
use Rattle.std.specs.Str.Lines.{lines}
use Rattle.otel_trace_lines.specs.Commands.{PlainCommand}
use Rattle.otel_trace_lines.specs.Dialects.{without_comment}
use Rattle.otel_trace_lines.specs.Lines.{TextSpells}
use Rattle.otel_trace_lines.specs.declared.dialect.Dialect.{Dialect}
use Rattle.otel_trace_run.specs.Reasons.{IsReasonAt}
use Rattle.otel_trace_run.specs.Streams.{AreAll, WhyBad}
use Rattle.otel_trace_run.specs.declared.reason.Reason.{Reason}

-- a text has so many lines
abbrev pub HasLine : List ℕ → ℕ → Type 0
HasLine text n = (0 < n) × (n ≤ length (lines text))

pub bad_there : (dialect : Dialect) (text : List ℕ) (commands : List PlainCommand) (n : ℕ)
    → TextSpells dialect text commands (Some n) → HasLine text n
bad_there dialect text commands n h =
    let parts = ap length h.parts in
    let both = length-append h.before (h.line ∷ h.after) in
    let same = length-map (lines text) (without_comment dialect) in
    (omega (arith, h.number), omega (arith, h.number, parts, both, same))

-- the reason that was looked for at a line: none where there is no such line
abbrev pub IsFound : List ℕ → ℕ → Option Reason → Type 0
IsFound text n reason = IfSome reason (IsReasonAt text n) × IfNone reason ((n ≡ 0) ⊎ (length (lines text) < n))

-- at a line that is there it was found
pub reason_there : (text : List ℕ) (n : ℕ) (reason : Option Reason) → IsFound text n reason → HasLine text n
    → (found : Reason) × (reason ≡ Some found) × IsReasonAt text n found
reason_there text n (Some found) h there = (found, refl, h.0)
reason_there text n None h there = elim h.1 [
  | inl first ↦ absurd (omega (arith, first, there.0))
  | inr more ↦ absurd (omega (arith, more, there.1))
]

-- the reason for the bad line of a whole input, if it has one
pub script_why : (dialect : Dialect) (input : Option (List ℕ)) (text : List ℕ) (commands : List PlainCommand)
    (bad_line : Option ℕ) (reason : Option Reason) → AreAll input text → TextSpells dialect text commands bad_line
    → IfSome bad_line (λ n. IsFound text n reason) → IfSome bad_line (λ n. WhyBad true input n reason)
script_why dialect input text commands None reason all spelled h = tt
script_why dialect input text commands (Some n) reason all spelled h =
    let found = reason_there text n reason h (bad_there dialect text commands n spelled) in
    subst (λ (r : Option Reason). WhyBad true input n r) (sym found.1) (text, all, found.2)
