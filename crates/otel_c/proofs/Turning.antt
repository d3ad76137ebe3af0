-- What was done to a pipeline was done to that of its handle.
use Rattle.std.proofs.Common.{◌≡◌, ◌≢◌, ◌≤◌, ◌<◌, ◌⊎◌, ◌∙◌, inl, inr, ℕ, Bool, false, true, Option, None, Some, is_some, Result, Ok, Err, IfErr, IfOk, IfSome, IsOk, IsSome, OnErr, OnOk, ap, refl, sym, subst}
use Rattle.otel_embed.specs.Flows.{Did}
use Rattle.otel_embed.specs.Pipelines.{PipelineState}
use Rattle.otel_embed.specs.Drains.{FlowsBy}
use Rattle.otel_embed.specs.declared.pipeline.Pipeline.{Pipeline}
use Rattle.otel_pipeline.specs.Calls.{Calls}
use Rattle.otel_embed.specs.Keys.{OpenedSpan, OpenedSpans, span_at}
use Rattle.otel_embed.specs.declared.error.PipelineError.{PipelineError}
use Rattle.otel_embed.specs.declared.error.PipelineError.TheVariants as errors
use Rattle.otel_c.specs.Handles.{FlowsIfOpen, Holds, Turns, TurnsIfOpen, answer_status, error_status}

pub turned : (Does : Pipeline → Pipeline → Type 0) (was now : Option Pipeline) (p q : Pipeline) → was ≡ Some p → now ≡ Some q → Does p q → Turns Does was now
turned Does was now p q e f did = subst (λ (x : Option Pipeline). Turns Does x now) (sym e) (subst (λ (y : Option Pipeline). Turns Does (Some p) y) (sym f) did)

pub turned_if_open : (Does : Pipeline → Pipeline → Type 0) (was now : Option Pipeline) (p q : Pipeline) → was ≡ Some p → now ≡ Some q → Does p q → TurnsIfOpen Does was now
turned_if_open Does was now p q e f did = subst (λ (x : Option Pipeline). TurnsIfOpen Does x now) (sym e) (subst (λ (y : Option Pipeline). TurnsIfOpen Does (Some p) y) (sym f) did)

-- a handle that is not open holds none
pub holds_none : (is_open : Bool) (held : Option Pipeline) → is_open ≡ is_some held → is_open ≡ false → held ≡ None
holds_none is_open None says is_closed = refl
holds_none is_open (Some p) says is_closed = absurd cc

-- what holds of the pipeline that was put into a handle
pub put_holds : (Is : Pipeline → Type 0) (now : Option Pipeline) (p q : Pipeline) → now ≡ Some q → q ≡ p → Is p → Holds Is now
put_holds Is now p q f same is = subst (λ (x : Option Pipeline). Holds Is x) (sym f) (subst Is (sym same) is)

-- what a call answered is what was written where its status is 0
pub answered : {E : Type 0} (Holds : ℕ → Type 0) (answer : Result ℕ E) (status now was : ℕ) → IfOk answer (λ number. (status ≡ 0) × (now ≡ number)) → OnErr answer ((status ≢ 0) × (now ≡ was)) → IfOk answer Holds → status ≡ 0 → Holds now
answered Holds (Ok number) status now was written _ did _ = subst Holds (sym written.1) did
answered Holds (Err _) status now was _ refused _ is_ok = absurd (refused.0 is_ok)

-- what holds of the pipeline that a handle has, if it has one
pub if_held : (Is : Pipeline → Type 0) (held : Option Pipeline) → ((p : Pipeline) → held ≡ Some p → Is p) → IfSome held Is
if_held Is None is = tt
if_held Is (Some p) is = is p refl

-- a handle that holds this pipeline holds no other
pub same_held : (held : Option Pipeline) (p q : Pipeline) → held ≡ Some p → held ≡ Some q → p ≡ q
same_held held p q e f = let both : Some p ≡ Some q = sym e ∙ f in cc

-- the status of a flow is 0, or that of what was not exported
pub flow_status : (answer : Result (Unit {0}) PipelineError) (status : ℕ) → status ≡ answer_status answer → IfErr answer (λ error. error ≡ errors.NotExported) → (status ≡ 0) ⊎ (status ≡ 9)
flow_status (Ok _) status is _ = inl is
flow_status (Err error) status is why = inr (is ∙ ap error_status why)

-- a call of the provider did this, and where it succeeded is said otherwise
pub flows_by : {P S G : Type 0} (calls : Calls P S G) (did : Did) (Succeeds Says : Type 0) (p q : PipelineState P S G) → (Succeeds → Says) → (Says → Succeeds) → FlowsBy calls did Succeeds p q → FlowsBy calls did Says p q
flows_by calls did Succeeds Says p q to from flows = record { answer = flows.answer; answers = flows.answers; says = (λ is. to (flows.says.0 is), λ is. flows.says.1 (from is)); rest = flows.rest }

-- what a call of the pipeline that a handle holds answers, as its status
pub flowed : (Flows : Type 0 → Pipeline → Pipeline → Type 0) (answer : Result (Unit {0}) PipelineError) (status : ℕ) (was now : Option Pipeline) (p q : Pipeline) → was ≡ Some p → now ≡ Some q → Flows (status ≡ 0) p q
    → status ≡ answer_status answer → IfErr answer (λ error. error ≡ errors.NotExported) → FlowsIfOpen status Flows was now
flowed Flows answer status was now p q held holds flows is why = record {
  flows = turned_if_open (Flows (status ≡ 0)) was now p q held holds flows;
  closed = λ none. absurd (let both : Some p ≡ None = sym held ∙ none in cc);
  failed = if_held (λ _. (status ≡ 0) ⊎ (status ≡ 9)) was (λ x e. flow_status answer status is why);
}

-- a call that is refused only where no span has its key goes well where one has
pub ok_where_open : (spans : OpenedSpans) (key : ℕ) (answer : Result (Unit {0}) PipelineError) → IfErr answer (λ error. (error ≡ errors.NoSuchSpan) × (span_at spans key ≡ None)) → IsSome (span_at spans key)
    → IsOk answer
ok_where_open spans key (Ok _) why some = refl
ok_where_open spans key (Err error) why some = absurd (let no : IsSome {T = OpenedSpan} None = subst IsSome why.1 some in cc)

-- what a call did where its status is 0, and where it is not
pub did : (Does : Type 0) (answer : Result (Unit {0}) PipelineError) (status : ℕ) → (IsOk answer → status ≡ 0) × (status ≡ 0 → IsOk answer) → OnOk answer Does → status ≡ 0 → Does
did Does (Ok _) status says does _ = does
did Does (Err _) status says _ is_ok = absurd (let no : false ≡ true = says.1 is_ok in cc)

pub did_not : (Fails : Type 0) (answer : Result (Unit {0}) PipelineError) (status : ℕ) → (IsOk answer → status ≡ 0) × (status ≡ 0 → IsOk answer) → OnErr answer Fails → status ≢ 0 → Fails
did_not Fails (Ok _) status says _ failed = absurd (failed (says.0 refl))
did_not Fails (Err _) status says fails _ = fails

-- what a drain that answers a count says, where its status says whether that fits
pub counted : (Says : ℕ → Type 0) (answer : Result ℕ PipelineError) (status room now was : ℕ) → IfOk answer (λ count. (now ≡ count) × (count ≤ room → status ≡ 0) × (room < count → status ≡ 8))
    → OnErr answer ((status ≢ 0) × (status ≢ 8) × (now ≡ was)) → IfOk answer Says → (status ≡ 0) ⊎ (status ≡ 8) → Says now
counted Says (Ok count) status room now was written _ said _ = subst Says (sym written.0) said
counted Says (Err _) status room now was _ refused _ (inl is) = absurd (refused.0 is)
counted Says (Err _) status room now was _ refused _ (inr is) = absurd (refused.1 is)
