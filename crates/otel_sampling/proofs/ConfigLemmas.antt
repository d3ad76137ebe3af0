-- What strings configure: what they read as, and else the default.
use Rattle.std.proofs.Common.{◌≡◌, ◌≢◌, inl, inr, ℕ, List, refl, ⊎_elim}
use Rattle.std.specs.Prelude.{Option, None, Some, MatchOption, unwrap_or, Result, Ok, Err, IfOk, codes}
use Rattle.std.specs.Str.{bytes_eq}
use Rattle.std.specs.Cmp.Lexicographic.{bytes_decides}
use Rattle.std.proofs.lemmas.Bool.{cases_Bool, both_ways}
use Rattle.otel_sampling.specs.Config.{IsConfiguredSampler, IsNamed, sampler_names}
use Rattle.otel_sampling.specs.ConfigStrings.{PlainConfigStrings, IsConfigured, IsConfiguredRatio}
use Rattle.otel_sampling.specs.Ratio.{PlainRatio}
use Rattle.otel_sampling.specs.Sampler.{SamplerPlan, plan, always_on, parent_based}
use Rattle.otel_sampling.specs.declared.trace.sampler.SamplerOf.{SamplerOf}

-- what is read of a text is configured by it
pub configured_by : {A : Type 0} (Reads : List ℕ → A → Type 0) (text : List ℕ) (default : A) (r : Option A)
    → MatchOption r ((other : A) → Reads text other → ⊥) (λ value. Reads text value)
    → IsConfigured Reads (Some text) default (unwrap_or r default)
configured_by Reads text default None none = inr (none, refl)
configured_by Reads text default (Some value) reads = inl reads

-- none of the names that stand for another sampler than the default
pub record NamesNoOtherSampler (name : List ℕ) : Type 0 where
  pub always_on : name ≢ codes "always_on"
  pub always_off : name ≢ codes "always_off"
  pub ratio : name ≢ codes "traceidratio"
  pub parent_off : name ≢ codes "parentbased_always_off"
  pub parent_ratio : name ≢ codes "parentbased_traceidratio"

not_named : {C : Type 0} (ratio : PlainRatio) (name : List ℕ) → NamesNoOtherSampler name → name ≢ codes "parentbased_always_on"
    → (other : SamplerPlan C) → IsNamed (sampler_names ratio) name other → ⊥
not_named ratio name others none other (inl is) = others.always_on is.0
not_named ratio name others none other (inr (inl is)) = others.always_off is.0
not_named ratio name others none other (inr (inr (inl is))) = others.ratio is.0
not_named ratio name others none other (inr (inr (inr (inl is)))) = none is.0
not_named ratio name others none other (inr (inr (inr (inr (inl is))))) = others.parent_off is.0
not_named ratio name others none other (inr (inr (inr (inr (inr (inl is)))))) = others.parent_ratio is.0
not_named ratio name others none other (inr (inr (inr (inr (inr (inr is)))))) = is

-- a name that stands for no other sampler configures the default
default_by_name : {C : Type 0} (ratio : PlainRatio) (name : List ℕ) → NamesNoOtherSampler name
    → IsConfigured (IsNamed {C = C} (sampler_names ratio)) (Some name) (parent_based always_on) (parent_based always_on)
default_by_name ratio name others =
    let test = bytes_decides name (codes "parentbased_always_on") in
    ⊎_elim
    (λ yes. inl (inr (inr (inr (inl (test.0 yes, refl))))))
    (λ not. inr (not_named ratio name others (λ e. both_ways _ not (test.1 e)), refl))
    (cases_Bool (bytes_eq name (codes "parentbased_always_on")))

-- the default is made for such a name
pub configured_default : {C E : Type 0} (name : List ℕ) (ratio : PlainRatio) (r : Result (SamplerOf C) E)
    → NamesNoOtherSampler name → IfOk r (λ sampler. plan sampler ≡ parent_based always_on)
    → IfOk r (λ sampler. IsConfigured (IsNamed (sampler_names ratio)) (Some name) (parent_based always_on) (plan sampler))
configured_default name ratio (Ok sampler) others is = rw is (default_by_name ratio name others)
configured_default name ratio (Err e) others is = tt

-- the sampler of the name that the strings say is the one that they configure
pub configured_named : {C E : Type 0} (strings : PlainConfigStrings) (name : List ℕ) (ratio : PlainRatio) (r : Result (SamplerOf C) E)
    → strings.sampler ≡ Some name → IsConfiguredRatio strings.sampler_arg ratio
    → IfOk r (λ sampler. IsConfigured (IsNamed (sampler_names ratio)) (Some name) (parent_based always_on) (plan sampler))
    → IfOk r (λ sampler. IsConfiguredSampler strings (plan sampler))
configured_named strings name ratio (Ok sampler) given argument named = rw given (ratio, argument, named)
configured_named strings name ratio (Err e) given argument named = tt
