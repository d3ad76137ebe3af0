-- Which strings are ignored: what reads, and how the faults of settings add up.
use Rattle.std.proofs.Common.{◌≡◌, ◌↔◌, inl, inr, ⊎_elim, ℕ, ◌+◌, ◌<◌, Bool, List, [], ◌∷◌, ◌++◌, length, get_or, drop, refl, sym, ap, ◌∙◌, subst, append_assoc, add-one, drop-cons, IsTrue, true, false}
use Rattle.std.specs.Prelude.{Option, None, Some, MatchOption, codes}
use Rattle.std.specs.Option.{is_some}
use Rattle.std.specs.Str.{str_eq_ignore_ascii_case}
use Rattle.std.proofs.lemmas.Bool.{both_ways, cases_Bool}
use Rattle.std.proofs.lemmas.List.{append-nil}
use Rattle.otel_sampling.specs.Config.{IsConfiguredSampler, IsNamed, sampler_names}
use Rattle.otel_sampling.specs.ConfigFaults.{AreFaults, IsIgnored, IsIgnoredString, IsSamplerName, Reads, replacement, string_of}
use Rattle.otel_sampling.specs.ConfigStrings.{PlainConfigStrings, IsConfigured, IsConfiguredLength, IsConfiguredNumber, IsConfiguredRatio, IsLength, IsNumber, is_true}
use Rattle.otel_sampling.specs.Ratio.{PlainRatio, IsRatioText, all_traces}
use Rattle.otel_sampling.specs.Sampler.{SamplerPlan, always_on, parent_based}
use Rattle.otel_sampling.specs.declared.trace.config.faults.Replacement.{Replacement}
use Rattle.otel_sampling.specs.declared.trace.config.faults.Setting.{Setting}
use Rattle.otel_sampling.specs.declared.trace.config.faults.Setting.TheVariants as settings
use Rattle.otel_sampling.specs.declared.trace.config.faults.SettingFault.{SettingFault}
use Rattle.otel_sampling.specs.declared.trace.span_limit.SpanLimits.{SpanLimits}

-- a name that stands for a sampler is one
pub named : (text : List ℕ) (ratio : PlainRatio) (sampler : SamplerPlan (Unit {0})) → IsNamed (sampler_names ratio) text sampler
    → IsTrue true ↔ IsSamplerName text
named text ratio sampler is = (λ _. (ratio, sampler, is), λ _. refl)

-- what was read tells whether anything reads
pub read_tells : {A : Type 0} (Reads : A → Type 0) (r : Option A) → MatchOption r ((value : A) → Reads value → ⊥) Reads
    → IsTrue (is_some r) ↔ ((value : A) × Reads value)
read_tells Reads None none = (λ told. cc, λ read. absurd (none read.0 read.1))
read_tells Reads (Some value) reads = (λ _. (value, reads), λ _. refl)

-- what is left begins with the setting at the index
next : (settings : List Setting) (i : ℕ) (d : Setting) → i < length settings
    → drop i settings ≡ get_or settings i d ∷ drop (i + 1) settings
next settings i d inside = rw (add-one, drop-cons settings i d)

-- the faults found so far, and after them those of the settings that are left, are those of all settings
pub record Completes (strings : PlainConfigStrings) (limits : SpanLimits) (settings left : List Setting)
    (found : List SettingFault) : Type 0 where
  pub with_the_rest : (rest : List SettingFault) → AreFaults strings limits left rest
      → AreFaults strings limits settings (found ++ rest)

pub nothing_found : (strings : PlainConfigStrings) (limits : SpanLimits) (settings : List Setting) (found : List SettingFault)
    → found ≡ [] → Completes strings limits settings settings found
nothing_found strings limits settings found none =
    record { with_the_rest = λ rest faults. subst (λ was. AreFaults strings limits settings (was ++ rest)) (sym none) faults }

-- the setting at an index has its fault after those found, where its string is ignored
pub one_more : (strings : PlainConfigStrings) (limits : SpanLimits) (settings : List Setting) (i : ℕ) (d : Setting)
    (found now : List SettingFault) (string : Option (List ℕ)) (ignored : Bool) (place : Replacement)
    → Completes strings limits settings (drop i settings) found → i < length settings
    → string ≡ string_of strings (get_or settings i d) → IsTrue ignored ↔ IsIgnoredString (get_or settings i d) string
    → ignored ≡ true → place ≡ replacement limits (get_or settings i d)
    → now ≡ found ++ record { setting = get_or settings i d; in_its_place = place } ∷ []
    → Completes strings limits settings (drop (i + 1) settings) now
one_more strings limits settings i d found now string ignored place completes inside given tells told is grown =
    let setting : Setting = get_or settings i d in
    let fault : SettingFault = record { setting = setting; in_its_place = place } in
    record {
      with_the_rest = λ rest faults.
          subst (λ was. AreFaults strings limits settings was)
          (sym (ap (λ was. was ++ rest) grown ∙ append_assoc found (fault ∷ []) rest))
          (completes.with_the_rest (fault ∷ rest)
          (subst (λ left. AreFaults strings limits left (fault ∷ rest)) (sym (next settings i d inside))
          (inl (
            subst (λ text. IsIgnoredString setting text) given (tells.0 told),
            rest,
            ap (λ in_its_place. record { setting = setting; in_its_place = in_its_place } ∷ rest) is,
            faults,
          ))));
    }

-- and it has none, where its string is not
pub none_more : (strings : PlainConfigStrings) (limits : SpanLimits) (settings : List Setting) (i : ℕ) (d : Setting)
    (found now : List SettingFault) (string : Option (List ℕ)) (ignored : Bool)
    → Completes strings limits settings (drop i settings) found → i < length settings
    → string ≡ string_of strings (get_or settings i d) → IsTrue ignored ↔ IsIgnoredString (get_or settings i d) string
    → ignored ≡ false → now ≡ found → Completes strings limits settings (drop (i + 1) settings) now
none_more strings limits settings i d found now string ignored completes inside given tells denied same =
    let setting : Setting = get_or settings i d in
    record {
      with_the_rest = λ rest faults.
          subst (λ was. AreFaults strings limits settings (was ++ rest)) (sym same)
          (completes.with_the_rest rest
          (subst (λ left. AreFaults strings limits left rest) (sym (next settings i d inside))
          (inr (λ is. both_ways ignored denied (tells.1 (subst (λ text. IsIgnoredString setting text) (sym given) is)), faults))));
    }

pub all_found : (strings : PlainConfigStrings) (limits : SpanLimits) (settings left : List Setting) (found : List SettingFault)
    → Completes strings limits settings left found → left ≡ [] → AreFaults strings limits settings found
all_found strings limits settings left found completes done =
    subst (λ was. AreFaults strings limits settings was) (append-nil found)
    (completes.with_the_rest [] (subst (λ settings. AreFaults strings limits settings []) (sym done) refl))

-- ---- what is configured where a string is ignored

-- a string that is ignored configures the default
pub default_stands : {A : Type 0} (Takes : List ℕ → A → Type 0) (setting : Setting) (given : Option (List ℕ)) (default value : A)
    → ((text : List ℕ) (other : A) → Takes text other → Reads setting text) → IsIgnoredString setting given
    → IsConfigured Takes given default value → value ≡ default
default_stands Takes setting None default value reads ignored configured = absurd ignored
default_stands Takes setting (Some text) default value reads ignored (inl takes) = absurd (ignored.1 (reads text value takes))
default_stands Takes setting (Some text) default value reads ignored (inr fell_back) = fell_back.1

-- a name is one of whatever custom samplers there may be
pub name_of_any : {C : Type 0} (ratio : PlainRatio) (text : List ℕ) (sampler : SamplerPlan C)
    → IsNamed (sampler_names ratio) text sampler → IsSamplerName text
name_of_any ratio text sampler (inl is) = (ratio, _, inl (is.0, refl))
name_of_any ratio text sampler (inr (inl is)) = (ratio, _, inr (inl (is.0, refl)))
name_of_any ratio text sampler (inr (inr (inl is))) = (ratio, _, inr (inr (inl (is.0, refl))))
name_of_any ratio text sampler (inr (inr (inr (inl is)))) = (ratio, _, inr (inr (inr (inl (is.0, refl)))))
name_of_any ratio text sampler (inr (inr (inr (inr (inl is))))) = (ratio, _, inr (inr (inr (inr (inl (is.0, refl))))))
name_of_any ratio text sampler (inr (inr (inr (inr (inr (inl is)))))) = (ratio, _, inr (inr (inr (inr (inr (inl (is.0, refl)))))))
name_of_any ratio text sampler (inr (inr (inr (inr (inr (inr denied)))))) = absurd denied

pub default_sampler_stands : {C : Type 0} (strings : PlainConfigStrings) (sampler : SamplerPlan C) → IsIgnored strings settings.Sampler
    → IsConfiguredSampler strings sampler → sampler ≡ parent_based always_on
default_sampler_stands strings sampler ignored (ratio, argument, configured) =
    default_stands (IsNamed (sampler_names ratio)) settings.Sampler strings.sampler (parent_based always_on) sampler
    (name_of_any ratio) ignored configured

pub default_ratio_stands : (strings : PlainConfigStrings) (ratio : PlainRatio) → IsIgnored strings settings.SamplerArg
    → IsConfiguredRatio strings.sampler_arg ratio → ratio ≡ all_traces
default_ratio_stands strings ratio ignored configured =
    default_stands IsRatioText settings.SamplerArg strings.sampler_arg all_traces ratio (λ text other is. (other, is)) ignored configured

pub not_disabled : (given : Option (List ℕ)) → IsIgnoredString settings.SdkDisabled given → is_true given ≡ false
not_disabled None ignored = absurd ignored
not_disabled (Some text) ignored =
    ⊎_elim (λ told. absurd (ignored.1 (inl told))) (λ denied. denied)
    (cases_Bool (str_eq_ignore_ascii_case text (codes "true")))

pub default_number_stands : (bits : ℕ) (setting : Setting) (given : Option (List ℕ)) (default count : ℕ)
    → ((text : List ℕ) (other : ℕ) → IsNumber bits text other → Reads setting text) → IsIgnoredString setting given
    → IsConfiguredNumber bits given default count → count ≡ default
default_number_stands bits setting given default count reads ignored configured =
    default_stands (IsNumber bits) setting given default count reads ignored configured

pub default_length_stands : (given : Option (List ℕ)) (default length : Option ℕ)
    → IsIgnoredString settings.GeneralAttributeValueLengthLimit given
    → IsConfiguredLength given default length → length ≡ default
default_length_stands given default length ignored configured =
    default_stands IsLength settings.GeneralAttributeValueLengthLimit given default length
    (λ text other is. (is.number, is.reads)) ignored configured
