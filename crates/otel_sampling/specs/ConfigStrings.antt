-- The strings that configure an SDK, and what numbers and ratios they may write (OpenTelemetry specification,
-- "Environment Variable Specification").
use Rattle.std.specs.Prelude.{◌≡◌, ◌⊎◌, ℕ, ◌^◌, ◌<◌, ◌≤◌, Bool, false, List, Option, None, Some, codes}
use Rattle.std.specs.Str.{str_eq_ignore_ascii_case}
use Rattle.std.specs.Str.Parse.{IsNumeral, digits_value, without_leading_plus}
use Rattle.otel_resource.specs.DetectedResource.{PlainResourceStrings}
use Rattle.otel_sampling.specs.Ratio.{PlainRatio, IsRatioText, all_traces}

-- the strings of a batch processor that may be handed in
pub record PlainBatchStrings : Type 0 where
  pub schedule_delay : Option (List ℕ)
  pub max_queue_size : Option (List ℕ)
  pub max_export_batch_size : Option (List ℕ)
  pub export_timeout : Option (List ℕ)

-- all strings that may be handed in
pub record PlainConfigStrings : Type 0 where
  pub resource : PlainResourceStrings
  pub batch : PlainBatchStrings
  pub sdk_disabled : Option (List ℕ)
  pub attribute_count_limit : Option (List ℕ)
  pub general_attribute_count_limit : Option (List ℕ)
  pub event_attribute_count_limit : Option (List ℕ)
  pub link_attribute_count_limit : Option (List ℕ)
  pub attribute_value_length_limit : Option (List ℕ)
  pub general_attribute_value_length_limit : Option (List ℕ)
  pub event_count_limit : Option (List ℕ)
  pub link_count_limit : Option (List ℕ)
  pub sampler : Option (List ℕ)
  pub sampler_arg : Option (List ℕ)

-- what a string configures: what it reads as; the default where it is absent, or reads as nothing
abbrev pub IsConfigured : {A : Type 0} → (List ℕ → A → Type 0) → Option (List ℕ) → A → A → Type 0
IsConfigured Reads None default value = value ≡ default
IsConfigured {A} Reads (Some text) default value =
    Reads text value ⊎ (((other : A) → Reads text other → ⊥) × (value ≡ default))

-- a text is a number of so many bits: decimal digits, with a plus sign in front of them or not
pub record IsNumber (bits : ℕ) (text : List ℕ) (number : ℕ) : Type 0 where
  pub digits : IsNumeral 10 (without_leading_plus text)
  pub value : number ≡ digits_value 10 (without_leading_plus text)
  pub fits : number < 2 ^ bits

-- a number of so many bits that is configured
abbrev pub IsConfiguredNumber : ℕ → Option (List ℕ) → ℕ → ℕ → Type 0
IsConfiguredNumber bits given default number = IsConfigured (IsNumber bits) given default number

-- a text is how many spans may wait: one at least, and at most 1,048,576
pub record IsQueueSize (text : List ℕ) (size : ℕ) : Type 0 where
  pub number : IsNumber 64 text size
  pub has_room : 0 < size
  pub fits : size ≤ 1_048_576

-- a text is a number of 32 bits that limits a length
pub record IsLength (text : List ℕ) (limit : Option ℕ) : Type 0 where
  pub number : ℕ
  pub reads : IsNumber 32 text number
  pub is : limit ≡ Some number

-- a length that is configured, if any
abbrev pub IsConfiguredLength : Option (List ℕ) → Option ℕ → Option ℕ → Type 0
IsConfiguredLength given default limit = IsConfigured IsLength given default limit

-- whether a string says true, in capital letters or small ones; an absent one doesn't
abbrev pub is_true : Option (List ℕ) → Bool
is_true None = false
is_true (Some text) = str_eq_ignore_ascii_case text (codes "true")

-- the ratio that is configured: every trace where nothing else is said
abbrev pub IsConfiguredRatio : Option (List ℕ) → PlainRatio → Type 0
IsConfiguredRatio given ratio = IsConfigured IsRatioText given all_traces ratio
