-- Which settings are ignored, and how their names are listed.
use Rattle.std.specs.Prelude.{◌≡◌, ◌++◌, ◌&&◌, ◌||◌, ◌⊎◌, ℕ, Bool, List, [], ◌∷◌, Option, None, Some, bytes_eq, codes, filter, map, not, is_none}
use Rattle.std.specs.FinMap.{get, keys}
use Rattle.std.specs.List.{flat_map, list_any}
use Rattle.opentelemetry.specs.TextMap.{TextMap}
use Rattle.otel_sampling.specs.ConfigFaults.{AreFaults, all_settings, setting_name}
use Rattle.otel_sampling.specs.ConfigStrings.{IsNumber, PlainConfigStrings}
use Rattle.otel_sampling.specs.declared.trace.config.faults.SettingFault.{SettingFault}
use Rattle.otel_sampling.specs.declared.trace.span_limit.SpanLimits.{SpanLimits}
use Rattle.otel_embed.specs.SettingLines.{max_undrained_name, named_kind, processor_name}

-- the settings that have a meaning
abbrev pub known_names : List (List ℕ)
known_names =
    processor_name
    ∷ max_undrained_name
    ∷ codes "OTEL_RESOURCE_ATTRIBUTES"
    ∷ codes "OTEL_SERVICE_NAME"
    ∷ map setting_name all_settings

-- a setting is not read: its name has no meaning, or it is the processor's and names no kind
abbrev pub is_unread : TextMap → List ℕ → Bool
is_unread settings name =
    not (list_any (bytes_eq name) known_names) || (bytes_eq name processor_name && is_none (named_kind settings))

-- a text says how many spans may be kept, or nothing
abbrev pub SaysMax : List ℕ → Type 0
SaysMax text = (text ≡ []) ⊎ ((number : ℕ) × IsNumber 64 text number)

-- the name of the setting of how many spans may be kept, where it is there and its text says none
abbrev pub NamesUnreadMax : Option (List ℕ) → List (List ℕ) → Type 0
NamesUnreadMax None names = names ≡ []
NamesUnreadMax (Some text) names =
    (SaysMax text × (names ≡ [])) ⊎ ((SaysMax text → ⊥) × (names ≡ max_undrained_name ∷ []))

-- names, each with a line feed after it
abbrev pub name_lines : List (List ℕ) → List ℕ
name_lines names = flat_map (λ name. name ++ 10 ∷ []) names

-- the names of the settings that are not read, in the order of their bytes, of the one of how many spans may be kept, and
-- of those whose strings do not
pub record ListsIgnored (settings : TextMap) (strings : PlainConfigStrings) (text : List ℕ) : Type 0 where
  pub limits : SpanLimits
  pub faults : List SettingFault
  pub are_faults : AreFaults strings limits all_settings faults
  pub unread_max : List (List ℕ)
  pub names_max : NamesUnreadMax (get settings max_undrained_name) unread_max
  pub lists : text ≡ name_lines (filter (is_unread settings) (keys settings)) ++ name_lines unread_max
      ++ name_lines (map (λ fault. setting_name fault.setting) faults)
