use Rattle.std.proofs.Common.{ℕ, List, ◌++◌, ◌∙◌, ap, filter, map, string_bytes, subst}
use Rattle.std.specs.FinMap as fin
use Rattle.opentelemetry.specs.TextMap.{TextMap, text_map}
use Rattle.otel_sampling.specs.ConfigFaults.{setting_name}
use Rattle.otel_sampling.specs.declared.trace.config.faults.SettingFault.{SettingFault}
use Rattle.otel_embed.specs.IgnoredSettings.{NamesUnreadMax, is_unread, name_lines}
use Rattle.otel_embed.specs.SettingLines.{max_undrained_name}
use Rattle.otel_embed.proofs.settings.Settings.ignored.Goals as goal

pub returns : goal.returns
returns c =
    let of_faults = λ (faults : List SettingFault). name_lines (map (λ fault. setting_name fault.setting) faults) in
    let unread = λ (settings : TextMap). name_lines (filter (is_unread settings) (fin.keys settings)) in
    let unread_max = c.in_ok-push_unread_max.ensures.0 in
    record {
      limits = c.in_ok-faults.ensures.0;
      faults = c.in_ok-faults.faults.items;
      are_faults = c.in_ok-faults.ensures.2;
      unread_max = unread_max;
      names_max = subst (λ (settings : TextMap). NamesUnreadMax (fin.get settings max_undrained_name) unread_max) c.self.view_is c.in_ok-push_unread_max.ensures.1;
      lists = c.in_ok-push_faults.ensures ∙ ap (λ faults. string_bytes c.push_unread_max.new.names ++ of_faults faults) c.deref.ensures.value
          ∙ ap (λ (front : List ℕ). front ++ of_faults c.in_ok-faults.faults.items)
          (c.in_ok-push_unread_max.ensures.2 ∙ ap (λ (front : List ℕ). front ++ name_lines unread_max)
          (c.in_ok-push_unread.ensures ∙ ap (λ (before : List ℕ). before ++ unread (text_map c.self.inside.values)) c.new-names.ensures.bytes ∙ ap unread c.self.view_is));
    }
