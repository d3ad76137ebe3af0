-- A line, and after it the moment where it stands.
use Rattle.std.proofs.Common.{◌≡◌, ◌+◌, ◌*◌, ◌++◌, ◌∙◌, ℕ, List, OnOk, ap, string_bytes}
use Rattle.std.proofs.lemmas.Result.{on_ok_weaker}
use Rattle.otel_picture.specs.Axes.{place_of}
use Rattle.otel_picture.specs.Durations.{duration_text}
use Rattle.otel_picture.specs.SvgParts.{down, label_svg, line_svg}
use Rattle.otel_picture.proofs.Joined.{then_more}
use Rattle.otel_picture.proofs.axis.Axis.push_svg_tick.Goals as goal

pub returns : goal.returns
returns c =
    let axis = c.args.self in
    let line = c.args.line in
    let place : c.from-place.result ≡ place_of axis c.args.tick = c.from-place.ensures ∙ c.place_of.ensures.is in
    let moment : c.as_str.result.now ≡ duration_text (c.args.tick * axis.step) =
    c.as_str.ensures.value ∙ c.in_ok-push_duration.ensures
    ∙ ap (λ (t : List ℕ). t ++ duration_text c.moment_of.result) c.new-moment.ensures.bytes
    ∙ ap (λ (n : ℕ). duration_text n) c.moment_of.ensures.is in
    let before = string_bytes c.args.out.now in
    let between = string_bytes c.push_line.new.out in
    let after = string_bytes c.push_label.new.out in
    let tick = line_svg (310 + place_of axis c.args.tick) (down line 6) (down c.args.end 0) in
    let label = label_svg (313 + place_of axis c.args.tick) (down line 15) c.as_str.result.now in
    let first : between ≡ before ++ tick =
    rw (← place) (rw (← c.down.ensures) (rw (← c.down-2.ensures) c.in_ok-push_line.ensures)) in
    let second : OnOk c.push_label.result (after ≡ between ++ label) =
    rw (← place) (rw (← c.down-3.ensures) c.push_label.ensures) in
    rw (← moment) (on_ok_weaker c.push_label.result (then_more before between after tick label first) second)
