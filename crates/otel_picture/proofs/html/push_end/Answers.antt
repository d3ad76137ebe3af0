-- One text after another.
use Rattle.otel_picture.specs.HtmlTexts.{html_end}
use Rattle.otel_picture.proofs.Tokens.{and_then}
use Rattle.otel_picture.proofs.html.push_end.Goals as goal

pub returns : goal.returns
unfolding html_end
returns c =
    and_then c.args.out.now.items _ _ _ _ _ c.in_ok-push_fixed.ensures
    (and_then c.push_fixed.new.out.items _ _ _ _ _ c.in_ok-push_fixed-2.ensures
    (and_then c.push_fixed-2.new.out.items _ _ _ _ _ c.in_ok-push_fixed-3.ensures
    (and_then c.push_fixed-3.new.out.items _ _ _ _ _ c.in_ok-push_fixed-4.ensures c.push_fixed-5.ensures)))
