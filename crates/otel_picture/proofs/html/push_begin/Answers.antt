-- One text after another.
use Rattle.otel_picture.specs.HtmlTexts.{html_begin}
use Rattle.otel_picture.proofs.Tokens.{and_then}
use Rattle.otel_picture.proofs.html.push_begin.Goals as goal

pub returns : goal.returns
unfolding html_begin
returns c =
    and_then c.args.out.now.items _ _ _ _ _ c.in_ok-push_fixed.ensures
    (and_then c.push_fixed.new.out.items _ _ _ _ _ c.in_ok-push_fixed-2.ensures c.push_fixed-3.ensures)
