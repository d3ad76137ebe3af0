-- By its bytes.
use Rattle.json.specs.Print.{print}
use Rattle.json.specs.Tree.{json_tokens}
use Rattle.otel_picture.specs.HtmlJson.{html_json}
use Rattle.otel_picture.proofs.HtmlReads.{no_less}
use Rattle.otel_picture.proofs.laws.html_data_begin_no_mark.Goals as goal

pub returns : goal.returns
returns c = λ drawn. no_less (print (json_tokens (html_json drawn)))
