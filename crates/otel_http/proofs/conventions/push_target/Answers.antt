use Rattle.std.proofs.Common.{◌≡◌, ◌∙◌, ◌++◌, ◌∷◌, [], List, append_assoc}
use Rattle.otel_http.proofs.conventions.push_target.Goals as goal

-- two items and then others, after a list
two_more : {X : Type 0} (old : List X) (a b : X) (rest : List X)
    → ((old ++ a ∷ []) ++ b ∷ []) ++ rest ≡ old ++ a ∷ b ∷ rest
two_more old a b rest = append_assoc (old ++ a ∷ []) (b ∷ []) rest ∙ append_assoc old (a ∷ []) (b ∷ rest)

pub returns : goal.returns
returns g c =
    rw (c.in_ok-push_text.ensures, c.in_ok-push-2.ensures.items, c.in_ok-push.ensures.items, c.in_ok-text_attribute-2.ensures, c.in_ok-text_attribute.ensures, c.query_of-query.ensures, c.scheme_of.ensures, c.path.ensures.value, c.uri-uri.ensures)
    (two_more c.args.attributes.now.items _ _ _)
