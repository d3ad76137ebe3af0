-- The first header of the name, among those that are left.
use Rattle.std.proofs.Common.{◌≡◌, ℕ, ◌+◌, ◌<◌, ◌∙◌, true, false, List, ◌∷◌, length, drop, get_or, map, ap, add-one}
use Rattle.std.proofs.Math.Seq.{drop-cons}
use Rattle.std.specs.Prelude.{codes}
use Rattle.std.proofs.lemmas.Bool.{cond-true, cond-false}
use Rattle.httparse.specs.Spans.{header_bytes, span_bytes}
use Rattle.httparse.specs.declared.spans.HeaderSpan.{HeaderSpan}
use Rattle.http1.specs.Text.{eq_ignore_case}
use Rattle.otel_http_post.specs.Count.{count_in}
use Rattle.otel_http_post.specs.RetryAfter.{retry_after_of}

module _ (text : List ℕ) (hs : List HeaderSpan) (i : ℕ) (d : HeaderSpan) (inside : i < length hs) where
  abbrev name : List ℕ
  name = span_bytes text (get_or hs i d).name

  split : retry_after_of (map (header_bytes text) (drop i hs)) ≡ retry_after_of (map (header_bytes text)
      (get_or hs i d ∷ drop (i + 1) hs))
  split = rw add-one (ap (λ (xs : List HeaderSpan). retry_after_of (map (header_bytes text) xs))
      (drop-cons hs i d inside))

  pub retry_here : eq_ignore_case name (codes "retry-after") ≡ true
      → retry_after_of (map (header_bytes text) (drop i hs)) ≡ count_in (span_bytes text (get_or hs i d).value)
  retry_here is = split ∙ cond-true _ _ _ is

  pub retry_later : eq_ignore_case name (codes "retry-after") ≡ false
      → retry_after_of (map (header_bytes text) (drop i hs)) ≡ retry_after_of (map (header_bytes text) (drop
      (i + 1) hs))
  retry_later is = split ∙ cond-false _ _ _ is
