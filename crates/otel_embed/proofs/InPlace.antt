-- What a call did with attributes that were put in the place of those that were gathered, and given back.
use Rattle.std.proofs.Common.{◌≡◌, ◌∙◌, List, ap, inl, refl, subst, sym}
use Rattle.opentelemetry.specs.Plain.{PlainKeyValue}
use Rattle.otel_pipeline.specs.Calls.{Calls}
use Rattle.otel_embed.specs.Pipelines.{InPlaceOfGathered, PipelineState, Stays, taken}
use Rattle.otel_embed.specs.Starts.{RefusesBeside, RefusesIn}

module _ {P S G : Type 0} (old begun done new : PipelineState P S G) (gathered : List PlainKeyValue)
    (same : gathered ≡ old.gathered) (gives : begun ≡ record old { gathered = begun.gathered })
    (back : new ≡ record done { gathered = gathered }) where
  given_back : new ≡ record done { gathered = old.gathered }
  given_back = back ∙ ap (λ (l : List PlainKeyValue). record done { gathered = l }) same

  pub done_with : (AreGiven : List PlainKeyValue → Type 0) (Does : PipelineState P S G → PipelineState P S G → Type 0)
      → AreGiven begun.gathered → Does begun done → InPlaceOfGathered AreGiven Does old new
  done_with AreGiven Does are did = record {
    given = begun.gathered;
    are = are;
    between = done;
    does = subst (λ (p : PipelineState P S G). Does p done) gives did;
    rest = given_back;
  }

  pub stays_beside : Stays (taken begun) done → Stays old new
  stays_beside stays =
      let h = subst (λ (p : PipelineState P S G). Stays (taken p) done) gives stays in
      subst (λ (p : PipelineState P S G). Stays old p) (sym given_back) (record {
        spans = h.spans;
        rest = ap (λ (p : PipelineState P S G). record p { gathered = old.gathered }) h.rest;
      })

  pub refuses_beside : (calls : Calls P S G) → RefusesIn calls begun done → RefusesBeside calls old new
  refuses_beside calls refuses =
      let h = subst (λ (p : PipelineState P S G). RefusesIn calls p done) gives refuses in
      subst (λ (p : PipelineState P S G). RefusesBeside calls old p) (sym given_back) (record {
        refuses = record { spans = h.spans; provider = h.provider; rest = ap taken h.rest };
        gathered = refl;
      })

-- a call that was refused before that
module _ {P S G : Type 0} (old new : PipelineState P S G) (same : new ≡ old) where
  pub stays_whole : Stays old new
  stays_whole = subst (λ (p : PipelineState P S G). Stays old p) (sym same) (record { spans = (λ q. refl, refl); rest = refl })

  pub refuses_whole : (calls : Calls P S G) → RefusesBeside calls old new
  refuses_whole calls = subst (λ (p : PipelineState P S G). RefusesBeside calls old p) (sym same) (record {
    refuses = record { spans = (λ q. refl, refl); provider = inl refl; rest = refl };
    gathered = refl;
  })
