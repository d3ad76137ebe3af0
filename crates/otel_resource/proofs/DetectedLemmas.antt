-- What the detectors of the SDK find together.
use Rattle.std.proofs.Common.{◌≡◌, ℕ, List, [], Option, Some, None, unwrap_or, option_and_then, cond, refl, sym, ap, subst, ◌∙◌}
use Rattle.std.specs.Option.{option_map, option_or}
use Rattle.std.specs.Ordering.{is_eq}
use Rattle.std.specs.declared.cmp.Ordering.TheVariants.{Less, Equal, Greater}
use Rattle.std.specs.Cmp.Lexicographic.{nat_list_cmp_total}
use Rattle.std.specs.FinMap as fin
use Rattle.std.specs.FinMap.{get-insert, slice_cmp-IsAntisymmetric, nat_cmp-IsAntisymmetric}
use Rattle.opentelemetry.specs.Plain.{PlainValue, PlainKeyValue, text}
use Rattle.otel_resource.specs.Resource.{Attributes, PlainResource, service_named, non_empty, union, of_attributes, attributes_of, service_name_key}
use Rattle.otel_resource.specs.DetectedResource.{PlainResourceStrings, ReadsAs, IsEnvResource, IsDetected, name_over, name_of_service, unknown_service, telemetry_pairs}
use Rattle.otel_resource.proofs.AttributeLemmas.{key_cmp, attributes_by_name, get-union, union-empty, union_assoc}
use Rattle.otel_resource.proofs.AttributesStringLemmas.{string_reads_some}

-- each string that may be handed in gives some resource
pub some_env : (given : Option (List ℕ)) → (env : PlainResource) × IsEnvResource given env
some_env given = let (pairs, reads) = string_reads_some (unwrap_or given []) in (of_attributes (attributes_of pairs), (pairs, reads, refl))

-- the name of the service and nothing else
abbrev name_alone : PlainValue → Attributes
name_alone v = (service_named v).attributes

nothing : Attributes
nothing = fin.empty

-- two names answer alike where the attributes have nothing, if they differ only where those have a name
names_alike : (e : Attributes) (v w : PlainValue) (q : List ℕ) → (fin.get e service_name_key ≡ None → v ≡ w) → fin.get e q ≡ None
    → fin.get (name_alone v) q ≡ fin.get (name_alone w) q
unfolding nothing
names_alike e v w q same none =
    get-insert nat_list_cmp_total nothing service_name_key v q
    ∙ elim (key_cmp q service_name_key) as (λ r. key_cmp q service_name_key ≡ r
    → cond (is_eq r) (Some v) (fin.get nothing q) ≡ cond (is_eq r) (Some w) (fin.get nothing q)) [
      | Less ↦ λ _. refl
      | Equal ↦ λ ties. ap Some (same (subst (λ k. fin.get e k ≡ None) (slice_cmp-IsAntisymmetric nat_cmp-IsAntisymmetric q service_name_key ties) none))
      | Greater ↦ λ _. refl
    ] refl
    ∙ sym (get-insert nat_list_cmp_total nothing service_name_key w q)

-- a name over which another one comes does not count
overwritten : (t e : Attributes) (v w : PlainValue) → (fin.get e service_name_key ≡ None → v ≡ w)
    → union (union (name_alone v) t) e ≡ union (union (name_alone w) t) e
overwritten t e v w same = attributes_by_name _ _ (λ q.
    get-union (union (name_alone v) t) e q
    ∙ elim (fin.get e q) as (λ o. fin.get e q ≡ o
    → option_or o (fin.get (union (name_alone v) t) q) ≡ option_or o (fin.get (union (name_alone w) t) q)) [
      | None ↦ λ none. get-union (name_alone v) t q ∙ ap (option_or (fin.get t q)) (names_alike e v w q same none) ∙ sym (get-union (name_alone w) t q)
      | Some x ↦ λ _. refl
    ] refl
    ∙ sym (get-union (union (name_alone w) t) e q))

-- the service's own string decides
pub own_name_decides : (strings : PlainResourceStrings) (env : PlainResource) (name : List ℕ)
    → option_and_then non_empty strings.service_name ≡ Some name → text name ≡ name_over strings env
own_name_decides strings env name own =
    ap (λ o. unwrap_or (option_or (option_map text o) (fin.get env.attributes service_name_key)) (unknown_service strings.program_name)) (sym own)

-- where it does not, what the attributes have decides
pub found_name_decides : (strings : PlainResourceStrings) (env : PlainResource) (found : Option PlainValue)
    → option_and_then non_empty strings.service_name ≡ None → fin.get env.attributes service_name_key ≡ found
    → unwrap_or found (unknown_service strings.program_name) ≡ name_over strings env
found_name_decides strings env found none is =
    λ i. unwrap_or (option_or (option_map text (sym none i)) (sym is i)) (unknown_service strings.program_name)

-- the name of the service, this SDK and the pairs of the attributes string, put in in this order
pub put_as_detected : (strings : PlainResourceStrings) (none first second third : Attributes) (name : PlainValue) (pairs : List PlainKeyValue)
    → none ≡ fin.empty → first ≡ fin.insert none service_name_key name
    → name ≡ name_of_service strings.service_name None strings.program_name
    → second ≡ union first (attributes_of telemetry_pairs)
    → ReadsAs strings.attributes pairs → third ≡ union second (attributes_of pairs) → IsDetected strings (of_attributes third)
put_as_detected strings none first second third name pairs empty named_first is told reads over =
    let env = attributes_of pairs in
    let telemetry = attributes_of telemetry_pairs in
    let over_env : Option PlainValue → PlainValue = λ o. name_of_service strings.service_name o strings.program_name in
    let whole : third ≡ union (union (name_alone (over_env None)) telemetry) env =
    over ∙ ap (λ (m : Attributes). union m env) (told ∙ ap (λ (m : Attributes). union m telemetry)
    (named_first ∙ (λ i. fin.insert (empty i) service_name_key (is i)))) in
    let other = overwritten telemetry env (over_env None) (over_env (fin.get env service_name_key)) (λ absent. ap over_env (sym absent)) in
    let joined = union_assoc (name_alone (over_env (fin.get env service_name_key))) telemetry env
    ∙ ap (λ (m : Attributes). union (name_alone (over_env (fin.get env service_name_key))) (union telemetry m)) (sym (union-empty env)) in
    let read : IsEnvResource strings.attributes (of_attributes env) = (pairs, reads, refl) in (
      service_named (over_env (fin.get env service_name_key)),
      of_attributes env,
      (of_attributes env, read, refl),
      read,
      ap (λ (m : Attributes). of_attributes m) (whole ∙ other ∙ joined),
    )
