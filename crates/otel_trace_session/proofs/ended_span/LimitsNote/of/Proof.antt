-- The body makes a struct of no bytes, whose limits may be any.
use Rattle.std.proofs.Common.{[], ◌∷◌, refl}
use Rattle.std.proofs.raw_atomic.Walks.{proved}
use mir.Syntax.{a_type, named}
use mir.Val.{vstruct, vcons, vnil}
use mir.MapTy.{inst_fn}
use types.Kit.{raw, ‵, ◌⊛◌, ◌$◌, ◌∵◌, !, qed, move, keep, split, fjoin, suffices, done}
use types.Part.{agg}
use types.Run.{enter, returns, and_then, no_more}
use types.ByLocal.{alloc_all, pass_all, free_all, look_at, get, sets}
use denote.Builtin.{RefOf}
use denote.Exit.{yes}
use denote.Param.{param, layouts}
use denote.RattleType.{owns}
use denote.Ref.{shr_vals, shr_Tells}
use denote.Shadow.{pure_i}
use denote.Signature.{plain, types_at}
use denote.Steps.{nothing}
use denote.Triple.Entry.{alive}
use denote.Triple.Walked.{says, Stays, stay_dropped, walk_of, Goes-dropped, ends_at}
use Rattle.otel_trace_session.specs.contracts.ended_span.LimitsNote.{the_row}
use Rattle.otel_trace_session.specs.contracts.ended_span.LimitsNote.of as f
use Rattle.otel_trace_session.proofs.ended_span.LimitsNote.of.Statement.{statement}
use Rattle.otel_trace_session.proofs.ended_span.LimitsNote.of.Code as code

pub of_spec : {M : Type 1} → statement M
of_spec 𝓤 𝓛 𝓜 𝓡 wired X LX =
    let E = f.ended X in let c = f.clauses X 𝓛 𝓜.mem 𝓡.returns in
    let given = layouts (a_type ∷ []) (X, tt) in
    let one = RefOf (0 ∷ []) tt (plain (λ _. param 0 X)) (λ _. tt) in
    let stayed : Stays E.signature.params E.kept = (stay_dropped one yes, tt) in
    let R = the_row in
    let v = vstruct (vcons (vstruct vnil) vnil) in
    proved 𝓛 E stayed c 𝓜 𝓡
    (Goes-dropped 𝓛 2 one yes (λ κs x w. refl), tt)
    (f.Key.name given) (inst_fn given code.function) (code.unfolded 𝓤 𝓛.H 𝓜 𝓡 wired (X, tt))
    (λ κs. (shr_vals, tt))
    (λ κs. (shr_Tells (named 0) κs.0 (param 0 X), tt)) (λ κs qs bounds a noted are.
    let y : (walk_of 𝓛 E stayed c).Ghost = ((κs, qs, bounds, a, (shr_vals a.0, tt)), noted) in
    let made : R.Denot = record { of = record {}; limits = noted } in
    qed 𝓛 ((raw (alive 𝓛 E.signature κs qs) ⊛ ‵ (owns (types_at E.signature.params κs) a y.0.4)) ∷ raw ((c κs a).requires noted) ∷ []) ∵
    split ! $ keep ! (0 ∷ []) $
    enter ! _ _ _ _ _ $ alloc_all ! (λ l. pass_all ! refl ((tt, tt), tt) $
    sets ! (agg ! (no_more !)) refl (tt, tt) $
    sets ! (agg ! (and_then ! (get ! refl) (no_more !))) refl (tt, (tt, tt)) $
    returns ! (look_at ! 0 refl) $ free_all ! refl $
    suffices ! _ (ends_at 𝓛 E stayed c y v made (tt, tt) (tt, tt)) $ says ! refl $
    pure_i ! (R.own_val made (v ∷ [])) ((λ vss. (tt, ((λ uss. (tt, tt)), tt))), tt) (((vstruct vnil ∷ [], tt), (refl, ((tt, (refl, tt)), tt))), tt) $
    nothing ! $ nothing ! $ fjoin ! $ move ! (2 ∷ 0 ∷ 1 ∷ []) $ done !))
