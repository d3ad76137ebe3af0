-- The body makes a struct of no bytes, whose items may be any.
use Rattle.std.proofs.Common.{[], ◌∷◌, refl}
use Rattle.std.proofs.raw_atomic.Walks.{proved}
use mir.Syntax.{a_type, named}
use mir.Val.{vstruct, vcons, vnil}
use mir.MapTy.{inst_fn}
use types.Kit.{raw, ‵, ◌⊛◌, ◌$◌, ◌∵◌, !, qed, move, keep, split, fjoin, suffices, done}
use types.Part.{agg}
use types.Run.{enter, returns, and_then, no_more}
use types.ByLocal.{alloc_all, pass_all, free_all, look_at, get, sets}
use denote.Builtin.{RefOf}
use denote.Exit.{yes}
use denote.Param.{param, layouts}
use denote.RattleType.{owns}
use denote.Ref.{shr_vals, shr_Tells}
use denote.Shadow.{pure_i}
use denote.Signature.{plain, types_at}
use denote.Steps.{nothing}
use denote.Triple.Entry.{alive}
use denote.Triple.Walked.{says, Stays, stay_dropped, walk_of, Goes-dropped, ends_at}
use Rattle.otel_export.specs.contracts.history.History.{the_row}
use Rattle.otel_export.specs.contracts.history.History.of as f
use Rattle.otel_export.proofs.history.History.of.Statement.{statement}
use Rattle.otel_export.proofs.history.History.of.Code as code

pub of_spec : {M : Type 1} → statement M
of_spec 𝓤 𝓛 𝓜 𝓡 wired T X Y Z LT LX LY LZ =
    let E = f.ended T X Y Z in let c = f.clauses T X Y Z 𝓛 𝓜.mem 𝓡.returns in
    let given = layouts (a_type ∷ a_type ∷ a_type ∷ a_type ∷ []) (T, (X, (Y, (Z, tt)))) in
    let one = RefOf (0 ∷ []) tt (plain (λ _. param 1 X)) (λ _. tt) in
    let other = RefOf (1 ∷ []) tt (plain (λ _. param 2 Y)) (λ _. tt) in
    let third = RefOf (2 ∷ []) tt (plain (λ _. param 3 Z)) (λ _. tt) in
    let stayed : Stays E.signature.params E.kept = (stay_dropped one yes, (stay_dropped other yes, (stay_dropped third yes, tt))) in
    let R = the_row (param 0 T) in
    let v = vstruct (vcons (vstruct vnil) vnil) in
    proved 𝓛 E stayed c 𝓜 𝓡
    (Goes-dropped 𝓛 7 one yes (λ κs x w. refl), (Goes-dropped 𝓛 7 other yes (λ κs x w. refl), (Goes-dropped 𝓛 7 third yes (λ κs x w. refl), tt)))
    (f.Key.name given) (inst_fn given code.function) (code.unfolded 𝓤 𝓛.H 𝓜 𝓡 wired (T, (X, (Y, (Z, tt)))))
    (λ κs. (shr_vals, (shr_vals, (shr_vals, tt))))
    (λ κs. (shr_Tells (named 0) κs.0 (param 1 X), (shr_Tells (named 1) κs.1.0 (param 2 Y), (shr_Tells (named 2) κs.1.1.0 (param 3 Z), tt)))) (λ κs qs bounds a listed are.
    let y : (walk_of 𝓛 E stayed c).Ghost = ((κs, qs, bounds, a, (shr_vals a.0, (shr_vals a.1.0, (shr_vals a.1.1.0, tt)))), listed) in
    let made : R.Denot = record { of = record {}; items = listed } in
    qed 𝓛 ((raw (alive 𝓛 E.signature κs qs) ⊛ ‵ (owns (types_at E.signature.params κs) a y.0.4)) ∷ raw ((c κs a).requires listed) ∷ []) ∵
    split ! $ keep ! (0 ∷ []) $
    enter ! _ _ _ _ _ $ alloc_all ! (λ l. pass_all ! refl ((tt, tt), ((tt, tt), ((tt, tt), tt))) $
    sets ! (agg ! (no_more !)) refl (tt, tt) $
    sets ! (agg ! (and_then ! (get ! refl) (no_more !))) refl (tt, (tt, tt)) $
    returns ! (look_at ! 0 refl) $ free_all ! refl $
    suffices ! _ (ends_at 𝓛 E stayed c y v made (tt, (tt, (tt, tt))) (tt, (tt, (tt, tt)))) $ says ! refl $
    pure_i ! (R.own_val made (v ∷ [])) ((λ vss. (tt, ((λ uss. (tt, tt)), tt))), tt) (((vstruct vnil ∷ [], tt), (refl, ((tt, (refl, tt)), tt))), tt) $
    nothing ! $ nothing ! $ fjoin ! $ nothing ! $ fjoin ! $ nothing ! $ fjoin ! $ move ! (2 ∷ 0 ∷ 1 ∷ []) $ done !))
