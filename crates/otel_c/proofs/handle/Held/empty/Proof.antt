-- `empty` makes a `Held` that owns its two fields alone.
use Rattle.otel_c.proofs.Steps.{List, [], ◌∷◌, ◌++◌, refl, lit<, ftrue, fsep, tables, RawPtr, yes, null_ptr, ptr_val}
use Rattle.otel_c.proofs.Steps.{Slot, plain, nothing, Stays, stay_dropped, walk_of, Goes-dropped, says, ends_at, Val}
use Rattle.otel_c.proofs.Steps.{vstruct, vcons, vnil, WpFn, alloc_all, pass_all, free_all, look_at, get, sets, ‵, raw}
use Rattle.otel_c.proofs.Steps.{◌⊛◌, prop, ◌$◌, ◌∵◌, !, qed, done, move, keep, split, join, fsplit, fjoin, fjoin3}
use Rattle.otel_c.proofs.Steps.{fpack, feq_i, regoal, suffices, agg, lit, no_more, and_then, returns, enter, proved_at}
use denote.RattleType.{Valss}
use denote.Struct.Owning.{shape, to}
use denote.Struct.Struct.{within}
use Rattle.std.proofs.ResultValues.{and_tt}
use Rattle.std.proofs.alloc.Calls.{handle_tells}
use Rattle.std.specs.declared.option.Option.TheVariants.{None}
use Rattle.otel_c.proofs.Types.{E}
use Rattle.otel_c.specs.contracts.handle.Held.{the_row, the_type}
use Rattle.otel_c.specs.contracts.handle.Held.empty as f
use Rattle.otel_c.proofs.handle.Held.empty.Statement.{statement}
use Rattle.otel_c.proofs.handle.Held.empty.Code as code

abbrev From : Slot 0
From = plain (λ _. E.al.row)

abbrev stayed : Stays f.ended.signature.params f.ended.kept
stayed = (stay_dropped From yes, tt)

pub empty_spec : {M : Type 1} → statement M
empty_spec 𝓤 𝓛 𝓜 𝓡 wired =
    let 𝓣 = tables 𝓤 𝓛.H 𝓜 𝓡 𝓡.env in let c = f.clauses 𝓛 𝓜.mem 𝓡.returns in let fn = code.function in
    proved_at 𝓛 f.ended stayed c 𝓜 𝓡 (Goes-dropped 𝓛 0 From yes (λ κs x w. refl), tt)
    f.Key.name fn (code.unfolded 𝓤 𝓛.H 𝓜 𝓡 wired) (λ z are.
    let a = z.0.3.0 in let made : the_row.Denot = record { at = null_ptr; alloc = a; pipeline = None } in
    let Post = (walk_of 𝓛 f.ended stayed c).post z in
    qed 𝓛 ((‵ ftrue ⊛ ‵ (fsep (E.al.row.own_val a z.0.4.0) ftrue)) ∷ raw ((c z.0.0 z.0.3).requires z.1) ∷ []) ∵
    split ! $ move ! (1 ∷ []) $ fsplit ! $
    -- the allocator's handle is one machine value, h, and the machine runs on it
    handle_tells E.al ! a z.0.4.0 (λ h is fits.
    regoal ! (λ (us : List Val). prop (WpFn 𝓤 𝓛.H 𝓣.C 𝓣.Λ fn (us ++ []) Post)) is refl $
    enter ! _ _ _ _ _ $ alloc_all ! (λ k. pass_all ! refl (fits, tt) $
    -- Held { at: null_mut(), alloc }
    sets ! (agg ! (and_then ! (lit ! tt) (and_then ! (get ! refl) (no_more !)))) refl
    (and_tt _ fits.0, (record { fits = lit< tt }, (fits.1, tt))) $
    returns ! (look_at ! 0 refl) $ free_all ! refl $ keep ! (0 ∷ []) $
    let w = vstruct (vcons (ptr_val null_ptr) (vcons h vnil)) in
    suffices ! _ (ends_at 𝓛 f.ended stayed c z w made (tt, tt) (tt, tt)) $ says ! refl $
    -- [the handle]: with the null pointer it is what the fields of `made` own
    nothing ! $ move ! (1 ∷ 0 ∷ []) $
    feq_i ! (List Val) (ptr_val null_ptr ∷ []) (ptr_val null_ptr ∷ []) refl $ fjoin3 ! $
    feq_i ! (List Val) (w ∷ []) (w ∷ []) refl $ fjoin ! $
    fpack ! (Valss (RawPtr ∷ E.al.row ∷ [])) (within (shape the_type) (to the_type made) (w ∷ []))
    (ptr_val null_ptr ∷ [], (h ∷ [], tt)) $
    -- beside them `made` owns nothing
    nothing ! $ move ! (1 ∷ 0 ∷ []) $ fjoin ! $
    -- no tokens, nothing of the parameter, and `made`
    nothing ! $ nothing ! $ fjoin ! $ join ! $ nothing ! $ join ! $ done !)))
