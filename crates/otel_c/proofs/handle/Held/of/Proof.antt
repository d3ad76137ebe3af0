-- `of` moves the two fields, and what the `Loose` owns goes with them.
use Rattle.otel_c.proofs.Owners.{box_at, stored}
use Rattle.otel_c.proofs.Steps.{List, [], ◌∷◌, ◌++◌, refl, id⊢, ftrue, fsep, tables, no, Slot, plain, nothing, Stays}
use Rattle.otel_c.proofs.Steps.{stay_dropped, walk_of, Goes-dropped, says, ends_at, Val, WpFn, alloc_all, pass_all}
use Rattle.otel_c.proofs.Steps.{free_all, look_at, get, get_in, sets, ‵, raw, ◌⊛◌, prop, ◌$◌, ◌∵◌, !, qed, done, move}
use Rattle.otel_c.proofs.Steps.{keep, use1, split, join, fsplit, fjoin, regoal, suffices, agg, sub, whole, stop, fld}
use Rattle.otel_c.proofs.Steps.{of_opd, no_more, and_then, returns, enter, B, word, proved_at}
use Rattle.otel_c.specs.contracts.loose.Loose as loose
use Rattle.std.specs.declared.option.Option.TheVariants.{Some}
use Rattle.otel_c.proofs.Types.{E}
use Rattle.otel_c.specs.contracts.handle.Held.{the_row}
use Rattle.otel_c.specs.contracts.handle.Held.of as f
use Rattle.otel_c.proofs.handle.Held.of.Statement.{statement}
use Rattle.otel_c.proofs.handle.Held.of.Code as code

abbrev From : Slot 0
From = plain (λ _. loose.the_row E.row E.al.row E.al.g)

abbrev stayed : Stays f.ended.signature.params f.ended.kept
stayed = (stay_dropped From no, tt)

pub of_spec : {M : Type 1} → statement M
of_spec 𝓤 𝓛 𝓜 𝓡 wired =
    let 𝓣 = tables 𝓤 𝓛.H 𝓜 𝓡 𝓡.env in let c = f.clauses 𝓛 𝓜.mem 𝓡.returns in let fn = code.function in
    proved_at 𝓛 f.ended stayed c 𝓜 𝓡 (Goes-dropped 𝓛 0 From no (λ κs x w. refl), tt)
    f.Key.name fn (code.unfolded 𝓤 𝓛.H 𝓜 𝓡 wired) (λ z are.
    let l = z.0.3.0 in let v = box_at E l.at l.alloc l.value in
    let made : the_row.Denot = record { at = l.at; alloc = l.alloc; pipeline = Some l.value } in
    let Post = (walk_of 𝓛 f.ended stayed c).post z in
    -- what the `Loose` owns is what the box v owns
    qed 𝓛 ((‵ ftrue ⊛ ‵ (fsep ((B E).own_val v z.0.4.0) ftrue)) ∷ raw ((c z.0.0 z.0.3).requires z.1) ∷ []) ∵
    split ! $ move ! (1 ∷ []) $ fsplit ! $
    -- v is stored as a pointer and a handle, and the machine runs on these
    stored E ! v z.0.4.0 (λ b o h is fits typed. let w = word E h b o in
    regoal ! (λ (us : List Val). prop (WpFn 𝓤 𝓛.H 𝓣.C 𝓣.Λ fn (us ++ []) Post)) is refl $
    enter ! _ _ _ _ _ $ alloc_all ! (λ k. pass_all ! refl (typed, tt) $
    -- let Loose { at, alloc } = pipeline
    sets ! (of_opd ! (get_in ! (fld ! refl (stop !)) (sub ! 0 refl (whole !)))) refl (tt, tt) $
    sets ! (of_opd ! (get_in ! (fld ! refl (stop !)) (sub ! 1 refl (whole !)))) refl fits $
    -- Held { at: at as *mut u8, alloc }
    sets ! (of_opd ! (get ! refl)) refl (tt, tt) $
    sets ! (agg ! (and_then ! (get ! refl) (and_then ! (get ! refl) (no_more !)))) refl typed $
    returns ! (look_at ! 0 refl) $ free_all ! refl $ keep ! (0 ∷ []) $
    suffices ! _ (ends_at 𝓛 f.ended stayed c z w made (tt, tt) (tt, tt)) $ says ! refl $
    -- [v, which is what `made` owns]: no tokens, nothing of the parameter, and `made`
    use1 𝓛 (‵ (the_row.own_val made (w ∷ []))) (id⊢ 𝓤 _) $
    nothing ! $ nothing ! $ fjoin ! $ join ! $ nothing ! $ join ! $ done !)))
