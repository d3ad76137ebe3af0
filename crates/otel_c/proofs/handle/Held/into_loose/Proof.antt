-- `into_loose` moves the two fields, and what the `Held` owns goes with them.
use Rattle.otel_c.proofs.Owners.{box_at, Kept, full, stored}
use Rattle.otel_c.proofs.Steps.{List, [], ◌∷◌, ◌++◌, refl, sym, id⊢, ftrue, fsep, fact, tables, yes, Slot, plain}
use Rattle.otel_c.proofs.Steps.{nothing, heard, Stays, stay_dropped, walk_of, Goes-dropped, says, ends_at, Val, WpFn}
use Rattle.otel_c.proofs.Steps.{alloc_all, pass_all, free_all, look_at, get, get_in, sets, ‵, raw, ◌⊛◌, prop, ◌$◌, ◌∵◌}
use Rattle.otel_c.proofs.Steps.{ !, qed, done, move, keep, use1, split, join, fsplit, fjoin, regoal, suffices, agg, sub}
use Rattle.otel_c.proofs.Steps.{whole, stop, fld, of_opd, no_more, and_then, returns, enter, word, proved_at}
use Rattle.otel_c.specs.contracts.loose.Loose as loose
use Rattle.std.specs.Prelude.{IsSome}
use Rattle.otel_c.proofs.Types.{E}
use Rattle.otel_c.specs.contracts.handle.Held as held
use Rattle.otel_c.specs.contracts.handle.Held.into_loose as f
use Rattle.otel_c.proofs.handle.Held.into_loose.Statement.{statement}
use Rattle.otel_c.proofs.handle.Held.into_loose.Code as code

abbrev From : Slot 0
From = plain (λ _. held.the_row)

abbrev stayed : Stays f.ended.signature.params f.ended.kept
stayed = (stay_dropped From yes, tt)

pub into_loose_spec : {M : Type 1} → statement M
into_loose_spec 𝓤 𝓛 𝓜 𝓡 wired =
    let 𝓣 = tables 𝓤 𝓛.H 𝓜 𝓡 𝓡.env in let c = f.clauses 𝓛 𝓜.mem 𝓡.returns in let fn = code.function in
    let Loose = loose.the_row E.row E.al.row E.al.g in
    proved_at 𝓛 f.ended stayed c 𝓜 𝓡 (Goes-dropped 𝓛 0 From yes (λ κs x w. refl), tt)
    f.Key.name fn (code.unfolded 𝓤 𝓛.H 𝓜 𝓡 wired) (λ z are.
    let s = z.0.3.0 in let Post = (walk_of 𝓛 f.ended stayed c).post z in
    qed 𝓛 ((‵ ftrue ⊛ ‵ (fsep (Kept E s.at s.alloc s.pipeline z.0.4.0) ftrue)) ∷ raw (fact 𝓤 (IsSome s.pipeline)) ∷ []) ∵
    -- by the `requires` there is a pipeline x, so what is kept is a box v of it
    split ! $ move ! (2 ∷ []) $ heard ! (IsSome s.pipeline) (λ there. move ! (1 ∷ []) $ fsplit ! $
    full E ! s.at s.alloc s.pipeline there z.0.4.0 (λ x same. let v = box_at E s.at s.alloc x in
    -- v is stored as a pointer and a handle, and the machine runs on these
    stored E ! v z.0.4.0 (λ b o h is fits typed. let w = word E h b o in
    regoal ! (λ (us : List Val). prop (WpFn 𝓤 𝓛.H 𝓣.C 𝓣.Λ fn (us ++ []) Post)) is refl $
    enter ! _ _ _ _ _ $ alloc_all ! (λ k. pass_all ! refl (typed, tt) $
    -- let Held { at, alloc } = self
    sets ! (of_opd ! (get_in ! (fld ! refl (stop !)) (sub ! 0 refl (whole !)))) refl (tt, tt) $
    sets ! (of_opd ! (get_in ! (fld ! refl (stop !)) (sub ! 1 refl (whole !)))) refl fits $
    -- Loose { at: at as *mut Pipeline, alloc }
    sets ! (of_opd ! (get ! refl)) refl (tt, tt) $
    sets ! (agg ! (and_then ! (get ! refl) (and_then ! (get ! refl) (no_more !)))) refl typed $
    returns ! (look_at ! 0 refl) $ free_all ! refl $ keep ! (0 ∷ []) $
    let made : Loose.Denot = record { at = s.at; alloc = s.alloc; value = x } in
    suffices ! _ (ends_at 𝓛 f.ended stayed c z w made (tt, tt) (tt, tt)) $ says ! (sym same) $
    -- [v, which is what `made` owns]: no tokens, nothing of the parameter, and `made`
    use1 𝓛 (‵ (Loose.own_val made (w ∷ []))) (id⊢ 𝓤 _) $
    nothing ! $ nothing ! $ fjoin ! $ join ! $ nothing ! $ join ! $ done !)))))
