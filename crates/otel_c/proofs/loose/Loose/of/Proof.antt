-- `of` takes the box apart by `into_raw_with_allocator`, and puts the pointer and the handle side by side.
use Rattle.otel_c.proofs.Owners.{box_at, stored}
use Rattle.otel_c.proofs.Steps.{◌≡◌, List, [], ◌∷◌, ◌++◌, refl, ap, id⊢, ftrue, fsep, flft, fact, ◌⊑◌, tables, RawPtr}
use Rattle.otel_c.proofs.Steps.{no, Ptr, Slot, plain, nothing, only, heard, calls_at, triple_of, framed, Stays}
use Rattle.otel_c.proofs.Steps.{stay_dropped, walk_of, says, ends_at, inst_fn, Val, WpFn, alloc_all, pass_all}
use Rattle.otel_c.proofs.Steps.{free_all, look_at, get, get_in, sets, lands_as, ‵, raw, ◌⊛◌, some, later, prop, ◌$◌}
use Rattle.otel_c.proofs.Steps.{◌∵◌, !, qed, done, move, drop, use1, split, split3, join, fsplit, fjoin, pick, await}
use Rattle.otel_c.proofs.Steps.{rewrite, regoal, suffices, agg, sub, whole, stop, fld, of_opd, no_more, and_then}
use Rattle.otel_c.proofs.Steps.{returns, enter, Bx, R, P, B, word, Goes-blank, proved_at}
use denote.Param.{bounded}
use denote.Struct.Tuple.{Tuple}
use mir.Syntax.{Args, a_type, dcons, dnil}
use Rattle.std.specs.Box.Ownership.{box_owns}
use Rattle.std.specs.contracts.boxed.Box.into_raw_with_allocator as into_raw
use Rattle.std.proofs.boxed.Box.into_raw_with_allocator.Met.{met}
use Rattle.otel_c.specs.contracts.loose.Loose as loose
use Rattle.otel_c.specs.contracts.loose.Loose.of as f
use Rattle.otel_c.proofs.loose.Loose.of.Statement.{statement}
use Rattle.otel_c.proofs.loose.Loose.of.Code as code

pub of_spec : {M : Type 1} → statement M
of_spec 𝓤 𝓛 𝓜 𝓡 wired T A LT LA g d dd dx allocator glue_A glue_T =
    let E : Bx = record { row = T; laws = LT; al = record { row = A; laws = LA; g = g; d = d; drops = dd } } in
    let args : Args = bounded (a_type ∷ a_type ∷ []) (T, (A, tt)) (dcons d (dcons dd (dcons dx dnil))) in
    let From : Slot 2 = plain (λ _. B E) in let Loose = loose.the_row (R E) (P E) g in
    let ended = f.ended T A g d dd dx in let c = f.clauses T A g d dd dx 𝓛 𝓜.mem 𝓡.returns in
    let stayed : Stays ended.signature.params ended.kept = (stay_dropped From no, tt) in
    let 𝓣 = tables 𝓤 𝓛.H 𝓜 𝓡 𝓡.env in let fn = inst_fn args code.function in
    proved_at 𝓛 ended stayed c 𝓜 𝓡 (Goes-blank 𝓛 2 From no (λ κs x w. tt), tt)
    (f.Key.name args) fn (code.unfolded 𝓤 𝓛.H 𝓜 𝓡 wired (T, (A, tt)) d dd dx) (λ z are.
    let κs = z.0.0 in let qs = z.0.1 in let v = z.0.3.0 in let a = v.alloc in let x = v.value in
    let tokens = ‵ (flft κs.0 qs.0) ⊛ ‵ (flft κs.1.0 qs.1.0) ⊛ ‵ ftrue in
    let outlived = raw (fact 𝓤 (κs.0 ⊑ T.lives)) ⊛ raw (fact 𝓤 (κs.1.0 ⊑ A.lives)) ⊛ ‵ ftrue in
    qed 𝓛 ((tokens ⊛ ‵ (fsep ((B E).own_val v z.0.4.0) ftrue)) ∷ outlived ∷ []) ∵
    split ! $ move ! (1 ∷ []) $ fsplit ! $
    -- the box v is stored as a pointer and a handle, and the machine runs on these
    stored E ! v z.0.4.0 (λ b o h is fits typed. let w = word E h b o in
    let Post = (walk_of 𝓛 ended stayed c).post z in
    regoal ! (λ (us : List Val). prop (WpFn 𝓤 𝓛.H 𝓣.C 𝓣.Λ fn (us ++ []) Post)) is refl $
    -- [v; nothing; the tokens; what the lifetimes outlive]: all that the callee takes
    let G = triple_of 𝓛 (into_raw.signature T A g d dd dx) (into_raw.spec T A g d dd dx 𝓛 𝓜.mem 𝓡.returns) in
    let y : G.Ghost = ((κs, qs, tt, (v, tt), (w ∷ [], tt)), tt) in
    fjoin ! $ move ! (1 ∷ 0 ∷ []) $ join ! $ join ! $ use1 𝓛 (raw (G.pre y)) (id⊢ 𝓤 _) $
    enter ! _ _ _ _ _ $ alloc_all ! (λ l. pass_all ! refl (typed, tt) $
    -- let (at, alloc) = Box::into_raw_with_allocator(value), which returns the machine value u
    sets ! (of_opd ! (get ! refl)) refl typed $
    calls_at ! (framed 𝓤 𝓛.H 𝓜 𝓣) G
    (met 𝓤 𝓛 𝓜 𝓡 (code.calls-std_alloc::boxed::Box::into_raw_with_allocator 𝓡.env wired)
    T A LT LA g d dd dx allocator glue_A glue_T) y (and_then ! (get ! refl) (no_more !)) (λ u.
    -- what the callee ensures: a pair r of a pointer and v's handle, and beside it what v owned at the pointer
    let Pair = Tuple (RawPtr ∷ P E ∷ []) in
    use1 𝓛 (later (some (λ (r : Ptr × A.Denot). (tokens ⊛ ‵ (Pair.own_val r (u ∷ []))) ⊛
    some (λ (_ : (Unit {0} × (Unit {0} × Unit {0})) × Unit {0}). ‵ (fsep (fsep ftrue (fsep ftrue ftrue)) ftrue) ⊛
    (raw (fact 𝓤 (r.1 ≡ a)) ⊛ ‵ (box_owns (g.dealloc_token a) (R E) r.0 x)))))) (id⊢ 𝓤 _) $
    await ! tt $ pick ! (λ r. split ! $ split ! $ move ! (2 ∷ []) $ pick ! (λ _. split3 ! $ drop ! $
    heard ! (r.1 ≡ a) (λ same.
    -- [what v owned at the pointer; the tokens; the pair]: the pair and what v owned are what a box owns
    move ! (2 ∷ 0 ∷ []) $ rewrite ! 0 (λ (s : A.Denot). ‵ (Pair.own_val (r.0, s) (u ∷ []))) same refl $ fjoin ! $
    -- so u is a pointer and a handle
    stored E ! (box_at E r.0 a x) (u ∷ []) (λ b' o' h' is' fits' typed'. lands_as ! (ap only is') refl typed' $
    sets ! (of_opd ! (get_in ! (fld ! refl (stop !)) (sub ! 0 refl (whole !)))) refl (tt, tt) $
    sets ! (of_opd ! (get_in ! (fld ! refl (stop !)) (sub ! 1 refl (whole !)))) refl fits' $
    -- Loose { at, alloc }
    sets ! (of_opd ! (get ! refl)) refl fits' $
    sets ! (agg ! (and_then ! (get ! refl) (and_then ! (get ! refl) (no_more !)))) refl typed' $
    returns ! (look_at ! 0 refl) $ free_all ! refl $
    let w' = word E h' b' o' in let made : Loose.Denot = record { at = r.0; alloc = a; value = x } in
    suffices ! _ (ends_at 𝓛 ended stayed c z w' made ((tt, (tt, tt)), tt) (tt, tt)) $ says ! refl $
    -- [a box, which is what `made` owns; the tokens]: the tokens, nothing of the parameter, and `made`
    use1 𝓛 (‵ (Loose.own_val made (w' ∷ []))) (id⊢ 𝓤 _) $
    nothing ! $ nothing ! $ fjoin ! $ join ! $ move ! (1 ∷ 0 ∷ []) $ join ! $ done !))))))))
