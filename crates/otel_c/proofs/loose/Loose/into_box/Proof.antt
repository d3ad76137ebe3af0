-- `into_box` takes the two fields apart and hands what they own to `from_raw`, which makes the box.
use Rattle.otel_c.proofs.Owners.{box_at}
use Rattle.otel_c.proofs.Steps.{◌≡◌, List, [], ◌∷◌, ◌++◌, refl, id⊢, ftrue, fsep, flft, fact, ◌⊑◌, tables, no}
use Rattle.otel_c.proofs.Steps.{block_ptr, Slot, plain, nothing, heard, peeks, calls_at_last, triple_of, framed, Stays}
use Rattle.otel_c.proofs.Steps.{stay_dropped, walk_of, says, ends_at, inst_fn, Val, vptr, WpFn, alloc_all, pass_all}
use Rattle.otel_c.proofs.Steps.{free_all, look_at, get, get_in, sets, lands_last, env, ‵, raw, ◌⊛◌, some, later, prop}
use Rattle.otel_c.proofs.Steps.{at_ret, ◌$◌, ◌∵◌, !, qed, done, move, drop, group, use1, split, split3, join, fsplit}
use Rattle.otel_c.proofs.Steps.{fjoin, fjoin3, feq_i, pick, await, regoal, suffices, sub, whole, stop, fld, of_opd}
use Rattle.otel_c.proofs.Steps.{no_more, and_then, first, blocks, exec, returns, enter, Bx, D, R, P, B, args}
use Rattle.otel_c.proofs.Steps.{box_typed, Goes-blank, proved_at}
use denote.Laws.{Is, shows}
use denote.Param.Laws.{param_laws}
use Rattle.std.proofs.BoxSteps.Steps.{box_out}
use Rattle.std.proofs.boxed.Box.TheLaws.{the_row_laws}
use Rattle.std.specs.contracts.boxed.Box.from_raw as from_raw
use Rattle.std.proofs.boxed.Box.from_raw.Met.{met}
use Rattle.otel_c.specs.contracts.loose.Loose as loose
use Rattle.otel_c.specs.contracts.loose.Loose.into_box as f
use Rattle.otel_c.proofs.loose.Loose.into_box.Statement.{statement}
use Rattle.otel_c.proofs.loose.Loose.into_box.Code as code

pub into_box_spec : {M : Type 1} → statement M
into_box_spec 𝓤 𝓛 𝓜 𝓡 wired T A LT LA g d dd allocator glue =
    let E : Bx = record { row = T; laws = LT; al = record { row = A; laws = LA; g = g; d = d; drops = dd } } in
    let From : Slot 2 = plain (λ _. loose.the_row (R E) (P E) g) in
    let ended = f.ended T A g d dd in let c = f.clauses T A g d dd 𝓛 𝓜.mem 𝓡.returns in
    let stayed : Stays ended.signature.params ended.kept = (stay_dropped From no, tt) in
    let 𝓣 = tables 𝓤 𝓛.H 𝓜 𝓡 𝓡.env in let fn = inst_fn (args E) code.function in
    proved_at 𝓛 ended stayed c 𝓜 𝓡 (Goes-blank 𝓛 2 From no (λ κs x w. tt), tt)
    (f.Key.name (args E)) fn (code.unfolded 𝓤 𝓛.H 𝓜 𝓡 wired (T, (A, tt)) d dd) (λ z are.
    let κs = z.0.0 in let qs = z.0.1 in let a = z.0.3.0.alloc in let x = z.0.3.0.value in
    let Post = (walk_of 𝓛 ended stayed c).post z in
    let tokens = ‵ (flft κs.0 qs.0) ⊛ ‵ (flft κs.1.0 qs.1.0) ⊛ ‵ ftrue in
    let outlived = raw (fact 𝓤 (κs.0 ⊑ T.lives)) ⊛ raw (fact 𝓤 (κs.1.0 ⊑ A.lives)) ⊛ ‵ ftrue in
    -- what the `Loose` owns is what the box v owns
    let v = box_at E z.0.3.0.at a x in
    qed 𝓛 ((tokens ⊛ ‵ (fsep ((B E).own_val v z.0.4.0) ftrue)) ∷ outlived ∷ []) ∵
    split ! $ move ! (1 ∷ []) $ fsplit ! $
    -- v is stored as a pointer and a handle, and the machine runs on these
    box_out E ! v z.0.4.0 (λ b o h _ is fits. fjoin ! $
    regoal ! (λ (us : List Val). prop (WpFn 𝓤 𝓛.H 𝓣.C 𝓣.Λ fn (us ++ []) Post)) is refl $
    -- [what v owned at the pointer; the handle; nothing; the tokens; what the lifetimes outlive]
    -- what the callee requires: what the lifetimes outlive, and what v owned at the pointer
    let G = triple_of 𝓛 (from_raw.signature T A g d dd) (from_raw.spec T A g d dd 𝓛 𝓜.mem 𝓡.returns) in
    let y : G.Ghost = ((κs, qs, tt, (a, (block_ptr b o, tt)), (h ∷ [], (vptr b o ∷ [], tt))), x) in
    move ! (4 ∷ []) $ split3 ! $ move ! (0 ∷ 1 ∷ 3 ∷ []) $ group ! 3 $
    -- what its two arguments own: the handle, and that the pointer is its machine value
    feq_i ! (List Val) (vptr b o ∷ []) (vptr b o ∷ []) refl $ move ! (3 ∷ 0 ∷ 2 ∷ []) $ fjoin3 ! $
    -- the tokens, the arguments and what is required are all that it takes
    move ! (3 ∷ 0 ∷ 1 ∷ []) $ join ! $ join ! $ use1 𝓛 (raw (G.pre y)) (id⊢ 𝓤 _) $
    enter ! _ _ _ _ _ $ alloc_all ! (λ l. pass_all ! refl (box_typed E h b o fits, tt) $
    -- let Loose { at, alloc } = self
    sets ! (of_opd ! (get_in ! (fld ! refl (stop !)) (sub ! 0 refl (whole !)))) refl (tt, tt) $
    sets ! (of_opd ! (get_in ! (fld ! refl (stop !)) (sub ! 1 refl (whole !)))) refl fits $
    -- unsafe { Box::from_raw(alloc, at) }, which returns the machine value u
    first ! $ blocks ! $ sets ! (of_opd ! (get ! refl)) refl fits $
    calls_at_last ! (framed 𝓤 𝓛.H 𝓜 𝓣) G
    (met 𝓤 𝓛 𝓜 𝓡 (code.calls-std_alloc::boxed::Box::from_raw 𝓡.env wired) T A LT LA g d dd allocator glue) y
    (and_then ! (get ! refl) (and_then ! (get ! refl) (no_more !))) (λ u.
    -- what the callee ensures: a box r, whose value is x
    use1 𝓛 (later (some (λ (r : D E). (tokens ⊛ ‵ ((B E).own_val r (u ∷ []))) ⊛
    some (λ (_ : Unit {0} × (Unit {0} × Unit {0})). ‵ (fsep ftrue (fsep ftrue ftrue)) ⊛
    (raw (fact 𝓤 (r.value ≡ x)) ⊛ raw (fact 𝓤 (r.alloc ≡ a))))))) (id⊢ 𝓤 _) $
    await ! tt $ pick ! (λ r. split ! $ split ! $ move ! (2 ∷ []) $ pick ! (λ _. split3 ! $ drop ! $
    heard ! (r.value ≡ x) (λ same. drop ! $
    -- [the tokens; the box r]: u has a box's type, by the laws of a box
    move ! (1 ∷ []) $ peeks ! (B E) (Is (B E)) (shows 𝓛 (B E)) r (u ∷ []) (λ is_u.
    let laws = the_row_laws (R E) (P E) g (param_laws 0 T LT) (param_laws 1 A LA) in
    let typed = ((laws.lawful 𝓛).typed r (u ∷ []) is_u).0 in
    -- it is returned
    lands_last ! refl typed $ exec ! 𝓣.C 𝓣.Λ (env fn.locals l) code.Mir.t-4 (at_ret _ Post) $
    sets ! (of_opd ! (get ! refl)) refl typed $ returns ! (look_at ! 0 refl) $ free_all ! refl $
    suffices ! _ (ends_at 𝓛 ended stayed c z u r ((tt, (tt, tt)), tt) (tt, tt)) $ says ! same $
    -- [the box r; the tokens; nothing]: the tokens, nothing of the parameter, and r
    move ! (2 ∷ []) $ nothing ! $ fjoin ! $ join ! $ move ! (1 ∷ 0 ∷ []) $ join ! $ done !))))))))
