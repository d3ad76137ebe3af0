-- What owns a box by its pointer owns the same as the box, by computation alone: a `Loose` does, and so does a struct
-- for C that keeps a value. So the kit's steps for a box serve them all. Assumes `Logic`.
--     E           the types of the value and of the allocator, with what is known of each
--     box_at      a box as a value: its pointer, its allocator's handle and what it holds
--     Kept        what a struct for C owns: its two fields, and the box where there is a value
use Rattle.otel_c.proofs.Steps.{◌≡◌, ℕ, List, [], ◌∷◌, refl, fsep, id⊢, Ptr, Val, Item, Goal, Seq, ‵, ◌$◌, use1, Bx, D}
use Rattle.otel_c.proofs.Steps.{R, B, word, box_typed}
use base.Fml.{Fml}
use denote.Struct.Owning.{shape}
use denote.Struct.Struct.{Struct}
use lib.Dec.{T}
use mathlib.Core.Bool.{false≢true}
use mir.Val.{has_ty, WT}
use seplogic.Ra.Ura.{Ura}
use types.Logic.{Logic}
use Rattle.std.proofs.BoxSteps.Form.{X, owning, box_ty}
use Rattle.std.proofs.BoxSteps.Steps.{box_out, box_in}
use Rattle.std.proofs.alloc.Calls.{Fits, token}
use Rattle.std.specs.Prelude.{IsSome}
use Rattle.std.specs.declared.option.Option.{Option}
use Rattle.std.specs.declared.option.Option.TheVariants.{None, Some}
use Rattle.otel_c.specs.Kept.{keeps}

module _ (E : Bx) where
  abbrev pub box_at : Ptr → E.al.row.Denot → X E → D E
  box_at p a x = record { ptr = p; alloc = a; value = x }

  abbrev pub Kept : Ptr → E.al.row.Denot → Option (X E) → List Val → Fml
  Kept p a o vs = fsep ((Struct (shape (owning E))).own_val (p, (a, tt)) vs) (keeps (token E.al a) (R E) p o)

  module _ {M : Type 1} {𝓤 : Ura M} {𝓛 : Logic 𝓤} {K : Type 0} {Γ : List (Item 𝓤)} {G : Goal 𝓤 𝓛.H} where
    -- a box is stored as a pointer, to the offset o in the block b, and a handle's machine value h; both fit their types
    pub stored : K → (v : D E) (vs : List Val)
        → ((b o : ℕ) (h : Val) → vs ≡ word E h b o ∷ [] → Fits E.al h
        → T (has_ty (box_ty E) (word E h b o)) × WT (word E h b o)
        → Seq K 𝓛 (‵ ((B E).own_val v (word E h b o ∷ [])) ∷ Γ) G)
        → Seq K 𝓛 (‵ ((B E).own_val v vs) ∷ Γ) G
    stored t v vs k = box_out E t v vs (λ b o h lies is fits.
        box_in E t v b o v.value lies refl $ k b o h is fits (box_typed E h b o fits))

    -- where there is a value x, what is kept is a box of it
    pub full : K → (p : Ptr) (a : E.al.row.Denot) (o : Option (X E)) → IsSome o → (vs : List Val)
        → ((x : X E) → o ≡ Some x → Seq K 𝓛 (‵ ((B E).own_val (box_at p a x) vs) ∷ Γ) G)
        → Seq K 𝓛 (‵ (Kept p a o vs) ∷ Γ) G
    full t p a None there vs k = absurd (false≢true there)
    full t p a (Some x) there vs k = use1 𝓛 (‵ ((B E).own_val (box_at p a x) vs)) (id⊢ 𝓤 _) $ k x refl
