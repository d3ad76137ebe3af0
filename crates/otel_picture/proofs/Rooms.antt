-- One character more in a room.
use Rattle.std.proofs.Common.{◌≡◌, ◌++◌, ◌∷◌, [], ◌∙◌, ℕ, List, append_assoc, append-nil, sym, ap, refl}
use Rattle.std.proofs.Common.{encode_utf8, if◌then◌else◌}
use Rattle.otel_picture.specs.Texts.{fitting_text, room_after, room_left}
use Rattle.otel_picture.specs.declared.texts.Room.{Room}

pub left_more : (room : Room) (cs : List ℕ) (c : ℕ) → room_left room (cs ++ c ∷ []) ≡ room_after (room_left room cs) c
left_more room [] c = refl
left_more room (d ∷ cs) c = left_more (room_after room d) cs c

pub fitting_more : (room : Room) (cs : List ℕ) (c : ℕ) → fitting_text room (cs ++ c ∷ [])
    ≡ fitting_text room cs ++ (if (room_after (room_left room cs) c).is_open then encode_utf8 c else [])
fitting_more room [] c = append-nil _
fitting_more room (d ∷ cs) c =
    ap (λ (t : List ℕ). (if (room_after room d).is_open then encode_utf8 d else []) ++ t)
    (fitting_more (room_after room d) cs c)
    ∙ sym (append_assoc (if (room_after room d).is_open then encode_utf8 d else []) (fitting_text (room_after room d) cs)
    (if (room_after (room_left (room_after room d) cs) c).is_open then encode_utf8 c else []))

pub fits_one_more : (room left after : Room) (start whole more cs : List ℕ) (c : ℕ) → left ≡ room_left room cs
    → after ≡ room_after left c → whole ≡ start ++ fitting_text room cs
    → more ≡ whole ++ (if after.is_open then encode_utf8 c else []) → more ≡ start ++ fitting_text room (cs ++ c ∷ [])
fits_one_more room left after start whole more cs c l a w m =
    let same : after.is_open ≡ (room_after (room_left room cs) c).is_open =
    ap (λ (r : Room). r.is_open) a ∙ ap (λ (r : Room). (room_after r c).is_open) l in
    m ∙ ap (λ (t : List ℕ). t ++ (if after.is_open then encode_utf8 c else [])) w
    ∙ append_assoc start (fitting_text room cs) (if after.is_open then encode_utf8 c else [])
    ∙ ap (λ b. start ++ (fitting_text room cs ++ (if b then encode_utf8 c else []))) same
    ∙ ap (λ (t : List ℕ). start ++ t) (sym (fitting_more room cs c))
