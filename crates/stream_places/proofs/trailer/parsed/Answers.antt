-- `stream_places::trailer::parsed` meets its contract: each return is an outcome of `trailer_by`. Assumes nothing.
use native.Mathlib.Omega.{arith}
use Prim.Native.Nat.{◌+◌, ◌-◌}
use lib.ListN.{length}
use mathlib.Core.Path.{refl, sym, ◌∙◌}
use Rattle.stream_places.proofs.FileLaws.{spells-by, trailer-by, checked_zero, checked-shift, checked-distance, checked-length, checked-few, checked-right}
use Rattle.stream_places.proofs.trailer.parsed.Goals as goal

pub returns-then-byte_at-ne0 : goal.returns-then-byte_at-ne0
returns-then-byte_at-ne0 c = trailer-by _ _ (length c.args.f.now - (c.width_of-width.result + 26)) _ _ (omega arith) (spells-by _ _ _ _ _ _ c.spelt.ensures c.letters_of-letters.ensures c.if-not-spelt.false) refl (checked_zero _ _ _ _ _ (omega arith) (λ e. c.if-byte_at-ne0.true (c.byte_at.ensures ∙ e)))

pub returns-then-r-gt6 : goal.returns-then-r-gt6
returns-then-r-gt6 c = trailer-by _ _ _ _ _ (omega arith) (spells-by _ _ _ _ _ _ c.spelt.ensures c.letters_of-letters.ensures c.if-not-spelt.false) c.trailer_at-r.ensures (checked-shift _ _ _ _ _ (omega arith) (sym c.byte_at.ensures ∙ c.if-byte_at-ne0.false) (omega arith))

pub returns-then-r-f : goal.returns-then-r-f
returns-then-r-f c = trailer-by _ _ _ _ _ (omega arith) (spells-by _ _ _ _ _ _ c.spelt.ensures c.letters_of-letters.ensures c.if-not-spelt.false) c.trailer_at-r.ensures (checked-distance _ _ _ _ _ (omega arith) (sym c.byte_at.ensures ∙ c.if-byte_at-ne0.false) (omega arith) c.if-r-f.true)

pub returns-then-f-r : goal.returns-then-f-r
returns-then-f-r c = trailer-by _ _ _ _ _ (omega arith) (spells-by _ _ _ _ _ _ c.spelt.ensures c.letters_of-letters.ensures c.if-not-spelt.false) c.trailer_at-r.ensures (checked-length _ _ _ _ _ (omega arith) (sym c.byte_at.ensures ∙ c.if-byte_at-ne0.false) (omega arith) (omega arith) (λ e. c.if-f-r.true (omega arith)))

pub returns-then-r-least_of : goal.returns-then-r-least_of
returns-then-r-least_of c =
    let w = c.width_of-width.ensures.0 in
    let l = c.if-f-size.false in
    trailer-by _ _ _ _ _ (omega (arith, w, l)) (spells-by _ _ _ _ _ _ c.spelt.ensures c.letters_of-letters.ensures c.if-not-spelt.false) c.trailer_at-r.ensures (checked-few _ _ _ _ _ (omega (arith, w, l)) (sym c.byte_at.ensures ∙ c.if-byte_at-ne0.false) (omega (arith, w, l)) (omega (arith, w, l)) (omega (arith, w, l)) (omega (arith, w, l)))

pub returns : goal.returns
returns c =
    let w = c.width_of-width.ensures.0 in
    let l = c.if-f-size.false in
    trailer-by _ _ _ _ _ (omega (arith, w, l)) (spells-by _ _ _ _ _ _ c.spelt.ensures c.letters_of-letters.ensures c.if-not-spelt.false) c.trailer_at-r.ensures (checked-right _ _ _ _ _ (omega (arith, w, l)) (sym c.byte_at.ensures ∙ c.if-byte_at-ne0.false) (omega (arith, w, l)) (omega (arith, w, l)) (omega (arith, w, l)) (omega (arith, w, l)))
