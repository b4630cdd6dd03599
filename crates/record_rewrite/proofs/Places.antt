-- Where references stand, and what rewriting leaves: the laws of `Within`, `Moved` and `rewrite`. Assumes nothing.
use Prim.Native.Nat.{ℕ, zero, suc, ◌+◌, ◌^◌, ◌≤◌, ◌<◌}
use native.Mathlib.Omega.{arith}
use mathlib.Core.Logic.{◌⊎◌, inl, inr}
use mathlib.Core.Path.{◌≡◌, refl, ap, sym, ◌∙◌}
use mathlib.Core.List.{List, [], ◌∷◌, ◌++◌, append_assoc}
use lib.ListN.{length, get_or, take, drop, set, take-append-drop}
use lib.Seq.{get_or-set_other, length-take-le}
use Rattle.field.specs.Fields.{little_at}
use Rattle.field.specs.Bytes.{bytes}
use Rattle.field.proofs.FieldLaws.{field-got}
use Rattle.field.proofs.ByteLaws.{Stands, stands, fixed_back, length-bytes, bytes_small}
use Rattle.field_put.specs.Bytes.{put, Octets}
use Rattle.field_put.proofs.PutLaws.{put_is, length-put}
use Rattle.field_put.proofs.BackLaws.{bytes_back}
use Rattle.record_reference.specs.References.{Ref}
use Rattle.record_rewrite.specs.Rewrite.{renamed, renamed_all, rewrite, Within, Outside, Stand, Stays, Fits, Agree, Moved}
use Rattle.record_rewrite.proofs.Settled.{little-alike}

-- In order, one part after the other ----------------------------------------------------------------------------------------------

pub within-sooner : (rs : List Ref) (p q e : ℕ) → p ≤ q → Within q rs e → Within p rs e
unfolding Within
within-sooner [] p q e l w = omega arith
within-sooner (r ∷ rs) p q e l w = (omega (arith, w.0), w.1)

pub within-later : (rs : List Ref) (p q e : ℕ) → q ≤ e → Within p rs q → Within p rs e
unfolding Within
within-later [] p q e l w = omega arith
within-later (r ∷ rs) p q e l w = (w.0, within-later rs (r.place + 4) q e l w.1)

pub within_both : (a b : List Ref) (p q e : ℕ) → Within p a q → Within q b e → Within p (a ++ b) e
unfolding Within
within_both [] b p q e v w = within-sooner b p q e v w
within_both (r ∷ a) b p q e v w = (v.0, within_both a b (r.place + 4) q e v.1 w)

pub within-onward : (rs : List Ref) (p e : ℕ) → Within p rs e → p ≤ e
unfolding Within
within-onward [] p e w = w
within-onward (r ∷ rs) p e w = omega (arith, w.0, within-onward rs (r.place + 4) e w.1)

pub renamed_both : (f : ℕ → ℕ) (a b : List Ref) → renamed_all f (a ++ b) ≡ renamed_all f a ++ renamed_all f b
unfolding renamed_all
renamed_both f [] b = refl
renamed_both f (r ∷ a) b = ap (λ l. renamed f r ∷ l) (renamed_both f a b)

-- renumbering moves no place
pub renamed-within : (f : ℕ → ℕ) (rs : List Ref) (p e : ℕ) → Within p rs e → Within p (renamed_all f rs) e
unfolding Within renamed_all
renamed-within f [] p e w = w
renamed-within f (r ∷ rs) p e w = (w.0, renamed-within f rs (r.place + 4) e w.1)

module _ (f : ℕ → ℕ) (s t : List ℕ) where
  pub moved-short : (b : List Ref) (p q e : ℕ) → p ≤ q → Within q b e → Moved f s t p b e → Agree s t p q
  unfolding Within Moved
  moved-short [] p q e v w m = λ i x y. m i x (omega arith)
  moved-short (r ∷ b) p q e v w m = λ i x y. m.0.before i x (omega (arith, w.0))

  pub moved-from : (b : List Ref) (p q e : ℕ) → p ≤ q → Moved f s t p b e → Moved f s t q b e
  unfolding Moved
  moved-from [] p q e v m = λ i x y. m i (omega arith) y
  moved-from (r ∷ b) p q e v m = (record { before = λ i x y. m.0.before i (omega arith) y; here = m.0.here; some = m.0.some }, m.1)

  pub moved-left : (a b : List Ref) (p q e : ℕ) → Within p a q → Within q b e → Moved f s t p (a ++ b) e → Moved f s t p a q
  unfolding Within Moved
  moved-left [] b p q e v w m = moved-short b p q e v w m
  moved-left (r ∷ a) b p q e v w m = (m.0, moved-left a b (r.place + 4) q e v.1 w m.1)

  pub moved-right : (a b : List Ref) (p q e : ℕ) → Within p a q → Moved f s t p (a ++ b) e → Moved f s t q b e
  unfolding Within Moved
  moved-right [] b p q e v m = moved-from b p q e v m
  moved-right (r ∷ a) b p q e v m = moved-right a b (r.place + 4) q e v.1 m.1

  pub moved-until : (a : List Ref) (p q e : ℕ) → Within p a q → q ≤ e → Moved f s t p a e → Moved f s t p a q
  unfolding Within Moved
  moved-until [] p q e v l m = λ i x y. m i x (omega arith)
  moved-until (r ∷ a) p q e v l m = (m.0, moved-until a (r.place + 4) q e v.1 l m.1)

-- the same bytes from p on, another list before it
moved-of : (f : ℕ → ℕ) (s u t : List ℕ) (rs : List Ref) (p e : ℕ) → ((i : ℕ) → p ≤ i → get_or u i 0 ≡ get_or s i 0) → Within p rs e → Moved f u t p rs e → Moved f s t p rs e
unfolding Moved Within
moved-of f s u t [] p e h w m = λ i x y. m i x y ∙ h i x
moved-of f s u t (r ∷ rs) p e h w m = (
  record { before = λ i x y. m.0.before i x y ∙ h i x; here = m.0.here; some = m.0.some },
  moved-of f s u t rs (r.place + 4) e (λ i x. h i (omega (arith, w.0))) w.1 m.1,
)

-- Rewriting -----------------------------------------------------------------------------------------------------------------------

pub put-outside : (s : List ℕ) (p : ℕ) (bs : List ℕ) (i : ℕ) → (i < p ⊎ p + length bs ≤ i) → get_or (put s p bs) i 0 ≡ get_or s i 0
unfolding put
put-outside s p [] i h = refl
put-outside s p (b ∷ bs) i (inl x) = put-outside (set s p b) (p + 1) bs i (inl (omega arith)) ∙ get_or-set_other s p i b 0 (λ e. omega arith)
put-outside s p (b ∷ bs) i (inr x) = put-outside (set s p b) (p + 1) bs i (inr (omega arith)) ∙ get_or-set_other s p i b 0 (λ e. omega arith)

pub put_four : (s : List ℕ) (p n i : ℕ) → (i < p ⊎ p + 4 ≤ i) → get_or (put s p (bytes 4 n)) i 0 ≡ get_or s i 0
put_four s p n i h = put-outside s p (bytes 4 n) i (rw (length-bytes 4 n) h)

pub put-here : (s : List ℕ) (p n : ℕ) → p + 4 ≤ length s → n < 2 ^ 32 → little_at 4 (put s p (bytes 4 n)) p ≡ n
put-here s p n r h =
    let l : p + length (bytes 4 n) ≤ length s = omega (arith, length-bytes 4 n) in
    let k : length (take p s) ≡ p = length-take-le p s (omega arith) in
    let st : Stands (take p s ++ (bytes 4 n ++ drop (p + length (bytes 4 n)) s)) p (bytes 4 n) (drop (p + length (bytes 4 n)) s) = rw k at (stands (take p s) (bytes 4 n) (drop (p + length (bytes 4 n)) s)) in
    rw (put_is s p (bytes 4 n) l, append_assoc) (sym (field-got 4 _ p n _ (fixed_back 4 n _ p _ h st)).value)

-- as long as before
pub length-rewrite : (f : ℕ → ℕ) (s : List ℕ) (rs : List Ref) → length (rewrite f s rs) ≡ length s
unfolding rewrite
length-rewrite f s [] = refl
length-rewrite f s (r ∷ rs) = length-rewrite f (put s r.place (bytes 4 (f r.index))) rs ∙ length-put s r.place _

-- all other bytes kept
pub rewrite-outside : (f : ℕ → ℕ) (s : List ℕ) (rs : List Ref) (i : ℕ) → Outside i rs → get_or (rewrite f s rs) i 0 ≡ get_or s i 0
unfolding rewrite Outside
rewrite-outside f s [] i h = refl
rewrite-outside f s (r ∷ rs) i h = rewrite-outside f (put s r.place (bytes 4 (f r.index))) rs i h.1 ∙ put_four s r.place (f r.index) i h.0

-- before the first reference, and after the last
pub outside-before : (rs : List Ref) (p e i : ℕ) → Within p rs e → i < p → Outside i rs
unfolding Within Outside
outside-before [] p e i w h = tt
outside-before (r ∷ rs) p e i w h = (inl (omega (arith, w.0)), outside-before rs (r.place + 4) e i w.1 (omega (arith, w.0)))

pub outside-after : (rs : List Ref) (p e i : ℕ) → Within p rs e → e ≤ i → Outside i rs
unfolding Within Outside
outside-after [] p e i w h = tt
outside-after (r ∷ rs) p e i w h = (inr (omega (arith, within-onward rs (r.place + 4) e w.1)), outside-after rs (r.place + 4) e i w.1 h)

-- they are bytes
pub put-octets : (s : List ℕ) (p n : ℕ) → Octets s → Octets (put s p (bytes 4 n))
unfolding Octets put
put-octets s p n o i = many (bytes 4 n) s p (bytes_small 4 n) o i
  where
    one : (s : List ℕ) (p b : ℕ) → b < 256 → ((i : ℕ) → get_or s i 0 < 256) → (i : ℕ) → get_or (set s p b) i 0 < 256
    one [] p b h o i = o i
    one (x ∷ s) zero b h o zero = h
    one (x ∷ s) zero b h o (suc i) = o (suc i)
    one (x ∷ s) (suc p) b h o zero = o 0
    one (x ∷ s) (suc p) b h o (suc i) = one s p b h (λ j. o (suc j)) i

    many : (bs s : List ℕ) (p : ℕ) → ((i : ℕ) → get_or bs i 0 < 256) → ((i : ℕ) → get_or s i 0 < 256) → (i : ℕ) → get_or (put s p bs) i 0 < 256
    many [] s p h o i = o i
    many (b ∷ bs) s p h o i = many bs (set s p b) (p + 1) (λ j. h (suc j)) (one s p b (h 0) o) i

pub rewrite-octets : (f : ℕ → ℕ) (s : List ℕ) (rs : List Ref) → Octets s → Octets (rewrite f s rs)
unfolding rewrite
rewrite-octets f s [] o = o
rewrite-octets f s (r ∷ rs) o = rewrite-octets f (put s r.place (bytes 4 (f r.index))) rs (put-octets s r.place (f r.index) o)

-- what stands is written as it was
pub put_same : (s : List ℕ) (p : ℕ) → Octets s → p + 4 ≤ length s → put s p (bytes 4 (little_at 4 s p)) ≡ s
put_same s p o h =
    let n = little_at 4 s p in
    let k : length (bytes 4 n) ≡ 4 = length-bytes 4 n in
    let l : p + length (bytes 4 n) ≤ length s = omega arith in
    let e : put s p (bytes 4 n) ≡ take p s ++ (bytes 4 n ++ drop (p + 4) s) = put_is s p (bytes 4 n) l ∙ rw (k, append_assoc) in
    e ∙ ap (λ x. take p s ++ x) (bytes_back 4 s p o h) ∙ take-append-drop p s

pub rewrite-same : (f : ℕ → ℕ) (rs : List Ref) (s : List ℕ) (p e : ℕ) → Octets s → Stand s rs → Stays f rs → Within p rs e → e ≤ length s → rewrite f s rs ≡ s
unfolding rewrite Stand Stays Within
rewrite-same f [] s p e o st k w l = refl
rewrite-same f (r ∷ rs) s p e o st k w l =
    let v = within-onward rs (r.place + 4) e w.1 in
    let z : put s r.place (bytes 4 (f r.index)) ≡ s =
    ap (λ n. put s r.place (bytes 4 n)) (k.0 ∙ sym st.0.here) ∙ put_same s r.place o (omega arith) in
    ap (λ u. rewrite f u rs) z ∙ rewrite-same f rs s (r.place + 4) e o st.1 k.1 w.1 l

pub stand-both : (s : List ℕ) (a b : List Ref) → Stand s a → Stand s b → Stand s (a ++ b)
unfolding Stand
stand-both s [] b x y = y
stand-both s (r ∷ a) b x y = (x.0, stand-both s a b x.1 y)

-- the rewritten bytes are moved: the same but for the references, and these are f index
pub rewrite-moved : (f : ℕ → ℕ) (rs : List Ref) (s : List ℕ) (p e : ℕ) → Within p rs e → e ≤ length s → Fits f rs → Moved f s (rewrite f s rs) p rs e
unfolding Within Fits Moved rewrite
rewrite-moved f [] s p e w l h = λ i x y. refl
rewrite-moved f (r ∷ rs) s p e w l h =
    let n = f r.index in
    let u = put s r.place (bytes 4 n) in
    let t = rewrite f u rs in
    let o = within-onward rs (r.place + 4) e w.1 in
    let same : (i : ℕ) → i < r.place + 4 → get_or t i 0 ≡ get_or u i 0 = λ i x. rewrite-outside f u rs i (outside-before rs (r.place + 4) e i w.1 x) in
    let ih : Moved f u t (r.place + 4) rs e = rewrite-moved f rs u (r.place + 4) e w.1 (omega (arith, length-put s r.place (bytes 4 n))) h.1 in (
      record {
        before = λ i x y. same i (omega arith) ∙ put_four s r.place n i (inl y);
        here = little-alike 4 u t r.place (λ i x y. same i y) ∙ put-here s r.place n (omega arith) h.0.small;
        some = h.0.some;
      },
      moved-of f s u t rs (r.place + 4) e (λ i x. put_four s r.place n i (inr x)) w.1 ih,
    )
