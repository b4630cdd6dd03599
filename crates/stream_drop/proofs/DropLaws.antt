-- R-13's definition at each outcome that the code comes to, from what its passes leave. Assumes nothing.
use Rattle.std.specs.Prelude.{Result, Ok, Err, None, Some}
use Prim.Native.Nat.{ℕ, suc, ◌+◌, ◌-◌, ◌≤◌, ◌<◌}
use native.Mathlib.Omega.{arith}
use mathlib.Core.Bool.{Bool, true, false}
use mathlib.Core.List.{List, [], ◌∷◌, map}
use mathlib.Core.Path.{◌≡◌, refl, sym, ap, ◌∙◌}
use mathlib.Core.Logic.{inl, inr}
use lib.ListN.{length}
use lib.Dec.{leb}
use borrow.Author.Tests.{lt-ltb, le-ltb, leb-true, leb-false, le-leb}
use Rattle.std.specs.Result.{IsErrAnd}
use Rattle.answer.proofs.Told.{handed}
use Rattle.answer.specs.Answer.{answered, pick}
use Rattle.field.specs.declared.index.Stream.TheVariants as stream
use Rattle.field_put.specs.Bytes.{put, Octets}
use Rattle.stream_header.specs.Header.{zero_header, header_of}
use Rattle.stream_header.specs.declared.Header.{Header}
use Rattle.stream_item.specs.Iterator.{iter_of}
use Rattle.stream_item.specs.declared.iter.ItemIter.{ItemIter}
use Rattle.answer.specs.Refusals.{no}
use Rattle.answer.specs.declared.Refusal.{Refusal}
use Rattle.answer.specs.declared.Refusal.TheVariants as refusal
use Rattle.stream_fit.specs.Fit.{fit, unfit, fit_of}
use Rattle.stream_prune.specs.Links.{payloads_from}
use Rattle.stream_prune.specs.Pruned.{rank, numbers, link_bytes, new_stream}
use Rattle.stream_prune.specs.Dropped.{IsIn, mark_all, pass, marks, roots_from, marks_of}
use Rattle.stream_prune.proofs.HeadLaws.{opened, size-inside, minimum-is, maximum-is}
use Rattle.stream_prune.proofs.NewStream.{Old, op, new-long, new-shorter, pruning}
use Rattle.stream_prune.proofs.Walks.{fit-payloads, payloads-count}
use Rattle.stream_drop.specs.Each.{Held, held_of}
use Rattle.stream_drop.specs.Passes.{Numbered, numbered_to, number_from, up_from, marked_in, asked_in, written_in}
use Rattle.stream_drop.specs.Drop.{first_above, some_read_as_none, dropped_of, drop_of, Drops}
use Rattle.stream_drop.specs.declared.passes.Count.{Count}
use Rattle.stream_drop.proofs.TableLaws.{packed}
use Rattle.stream_drop.proofs.DownLaws.{payloads-enough, down-all, number-all}
use Rattle.stream_drop.proofs.UpLaws.{ask-all, none_below}
use Rattle.stream_drop.proofs.WriteLaws.{stream-all}

-- no root is at or above the maximum
pub all-below : (maximum : ℕ) (roots : List ℕ) → first_above maximum roots ≡ None → (x : ℕ) → IsIn x roots → x < maximum
unfolding first_above
all-below maximum [] e x i = absurd i
all-below maximum (y ∷ ys) e x i = go (leb maximum y) refl e i (λ g. all-below maximum ys g x)
  where
    go : (b : Bool) → leb maximum y ≡ b → pick b (Some y) (first_above maximum ys) ≡ None → IsIn x (y ∷ ys) → (first_above maximum ys ≡ None → IsIn x ys → x < maximum) → x < maximum
    go true f g i later = let z : ◌≡◌ {A = ℕ} 0 1 = cc in absurd (omega arith)
    go false f g (inl j) later = let l : y < maximum = leb-false maximum y f in omega arith
    go false f g (inr j) later = later g j

-- the table, the next number and the bytes; the answer, the table and the buffer
numbered-parts : (t t' : List ℕ) (k : Count) (next n : ℕ) → numbered_to t k ≡ record { table = t'; next = next; bytes = n } → (t ≡ t') × (k.next ≡ next) × (k.bytes ≡ n)
numbered-parts t t' k next n e = (ap (λ (x : Numbered). x.table) e, ap (λ (x : Numbered). x.next) e, ap (λ (x : Numbered). x.bytes) e)

held-parts : (g g' : Bool) (t t' b b' : List ℕ) → held_of g t b ≡ held_of g' t' b' → (g ≡ g') × (t ≡ t') × (b ≡ b')
held-parts g g' t t' b b' e = (ap (λ (x : Held). x.good) e, ap (λ (x : Held). x.table) e, ap (λ (x : Held). x.out) e)

-- a test that was answered by its contrary
was-true : (x : Bool) → pick x false true ≡ false → x ≡ true
was-true true e = refl
was-true false e = sym e

was-false : (x : Bool) → pick x false true ≡ true → x ≡ false
was-false true e = sym e
was-false false e = refl

-- the payloads of a stream; their marks, the next number, the table and whether a reference reads as none, after these roots
abbrev pub records : List ℕ → ItemIter → List (List ℕ)
records s c = payloads_from (suc (length s)) s c

abbrev marks_in : List ℕ → Header → ItemIter → List ℕ → List ℕ
marks_in s h c roots = marks_of h.minimum_index (records s c) roots

abbrev next_in : List ℕ → Header → ItemIter → List ℕ → ℕ
next_in s h c roots = h.minimum_index + rank (marks_in s h c roots) (length (records s c))

abbrev table_in : List ℕ → Header → ItemIter → List ℕ → List ℕ → List ℕ
table_in s h c roots t = put t 0 (numbers h.minimum_index (marks_in s h c roots))

abbrev none_in : List ℕ → Header → ItemIter → List ℕ → Bool
none_in s h c roots = some_read_as_none h.minimum_index (marks_in s h c roots) 0 (records s c)

no_header : (h : Header) → header_of [] ≡ answered h → zero_header ≡ h
unfolding header_of
no_header h e = cc

-- the empty stream has an empty header, no root and nothing to write
at-empty : (h : Header) → zero_header ≡ h → (ps : List (List ℕ)) → length ps ≡ 0 → (roots t b : List ℕ) → first_above h.maximum_index roots ≡ None
    → Drops t b (dropped_of [] h ps roots (length t) (length b)) (Ok 0) t b
unfolding dropped_of first_above marks_of marks pass mark_all roots_from numbers some_read_as_none put
at-empty h z [] l [] t b e =
    let m : 0 ≤ length t = omega arith in
    let n : 0 ≤ length b = omega arith in
    rw (← z, le-ltb (length t) 0 m, pruning.empty_stream [], le-ltb (length b) 0 n) (record { says = refl; table = refl; buffer = refl })
at-empty h z [] l (x ∷ xs) t b e =
    let n : 0 ≤ x = omega arith in
    let f : Some x ≡ None = rw (← z, le-leb 0 x n) at e in
    let k : ◌≡◌ {A = ℕ} 0 1 = cc in
    absurd (omega arith)
at-empty h z (p ∷ ps) l roots t b e = absurd (omega arith)

-- the minimum is at or below the maximum
pub ordered : (s : List ℕ) (h : Header) → header_of s ≡ answered h → h.minimum_index ≤ h.maximum_index
ordered [] h e = let z = no_header h e in rw (← z) (omega arith)
ordered (x ∷ s) h e =
    let o = opened (x ∷ s) h (omega arith) e in
    omega (arith, o.up, minimum-is (x ∷ s) h o, maximum-is (x ∷ s) h o)

-- Of a fit stream -----------------------------------------------------------------------------------------------------------------------

module _ (s : List ℕ) (h : Header) (c : ItemIter) (roots t b : List ℕ) where
  pub root-above : (x : ℕ) → first_above h.maximum_index roots ≡ Some x
      → Drops t b (dropped_of s h (records s c) roots (length t) (length b)) (Err (refusal.NotFound x)) t b
  unfolding dropped_of
  root-above x e = rw e (record { says = refl; table = refl; buffer = refl })

  module _ (header : header_of s ≡ answered h) (iter : iter_of stream.Types s ≡ answered c) (yes : fit_of s ≡ answered fit)
      (below : first_above h.maximum_index roots ≡ None) where
    pub few-places : length t < h.maximum_index - h.minimum_index → Drops t b (dropped_of s h (records s c) roots (length t) (length b)) (Err refusal.TableFull) t b
    unfolding dropped_of
    few-places l =
        let k : length t < length (records s c) = rw (payloads-count s h c header iter yes) l in
        rw (below, lt-ltb _ _ k) (record { says = refl; table = refl; buffer = refl })

    -- the empty stream
    pub nothing-there : length s ≡ 0 → Drops t b (dropped_of s h (records s c) roots (length t) (length b)) (Ok 0) t b
    nothing-there l = go s h l header (payloads-count s h c header iter yes) below
      where
        go : (s : List ℕ) (h : Header) → length s ≡ 0 → header_of s ≡ answered h → length (records s c) ≡ h.maximum_index - h.minimum_index → first_above h.maximum_index roots ≡ None
            → Drops t b (dropped_of s h (records s c) roots (length t) (length b)) (Ok 0) t b
        go (x ∷ s) h l e n f = absurd (omega arith)
        go [] h l e n f =
            let z = no_header h e in
            let k : length (records [] c) ≡ 0 = rw (← z) at n in
            at-empty h z (records [] c) k roots t b f

    module _ (octets : Octets s) (some_bytes : 0 < length s) (places : h.maximum_index - h.minimum_index ≤ length t) where
      old : Old s h c (records s c)
      old = record { bytes = octets; filled = some_bytes; header = header; iter = iter; yes = yes; walked = fit-payloads s h c header iter yes }

      number_of : h.maximum_index - h.minimum_index ≡ length (records s c)
      number_of = sym (payloads-count s h c header iter yes)

      enough : payloads_from (h.maximum_index - h.minimum_index) s c ≡ records s c
      enough = rw number_of (payloads-enough (suc (length s)) s c)

      room : length (records s c) ≤ length t
      room = omega (arith, number_of)

      inside : (x : ℕ) → IsIn x roots → x < h.maximum_index
      inside = all-below h.maximum_index roots below

      marked : (n : ℕ) (qs : List (List ℕ)) → n ≡ length (records s c) → qs ≡ records s c
          → marked_in h.minimum_index s n qs roots t b ≡ held_of true (put t 0 (packed (map length (records s c)) (marks_in s h c roots))) b
      unfolding marked_in
      marked n qs e f = rw (e, f) (down-all s h c (records s c) old t room true b roots inside)

      asked-all : (start : ℕ) (qs : List (List ℕ)) → qs ≡ records s c
          → asked_in h.minimum_index (next_in s h c roots) start qs (held_of true (table_in s h c roots t) b) ≡ held_of (pick (none_in s h c roots) false true) (table_in s h c roots t) b
      unfolding asked_in
      asked-all start qs f = rw f (go (leb (next_in s h c roots) 0xffff) refl)
        where
          go : (x : Bool) → leb (next_in s h c roots) 0xffff ≡ x
              → pick x (held_of true (table_in s h c roots t) b) (up_from h.minimum_index false 0 start (records s c) (held_of true (table_in s h c roots t) b))
              ≡ held_of (pick (none_in s h c roots) false true) (table_in s h c roots t) b
          go true e = rw (none_below s h c (records s c) roots old inside (leb-true _ _ e))
          go false e = ask-all s h c (records s c) roots old inside t room start b

      written_all : (qs : List (List ℕ)) → qs ≡ records s c → length (new_stream s h (marks_in s h c roots) (records s c)) ≤ length b
          → written_in h.minimum_index (next_in s h c roots) h.header_size s qs (table_in s h c roots t) b
          ≡ held_of true (table_in s h c roots t) (put b 0 (new_stream s h (marks_in s h c roots) (records s c)))
      unfolding written_in
      written_all qs f l = rw f (stream-all s h c (records s c) roots old inside t room b l)

      -- the new stream's length
      long : length (new_stream s h (marks_in s h c roots) (records s c)) ≡ h.header_size + link_bytes (marks_in s h c roots) 0 (records s c)
      long = new-long s h (marks_in s h c roots) (records s c) (size-inside s h (op s h c (records s c) old))

      -- what the passes leave: new numbers, and the buffer as it was
      module _ (k : Count) (t₁ b₁ : List ℕ)
          (numbers-left : numbered_to t₁ k
          ≡ number_from (h.maximum_index - h.minimum_index) 0 (record { table = (marked_in h.minimum_index s (h.maximum_index - h.minimum_index) (payloads_from (h.maximum_index - h.minimum_index) s c) roots t b).table; next = h.minimum_index; bytes = 0 }))
          (buffer-left : b₁ ≡ (marked_in h.minimum_index s (h.maximum_index - h.minimum_index) (payloads_from (h.maximum_index - h.minimum_index) s c) roots t b).out) where
        renumbered : (t₁ ≡ table_in s h c roots t) × (k.next ≡ next_in s h c roots) × (k.bytes ≡ link_bytes (marks_in s h c roots) 0 (records s c))
        renumbered =
            let m = marked (h.maximum_index - h.minimum_index) (payloads_from (h.maximum_index - h.minimum_index) s c) number_of enough in
            let e : numbered_to t₁ k ≡ number_from (h.maximum_index - h.minimum_index) 0 (record { table = put t 0 (packed (map length (records s c)) (marks_in s h c roots)); next = h.minimum_index; bytes = 0 })
            = numbers-left ∙ ap (λ (x : Held). number_from (h.maximum_index - h.minimum_index) 0 (record { table = x.table; next = h.minimum_index; bytes = 0 })) m in
            numbered-parts _ _ _ _ _ (e ∙ rw number_of (number-all s h c (records s c) old t room roots))

        buffer-kept : b₁ ≡ b
        buffer-kept = buffer-left ∙ ap (λ (x : Held). x.out) (marked _ _ number_of enough)

        -- the new stream is no longer than the old one
        pub size_fits : h.header_size + k.bytes ≤ 4294967294
        size_fits = omega (arith, renumbered.2, long, new-shorter s h c (records s c) old (marks_in s h c roots), (op s h c (records s c) old).sized.there.short)

        module _ (r : Bool) (t₂ b₂ : List ℕ)
            (answer-left : held_of r t₂ b₂ ≡ asked_in h.minimum_index k.next h.header_size (payloads_from (h.maximum_index - h.minimum_index) s c) (held_of true t₁ b₁)) where
          asked : (r ≡ pick (none_in s h c roots) false true) × (t₂ ≡ table_in s h c roots t) × (b₂ ≡ b)
          asked =
              let e : held_of r t₂ b₂ ≡ asked_in h.minimum_index (next_in s h c roots) h.header_size (payloads_from (h.maximum_index - h.minimum_index) s c) (held_of true (table_in s h c roots t) b)
              = rw (renumbered.1, renumbered.0, buffer-kept) at answer-left in
              held-parts _ _ _ _ _ _ (e ∙ asked-all h.header_size (payloads_from (h.maximum_index - h.minimum_index) s c) enough)

          pub reads-as-none : r ≡ false → Drops t b (dropped_of s h (records s c) roots (length t) (length b)) (Err refusal.ReadsAsNone) t₂ b₂
          unfolding dropped_of
          reads-as-none e =
              rw (below, le-ltb _ _ room, was-true (none_in s h c roots) (sym asked.0 ∙ e), asked.1, asked.2) (record { says = refl; table = refl; buffer = refl })

          pub no_room : r ≡ true → length b₂ < h.header_size + k.bytes → Drops t b (dropped_of s h (records s c) roots (length t) (length b)) (Err refusal.NoRoom) t₂ b₂
          unfolding dropped_of
          no_room e l =
              let x = asked.2 in
              let m : length b < length (new_stream s h (marks_in s h c roots) (records s c)) = omega (arith, long, renumbered.2, ap length x) in
              rw (below, le-ltb _ _ room, was-false (none_in s h c roots) (sym asked.0 ∙ e), lt-ltb _ _ m, asked.1, asked.2) (record { says = refl; table = refl; buffer = refl })

          pub wrote : (r₃ : Bool) (t₃ b₃ : List ℕ) → r ≡ true → h.header_size + k.bytes ≤ length b₂
              → held_of r₃ t₃ b₃ ≡ written_in h.minimum_index k.next h.header_size s (payloads_from (h.maximum_index - h.minimum_index) s c) t₂ b₂
              → Drops t b (dropped_of s h (records s c) roots (length t) (length b)) (Ok (h.header_size + k.bytes)) t₃ b₃
          unfolding dropped_of
          wrote r₃ t₃ b₃ e l f =
              let x = asked.2 in
              let m : length (new_stream s h (marks_in s h c roots) (records s c)) ≤ length b = omega (arith, long, renumbered.2, ap length x) in
              let g : held_of r₃ t₃ b₃ ≡ written_in h.minimum_index (next_in s h c roots) h.header_size s (payloads_from (h.maximum_index - h.minimum_index) s c) (table_in s h c roots t) b
              = rw (renumbered.1, asked.1, asked.2) at f in
              let w = held-parts _ _ _ _ _ _ (g ∙ written_all (payloads_from (h.maximum_index - h.minimum_index) s c) enough m) in
              rw (below, le-ltb _ _ room, was-false (none_in s h c roots) (sym asked.0 ∙ e), le-ltb _ _ m)
              (record { says = ap answered (ap (λ (y : ℕ). h.header_size + y) renumbered.2 ∙ sym long); table = w.1; buffer = w.2 })

-- Of any stream -------------------------------------------------------------------------------------------------------------------------

module _ (s roots t b : List ℕ) (r : Result ℕ Refusal) where
  pub by-header : (e : Refusal) → no e ≡ header_of s → IsErrAnd r (λ y. y ≡ e) → Drops t b (drop_of s roots (length t) (length b)) r t b
  unfolding drop_of
  by-header e f w = rw (handed r e w, ← f) (record { says = refl; table = refl; buffer = refl })

  module _ (h : Header) (header : answered h ≡ header_of s) where
    pub by-iter : (e : Refusal) → no e ≡ iter_of stream.Types s → IsErrAnd r (λ y. y ≡ e) → Drops t b (drop_of s roots (length t) (length b)) r t b
    unfolding drop_of
    by-iter e f w = rw (handed r e w, ← header, ← f) (record { says = refl; table = refl; buffer = refl })

    module _ (c : ItemIter) (iter : answered c ≡ iter_of stream.Types s) where
      pub by-fit : (e : Refusal) → no e ≡ fit_of s → IsErrAnd r (λ y. y ≡ e) → Drops t b (drop_of s roots (length t) (length b)) r t b
      unfolding drop_of
      by-fit e f w = rw (handed r e w, ← header, ← iter, ← f) (record { says = refl; table = refl; buffer = refl })

      pub not-fit : (i rule : ℕ) → answered (unfit i rule) ≡ fit_of s → r ≡ Err refusal.NotFit → Drops t b (drop_of s roots (length t) (length b)) r t b
      unfolding drop_of
      not-fit i rule f e = rw (e, ← header, ← iter, ← f) (record { says = refl; table = refl; buffer = refl })

      pub by-yes : answered fit ≡ fit_of s → (t' b' : List ℕ) → Drops t b (dropped_of s h (records s c) roots (length t) (length b)) r t' b'
          → Drops t b (drop_of s roots (length t) (length b)) r t' b'
      unfolding drop_of
      by-yes f t' b' d = rw (← header, ← iter, ← f) d
