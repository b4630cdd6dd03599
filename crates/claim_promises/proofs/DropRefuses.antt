-- The numbers that `drop` is refused by; that it then leaves the buffer, and the table but after 30 and 19. Assumes nothing.
use Rattle.std.specs.Prelude.{Result, Option, None, Some}
use Rattle.answer.specs.declared.Refusal.{Refusal}
use Prim.Native.Nat.{ℕ, suc}
use mathlib.Core.Bool.{Bool, true, false, false≢true}
use mathlib.Core.Path.{◌≡◌, refl, sym, subst, ◌∙◌}
use mathlib.Core.List.{List, [], ◌∷◌}
use lib.ListN.{length}
use lib.Dec.{ltb, eqb}
use borrow.Author.Tests.{eqb-true}
use native.Mathlib.Omega.{arith}
use Rattle.answer.specs.Answer.{Answer, refused, pick}
use Rattle.answer.specs.Tables.{find, among}
use Rattle.answer.specs.Refusals.{listed, in_table, refusals, itself, said}
use Rattle.field.specs.declared.index.Stream.TheVariants as stream
use Rattle.field_put.specs.Bytes.{put}
use Rattle.stream_header.specs.declared.Header.{Header}
use Rattle.stream_fit.specs.Fit.{Verdict, fit, unfit}
use Rattle.stream_prune.specs.Links.{payloads_from}
use Rattle.stream_prune.specs.Pruned.{numbers, new_stream}
use Rattle.stream_prune.specs.Dropped.{marks_of}
use Rattle.stream_drop.specs.Drop.{Outcome, stays, numbers_only, written, unless, first_above, unless_above, some_read_as_none, settled, dropped_of, unless_unfit, drop_of, answer_of, drop_table_after, drop_buffer_after, Drops}
use Rattle.claim_promises.specs.ByTable.{Refuses, elsewhere, fits, gives, refuses}
use Rattle.claim_promises.proofs.ByTable.{within, wider, both_first}
use Rattle.claim_promises.proofs.StreamRefuses.{header-refuses, iter-refuses, fit-refuses}

-- before anything is stored; and once the table has the new numbers
abbrev of_stays : List ℕ
of_stays = 16 ∷ 1 ∷ 2 ∷ 3 ∷ 4 ∷ 5 ∷ 29 ∷ 8 ∷ 13 ∷ []

abbrev of_numbers : List ℕ
of_numbers = 30 ∷ 19 ∷ []

abbrev of_drops : List ℕ
of_drops = 16 ∷ 1 ∷ 2 ∷ 3 ∷ 4 ∷ 5 ∷ 29 ∷ 8 ∷ 13 ∷ 30 ∷ 19 ∷ []

-- an outcome is refused by the numbers that it may be
data Drop : Outcome → Type 0 where
  stayed : {n : ℕ} {d : List ℕ} → fits elsewhere of_stays n d ≡ true → Drop (stays n d)
  numbered : {n : ℕ} {entries : List ℕ} → fits elsewhere of_numbers n [] ≡ true → Drop (numbers_only n entries)
  wrote : {entries new : List ℕ} → Drop (written entries new)

settled-drop : (entries : List ℕ) (reads : Bool) (new : List ℕ) (room : ℕ) → Drop (settled entries reads new room)
unfolding fits among listed find in_table refusals
settled-drop entries true new room = numbered refl
settled-drop entries false new room = go (ltb room (length new))
  where
    go : (short : Bool) → Drop (pick short (numbers_only 19 entries) (written entries new))
    go true = numbered refl
    go false = wrote

above-drop : (root : Option ℕ) (o : Outcome) → Drop o → Drop (unless_above root o)
unfolding fits among listed find in_table refusals
above-drop None o h = h
above-drop (Some x) o h = stayed refl

full-drop : (full : Bool) (o : Outcome) → Drop o → Drop (pick full (stays 13 []) o)
unfolding fits among listed find in_table refusals
full-drop true o h = stayed refl
full-drop false o h = h

fit-drop : (s : List ℕ) (h : Header) (ps : List (List ℕ)) (roots : List ℕ) (places room : ℕ) → Drop (dropped_of s h ps roots places room)
unfolding dropped_of
fit-drop s h ps roots places room =
    above-drop (first_above h.maximum_index roots) _
    (full-drop (ltb places (length ps)) _
    (settled-drop (numbers h.minimum_index (marks_of h.minimum_index ps roots)) (some_read_as_none h.minimum_index (marks_of h.minimum_index ps roots) 0 ps)
    (new_stream s h (marks_of h.minimum_index ps roots) ps) room))

verdict-drop : (v : Verdict) (o : Outcome) → Drop o → Drop (unless_unfit v o)
unfolding fits among listed find in_table refusals
verdict-drop fit o h = h
verdict-drop (unfit i rule) o h = stayed refl

then-drop : {A : Type 0} {a : Answer A} {f : A → Outcome} → Refuses of_stays a → ((x : A) → Drop (f x)) → Drop (unless a f)
then-drop gives h = h _
then-drop (refuses p) h = stayed p

every_drop : (s roots : List ℕ) (places room : ℕ) → Drop (drop_of s roots places room)
unfolding drop_of within among
every_drop s roots places room =
    then-drop (wider refl (header-refuses s)) (λ h.
    then-drop (wider refl (iter-refuses stream.Types s)) (λ c.
    then-drop (wider refl (fit-refuses s)) (λ v.
    verdict-drop v _ (fit-drop s h (payloads_from (suc (length s)) s c) roots places room))))

-- ---- demand 1's lists

pub drop-refuses : (s roots : List ℕ) (places room : ℕ) → Refuses of_drops (answer_of (drop_of s roots places room))
unfolding within among
drop-refuses s roots places room = go (every_drop s roots places room)
  where
    go : {o : Outcome} → Drop o → Refuses of_drops (answer_of o)
    go (stayed p) = wider refl (refuses p)
    go (numbered p) = wider refl (refuses p)
    go wrote = gives

-- ---- what is lent

pub drops-no-bytes : (t b : List ℕ) (o : Outcome) (r : Result ℕ Refusal) (t' b' : List ℕ) (n : ℕ) (d : List ℕ) → Drops t b o r t' b' → said itself r ≡ refused n d → b' ≡ b
drops-no-bytes t b o r t' b' n d l e = go o (sym l.says ∙ e) l.buffer
  where
    go : (o : Outcome) → answer_of o ≡ refused n d → b' ≡ drop_buffer_after b o → b' ≡ b
    go (stays m x) p q = q
    go (numbers_only m entries) p q = q
    go (written entries new) p q = let z : ◌≡◌ {A = ℕ} 0 1 = cc in absurd (omega arith)

same_number : (m n : ℕ) (x d : List ℕ) → ◌≡◌ {A = Answer ℕ} (refused m x) (refused n d) → m ≡ n
same_number m n x d e = cc

-- the two lists of numbers have none in common
two-apart : (n : ℕ) (d : List ℕ) → fits elsewhere of_stays n d ≡ true → among n of_numbers ≡ true → ⊥
unfolding fits among
two-apart n d p q = go (eqb n 30) refl (eqb n 19) refl q
  where
    go : (a : Bool) → eqb n 30 ≡ a → (b : Bool) → eqb n 19 ≡ b → pick a true (pick b true false) ≡ true → ⊥
    go true e b f h = false≢true (subst (λ (i : ℕ). among i of_stays ≡ true) (eqb-true n 30 e) (both_first (among n of_stays) _ p))
    go false e true f h = false≢true (subst (λ (i : ℕ). among i of_stays ≡ true) (eqb-true n 19 f) (both_first (among n of_stays) _ p))
    go false e false f h = false≢true h

pub drops-no-entry : (s roots t b : List ℕ) (r : Result ℕ Refusal) (t' b' : List ℕ) (n : ℕ) (d : List ℕ)
    → Drops t b (drop_of s roots (length t) (length b)) r t' b' → said itself r ≡ refused n d → among n of_numbers ≡ false → t' ≡ t
unfolding fits
drops-no-entry s roots t b r t' b' n d l e k = go (every_drop s roots (length t) (length b)) (sym l.says ∙ e) l.table
  where
    go : {o : Outcome} → Drop o → answer_of o ≡ refused n d → t' ≡ drop_table_after t o → t' ≡ t
    go (stayed p) h q = q
    go (numbered {n = m} p) h q = absurd (false≢true (sym k ∙ subst (λ (i : ℕ). among i of_numbers ≡ true) (same_number m n [] d h) (both_first (among m of_numbers) _ p)))
    go wrote h q = let z : ◌≡◌ {A = ℕ} 0 1 = cc in absurd (omega arith)

-- and by 30 and 19 it is refused with the new numbers in the table
pub record Numbered (o : Outcome) (t t' : List ℕ) : Type 0 where
  pub number : ℕ
  pub entries : List ℕ
  pub outcome : o ≡ numbers_only number entries
  pub table : t' ≡ put t 0 entries

pub drops-numbers : (s roots t b : List ℕ) (r : Result ℕ Refusal) (t' b' : List ℕ) (n : ℕ) (d : List ℕ)
    → Drops t b (drop_of s roots (length t) (length b)) r t' b' → said itself r ≡ refused n d → among n of_numbers ≡ true → Numbered (drop_of s roots (length t) (length b)) t t'
drops-numbers s roots t b r t' b' n d l e k = go (drop_of s roots (length t) (length b)) refl (every_drop s roots (length t) (length b)) (sym l.says ∙ e) l.table
  where
    go : (o : Outcome) → drop_of s roots (length t) (length b) ≡ o → Drop o → answer_of o ≡ refused n d → t' ≡ drop_table_after t o → Numbered (drop_of s roots (length t) (length b)) t t'
    go (stays m x) i (stayed p) h q = absurd (two-apart m x p (subst (λ (j : ℕ). among j of_numbers ≡ true) (sym (same_number m n x d h)) k))
    go (numbers_only m entries) i w h q = record { number = m; entries = entries; outcome = i; table = q }
    go (written entries new) i w h q = let z : ◌≡◌ {A = ℕ} 0 1 = cc in absurd (omega arith)
