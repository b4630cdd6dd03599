-- The numbers of R-6. Assumes nothing.
use Rattle.std.specs.Prelude.{Result}
use Rattle.answer.specs.declared.Refusal.{Refusal}
use Prim.Native.Nat.{ℕ, zero, suc, ◌+◌, ◌≤◌, ◌<◌}
use native.Mathlib.Omega.{arith}
use mathlib.Core.Bool.{true}
use mathlib.Core.Path.{◌≡◌, refl, sym, ap, ◌∙◌}
use mathlib.Core.List.{List, [], ◌∷◌}
use lib.ListN.{length}
use lib.Dec.{ltb, eqb}
use borrow.Author.Tests.{ltb-true, ltb-false, lt-ltb, eqb-false}
use Rattle.answer.specs.Answer.{Answer, answered, refused, stop}
use Rattle.answer.specs.Tables.{find, among}
use Rattle.answer.specs.Refusals.{listed, in_table, refusals, itself, said}
use Rattle.field.specs.Fields.{little_at}
use Rattle.stream_header.specs.Header.{longest}
use Rattle.stream_item.specs.Iterator.{Next, done, yielded, next_of}
use Rattle.stream_item.specs.declared.Entry.{Entry}
use Rattle.stream_item.specs.declared.iter.ItemIter.{ItemIter}
use Rattle.stream_finder.specs.Finder.{begun_in}
use Rattle.section_item.specs.Sections.{section_start, section_on, walk_by, last_of, count_of}
use Rattle.section_item.proofs.SectionLaws.{start-long, start-short, start-signature, start_first, count-refused, counted}
use Rattle.section_finder.specs.Finders.{section_records, section_create_by}
use Rattle.section_finder.proofs.FinderLaws.{create-is}
use Rattle.section_read.specs.Readers.{reader_at, sorted_of, read_of}
use Rattle.section_stream.specs.Streams.{stream_bytes, section_stream}
use Rattle.section_stream.proofs.StreamLaws.{stream-length, stream-long, stream-is}
use Rattle.field_put.specs.Bytes.{put}
use Rattle.write_layout.specs.Buffer.{Written, lay, buffer_after, place_after, Writes}
use Rattle.claim_promises.specs.ByTable.{Refuses, fits, gives, refuses}
use Rattle.claim_promises.specs.Given.{by, Given, RefusedAs}
use Rattle.claim_promises.specs.Sections.{SectionsRefuse, SectionsWhen}
use Rattle.claim_promises.proofs.ByTable.{by-pick, by-stop, by-then, within, wider}
use Rattle.claim_promises.proofs.Given.{off, at-stop, at-pick, at-then, apart, as_first}
use Rattle.claim_promises.proofs.CreatedWhen.{begins-26, begins-13}
use Rattle.claim_promises.proofs.GivenStreams.{nexts-16}
use Rattle.claim_promises.proofs.LeftAlone.{leaves-alone}
use Rattle.claim_promises.proofs.StreamRefuses.{next-refuses, begun-in-refuses, parse-refuses, start-refuses}

-- ---- demand 1

starts : (s : List ℕ) → Refuses (16 ∷ 1 ∷ 25 ∷ []) (section_start s)
unfolding section_start fits among listed find in_table refusals
starts s =
    by-stop (ltb longest (length s)) 16 refl
    (by-stop (ltb (length s) 4) 1 refl
    (by-pick (eqb (little_at 4 s 0) 4) gives (refuses refl)))

-- a walk is refused as one of its steps is
walks : (k : ℕ) (s : List ℕ) (c : ItemIter) → Refuses (16 ∷ 1 ∷ 6 ∷ 7 ∷ []) (walk_by k s c)
unfolding walk_by
walks zero s c = gives
walks (suc k) s c = by-then (next-refuses s c) (on (λ d. walks k s d))
  where
    on : ((d : ItemIter) → Refuses (16 ∷ 1 ∷ 6 ∷ 7 ∷ []) (walk_by k s d)) → (n : Next) → Refuses (16 ∷ 1 ∷ 6 ∷ 7 ∷ []) (section_on (walk_by k s) c n)
    on w done = gives
    on w (yielded i d) = w d

counts : (s : List ℕ) → Refuses (16 ∷ 1 ∷ 25 ∷ 6 ∷ 7 ∷ []) (count_of s)
unfolding count_of last_of within among
counts s = by-then (wider refl (starts s)) (λ c. by-then (wider refl (walks (suc (length s)) s c)) (λ d. gives))

creations : (shift : ℕ) (s t : List ℕ) → Refuses (16 ∷ 1 ∷ 25 ∷ 6 ∷ 7 ∷ 26 ∷ 13 ∷ []) (section_create_by shift s t)
unfolding section_create_by within among
creations shift s t = by-then (wider refl (counts s)) (λ n. wider refl (begun-in-refuses shift t (section_records n)))

made : (s : List ℕ) → Refuses (16 ∷ 1 ∷ 25 ∷ 6 ∷ 7 ∷ []) (section_stream s)
unfolding section_stream fits among listed find in_table refusals
made s = by-stop (ltb longest (length s + 52)) 16 refl (by-then (counts s) (λ n. gives))

streams : (s o : List ℕ) → Refuses (16 ∷ 1 ∷ 25 ∷ 6 ∷ 7 ∷ 19 ∷ []) (lay (section_stream s) o 0)
unfolding lay fits within among listed find in_table refusals
streams s o = by-then (wider refl (made s)) (λ bs. by-stop (ltb (length o) (0 + length bs)) 19 refl gives)

entries : (s : List ℕ) (e : Entry) → Refuses (16 ∷ 1 ∷ 8 ∷ 10 ∷ 11 ∷ 12 ∷ []) (read_of s e)
unfolding read_of
entries s e = parse-refuses s s (sorted_of s e)

-- a buffer into which nothing was written
buffer-of : (o : List ℕ) (a : Answer Written) (n : ℕ) (d : List ℕ) → place_after a ≡ refused n d → buffer_after o a ≡ o
buffer-of o (answered w) n d e = let z : ◌≡◌ {A = ℕ} 0 1 = cc in absurd (omega arith)
buffer-of o (refused m x) n d e = refl

writes_nothing : (o : List ℕ) (a : Answer Written) (r : Result ℕ Refusal) (o' : List ℕ) (n : ℕ) (d : List ℕ) → Writes o a (said itself r) o' → said itself r ≡ refused n d → o' ≡ o
writes_nothing o a r o' n d w e = w.left ∙ buffer-of o a n d (sym w.answer ∙ e)

pub sections-refuse : SectionsRefuse
sections-refuse = record {
  starts = starts;
  counts = counts;
  creations = creations;
  streams = streams;
  entries = entries;
  lists = λ b. start-refuses (reader_at b 0) b;
  create_keeps = λ shift s t. leaves-alone t (section_create_by shift s t);
  index_keeps = λ shift s t e t' h. h.1;
  stream_keeps = λ s o. writes_nothing o (lay (section_stream s) o 0);
}

-- ---- given exactly when

module _ (s : List ℕ) where
  start-ways : {P : Type 0} (n : ℕ) → (longest < length s → eqb 16 n ≡ true → P) → (length s ≤ longest → length s < 4 → eqb 1 n ≡ true → P)
      → (length s ≤ longest → 4 ≤ length s → (little_at 4 s 0 ≡ 4 → ⊥) → eqb 25 n ≡ true → P) → by n (section_start s) ≡ true → P
  unfolding section_start
  start-ways n long short wrong =
      at-stop n (ltb longest (length s)) 16 _ (λ a. long (ltb-true _ _ a)) (λ a.
      at-stop n (ltb (length s) 4) 1 _ (λ b. short (ltb-false _ _ a) (ltb-true _ _ b)) (λ b.
      at-pick n (eqb (little_at 4 s 0) 4) _ _ (λ _. off) (λ c. wrong (ltb-false _ _ a) (ltb-false _ _ b) (eqb-false _ _ c))))

  starts-16 : Given 16 [] (section_start s) (longest < length s)
  starts-16 = record { when = start-long s; only = start-ways 16 (λ a _. a) (λ _ _. off) (λ _ _ _. off) }

  starts-1 : Given 1 [] (section_start s) (length s < 4)
  starts-1 = record { when = λ a. start-short s (omega arith) a; only = start-ways 1 (λ _. off) (λ _ b _. b) (λ _ _ _. off) }

  starts-25 : Given 25 [] (section_start s) ((length s ≤ longest) × (4 ≤ length s) × (little_at 4 s 0 ≡ 4 → ⊥))
  starts-25 = record { when = λ (a, b, c). start-signature s a b c; only = start-ways 25 (λ _. off) (λ _ _. off) (λ a b c _. (a, b, c)) }

module _ (shift : ℕ) (s t : List ℕ) (n : ℕ) (e : count_of s ≡ answered n) where
  created : section_create_by shift s t ≡ begun_in shift t (section_records n)
  created = create-is shift s t (answered n) e

  creations-else : Refuses (26 ∷ 13 ∷ []) (section_create_by shift s t)
  creations-else = rw created (begun-in-refuses shift t (section_records n))

  creations-26 : Given 26 [] (section_create_by shift s t) (6 < shift)
  creations-26 = rw created (begins-26 shift t (section_records n))

  creations-13 : Given 13 [] (section_create_by shift s t) ((shift ≤ 6) × (0 < n) × (length t ≡ 0))
  creations-13 = record {
    when = λ (a, b, c). created ∙ (begins-13 shift t (section_records n)).when (a, (let w : 4096 < 4096 + n = omega arith in w), c);
    only = λ y. let (a, b, c) = (begins-13 shift t (section_records n)).only (ap (by 13) (sym created) ∙ y) in (a, (let x : 0 < n = omega arith in x), c);
  }

-- 16 comes from a length alone: of a step, of a walk, of a count
walk-16 : (k : ℕ) (s : List ℕ) (c : ItemIter) → by 16 (walk_by k s c) ≡ true → longest < length s
unfolding walk_by
walk-16 zero s c y = off y
walk-16 (suc k) s c y = at-then 16 (next_of s c) (section_on (walk_by k s) c) (nexts-16 s c).only (λ n _ z. on (λ d. walk-16 k s d) n z) y
  where
    on : ((d : ItemIter) → by 16 (walk_by k s d) ≡ true → longest < length s) → (n : Next) → by 16 (section_on (walk_by k s) c n) ≡ true → longest < length s
    on w done z = off z
    on w (yielded i d) z = w d z

count-16 : (s : List ℕ) → by 16 (count_of s) ≡ true → longest < length s
unfolding count_of last_of
count-16 s y = at-then 16 (section_start s) _ (starts-16 s).only (λ c _ z. at-then 16 (walk_by (suc (length s)) s c) _ (walk-16 (suc (length s)) s c) (λ d _. off) z) y

streams-16 : (s : List ℕ) → Given 16 [] (section_stream s) (longest < length s + 52)
unfolding section_stream
streams-16 s = record {
  when = stream-long s;
  only = at-stop 16 (ltb longest (length s + 52)) 16 _ (λ a _. ltb-true _ _ a) (λ a.
      at-then 16 (count_of s) _ (λ y. let l : length s + 52 ≤ longest = ltb-false _ _ a in let w : longest < length s = count-16 s y in absurd (omega arith)) (λ n _. off));
}

module _ (s o : List ℕ) (n : ℕ) (l : length s + 52 ≤ longest) (e : count_of s ≡ answered n) where
  four : 4 ≤ length s
  four = (counted s n e).begun.four

  laid : lay (section_stream s) o 0 ≡ stop (ltb (length o) (0 + length (stream_bytes n s))) 19 (answered (record { buffer = put o 0 (stream_bytes n s); next = 0 + length (stream_bytes n s) }))
  unfolding lay
  laid = rw (stream-is s (answered n) l e)

  streams-19 : Given 19 [] (lay (section_stream s) o 0) (length o < length s + 52)
  streams-19 = record {
    when = λ a.
        let w : length o < 0 + length (stream_bytes n s) = omega (arith, stream-length n s four) in
        laid ∙ rw (lt-ltb _ _ w);
    only = λ y.
        at-stop 19 (ltb (length o) (0 + length (stream_bytes n s))) 19 (answered (record { buffer = put o 0 (stream_bytes n s); next = 0 + length (stream_bytes n s) }))
        (λ a _. let w : length o < 0 + length (stream_bytes n s) = ltb-true _ _ a in omega (arith, stream-length n s four)) (λ _. off)
        (ap (by 19) (sym laid) ∙ y);
  }

  streams-else : Refuses (19 ∷ []) (lay (section_stream s) o 0)
  unfolding fits among listed find in_table refusals
  streams-else = rw laid (by-stop (ltb (length o) (0 + length (stream_bytes n s))) 19 refl gives)

-- ---- as the count is

creations-own : (shift : ℕ) (s t : List ℕ) → RefusedAs (16 ∷ 1 ∷ 25 ∷ 6 ∷ 7 ∷ []) (section_create_by shift s t) (count_of s)
unfolding apart among
creations-own shift s t =
    as_first (16 ∷ 1 ∷ 25 ∷ 6 ∷ 7 ∷ []) (26 ∷ 13 ∷ []) (section_create_by shift s t) (count_of s) refl (λ n d e. create-is shift s t (refused n d) e) (creations-else shift s t)

streams-own : (s o : List ℕ) → length s + 52 ≤ longest → RefusedAs (1 ∷ 25 ∷ 6 ∷ 7 ∷ []) (lay (section_stream s) o 0) (count_of s)
unfolding apart among lay
streams-own s o l =
    as_first (1 ∷ 25 ∷ 6 ∷ 7 ∷ []) (19 ∷ []) (lay (section_stream s) o 0) (count_of s) refl (λ n d e. rw (stream-is s (refused n d) l e)) (λ n. streams-else s o n l)

pub sections-when : SectionsWhen
sections-when = record {
  starts_16 = starts-16;
  starts_1 = starts-1;
  starts_25 = starts-25;
  starts_first = start_first;
  counts_start = count-refused;
  creations_own = creations-own;
  creations_26 = creations-26;
  creations_13 = creations-13;
  creations_else = creations-else;
  creations_begun = created;
  streams_16 = streams-16;
  streams_own = streams-own;
  streams_19 = streams-19;
  streams_else = streams-else;
}
