-- Document 01, "Examples": stream E iterated.
use Prim.Native.Nat.{ℕ}
use mathlib.Core.Path.{◌≡◌, refl}
use mathlib.Core.List.{[], ◌∷◌, map}
use mathlib.Core.Bool.{true}
use Rattle.answer.specs.Answer.{answered, refused}
use Rattle.field.specs.Fields.{little_at}
use Rattle.stream_header.specs.Header.{header_of}
use Rattle.stream_header.specs.Examples.{stream_e}
use Rattle.stream_item.specs.Iterator.{iter_of, done, yielded, item_at, next_of}
use Rattle.stream_item.specs.Information.{len_of, is_empty_of}
use Rattle.field.specs.declared.index.Stream.TheVariants.{Types}
use Rattle.stream_item.specs.declared.iter.ItemIter.{ItemIter}

abbrev pub cursor : ℕ → ℕ → ItemIter
cursor p i = record { stream = Types; at = p; index = i }

pub starts : iter_of Types stream_e ≡ answered (cursor 56 4096)
unfolding iter_of header_of little_at
starts = refl

-- 4096 (payload 58 to 66) and 4097 (68 to 78), then done
pub steps : map (next_of stream_e) (cursor 56 4096 ∷ cursor 66 4097 ∷ cursor 78 4098 ∷ [])
    ≡ answered (yielded (item_at Types 4096 58 8) (cursor 66 4097)) ∷ answered (yielded (item_at Types 4097 68 10) (cursor 78 4098)) ∷ answered done ∷ []
unfolding next_of little_at
steps = refl

-- past the end; one byte left; a length below 2 (the byte pair at place 60 is 0x74, 0; at 61 it is 0, 0); a payload cut; the last index
pub refusals : map (next_of stream_e) (cursor 79 4096 ∷ cursor 77 4096 ∷ cursor 61 4096 ∷ cursor 60 4096 ∷ cursor 56 4294967295 ∷ [])
    ≡ refused 1 [] ∷ refused 1 [] ∷ refused 6 [] ∷ refused 1 [] ∷ refused 7 [] ∷ []
unfolding next_of little_at
refusals = refl

pub counts : len_of stream_e ≡ answered 2
unfolding len_of header_of little_at
counts = refl

pub empties : is_empty_of [] ≡ answered true
unfolding is_empty_of len_of header_of
empties = refl
