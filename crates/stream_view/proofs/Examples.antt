-- Document 01, "Examples": the items of stream E viewed, and the marker.
use mathlib.Core.Path.{◌≡◌, refl}
use mathlib.Core.List.{[], ◌∷◌, map}
use Rattle.answer.specs.Answer.{answered, refused}
use Rattle.field.specs.Fields.{little_at}
use Rattle.stream_header.specs.Examples.{stream_e}
use Rattle.field.specs.Indices.{index_in}
use Rattle.stream_item.specs.Iterator.{item_at}
use Rattle.field.specs.declared.index.Stream.TheVariants.{Types, Ids}
use Rattle.stream_item.specs.declared.Entry.TheVariants.{Record, Marker}
use Rattle.stream_view.specs.Views.{part_of, view_of, kind_at, raw_kind_of}

pub views : map (view_of stream_e []) (Record (item_at Types 4096 58 8) ∷ Record (item_at Types 4096 58 21) ∷ Record (item_at Ids 4096 58 8) ∷ Marker (index_in Types 4095) ∷ [])
    ≡ answered (record { place = 58; length = 8 }) ∷ refused 1 [] ∷ refused 1 [] ∷ refused 8 (4095 ∷ []) ∷ []
unfolding part_of
views = refl

pub kinds : map (raw_kind_of stream_e []) (Record (item_at Types 4096 58 8) ∷ Record (item_at Types 4097 68 10) ∷ Record (item_at Types 4096 58 1) ∷ Marker (index_in Types 4095) ∷ [])
    ≡ answered 0x1001 ∷ answered 0x1002 ∷ refused 1 [] ∷ answered 0xffff ∷ []
unfolding kind_at little_at
kinds = refl
