-- tpi/mod.rs: `ItemInformation`, `Item`, `ItemFinder` and `ItemIter`. The number behind a line is the Rust's. An index is its number: which stream
-- it counts in is a matter of types.
use Rattle.std.specs.Prelude.{Option, None, Some, ℕ, zero, suc, ◌+◌, ◌-◌, ◌*◌, ◌/◌, ◌%◌, ◌^◌, Bool, List, [], ◌∷◌, ◌++◌, length, get_or, slice_get, leb, ltb, eqb}
use Rattle.std.specs.Int.Bits.{bit_and, bit_or}
use Rattle.claim_model.specs.Rust.{Rust, gives, errs, if, and, assert, err_if, expect, fits_below, lessens, as_u32, u32_top, type_too_short, type_not_found, type_not_indexed, ◌>>=◌, ◌>>◌}
use Rattle.claim_model.specs.ParseBuffer.{ParseBuffer, from, is_empty, parse, take, if_some}
use Rattle.claim_model.specs.TpiHeader.{ItemInformation}

-- 209; `bytes` is its `data`
pub record Item : Type 0 where
  pub index : ℕ
  pub bytes : List ℕ

-- 313
pub record ItemFinder : Type 0 where
  pub buffer : ParseBuffer
  pub minimum_index : ℕ
  pub maximum_index : ℕ
  pub positions : List ℕ
  pub shift : ℕ

-- 444
pub record ItemIter : Type 0 where
  pub buf : ParseBuffer
  pub index : ℕ

-- ---- 134: ItemInformation
-- 151
unfoldable pub iter : ItemInformation → Rust ItemIter
iter self = do
  (_, buf) ← expect (take (from self.stream) self.header.header_size)  -- 153, 157
  gives (record { buf = buf; index = self.header.minimum_index })  -- 160

-- 172
unfoldable pub information_len : ItemInformation → Rust ℕ
information_len self = lessens self.header.maximum_index self.header.minimum_index  -- 173

-- 177
unfoldable pub information_is_empty : ItemInformation → Rust Bool
information_is_empty self = do
  n ← information_len self  -- 178
  gives (eqb n 0)

-- ---- 214: Item
-- 194
abbrev pub primitive_type : List ℕ
primitive_type = 0xff ∷ 0xff ∷ []

-- 228
abbrev pub item_len : Item → ℕ
item_len self = length self.bytes

-- 235
abbrev pub item_is_empty : Item → Bool
item_is_empty self = eqb (length self.bytes) 0

-- 243; below two bytes line 244 panics in a debug build, and line 247 in every other
unfoldable pub raw_kind : Item → Rust ℕ
raw_kind self = do
  assert (leb 2 (item_len self))  -- 244
  gives (bit_or (get_or self.bytes 0 0) (get_or self.bytes 1 0 * 2 ^ 8 % 2 ^ 16))  -- 247

-- ---- 322: ItemFinder, for a shift below 32
-- 326
unfoldable pub new : ItemInformation → ℕ → Rust ItemFinder
new info shift = do
  count ← lessens info.header.maximum_index info.header.minimum_index  -- 328
  let round_base = 2 ^ shift - 1  -- 330
  sum ← fits_below u32_top (count + round_base)  -- 331
  let shifted_count = bit_and sum (4294967295 - round_base) / 2 ^ shift
  let positions = if (ltb 0 shifted_count) (info.header.header_size ∷ []) []  -- 332, 334, 336
  gives (record {
    buffer = from info.stream;
    minimum_index = info.header.minimum_index;
    maximum_index = info.header.maximum_index;
    positions = positions;
    shift = shift;
  })  -- 339

-- 186
abbrev pub finder : ItemInformation → Rust ItemFinder
finder self = new self 3  -- 187

-- 354
unfoldable pub resolve : ItemFinder → ℕ → Rust (ℕ × ℕ)
resolve self type_index = do
  raw ← lessens type_index self.minimum_index  -- 355
  gives (raw / 2 ^ self.shift, bit_and raw (2 ^ self.shift - 1))  -- 357, 358

-- 368
unfoldable pub max_index : ItemFinder → Rust ℕ
max_index self =
    if (eqb (length self.positions) 0) (gives 0) (do  -- 370
      sum ← fits_below u32_top (as_u32 (length self.positions * 2 ^ self.shift) + self.minimum_index)  -- 371
      lessens sum 1)

-- 380
unfoldable pub update : ItemFinder → ItemIter → Rust ItemFinder
update self iterator = do
  (vec_index, iteration_count) ← resolve self iterator.index  -- 381
  if (and (eqb iteration_count 0) (eqb vec_index (length self.positions))) (do  -- 382
    let pos = iterator.buf.pos  -- 383
    assert (ltb pos 4294967295)  -- 384
    gives (record {
      buffer = self.buffer;
      minimum_index = self.minimum_index;
      maximum_index = self.maximum_index;
      positions = self.positions ++ (as_u32 pos ∷ []);
      shift = self.shift;
    })) (gives self)  -- 385

-- 418: for _ in 0..iteration_count
unfoldable pub skipped : ℕ → ParseBuffer → Rust ParseBuffer
skipped zero buf = gives buf
skipped (suc n) buf = do
  (length, buf) ← parse 2 buf  -- 419
  (_, buf) ← take buf length  -- 420
  skipped n buf

-- 412 to 429
unfoldable pub hit : ItemFinder → ℕ → ℕ → ℕ → Rust Item
hit self index iteration_count pos = do
  (_, buf) ← take self.buffer pos  -- 412, 415
  buf ← skipped iteration_count buf  -- 418
  (length, buf) ← parse 2 buf  -- 424
  (bytes, _) ← take buf length  -- 428
  gives (record { index = index; bytes = bytes })  -- 426

-- 432
unfoldable pub miss : ItemFinder → ℕ → Rust Item
miss self index = do
  top ← max_index self
  errs (type_not_indexed index top)

-- 396
unfoldable pub finder_find : ItemFinder → ℕ → Rust Item
finder_find self index =
    if (ltb index self.minimum_index) (gives (record { index = index; bytes = primitive_type })) (do  -- 398, 399
      err_if (ltb self.maximum_index index) (type_not_found index)  -- 403, 404
      (vec_index, iteration_count) ← resolve self index  -- 408
      if_some (slice_get self.positions vec_index) (hit self index iteration_count) (miss self index))  -- 410

-- ---- 450: ItemIter
-- 457
unfoldable pub next : ItemIter → Rust (Option Item × ItemIter)
next self = do
  over ← is_empty self.buf  -- 459
  if over (gives (None, self)) (do  -- 460
    (length, buf) ← parse 2 self.buf  -- 464
    err_if (ltb length 2) type_too_short  -- 467, 469
    (type_buf, buf) ← take buf length  -- 473
    index ← fits_below u32_top (self.index + 1)  -- 476
    gives (Some (record { index = self.index; bytes = type_buf }), record { buf = buf; index = index }))  -- 474, 479

-- 73 to 76, the use that the page shows, for at most n records: while let Some(typ) = iter.next()? { type_finder.update(&iter); .. }
unfoldable pub tour : ℕ → ItemIter → ItemFinder → Rust (ItemIter × ItemFinder)
tour zero it f = gives (it, f)
tour (suc n) it f = do
  (typ, it) ← next it  -- 74
  if_some typ (λ _. do
    f ← update f it  -- 76
    tour n it f) (gives (it, f))
