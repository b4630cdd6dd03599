-- The names of the refusals, as docs/NUMBERS.md has them.
use Rattle.std.specs.Prelude.{ℕ, List, [], ◌∷◌}
use Prim.Native.Char.{code}
use Prim.Native.String.{String}
use Prim.Native.String as string
use Rattle.answer.specs.declared.Refusal.{Refusal}
use Rattle.answer.specs.declared.Refusal.TheVariants as refusal

-- the bytes of a quoted text
abbrev quoted : String → List ℕ
quoted string.[] = []
quoted (string.◌∷◌ c s) = code c ∷ quoted s

unfoldable pub name_text : Refusal → List ℕ
name_text refusal.Ended = quoted "ended"
name_text (refusal.EndedAfter a) = quoted "ended"
name_text refusal.HeaderSmall = quoted "header small"
name_text refusal.HeaderLarge = quoted "header large"
name_text refusal.MinimumLow = quoted "minimum low"
name_text refusal.MaximumLow = quoted "maximum low"
name_text refusal.TooShort = quoted "too short"
name_text refusal.IndicesUsedUp = quoted "indices used up"
name_text (refusal.NotFound a) = quoted "not found"
name_text (refusal.NotIndexed a b) = quoted "not indexed"
name_text (refusal.LeafUnknown a) = quoted "leaf unknown"
name_text refusal.NumberBad = quoted "number bad"
name_text refusal.PointerWord = quoted "pointer word"
name_text refusal.TableFull = quoted "table full"
name_text refusal.ForeignCursor = quoted "foreign cursor"
name_text refusal.NoSuchElement = quoted "no such element"
name_text refusal.TooLong = quoted "too long"
name_text refusal.WouldNotReadBack = quoted "would not read back"
name_text refusal.RecordTooLong = quoted "record too long"
name_text refusal.NoRoom = quoted "no room"
name_text refusal.FileWrong = quoted "file wrong"
name_text refusal.AnotherStream = quoted "another stream"
name_text refusal.OffTheChain = quoted "off the chain"
name_text refusal.TooDeep = quoted "too deep"
name_text refusal.LeafNotPrinted = quoted "leaf not printed"
name_text refusal.Signature = quoted "signature"
name_text refusal.Shift = quoted "shift"
name_text refusal.TotalTooLarge = quoted "total too large"
name_text refusal.LeavesFull = quoted "leaves full"
name_text refusal.NotFit = quoted "not fit"
name_text refusal.ReadsAsNone = quoted "reads as none"
