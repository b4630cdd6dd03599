-- `declare_type::count::token_len` meets its contract. Assumes nothing.
use Rattle.declare_type.specs.Tokens.{text_of}
use Rattle.declare_type.proofs.TokenLaws.{pointer-length, primitive-length, pointed-length, tag-length, extent-length, begin-length, end-length}
use Rattle.declare_type.proofs.count.token_len.Goals as goal

pub returns-in-Nothing : goal.returns-in-Nothing
unfolding text_of
returns-in-Nothing c = rw c.in-Nothing.is

pub returns-in-Open : goal.returns-in-Open
unfolding text_of
returns-in-Open c = rw c.in-Open.is

pub returns-in-Pointer : goal.returns-in-Pointer
returns-in-Pointer c = pointer-length _ _ _ _ _ _ _ _ c.in-Pointer.is c.mode_len.ensures.0 c.quals_in_len.ensures.0 c.quals_len.ensures.0

pub returns-in-Primitive : goal.returns-in-Primitive
returns-in-Primitive c = primitive-length _ _ _ _ _ _ _ _ _ c.in-Primitive.is c.spaced_len.ensures.0 c.quals_len-in-Primitive.ensures.0 c.kind_len.ensures.0 c.space_len.ensures.0

pub returns-in-Pointed : goal.returns-in-Pointed
returns-in-Pointed c = pointed-length _ _ _ _ _ _ _ _ _ _ c.in-Pointed.is c.kind_len-in-Pointed.ensures.0 c.indirection_len.ensures.0 c.quals_in_len-in-Pointed.ensures.0 c.quals_len-in-Pointed.ensures.0

pub returns-in-Tag : goal.returns-in-Tag
returns-in-Tag c = tag-length _ _ _ _ _ _ _ _ _ _ c.in-Tag.is c.spaced_len-in-Tag.ensures.0 c.quals_len-in-Tag.ensures.0 c.name_len.ensures.0 c.space_len-in-Tag.ensures.0

pub returns-in-Length : goal.returns-in-Length
returns-in-Length c = extent-length _ _ _ _ _ _ c.in-Length.is c.closing_len.ensures.0 c.extent_len.ensures.0

pub returns-in-Begin : goal.returns-in-Begin
returns-in-Begin c = begin-length _ _ _ _ c.in-Begin.is c.closing_len-in-Begin.ensures.0

pub returns-in-Comma : goal.returns-in-Comma
unfolding text_of
returns-in-Comma c = rw c.in-Comma.is

pub returns-in-Void : goal.returns-in-Void
unfolding text_of
returns-in-Void c = rw c.in-Void.is

pub returns-in-End : goal.returns-in-End
returns-in-End c = end-length _ _ _ _ _ c.in-End.is c.spaced_len-in-End.ensures.0 c.quals_len-in-End.ensures.0
