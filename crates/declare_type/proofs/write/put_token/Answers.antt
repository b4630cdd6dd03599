-- `declare_type::write::put_token` meets its contract. Assumes nothing.
use Rattle.declare_type.specs.Tokens.{text_of}
use Rattle.declare_type.proofs.TokenPutLaws.{puts_none}
use Rattle.declare_type.proofs.write.put_token.Goals as goal

pub returns-in-Nothing : goal.returns-in-Nothing
unfolding text_of
returns-in-Nothing c = rw c.in-Nothing.is (puts_none _ _)

pub byte-requires : goal.byte-requires
unfolding text_of
byte-requires c = rw c.in-Open.is at c.requires

pub returns-in-Open : goal.returns-in-Open
unfolding text_of
returns-in-Open c = rw c.in-Open.is c.byte.ensures

pub pointer-requires : goal.pointer-requires
unfolding text_of
pointer-requires c = rw c.in-Pointer.is at c.requires

pub returns-in-Pointer : goal.returns-in-Pointer
unfolding text_of
returns-in-Pointer c = rw c.in-Pointer.is c.pointer.ensures

pub primitive-requires : goal.primitive-requires
unfolding text_of
primitive-requires c = rw c.in-Primitive.is at c.requires

pub returns-in-Primitive : goal.returns-in-Primitive
unfolding text_of
returns-in-Primitive c = rw c.in-Primitive.is c.primitive.ensures

pub pointed-requires : goal.pointed-requires
unfolding text_of
pointed-requires c = rw c.in-Pointed.is at c.requires

pub returns-in-Pointed : goal.returns-in-Pointed
unfolding text_of
returns-in-Pointed c = rw c.in-Pointed.is c.pointed.ensures

pub tag-requires : goal.tag-requires
unfolding text_of
tag-requires c = rw c.in-Tag.is at c.requires

pub returns-in-Tag : goal.returns-in-Tag
unfolding text_of
returns-in-Tag c = rw c.in-Tag.is c.tag.ensures

pub brackets-requires : goal.brackets-requires
unfolding text_of
brackets-requires c = rw c.in-Length.is at c.requires

pub returns-in-Length : goal.returns-in-Length
unfolding text_of
returns-in-Length c = rw c.in-Length.is c.brackets.ensures

pub begin-requires : goal.begin-requires
unfolding text_of
begin-requires c = rw c.in-Begin.is at c.requires

pub returns-in-Begin : goal.returns-in-Begin
unfolding text_of
returns-in-Begin c = rw c.in-Begin.is c.begin.ensures

pub text-requires : goal.text-requires
unfolding text_of
text-requires c = rw c.in-Comma.is at c.requires

pub returns-in-Comma : goal.returns-in-Comma
unfolding text_of
returns-in-Comma c = rw c.in-Comma.is c.text.ensures

pub text-requires-in-Void : goal.text-requires-in-Void
unfolding text_of
text-requires-in-Void c = rw c.in-Void.is at c.requires

pub returns-in-Void : goal.returns-in-Void
unfolding text_of
returns-in-Void c = rw c.in-Void.is c.text-in-Void.ensures

pub end-requires : goal.end-requires
unfolding text_of
end-requires c = rw c.in-End.is at c.requires

pub returns-in-End : goal.returns-in-End
unfolding text_of
returns-in-End c = rw c.in-End.is c.end.ensures
