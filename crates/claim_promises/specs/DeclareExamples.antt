-- R-5 of document 02: examples of declarations, together as one statement over their list, of the definition that `declare`'s contract cites.
-- `map declared declarations ≡ map expected declarations` says that every line holds; proofs/DeclareExamples.antt shows it.
use Rattle.std.specs.Prelude.{ℕ, ◌+◌, ◌/◌, ◌%◌, List, [], ◌∷◌, ◌++◌, length, replicate}
use Prim.Native.String.{String}
use Rattle.answer.specs.Answer.{Answer, answered, refused, then}
use Rattle.stream_header.specs.Examples.{four}
use Rattle.stream_finder.specs.Finder.{create_by}
use Rattle.declare_spelling.specs.Spellings.{quoted}
use Rattle.declare_type.specs.Declares.{declare_of}

-- ---- records: the length, the leaf, the fields

abbrev with_length : List ℕ → List ℕ
with_length payload = length payload ∷ 0 ∷ payload

-- a type index, or another number below 65,536, in four bytes
abbrev wide : ℕ → List ℕ
wide n = four (n % 256) (n / 256)

-- a modifier by its flags: 1 is const, 2 volatile, 4 unaligned
abbrev modifier : ℕ → ℕ → List ℕ
modifier of flags = with_length (0x01 ∷ 0x10 ∷ (wide of ++ (flags ∷ 0 ∷ [])))

-- a pointer of kind 12 by bits 0 to 15 of its word, mode and qualifiers
abbrev pointer : ℕ → ℕ → List ℕ
pointer to word = with_length (0x02 ∷ 0x10 ∷ (wide to ++ ((0x0c + word % 256) ∷ (word / 256) ∷ 1 ∷ 0 ∷ [])))

-- one to a member of class 0x1011
abbrev member : ℕ → ℕ → List ℕ
member to word = with_length (0x02 ∷ 0x10 ∷ (wide to ++ ((0x0c + word % 256) ∷ (word / 256) ∷ 1 ∷ 0 ∷ (wide 0x1011 ++ (0 ∷ 0 ∷ [])))))

-- an array of so many bytes, its name empty
abbrev array : ℕ → ℕ → List ℕ
array of bytes = with_length (0x03 ∷ 0x15 ∷ (wide of ++ (wide 0x23 ++ (bytes ∷ 0 ∷ 0 ∷ []))))

abbrev procedure : ℕ → ℕ → List ℕ
procedure returned list = with_length (0x08 ∷ 0x10 ∷ (wide returned ++ (0 ∷ 0 ∷ 0 ∷ 0 ∷ wide list)))

abbrev all_wide : List ℕ → List ℕ
all_wide [] = []
all_wide (i ∷ is) = wide i ++ all_wide is

abbrev argument_list : List ℕ → List ℕ
argument_list is = with_length (0x01 ∷ 0x12 ∷ (wide (length is) ++ all_wide is))

-- a structure without members, of so many bytes
abbrev structure : ℕ → String → List ℕ
structure bytes name = with_length (0x05 ∷ 0x15 ∷ 0 ∷ 0 ∷ 0 ∷ 0 ∷ (wide 0 ++ (wide 0 ++ (wide 0 ++ (bytes ∷ 0 ∷ (quoted name ++ (0 ∷ [])))))))

-- ---- the stream

abbrev joined_all : List (List ℕ) → List ℕ
joined_all [] = []
joined_all (r ∷ rs) = r ++ joined_all rs

-- 34 records, from 0x1000 on
unfoldable pub records : List (List ℕ)
records =
    modifier 0x70 1  -- 0x1000
    ∷ pointer 0x1000 0
    ∷ array 0x74 12  -- 0x1002
    ∷ pointer 0x1002 0
    ∷ array 0x0674 24  -- 0x1004
    ∷ argument_list (0x1001 ∷ 0 ∷ [])
    ∷ procedure 0x74 0x1005  -- 0x1006
    ∷ pointer 0x1006 0
    ∷ argument_list []  -- 0x1008
    ∷ procedure 0x03 0x1008
    ∷ pointer 0x1009 0  -- 0x100a
    ∷ argument_list (0x74 ∷ [])
    ∷ procedure 0x100a 0x100b  -- 0x100c
    ∷ pointer 0x74 0x0400
    ∷ pointer 0x100d 0  -- 0x100e
    ∷ modifier 0x1002 1
    ∷ pointer 0x100f 0  -- 0x1010
    ∷ structure 0 "S"
    ∷ pointer 0x1011 0x20  -- 0x1012
    ∷ member 0x74 0x40
    ∷ procedure 0 0x1008  -- 0x1014
    ∷ procedure 0x1003 0x1008
    ∷ pointer 0x1015 0  -- 0x1016
    ∷ array 0x1002 24
    ∷ array 0x1011 8  -- 0x1018
    ∷ modifier 0x1001 1
    ∷ pointer 0x101a 0  -- 0x101a, to itself
    ∷ procedure 0x74 0x1002
    ∷ pointer 0x1011 0x80  -- 0x101c
    ∷ modifier 0x74 1
    ∷ argument_list (0x74 ∷ 0x70 ∷ 0x1012 ∷ [])  -- 0x101e
    ∷ procedure 0x03 0x101e
    ∷ pointer 0x74 0x1e00  -- 0x1020
    ∷ array 0x74 10
    ∷ []

-- a header of 56 bytes that counts them, and they
unfoldable pub stream_d : List ℕ
stream_d =
    (0x0b ∷ 0xca ∷ 0x31 ∷ 0x01 ∷ []) ++ (wide 56 ++ (wide 0x1000 ++ (wide (0x1000 + length records) ++ (wide 22 ++ (replicate 36 0 ++ joined_all records)))))

-- a line: a type of that stream in a room of so many bytes, and its text or the number and its details
infix 15 ◌within◌reads◌
pub data Declaration : Type 0 where
  ◌within◌reads◌ : ℕ → ℕ → Answer (List ℕ) → Declaration

abbrev text : String → Answer (List ℕ)
text t = answered (quoted t)

unfoldable pub declarations : List Declaration
declarations =
    -- those of R-5's readings
    (0x74 within 3 reads text "int")
    ∷ (0x101d within 100 reads text "const int")
    ∷ (0x100d within 100 reads text "int *const")
    ∷ (0x1001 within 100 reads text "const char *")
    ∷ (0x1002 within 100 reads text "int [3]")
    ∷ (0x1003 within 100 reads text "int (*)[3]")
    ∷ (0x1004 within 100 reads text "int *[3]")
    ∷ (0x1007 within 26 reads text "int (*)(const char *, ...)")
    ∷ (0x100c within 100 reads text "void (*(int))(void)")
    ∷ (0x100e within 100 reads text "int *const *")
    ∷ (0x1010 within 100 reads text "const int (*)[3]")
    ∷ (0x1012 within 100 reads text "S &")
    ∷ (0x1013 within 100 reads text "int ::*")
    -- a pointer to a function that returns a pointer to an array; an array of arrays; an element of unknown size, and one that does not divide
    ∷ (0x1016 within 100 reads text "int (*(*)(void))[3]")
    ∷ (0x1017 within 100 reads text "int [2][3]")
    ∷ (0x1018 within 100 reads text "S []")
    ∷ (0x1021 within 100 reads text "int []")
    -- an absent return; a modifier on a pointer; a tag; an rvalue reference; every qualifier; three arguments from left to right
    ∷ (0x1014 within 100 reads text "... (void)")
    ∷ (0x1019 within 100 reads text "const char *const")
    ∷ (0x1011 within 1 reads text "S")
    ∷ (0x101c within 100 reads text "S &&")
    ∷ (0x1020 within 100 reads text "int *const volatile __unaligned __restrict")
    ∷ (0x101f within 100 reads text "void (int, char, S &)")
    -- 19 where the room is one byte short, and 0 bytes are no room for a name
    ∷ (0x1007 within 25 reads refused 19 [])
    ∷ (0x1011 within 0 reads refused 19 [])
    -- 23: a pointer to itself fixes 32 stars, and is too deep at the thirty-third; 19 where the room ends before
    ∷ (0x101a within 32 reads refused 23 [])
    ∷ (0x101a within 31 reads refused 19 [])
    -- 24: an argument list is no type, and an array no argument list, which is met behind "("
    ∷ (0x1005 within 0 reads refused 24 [])
    ∷ (0x101b within 1 reads refused 24 [])
    ∷ (0x101b within 0 reads refused 19 [])
    -- the lookup's own: no primitive, and past the maximum; behind the last record 1, with the links passed
    ∷ (0x0004 within 0 reads refused 8 (0x0004 ∷ []))
    ∷ (0x1023 within 0 reads refused 8 (0x1023 ∷ []))
    ∷ (0x1022 within 0 reads refused 1 (34 ∷ []))
    ∷ []

-- by a fresh finder of blocks of 64, with room for its one place
abbrev pub declared : Declaration → Answer (List ℕ)
declared (i within room reads a) = then (create_by 6 stream_d (0 ∷ [])) (λ σ. declare_of stream_d σ i room)

abbrev pub expected : Declaration → Answer (List ℕ)
expected (i within room reads a) = a
