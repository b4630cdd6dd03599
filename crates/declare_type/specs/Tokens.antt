-- R-5 of document 02: the tokens of a declaration, and how each is spelled.
use Rattle.std.specs.Prelude.{Option, Some, None, ℕ, zero, suc, ◌+◌, ◌/◌, ◌%◌, Bool, true, false, List, [], ◌∷◌, ◌++◌, take, drop, ltb}
use Rattle.answer.specs.Answer.{pick}
use Rattle.declare_type.specs.declared.token.Token.{Token}
use Rattle.declare_type.specs.declared.token.Token.TheVariants as token
use Rattle.declare_spelling.specs.Spellings.{quoted, kind_text, indirection_text, mode_text, quals_text}

-- a text with a space behind it, if there is a text
abbrev pub spaced : List ℕ → List ℕ
spaced [] = []
spaced (a ∷ l) = (a ∷ l) ++ quoted " "

-- and with one before it
abbrev pub space_before : List ℕ → List ℕ
space_before [] = []
space_before (a ∷ l) = quoted " " ++ (a ∷ l)

-- a pointer's qualifiers: a space behind them unless they are the last on the left
abbrev pub quals_in : Bool → List ℕ → List ℕ
quals_in true l = l
quals_in false l = spaced l

-- behind a base: a space unless nothing else is fixed
abbrev pub space : Bool → List ℕ
space true = []
space false = quoted " "

-- a number in decimal, of at most k digits
unfoldable pub decimal : ℕ → ℕ → List ℕ
decimal zero n = []
decimal (suc k) n = pick (ltb n 10) ((48 + n) ∷ []) (decimal k (n / 10) ++ (48 + n % 10) ∷ [])

-- the length of an array: 20 digits hold every 64-bit number
abbrev pub extent_text : Option ℕ → List ℕ
extent_text (Some n) = decimal 20 n
extent_text None = []

abbrev pub closing : Bool → List ℕ
closing true = quoted ")"
closing false = []

-- each token; s has the names
unfoldable pub text_of : List ℕ → Token → List ℕ
text_of s token.Nothing = []
text_of s token.Open = quoted "("
text_of s (token.Pointer m q last) = mode_text m ++ quals_in last (quals_text q)
text_of s (token.Primitive k q bare) = spaced (quals_text q) ++ kind_text k ++ space bare
text_of s (token.Pointed k y q last) = kind_text k ++ quoted " " ++ indirection_text y ++ quals_in last (quals_text q)
text_of s (token.Tag p n q bare) = spaced (quals_text q) ++ take n (drop p s) ++ space bare
text_of s (token.Length closes e) = closing closes ++ quoted "[" ++ extent_text e ++ quoted "]"
text_of s (token.Begin closes) = closing closes ++ quoted "("
text_of s token.Comma = quoted ", "
text_of s token.Void = quoted "void"
text_of s (token.End q) = quoted ")" ++ space_before (quals_text q)
