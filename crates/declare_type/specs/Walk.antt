-- R-5 of document 02: the declaration of a type, "with no limit on room", and what is answered in a room of r bytes.
use Rattle.std.specs.Prelude.{Result, Ok, Err, ℕ, zero, suc, ◌+◌, List, [], ◌++◌, length, ltb}
use Rattle.answer.specs.Answer.{pick}
use Rattle.answer.specs.declared.Refusal.{Refusal}
use Rattle.answer.specs.declared.Refusal.TheVariants as refusal
use Rattle.stream_finder.specs.Finder.{State}
use Rattle.declare_type.specs.Nodes.{index_at, list_of}
use Rattle.declare_type.specs.Tokens.{text_of}
use Rattle.declare_type.specs.declared.token.Token.TheVariants as token
use Rattle.declare_type.specs.declared.step.Around.{Around}
use Rattle.declare_type.specs.declared.step.Step.{Step}
use Rattle.declare_type.specs.declared.step.Step.TheVariants as step
use Rattle.declare_type.specs.Steps.{around_first, inward_step}

-- What a walk inward comes to: the bytes that go left of all that stood there before, and those that go right of it;
-- or the first refusal that it met, behind the number of bytes that it had fixed by then.
pub data Spelled : Type 0 where
  printed : List ℕ → List ℕ → Spelled
  stopped : ℕ → Refusal → Spelled

-- l is fixed on the left and r on the right, and the walk goes on inward
unfoldable pub onto : List ℕ → List ℕ → Spelled → Spelled
onto l r (printed a b) = printed (a ++ l) (r ++ b)
onto l r (stopped k e) = stopped (length l + length r + k) e

-- a whole text is fixed on the right, and the walk goes on
unfoldable pub fixed_then : Spelled → Spelled → Spelled
fixed_then (printed l r) w = onto [] (l ++ r) w
fixed_then (stopped k e) w = stopped k e

-- the other n arguments, whose indices start at place p; f prints one
unfoldable pub rest_of : (ℕ → Spelled) → List ℕ → ℕ → ℕ → Spelled
rest_of f s p zero = printed [] []
rest_of f s p (suc n) = onto [] (text_of s token.Comma) (fixed_then (f (index_at s p).0) (rest_of f s (p + 4) n))

-- n arguments from left to right: none is void
unfoldable pub arguments_of : (ℕ → Spelled) → List ℕ → ℕ → ℕ → Spelled
arguments_of f s p zero = printed [] (text_of s token.Void)
arguments_of f s p (suc n) = fixed_then (f (index_at s p).0) (rest_of f s (p + 4) n)

unfoldable pub over_arguments : (ℕ → Spelled) → List ℕ → Result (ℕ × ℕ) Refusal → Spelled
over_arguments f s (Ok (p, n)) = arguments_of f s p n
over_arguments f s (Err e) = stopped 0 e

-- a step, where `go` walks on from a type
unfoldable pub stepped : (ℕ → Around → Spelled) → List ℕ → State → Step → Spelled
stepped go s σ (step.Last p) = printed (text_of s p) []
stepped go s σ (step.Inward l r i a) = onto (text_of s l) (text_of s r) (go i.0 a)
stepped go s σ (step.Call l r e g i a) =
    onto (text_of s l) (text_of s r) (fixed_then (over_arguments (λ j. go j around_first) s (list_of s σ g.0)) (onto [] (text_of s e) (go i.0 a)))
stepped go s σ (step.Refused e) = stopped 0 e

-- type i with d types left to nest: "23 deeper than 32 (before its lookup)"
unfoldable pub walk : List ℕ → State → ℕ → ℕ → Around → Spelled
walk s σ zero i a = stopped 0 refusal.TooDeep
walk s σ (suc d) i a = stepped (λ j b. walk s σ d j b) s σ (inward_step s σ i a)

-- In a room of r bytes: 19 exactly if the bytes that the walk has fixed pass the room before it is refused otherwise;
-- else the refusal, or how many bytes stand left and right.
unfoldable pub capped : ℕ → Spelled → Result (ℕ × ℕ) Refusal
capped r (printed a b) = pick (ltb r (length a + length b)) (Err refusal.NoRoom) (Ok (length a, length b))
capped r (stopped k e) = pick (ltb r k) (Err refusal.NoRoom) (Err e)

-- the whole text
abbrev pub whole_text : Spelled → List ℕ
whole_text (printed l r) = l ++ r
whole_text (stopped k e) = []

-- the declaration of type i
abbrev pub declaration_of : List ℕ → State → ℕ → Spelled
declaration_of s σ i = walk s σ 32 i around_first
