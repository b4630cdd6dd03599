-- R-5 of document 02: what a type adds to the declaration that is built around it, and where the walk goes on, "from the outside inward".
use Rattle.std.specs.Prelude.{ℕ, Bool, true, false, List}
use Rattle.word_primitive.specs.declared.PrimitiveKind.{PrimitiveKind}
use Rattle.word_primitive.specs.declared.Indirection.{Indirection}
use Rattle.word_primitive.specs.declared.Indirection.TheVariants as by
use Rattle.stream_finder.specs.Finder.{State}
use Rattle.declare_type.specs.Nodes.{node_of}
use Rattle.declare_spelling.specs.declared.Quals.{Quals}
use Rattle.declare_type.specs.declared.node.Node.{Node}
use Rattle.declare_type.specs.declared.node.Node.TheVariants as node
use Rattle.declare_type.specs.declared.token.Token.{Token}
use Rattle.declare_type.specs.declared.token.Token.TheVariants as token
use Rattle.declare_type.specs.declared.step.Around.{Around}
use Rattle.declare_type.specs.declared.step.Step.{Step}
use Rattle.declare_type.specs.declared.step.Step.TheVariants as step

abbrev pub or : Bool → Bool → Bool
or true b = true
or false b = b

abbrev pub none : Quals
none = record { constant = false; volatile = false; unaligned = false; restrict = false }

-- each qualifier once
abbrev pub union : Quals → Quals → Quals
union a b = record {
  constant = or a.constant b.constant;
  volatile = or a.volatile b.volatile;
  unaligned = or a.unaligned b.unaligned;
  restrict = or a.restrict b.restrict;
}

-- around the first type, and around each argument, nothing stands
abbrev pub around_first : Around
around_first = record { quals = none; under = false; last = true; bare = true }

-- an array or a procedure that stands directly under a pointer puts the pointer in parentheses
abbrev pub opening : Bool → Token
opening true = token.Open
opening false = token.Nothing

-- a primitive's indirection takes the qualifiers as a pointer does
abbrev pub primitive_token : PrimitiveKind → Indirection → Around → Token
primitive_token k by.Direct a = token.Primitive k a.quals a.bare
primitive_token k by.Near16 a = token.Pointed k by.Near16 a.quals a.last
primitive_token k by.Far16 a = token.Pointed k by.Far16 a.quals a.last
primitive_token k by.Huge16 a = token.Pointed k by.Huge16 a.quals a.last
primitive_token k by.Near32 a = token.Pointed k by.Near32 a.quals a.last
primitive_token k by.Far32 a = token.Pointed k by.Far32 a.quals a.last
primitive_token k by.Near64 a = token.Pointed k by.Near64 a.quals a.last
primitive_token k by.Near128 a = token.Pointed k by.Near128 a.quals a.last

-- Qualifiers wait for the next pointer, procedure or base inward, and go through arrays and modifiers. A modifier adds nothing else, so that a
-- pointer outside of it stays directly outside. Under a pointer the left side is not empty, so that a ( changes nothing there.
abbrev pub step_by : Node → Around → Step
step_by (node.Primitive k y) a = step.Last (primitive_token k y a)
step_by (node.Named p n) a = step.Last (token.Tag p n a.quals a.bare)
step_by (node.Pointer i m q) a =
    step.Inward (token.Pointer m (union a.quals q) a.last) token.Nothing i (record { quals = none; under = true; last = false; bare = false })
step_by (node.Modifier i q) a =
    step.Inward token.Nothing token.Nothing i (record { quals = union a.quals q; under = a.under; last = a.last; bare = a.bare })
step_by (node.Array i e) a =
    step.Inward (opening a.under) (token.Length a.under e) i (record { quals = a.quals; under = false; last = a.last; bare = false })
step_by (node.Procedure i l) a =
    step.Call (opening a.under) (token.Begin a.under) (token.End a.quals) l i (record { quals = none; under = false; last = a.last; bare = false })
step_by (node.Refused e) a = step.Refused e

unfoldable pub inward_step : List ℕ → State → ℕ → Around → Step
inward_step s σ i a = step_by (node_of s σ i) a
