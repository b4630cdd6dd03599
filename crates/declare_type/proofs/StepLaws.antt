-- The laws of steps. Assumes nothing.
use Rattle.stream_finder.specs.Finder.{State}
use Prim.Native.Nat.{ℕ}
use mathlib.Core.Path.{◌≡◌, sym, ◌∙◌}
use mathlib.Core.List.{List}
use Rattle.declare_type.specs.Nodes.{node_of}
use Rattle.declare_type.specs.declared.node.Node.{Node}
use Rattle.declare_type.specs.declared.step.Around.{Around}
use Rattle.declare_type.specs.declared.step.Step.{Step}
use Rattle.declare_type.specs.Steps.{step_by, inward_step}

-- r is what the lookup gave, and the arm that was taken says n
pub step_is : (s : List ℕ) (t : State) (i : ℕ) (a : Around) (n r : Node) (o : Step) → r ≡ node_of s t i → r ≡ n → o ≡ step_by n a → o ≡ inward_step s t i a
unfolding inward_step
step_is s t i a n r o e f h = rw (sym e ∙ f) h
