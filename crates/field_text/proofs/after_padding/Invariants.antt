-- `field_text::after_padding` meets its contract: the padding from the place reached ends where that from p does. Assumes nothing.
use Rattle.std.proofs.Common.{◌≡◌, ◌-◌, length, drop}
use Rattle.field_text.specs.Texts.{pad, padding_after}
use Rattle.field_text.proofs.after_padding.Given as goal

abbrev pub invariant-loop-i : goal.invariant-loop-i
invariant-loop-i l = pad 0 l.i (drop l.i l.s) ≡ padding_after l.s l.p

abbrev pub decreases-loop-i : goal.decreases-loop-i
decreases-loop-i l = length l.s - l.i
