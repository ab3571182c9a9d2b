use mathlib.Core.Logic.{inl, inr}
use Rattle.state_test.specs.StateTest.{set_declared, entry_declared}
use Rattle.state_test.proofs.files.entry_declared.Goals as goal

pub returns-in-Import : goal.returns-in-Import
unfolding set_declared entry_declared
returns-in-Import c = λ sc e. elim c.in-Import.is [ inl (p, q, r, h) ↦ rw (h, c.part_of.ensures, e) | inr (p, h) ↦ rw (h, c.part_of.ensures, e) ]

pub returns-in-Extension : goal.returns-in-Extension
unfolding entry_declared
returns-in-Extension c = λ sc e. rw c.in-Extension.is
