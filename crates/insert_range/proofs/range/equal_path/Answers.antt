use native.Mathlib.Numerals.{add-one}
use Rattle.std.proofs.Common.{inl, inr}
use Rattle.merge_rules.specs.Range.{equal_path}
use Rattle.insert_range.proofs.range.equal_path.Goals as goal

pub returns-in-AtMostOne : goal.returns-in-AtMostOne
unfolding equal_path
returns-in-AtMostOne c = elim c.in-AtMostOne.is [ inl e ↦ rw e | inr e ↦ rw e ]

pub returns-in-Any : goal.returns-in-Any
unfolding equal_path
returns-in-Any c = rw (c.in-Any.is, add-one c.args.index)
