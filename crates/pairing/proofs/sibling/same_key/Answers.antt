use Rattle.merge_rules.specs.Pairing.{same_key}
use Rattle.pairing.proofs.sibling.same_key.Goals as goal

pub returns-in-Some-Some : goal.returns-in-Some-Some
unfolding same_key
returns-in-Some-Some c = rw (c.in-Some-Some.is-0, c.in-Some-Some.is-1) c.same_string.ensures

pub returns-in-None-None : goal.returns-in-None-None
unfolding same_key
returns-in-None-None c = rw (c.in-None-None.is-0, c.in-None-None.is-1)

pub returns-in_default : goal.returns-in_default
unfolding same_key
returns-in_default c = rw (c.in_default.is-0, c.in_default.is-1)

pub returns-in_default-2 : goal.returns-in_default-2
unfolding same_key
returns-in_default-2 c = rw (c.in_default.is-0, c.in_default.is-1)
