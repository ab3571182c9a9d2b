use Rattle.tables.specs.ModelTable.{model_of}
use Rattle.tables.specs.Records.{list_of}
use Rattle.merge_rules.specs.Pairing.{children_of}
use Rattle.level.proofs.Laws.Level.{leaf-none, leaf-text}
use Rattle.level.proofs.level.is_leaf.Goals as goal

pub returns-in-0 : goal.returns-in-0
unfolding children_of
returns-in-0 c =
    λ h. leaf-none (list_of (model_of c.args.model.now) c.args.e.0) c.list_length.ensures c.in-0.is

pub returns-in-Text : goal.returns-in-Text
unfolding children_of
returns-in-Text c =
    λ h. leaf-text (list_of (model_of c.args.model.now) c.args.e.0) c.list_length.ensures c.in-1.is c.item_at.ensures c.in-Text.is
