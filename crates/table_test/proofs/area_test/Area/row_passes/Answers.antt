use Rattle.table_test.specs.AreaTest.{row_passes}
use Rattle.table_test.proofs.area_test.Area.row_passes.Goals as goal

pub returns-in-Types : goal.returns-in-Types
unfolding row_passes
returns-in-Types c = rw c.in-Types.is c.type_passes.ensures

pub returns-in-Groups : goal.returns-in-Groups
unfolding row_passes
returns-in-Groups c = rw c.in-Groups.is c.group_passes.ensures

pub returns-in-SubElements : goal.returns-in-SubElements
unfolding row_passes
returns-in-SubElements c = rw c.in-SubElements.is c.sub_element_passes.ensures

pub returns-in-Files : goal.returns-in-Files
unfolding row_passes
returns-in-Files c = rw c.in-Files.is c.file_passes.ensures

pub returns-in-Elements : goal.returns-in-Elements
unfolding row_passes
returns-in-Elements c = rw c.in-Elements.is c.element_passes.ensures

pub returns-in-Texts : goal.returns-in-Texts
unfolding row_passes
returns-in-Texts c = rw c.in-Texts.is c.text_passes.ensures

pub returns-in-Trees : goal.returns-in-Trees
unfolding row_passes
returns-in-Trees c = rw c.in-Trees.is c.tree_passes.ensures

pub returns-in-Entries : goal.returns-in-Entries
unfolding row_passes
returns-in-Entries c = rw c.in-Entries.is c.entry_passes.ensures
