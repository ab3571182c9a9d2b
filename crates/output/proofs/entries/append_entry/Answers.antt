use Rattle.tables.specs.Bytes.{bytes}
use Rattle.merge_rules.specs.CallLists.{entry_line}
use Rattle.merge_rules.specs.Program.{decimal_of, hexadecimal_of, line_of}
use Rattle.output.proofs.entries.append_entry.Goals as goal

pub returns-in-Import : goal.returns-in-Import
unfolding entry_line
returns-in-Import c = rw c.in-Import.is c.append_import.ensures

pub returns-in-Restriction : goal.returns-in-Restriction
unfolding entry_line line_of hexadecimal_of bytes
returns-in-Restriction c =
    rw (c.in-Restriction.is, ← c.bits.ensures) c.append_change.ensures

pub returns-in-Extension : goal.returns-in-Extension
unfolding entry_line line_of decimal_of bytes
returns-in-Extension c = rw c.in-Extension.is c.append_change-in-Extension.ensures
