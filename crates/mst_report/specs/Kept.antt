-- What a planner keeps of a marked network.
use Rattle.std.specs.Prelude.{List, Option, MatchOption}
use Rattle.std.specs.Option.{option_map}
use Rattle.mst_changes.specs.declared.subject.Entry.{Entry}
use Rattle.mst_changes.specs.Stored.{kept_entries}
use Rattle.mst_changes.specs.declared.entries.Entries.{Entries}
use Rattle.mst_report.specs.State.{IsMark}

-- the entries that are kept of the mark, if there is one, are those of a network
abbrev pub mark_entries : Option Entries → Option (List Entry)
mark_entries = option_map kept_entries

abbrev pub HasMark : Option Entries → Type 0
HasMark mark = MatchOption (mark_entries mark) (Unit {0}) IsMark
