-- What is kept of the lines of a script that came so far.
use Rattle.std.specs.Prelude.{◌≡◌, List}
use Rattle.std.specs.Map.{lookup}
use Rattle.mst_hints.specs.Puts.{Put, first_put, same_holder}
use Rattle.mst_hints.specs.Records.{same_record}
use Rattle.mst_hints.specs.Scripts.{Adding, Past, last_adding}
use Rattle.mst_hints.specs.Standing.{Making, last_making}
use Rattle.mst_hints.specs.declared.puts.Holder.{Holder}
use Rattle.mst_hints.specs.declared.puts.Puts.{Puts}
use Rattle.mst_hints.specs.declared.record.Record.{Record}
use Rattle.mst_hints.specs.declared.adds.Adds.{Adds}
use Rattle.mst_hints.specs.declared.script.ScriptHints.{ScriptHints}

-- by each record the last line that was to add it, where that line was refused or not read
abbrev pub AreKept : List Adding → Adds → Type 0
AreKept adds kept = (wanted : Record) → lookup (same_record wanted) kept.refused.entries ≡ last_adding wanted adds

-- and the last line that made it
abbrev pub AreMade : List Making → Adds → Type 0
AreMade makings kept = (wanted : Record) → lookup (same_record wanted) kept.made.entries ≡ last_making wanted makings

-- by each holder what a line put there first, and all that lines put
abbrev pub AreFirst : List Put → Puts → Type 0
AreFirst puts kept = (holder : Holder) → lookup (same_holder holder) kept.first.entries ≡ first_put holder puts

pub record ArePut (puts : List Put) (kept : Puts) : Type 0 where
  pub first : AreFirst puts kept
  pub all : kept.all.items ≡ puts

-- all of what came before the next line
pub record IsKept (past : Past) (kept : ScriptHints) : Type 0 where
  pub of : kept.of.now ≡ past.of
  pub asks : kept.asks ≡ past.asks
  pub version : kept.version ≡ past.version
  pub number : kept.number ≡ past.number
  pub net : kept.network.net ≡ past.net
  pub marked : kept.marked ≡ past.marked
  pub adds : AreKept past.adds kept.adds
  pub makings : AreMade past.makings kept.adds
  pub puts : ArePut past.puts kept.puts
