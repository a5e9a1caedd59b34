-- What stands in the way of a line that is refused.
use Rattle.std.specs.Prelude.{ℕ, List, [], ◌++◌, Option, Some, None, codes, decimal}
use Rattle.std.specs.Option.{option_map, option_map_or}
use Rattle.std.specs.Map.{lookup}
use Rattle.mst_ids.specs.Words.{port_text}
use Rattle.mst_ids.specs.declared.name.PortName.{PortName}
use Rattle.mst_lang.specs.declared.line.Edit.{Edit}
use Rattle.mst_lang.specs.declared.line.Edit.TheVariants.{AddBridge}
use Rattle.mst_lang.specs.declared.line.Line.{Line}
use Rattle.mst_lang.specs.declared.line.Line.TheVariants.{Edit as edit, Query as query}
use Rattle.mst_lang.specs.declared.line.Query.TheVariants.{Changes}
use Rattle.mst_net.specs.tables.Tables.{Net}
use Rattle.mst_net.specs.tables.declared.refusal.Refusal.{Refusal}
use Rattle.mst_net.specs.tables.declared.refusal.Refusal.TheVariants.{E07, E08, E09, E10, E11, E12, E13, E14, E15, E16}
use Rattle.mst_hints.specs.Records.{bridge_for, lan_for, made_by, port_for, same_record}
use Rattle.mst_hints.specs.Puts.{Put, held_by, lan_of}
use Rattle.mst_hints.specs.declared.puts.Holder.TheVariants.{AtMac, InLan, OnBridge}
use Rattle.mst_hints.specs.declared.record.Record.{Record}
use Rattle.mst_hints.specs.declared.record.Record.TheVariants.{Bridge, Port, Lan, Plug}

-- a record, and the line that added it or plugged it
abbrev pub Making : Type 0
Making = Record × ℕ

-- the last line that did
abbrev pub last_making : Record → List Making → Option ℕ
last_making wanted makings = lookup (λ made. same_record made wanted) makings

-- ---- records in words
abbrev pub record_text : Record → List ℕ
record_text (Bridge bridge) = codes "bridge " ++ bridge
record_text (Port port) = codes "port " ++ port_text port
record_text (Lan lan) = codes "LAN " ++ lan
record_text (Plug port) = codes "port " ++ port_text port

-- since which line it is so
abbrev pub made_text : ℕ → List ℕ
made_text number = codes " since line " ++ decimal number

abbrev pub since_made : List Making → Record → List ℕ
since_made makings wanted = option_map_or made_text (last_making wanted makings) []

-- ---- the hints
-- the record is there
abbrev pub there_text : List Making → Record → List ℕ
there_text makings wanted = record_text wanted ++ (codes " is there" ++ since_made makings wanted)

-- what a line put there, in words, or these where that isn't known
abbrev pub held_text : Option Record → List ℕ → List ℕ
held_text held words = option_map_or record_text held words

-- a bridge has the MAC address
abbrev pub since_held : List Making → Option Record → List ℕ
since_held makings held = option_map_or (since_made makings) held []

abbrev pub holder_text : List Making → Option Record → List ℕ
holder_text makings held = held_text held (codes "a bridge") ++ (codes " has this MAC address" ++ since_held makings held)

abbrev pub mac_hint : List Making → List Put → Net → Edit → Option (List ℕ)
mac_hint makings puts net (AddBridge bridge mac) = Some (holder_text makings (held_by puts net (AtMac mac)))
mac_hint makings puts net _ = None

-- the port is in a LAN
abbrev pub lan_text : Option (List ℕ) → List ℕ
lan_text lan = option_map_or (λ name. codes "LAN " ++ name) lan (codes "a LAN")

abbrev pub plugged_text : List Making → Net → PortName → List ℕ
plugged_text makings net port = record_text (Port port) ++ (codes " is in " ++ (lan_text (lan_of net port) ++ since_made makings (Plug port)))

-- it is in none
abbrev pub unplugged_text : PortName → List ℕ
unplugged_text port = record_text (Port port) ++ codes " is in no LAN"

-- the record has a port, which goes first
abbrev pub has_port_text : Record → Option Record → List ℕ → List ℕ
has_port_text named port first = record_text named ++ (codes " has " ++ (held_text port (codes "a port") ++ first))

abbrev pub bridge_has_text : List Put → Net → List ℕ → List ℕ
bridge_has_text puts net bridge = has_port_text (Bridge bridge) (held_by puts net (OnBridge bridge)) (codes "; delport comes first")

abbrev pub lan_has_text : List Put → Net → List ℕ → List ℕ
lan_has_text puts net lan = has_port_text (Lan lan) (held_by puts net (InLan lan)) (codes "; unplug comes first")

-- there are as many as there may be
abbrev pub limit_text : Record → List ℕ
limit_text (Bridge bridge) = codes "a network has at most 1024 bridges"
limit_text (Port port) = codes "a network has at most 16384 ports"
limit_text (Lan lan) = codes "a network has at most 8192 LANs"
limit_text (Plug port) = []

abbrev pub trees_text : List ℕ → List ℕ
trees_text bridge = record_text (Bridge bridge) ++ codes " has 64 trees besides tree 0"

-- of an edit that is refused so, where a record that isn't there doesn't refuse it
abbrev pub standing_for : List Making → List Put → Net → Edit → Refusal → Option (List ℕ)
standing_for makings puts net e E07 = option_map (there_text makings) (made_by e)
standing_for makings puts net e E08 = mac_hint makings puts net e
standing_for makings puts net e E09 = option_map (there_text makings) (made_by e)
standing_for makings puts net e E10 = option_map (plugged_text makings net) (port_for e)
standing_for makings puts net e E11 = option_map unplugged_text (port_for e)
standing_for makings puts net e E12 = option_map (bridge_has_text puts net) (bridge_for e)
standing_for makings puts net e E13 = option_map (lan_has_text puts net) (lan_for e)
standing_for makings puts net e E14 = option_map limit_text (made_by e)
standing_for makings puts net e E15 = option_map trees_text (bridge_for e)
standing_for makings puts net e _ = None

-- what marks are for
unfoldable pub mark_text : List ℕ
mark_text = codes "a line with mark comes first; changes tells what differs from the network as it was there"

-- and of a line: changes are told from a mark
abbrev pub standing_of : List Making → List Put → Net → Line → Refusal → Option (List ℕ)
standing_of makings puts net (edit e) refusal = standing_for makings puts net e refusal
standing_of makings puts net (query Changes) E16 = Some mark_text
standing_of makings puts net _ refusal = None
