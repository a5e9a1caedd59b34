-- The line of the row of each edit says the edit: by its words, or by `all` where a port is in each VLAN.
use Rattle.std.proofs.Common.{◌≡◌, ℕ, ◌*◌, Bool, true, false, List, [], ◌∷◌, ◌++◌, map, codes, decimal, Some, None, refl, sym, ap, ◌∙◌, append_assoc, append-nil, arith}
use Rattle.std.specs.Prelude.{if◌then◌else◌}
use Rattle.std.specs.Bool.{beq}
use Rattle.std.specs.List.{flat_map}
use Rattle.std.specs.Cmp.Lexicographic.{pointwise}
use Rattle.std.proofs.lemmas.Fmt.{decimal_digit}
use Rattle.std.proofs.lemmas.Grind.{flat_map-append}
use Rattle.mst_ids.specs.Texts.{mac_text}
use Rattle.mst_ids.specs.Vids.{runs_from, vids_text}
use Rattle.mst_ids.specs.Words.{after_space}
use Rattle.mst_ids.specs.declared.name.PortName.{PortName}
use Rattle.mst_kinds.specs.declared.port_command.PortCommand.TheVariants as port_command
use Rattle.mst_lang.specs.declared.line.Edit.{Edit}
use Rattle.mst_lang.specs.declared.line.Edit.TheVariants.{AddBridge, DelBridge, SetBridge, AddPort, DelPort, SetPort, AddLan, DelLan, SetLan, Plug, Unplug, SetByTree}
use Rattle.mst_lang.specs.declared.line.BridgeChange.TheVariants.{Power as PowerOf, Kind as KindOf, SystemPriority, Configuration, MaxHops, MaxAge}
use Rattle.mst_lang.specs.declared.line.PortChange.TheVariants.{Key, PathCost, RestrictedRole}
use Rattle.mst_lang.specs.declared.line.LanChange.TheVariants.{State, Speed}
use Rattle.mst_lang.specs.declared.line.TreeChange.TheVariants.{Priority, PortPriority, PortCost, Table, Vlans}
use Rattle.mst_lang.specs.declared.line.Kind.TheVariants.{Mstp, Rstp}
use Rattle.mst_lang.specs.declared.line.Power.TheVariants.{On, Off}
use Rattle.mst_lang.specs.declared.line.LanState.TheVariants.{Up, Down}
use Rattle.mst_net.specs.tables.After.{all_vids}
use Rattle.mst_rows.specs.Cells.{vids}
use Rattle.mst_rows.specs.Lines.{row_line}
use Rattle.mst_edits.specs.EditLine.{spaced, words_of, cost_text, no_vids, vlans_text}
use Rattle.mst_edits.specs.EditRows.{of_port, first_row, edit_rows, edits_rows}

-- a line, and its end
abbrev pub ended : List ℕ → List ℕ
ended line = line ++ 10 ∷ []

-- the words of a port's VLANs, where it is in all and where it isn't
abbrev pub vlans_words : PortName → Bool → List Bool → List (List ℕ)
vlans_words port in_all set = codes "setportvlans" ∷ port.bridge ∷ decimal port.number ∷ (if in_all then codes "all" else vlans_text set) ∷ []

-- the words of the line of an edit's row
abbrev pub row_words : Edit → List (List ℕ)
row_words (SetByTree (Vlans port set)) = vlans_words port (pointwise beq set all_vids) set
row_words e = words_of e

abbrev pub said_line : Edit → List ℕ
said_line e = spaced (row_words e)

said : (first : List ℕ) (words : List (List ℕ)) → (first ++ (flat_map after_space words ++ 10 ∷ [])) ++ [] ≡ ended (spaced (first ∷ words))
said first words = append-nil (first ++ (flat_map after_space words ++ 10 ∷ [])) ∙ sym (append_assoc first (flat_map after_space words) (10 ∷ []))

-- an automatic cost is 0
automatic_said : (first : List ℕ) (words : List (List ℕ)) → (first ++ (flat_map after_space (words ++ decimal 0 ∷ []) ++ 10 ∷ [])) ++ [] ≡ ended (spaced (first ∷ (words ++ cost_text None ∷ [])))
automatic_said first words = said first (words ++ decimal 0 ∷ []) ∙ ap (λ w. ended (spaced (first ∷ (words ++ w ∷ [])))) (decimal_digit 0 (omega arith))

vlans_said : (port : PortName) (set : List Bool) (in_all in_none : Bool)
    → flat_map row_line (of_port (if in_all then port_command.AllVlans else if in_none then port_command.NoVlans else port_command.Vlans) port (vids (runs_from 0 set) ∷ []))
    ≡ ended (spaced (codes "setportvlans" ∷ port.bridge ∷ decimal port.number ∷ (if in_all then codes "all" else (if in_none then codes "none" else vids_text set)) ∷ []))
vlans_said port set true in_none = said (codes "setportvlans") (port.bridge ∷ decimal port.number ∷ codes "all" ∷ [])
vlans_said port set false true = said (codes "setportvlans") (port.bridge ∷ decimal port.number ∷ codes "none" ∷ [])
vlans_said port set false false = said (codes "setportvlans") (port.bridge ∷ decimal port.number ∷ vids_text set ∷ [])

line_is : (e : Edit) → flat_map row_line (edit_rows e) ≡ ended (said_line e)
line_is (AddBridge bridge mac) = said (codes "addbridge") (bridge ∷ mac_text mac ∷ [])
line_is (DelBridge bridge) = said (codes "delbridge") (bridge ∷ [])
line_is (SetBridge bridge (PowerOf On)) = said (codes "bridge") (bridge ∷ codes "on" ∷ [])
line_is (SetBridge bridge (PowerOf Off)) = said (codes "bridge") (bridge ∷ codes "off" ∷ [])
line_is (SetBridge bridge (KindOf Mstp)) = said (codes "kind") (bridge ∷ codes "mstp" ∷ [])
line_is (SetBridge bridge (KindOf Rstp)) = said (codes "kind") (bridge ∷ codes "rstp" ∷ [])
line_is (SetBridge bridge (SystemPriority priority)) = said (codes "setsyspri") (bridge ∷ decimal priority ∷ [])
line_is (SetBridge bridge (Configuration revision name)) = said (codes "setmstconfid") (bridge ∷ decimal revision ∷ name ∷ [])
line_is (SetBridge bridge (MaxHops limit)) = said (codes "setmaxhops") (bridge ∷ decimal limit ∷ [])
line_is (SetBridge bridge (MaxAge limit)) = said (codes "setmaxage") (bridge ∷ decimal limit ∷ [])
line_is (AddPort port) = said (codes "addport") (port.bridge ∷ decimal port.number ∷ [])
line_is (DelPort port) = said (codes "delport") (port.bridge ∷ decimal port.number ∷ [])
line_is (SetPort port (Key key)) = said (codes "setkey") (port.bridge ∷ decimal port.number ∷ decimal key ∷ [])
line_is (SetPort port (PathCost None)) = automatic_said (codes "setportpathcost") (port.bridge ∷ decimal port.number ∷ [])
line_is (SetPort port (PathCost (Some cost))) = said (codes "setportpathcost") (port.bridge ∷ decimal port.number ∷ decimal cost ∷ [])
line_is (SetPort port (RestrictedRole true)) = said (codes "setportrestrrole") (port.bridge ∷ decimal port.number ∷ codes "yes" ∷ [])
line_is (SetPort port (RestrictedRole false)) = said (codes "setportrestrrole") (port.bridge ∷ decimal port.number ∷ codes "no" ∷ [])
line_is (AddLan lan) = said (codes "addlan") (lan ∷ [])
line_is (DelLan lan) = said (codes "dellan") (lan ∷ [])
line_is (SetLan lan (State Up)) = said (codes "lan") (lan ∷ codes "up" ∷ [])
line_is (SetLan lan (State Down)) = said (codes "lan") (lan ∷ codes "down" ∷ [])
line_is (SetLan lan (Speed speed)) = said (codes "speed") (lan ∷ decimal speed ∷ [])
line_is (Plug port lan) = said (codes "plug") (port.bridge ∷ decimal port.number ∷ lan ∷ [])
line_is (Unplug port) = said (codes "unplug") (port.bridge ∷ decimal port.number ∷ [])
line_is (SetByTree (Priority bridge tree priority)) = said (codes "settreeprio") (bridge ∷ decimal tree ∷ decimal (priority * 4096) ∷ [])
line_is (SetByTree (PortPriority port tree priority)) = said (codes "settreeportprio") (port.bridge ∷ decimal port.number ∷ decimal tree ∷ decimal (priority * 16) ∷ [])
line_is (SetByTree (PortCost port tree None)) = automatic_said (codes "settreeportcost") (port.bridge ∷ decimal port.number ∷ decimal tree ∷ [])
line_is (SetByTree (PortCost port tree (Some cost))) = said (codes "settreeportcost") (port.bridge ∷ decimal port.number ∷ decimal tree ∷ decimal cost ∷ [])
line_is (SetByTree (Table bridge tree set)) = said (codes "setvid2mstid") (bridge ∷ decimal tree ∷ vids_text set ∷ [])
line_is (SetByTree (Vlans port set)) = vlans_said port set (pointwise beq set all_vids) (pointwise beq set no_vids)

lines_are : (es : List Edit) → flat_map row_line (edits_rows es) ≡ flat_map ended (map said_line es)
lines_are [] = refl
lines_are (e ∷ es) = flat_map-append row_line (edit_rows e) (edits_rows es) ∙ (λ i. line_is e i ++ lines_are es i)

-- the text of the rows is that of the lines
pub text_is : (es : List Edit) → flat_map row_line (first_row ∷ edits_rows es) ≡ flat_map ended (codes "mstplan 2" ∷ map said_line es)
text_is es =
    ap (λ two. (codes "mstplan" ++ (flat_map after_space (two ∷ []) ++ 10 ∷ [])) ++ flat_map row_line (edits_rows es)) (decimal_digit 2 (omega arith))
    ∙ ap (λ t. ended (codes "mstplan 2") ++ t) (lines_are es)
