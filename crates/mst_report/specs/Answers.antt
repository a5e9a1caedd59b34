-- What answers a query.
use Rattle.std.specs.Prelude.{◌≡◌, ℕ, Bool, true, false, List, [], ◌∷◌, Option, None, Some, Result, Ok, Err}
use Rattle.std.specs.List.{flat_map}
use Rattle.std.specs.Option.{option_map_or}
use Rattle.mst_lang.specs.declared.line.Query.{Query}
use Rattle.mst_lang.specs.declared.line.Query.TheVariants.{ShowPlan, ShowLag, ShowRegions, ShowNotes, ShowTree, ShowVlan, ShowConfiguration, Changes, Save, Digest}
use Rattle.mst_net.specs.tables.Tables.{Net}
use Rattle.mst_net.specs.tables.declared.refusal.Refusal.{Refusal}
use Rattle.mst_net.specs.tables.declared.refusal.Refusal.TheVariants.{E04, E16}
use Rattle.mst_rows.specs.Lines.{row_line}
use Rattle.mst_rows.specs.Rows.{Row}
use Rattle.mst_plan_text.specs.forest.Outcome.{Outcome, IsOutcome}
use Rattle.mst_changes.specs.ChangesText.{all_changes}
use Rattle.mst_changes.specs.declared.subject.Entry.{Entry}
use Rattle.mst_plan_text.specs.text.LagText.{lags_rows}
use Rattle.mst_note_text.specs.NotesText.{AreNoteRows}
use Rattle.mst_plan_text.specs.PlanText.{ArePlanRows}
use Rattle.mst_plan_text.specs.text.ConfigurationText.{configuration_rows}
use Rattle.mst_plan_text.specs.text.RegionsText.{regions_rows}
use Rattle.mst_edits.specs.Digest.{digest_row}
use Rattle.mst_edits.specs.EditRows.{save_rows}
use Rattle.mst_plan_text.specs.text.TreeText.{tree_rows}
use Rattle.mst_plan_text.specs.text.VlanText.{AreVlanRows}
use Rattle.mst_report.specs.State.{State, IsMark}

-- an answer that tells the settled outcome of the network by these rows
abbrev pub TellsOutcome : Net → (Outcome → List Row → Type 0) → Result (List Row) Refusal → Type 0
TellsOutcome net Says answer = (o : Outcome) × IsOutcome net o × (rows : List Row) × Says o rows × (answer ≡ Ok rows)

-- what has changed since a mark: without a mark it is refused, else the rows go from the marked network to the one
-- now, each in its settled outcome
abbrev pub TellsChanges : Option (List Entry) → Net → Result (List Row) Refusal → Type 0
TellsChanges None net answer = answer ≡ Err E16
TellsChanges (Some entries) net answer = (was : IsMark entries) × TellsOutcome net (λ o rows. rows ≡ all_changes was.net was.outcome net o) answer

-- in a state a query has this answer, rows or a refusal. The rows of a tree, of a VID, of the whole plan and of the
-- notes are those of the network's settled outcome; those of the classes of links, of the regions and of an MST
-- configuration go by the network itself, and a bridge that isn't there has no configuration. What saves the network
-- goes by it alone, and so does its digest
abbrev pub Answers : Query → State → Result (List Row) Refusal → Type 0
Answers ShowPlan s answer = TellsOutcome s.net (ArePlanRows s.net) answer
Answers (ShowTree tree) s answer = TellsOutcome s.net (λ o rows. rows ≡ tree_rows s.net o tree) answer
Answers (ShowVlan vid) s answer = TellsOutcome s.net (λ o. AreVlanRows s.net o vid) answer
Answers ShowNotes s answer = TellsOutcome s.net (AreNoteRows s.net) answer
Answers ShowLag s answer = answer ≡ Ok (lags_rows s.net)
Answers ShowRegions s answer = answer ≡ Ok (regions_rows s.net)
Answers (ShowConfiguration bridge) s answer = answer ≡ option_map_or (λ rows. Ok rows) (configuration_rows s.net bridge) (Err E04)
Answers Changes s answer = TellsChanges s.mark s.net answer
Answers Save s answer = answer ≡ Ok (save_rows s.net)
Answers Digest s answer = answer ≡ Ok (digest_row s.net ∷ [])

-- these bytes are the lines of rows that answer a query
abbrev pub AnswersInLines : Query → State → List ℕ → Type 0
AnswersInLines query s text = (rows : List Row) × Answers query s (Ok rows) × (text ≡ flat_map row_line rows)

-- whether a query is asked of a settled plan. What saves the network is not, nor is its digest: the tables alone settle them
abbrev pub asks_plan : Query → Bool
asks_plan Save = false
asks_plan Digest = false
asks_plan _ = true
