-- Which bridges are on in a network with failures.
use Rattle.std.proofs.Common.{◌≡◌, ℕ, false, List, []}
use Rattle.std.specs.FinMap as fin
use Rattle.std.specs.List.{Contains}
use Rattle.mst_net.specs.tables.Tables.{Net}
use Rattle.mst_island_judges.specs.judged.reasons.sweep.vlan.Reach.{bridges_on}
use Rattle.mst_island_judges.specs.judged.reasons.sweep.Failures.{failed}
use Rattle.mst_island_judges.specs.judged.reasons.sweep.declared.failure.Failure.{Failure}
use Rattle.mst_island_judges.proofs.judged_lemmas.reasons_lemmas.sweep_lemmas.StillOn.{not_failed, on_row, still_on}
use Rattle.mst_island_judges.specs.judged.reasons.Named.{is_gone}
use Rattle.mst_tree_judges.proofs.Keys.{key_there}

pub on_key : (net : Net) (name : List ℕ) → Contains (bridges_on net) name → Contains (fin.keys net.bridges) name
on_key net name h = let r = on_row net name h in key_there net name r.0 r.1

-- a bridge is on afterwards just where it was and isn't one that failed
module _ (those : List Failure) (net : Net) (name : List ℕ) where
  pub stays_on : Contains (bridges_on net) name → is_gone those name ≡ false → Contains (bridges_on (failed those net)) name
  stays_on h k = still_on net name [] those (λ _. k) h

  pub not_gone : Contains (bridges_on (failed those net)) name → is_gone those name ≡ false
  not_gone h = not_failed those net name h
