-- Classes of VIDs of two networks are classes of each.
use Rattle.mst_reasons.specs.sweep.vlan.classes.Classes.{AreClasses, AreClassesOf}
use Rattle.mst_graph.specs.declared.keys.Numbering.{Numbering}
use Rattle.mst_view.specs.Viewed.{Viewed}

module _ (v w : Viewed) (c : Numbering) (k : AreClassesOf v w c) where
  pub of_old : AreClasses v c
  of_old = record { tables = k.tables; sets = k.sets; have_tables = k.old.tables_there; have_sets = k.old.sets_there; numbers = k.numbers; tell = k.tell; classes = k.are }

  pub of_new : AreClasses w c
  of_new = record { tables = k.tables; sets = k.sets; have_tables = k.new.tables_there; have_sets = k.new.sets_there; numbers = k.numbers; tell = k.tell; classes = k.are }
