-- An edit of a LAN leaves all else.
use Rattle.std.proofs.Common.{◌≡◌, ℕ, Bool, true, false, cond, List, Option, Some, None, refl, sym, ap, subst, ◌∙◌, true≢false}
use Rattle.std.specs.Prelude.{Ok, Err, Result}
use Rattle.std.specs.Option.{option_map, option_map_or}
use Rattle.std.specs.FinMap as fin
use Rattle.mst_lang.specs.declared.line.Edit.TheVariants.{SetLan}
use Rattle.mst_lang.specs.declared.line.LanChange.{LanChange}
use Rattle.mst_tables.specs.Tables.{Net, Numbers, LanRow}
use Rattle.mst_tables.specs.After.{after, change as changed, effect, lan_with, refusal_of}
use Rattle.mst_tables.specs.Contents.{Contents, Commits, numbers_after}
use Rattle.mst_tables.specs.declared.refusal.Refusal.{Refusal}
use Rattle.mst_tables.proofs.Changed.{get_changed}
use Rattle.mst_tables.proofs.Keys.{names}
use Rattle.mst_tables.proofs.NamesInOrder.{names_stay}
use Rattle.mst_view.specs.Aggregation.{same_name}
use Rattle.mst_view.specs.Viewed.{Viewed, IsView}
use Rattle.mst_lag.specs.Renewed.{DifferInLan, IsViewButLan}

others_stay : (net : Net) (lan : List ℕ) (f : LanRow → LanRow) (l : List ℕ) → same_name lan l ≡ false → fin.get (changed net.lans lan f) l ≡ fin.get net.lans l
others_stay net lan f l other = get_changed names net.lans lan f l ∙ ap (λ t. cond t (option_map f (fin.get net.lans l)) (fin.get net.lans l)) other

pub alone_ahead : (lan : List ℕ) (change : LanChange) (net : Net) (numbers : Numbers) (v : Viewed) → IsView net numbers v → IsViewButLan lan (effect (SetLan lan change) net) numbers v
alone_ahead lan change net numbers v view = record {
  old = net;
  view = view;
  differ = record {
    lans = changed net.lans lan (lan_with change);
    is = refl;
    names = sym (names_stay names net.lans lan (lan_with change));
    others = others_stay net lan (lan_with change);
  };
}

pub alone_back : (lan : List ℕ) (change : LanChange) (net : Net) (numbers : Numbers) (v : Viewed) → IsView (effect (SetLan lan change) net) numbers v → IsViewButLan lan net numbers v
alone_back lan change net numbers v view = record {
  old = effect (SetLan lan change) net;
  view = view;
  differ = record {
    lans = net.lans;
    is = refl;
    names = names_stay names net.lans lan (lan_with change);
    others = λ l other. sym (others_stay net lan (lan_with change) l other);
  };
}

pub alone_made : (lan : List ℕ) (change : LanChange) (old new : Contents) (v : Viewed) → Commits (SetLan lan change) old new → IsView old.net old.numbers v → IsViewButLan lan new.net new.numbers v
alone_made lan change old new v made view =
    subst (λ n. IsViewButLan lan new.net n v) (sym made.numbers)
    (subst (λ n. IsViewButLan lan n old.numbers v) (is (refusal_of (SetLan lan change) old.net) made.net) (alone_ahead lan change old.net old.numbers v view))
  where
    net_in : Result Net Refusal → Net
    net_in (Ok net) = net
    net_in (Err refusal) = old.net

    is_ok : Result Net Refusal → Bool
    is_ok (Ok net) = true
    is_ok (Err refusal) = false

    is : (o : Option Refusal) → option_map_or Err o (Ok (effect (SetLan lan change) old.net)) ≡ Ok new.net → effect (SetLan lan change) old.net ≡ new.net
    is None h = ap net_in h
    is (Some refusal) h = absurd (true≢false (sym (ap is_ok h)))
