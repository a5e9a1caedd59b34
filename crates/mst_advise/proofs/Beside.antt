-- The designated port of a LAN, as it is seen under numbers.
use Rattle.std.proofs.Common.{◌≡◌, ℕ, ◌==◌, Bool, true, false, Option, Some, None, ap, ◌∙◌}
use Rattle.std.specs.Prelude.{if◌then◌else◌}
use Rattle.std.specs.List.{Contains}
use Rattle.std.specs.Option.{option_and_then}
use Rattle.std.specs.FinMap as fin
use Rattle.mst_roles.specs.forest.outcome.Assignment.{designated_of}
use Rattle.mst_view.specs.Viewed.{named_port}
use Rattle.mst_view.specs.declared.in_view.PortInView.{PortInView}
use Rattle.mst_roles.specs.forest.Forest.{designated_in, msti_designated}
use Rattle.mst_roles.specs.forest.Settled.{SettledNet, IsSettledNet, name_of_port, outcome_of}
use Rattle.mst_roles.proofs.forest_lemmas.Seen.{port_seen}
use Rattle.mst_advise.specs.InQuestion.{designated_beside}

module _ (s : SettledNet) (is : IsSettledNet s) (tree : ℕ) (p : PortInView) (there : Contains s.view.ports p) where
  has_lan : fin.get s.numbers.lans p.lan ≡ Some p.lan_number
  has_lan = (port_seen s.net s.numbers s.view is.of.view p there).has_numbers.lan

  in_tree : (t : Bool) → (if t then (outcome_of s).cist.designated p.lan else ((outcome_of s).msti tree).designated p.lan)
      ≡ option_and_then (name_of_port s.view) (if t then designated_of s.forest.cist p.lan_number else msti_designated s.forest tree p.lan_number)
  in_tree true = ap (λ (lan : Option ℕ). option_and_then (name_of_port s.view) (option_and_then (designated_of s.forest.cist) lan)) has_lan
  in_tree false = ap (λ (lan : Option ℕ). option_and_then (name_of_port s.view) (option_and_then (msti_designated s.forest tree) lan)) has_lan

  pub beside_is : p.is_enabled ≡ true → designated_beside (outcome_of s) tree (named_port p) ≡ option_and_then (name_of_port s.view) (designated_in s.forest tree p.lan_number)
  beside_is enabled =
      ap (λ (t : Bool). if t then (if tree == 0 then (outcome_of s).cist.designated p.lan else ((outcome_of s).msti tree).designated p.lan) else None) enabled ∙ in_tree (tree == 0)
