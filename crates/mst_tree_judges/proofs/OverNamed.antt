-- Which VIDs go over a LAN, as it is seen of the ports of its logical LAN.
use Rattle.std.proofs.Common.{◌≡◌, ℕ, Bool, true, true≢false, List, map, Option, refl, sym, ap, subst, ◌∙◌, Less, Equal, Greater}
use Rattle.std.specs.List.{Contains}
use Rattle.std.specs.Option.{option_map_or}
use Rattle.std.specs.Ordering.{eq_by_cmp, is_eq}
use Rattle.std.specs.declared.cmp.Ordering.{Ordering}
use Rattle.std.specs.Cmp.Lexicographic.{bytes_decides}
use Rattle.std.specs.FinMap as fin
use Rattle.mst_ids.specs.Names.{name_cmp}
use Rattle.mst_graph.proofs.Members.{from_map, in_map}
use Rattle.mst_tables.specs.Tables.{Net, LanRow}
use Rattle.mst_view.specs.Aggregation.{same_name}
use Rattle.mst_view.specs.View.{logical_lan}
use Rattle.mst_view.specs.Viewed.{Viewed, member_lan}
use Rattle.mst_view.specs.declared.in_view.MemberLan.{MemberLan}
use Rattle.mst_roles.specs.forest.Settled.{SettledNet, IsSettledNet, outcome_of}
use Rattle.mst_judged.specs.reasons.summary.Seen.{seen_on, seen_over}
use Rattle.mst_judged.proofs.reasons_lemmas.summary_lemmas.Named.{over_named as logical_over}
use Rattle.mst_roles.proofs.forest_lemmas.Lists.{passed}
use Rattle.mst_roles.proofs.forest_lemmas.Looking.{first_found}
use Rattle.mst_roles.proofs.forest_lemmas.Views.{name_is}
use Rattle.mst_judged.specs.reasons.Over.{goes_over, is_lan}
use Rattle.mst_tree_judges.specs.Seen.{seen_logical}

-- ---- the LAN of a name
tied : (o : Ordering) → is_eq o ≡ true → o ≡ Equal
tied Less e = absurd (true≢false (sym e))
tied Equal e = refl
tied Greater e = absurd (true≢false (sym e))

lan_row : (net : Net) (lan : List ℕ) → is_lan net lan ≡ true → (row : LanRow) × Contains (fin.entries net.lans) (lan, row)
lan_row net lan here =
    let found = passed (eq_by_cmp name_cmp lan) (fin.keys net.lans) (sym (fin.contains_key-keys net.lans lan) ∙ here) in
    let name : lan ≡ found.0 = name_is lan found.0 (tied (name_cmp lan found.0) found.2) in
    let e = from_map (λ (e : List ℕ × LanRow). e.0) (fin.entries net.lans) found.0 found.1 in
    (e.0.1, subst (λ k. Contains (fin.entries net.lans) (k, e.0.1)) (e.2 ∙ sym name) e.1)

pub logical_named : (net : Net) (v : Viewed) → v.member_lans ≡ map (member_lan net) (fin.entries net.lans) → (lan : List ℕ) → is_lan net lan ≡ true → seen_logical v lan ≡ logical_lan net lan
logical_named net v are lan here =
    let row = lan_row net lan here in
    let test : MemberLan → Bool = λ m. same_name m.name lan in
    let x = member_lan net (lan, row.0) in
    let x_in : Contains v.member_lans x = subst (λ ms. Contains ms x) (sym are) (in_map (member_lan net) (fin.entries net.lans) (lan, row.0) row.1) in
    let f = first_found test v.member_lans x x_in ((bytes_decides lan lan).1 refl) in
    let e = from_map (member_lan net) (fin.entries net.lans) f.it (subst (λ ms. Contains ms f.it) are f.there) in
    let name : e.0.0 ≡ lan = ap (λ (m : MemberLan). m.name) e.2 ∙ (bytes_decides f.it.name lan).0 f.passes in
    ap (λ (m : Option MemberLan). option_map_or (λ m. m.lan) m lan) f.found ∙ ap (λ (m : MemberLan). m.lan) (sym e.2) ∙ ap (logical_lan net) name

-- ---- its ports
pub over_named : (s : SettledNet) → IsSettledNet s → (lan : List ℕ) → is_lan s.net lan ≡ true → (vid : ℕ)
    → seen_over s.view s.forest (seen_on s.view (seen_logical s.view lan)) vid ≡ goes_over s.net (outcome_of s) lan vid
over_named s is lan here vid =
    ap (λ (l : List ℕ). seen_over s.view s.forest (seen_on s.view l) vid) (logical_named s.net s.view is.of.view.member_lans lan here) ∙ logical_over s is (logical_lan s.net lan) vid
