-- A view in which one LAN was renewed is that of the network now.
use Rattle.std.proofs.Common.{◌≡◌, ℕ, ◌≤◌, ◌&&◌, Bool, true, false, cond, List, [], ◌∷◌, map, length, Option, Some, None, is_some, refl, sym, ap, subst, ◌∙◌, arith, true≢false}
use Rattle.std.specs.List.{AllByRecursion, cons_option, filter, filter_map, find, list_any, sum_by}
use Rattle.std.specs.Option.{option_map, option_map_or, option_and_then, unwrap_or}
use Rattle.std.specs.Cmp.Lexicographic.{nat_list_cmp_total, nat_list_eq_equiv}
use Rattle.std.specs.Ordering.{eq_by_cmp}
use Rattle.std.proofs.lemmas.List.{length-map}
use Rattle.std.specs.FinMap as fin
use Rattle.std.specs.FinMap.{contains_key-keys, len-entries}
use Rattle.mst_ids.specs.Names.{name_cmp}
use Rattle.mst_tables.specs.Tables.{Net, Numbers, LanRow, IsNetwork, port_eq}
use Rattle.mst_tables.specs.Contents.{IsNumbered}
use Rattle.mst_view.specs.Aggregation.{Plug, plugs, same_name, lans_as_one}
use Rattle.mst_view.specs.Lag.{lag_of}
use Rattle.mst_view.specs.View.{LogicalLan, LogicalPort, logical_lan, logical_port, members, up_members, is_up, speed, is_on, as_lan, as_port, view_lans, view_ports}
use Rattle.mst_view.specs.Viewed.{Viewed, IsView, named_lan, named_port, member_lan, member_port, HasNumbers}
use Rattle.mst_lag.specs.Seen.{total_of}
use Rattle.mst_lag.specs.Renewed.{DifferInLan, IsViewButLan, is_up_there, logical_among, seen_member, member_again, lan_again, port_again}
use Rattle.mst_view.specs.declared.in_view.PortInView.{PortInView}
use Rattle.mst_view.specs.declared.in_view.LanInView.{LanInView}
use Rattle.mst_view.specs.declared.in_view.MemberLan.{MemberLan}
use Rattle.mst_lag.specs.declared.members.LanSeen.{LanSeen}
use Rattle.mst_lag.specs.declared.members.Total.{Total}
use Rattle.mst_view.proofs.Lists.{all_weaker, all_both, all_of, all_mapped, all_filtered, filter_mapped, mapped_twice, same_map, map_itself, filter_map_mapped, kept_mapped, sum_mapped, any_mapped}
use Rattle.mst_view.proofs.Entries.{entries_found}
use Rattle.mst_view.proofs.Names.{same_names}

pub there_is : {A : Type 0} (o : Option A) (d : A) → is_some o ≡ true → o ≡ Some (unwrap_or o d)
there_is None d h = absurd (true≢false (sym h))
there_is (Some x) d h = refl

-- a change of those that pass a test, which changes none of them
kept_alone : {A : Type 0} (f : A → A) (test : A → Bool) (xs : List A) → AllByRecursion (λ x. test x ≡ true → f x ≡ x) xs → map f (filter test xs) ≡ filter test xs
kept_alone f test [] h = refl
kept_alone {A} f test (x ∷ xs) h = go (test x) refl (kept_alone f test xs h.1)
  where
    go : (b : Bool) → test x ≡ b → map f (filter test xs) ≡ filter test xs → map f (cond b (x ∷ filter test xs) (filter test xs)) ≡ cond b (x ∷ filter test xs) (filter test xs)
    go true e rest = λ i. h.0 e i ∷ rest i
    go false e rest = rest

filter_twice : {A : Type 0} (test : A → Bool) (xs : List A) → filter test (filter test xs) ≡ filter test xs
filter_twice test [] = refl
filter_twice {A} test (x ∷ xs) = go (test x) refl (filter_twice test xs)
  where
    go : (b : Bool) → test x ≡ b → filter test (filter test xs) ≡ filter test xs → filter test (cond b (x ∷ filter test xs) (filter test xs)) ≡ cond b (x ∷ filter test xs) (filter test xs)
    go true e rest = ap (λ b. cond b (x ∷ filter test (filter test xs)) (filter test (filter test xs))) e ∙ ap (λ l. x ∷ l) rest
    go false e rest = rest

-- what the members that these are made of give together
totals_of : {A : Type 0} (f : A → LanSeen) (xs : List A)
    → total_of (map f xs) ≡ record { speed = sum_by (λ x. (f x).speed) (filter (λ x. (f x).is_up) xs); is_up = list_any (λ x. (f x).is_up) xs }
totals_of f xs = λ i. record {
  speed = (ap (sum_by (λ (l : LanSeen). l.speed)) (filter_mapped (λ (l : LanSeen). l.is_up) f xs) ∙ sum_mapped (λ (l : LanSeen). l.speed) f (filter (λ x. (f x).is_up) xs)) i;
  is_up = any_mapped (λ (l : LanSeen). l.is_up) f xs i;
}

pub swapped : (a b : List ℕ) → same_name a b ≡ same_name b a
swapped = nat_list_eq_equiv.symm

-- the entries are found under the keys
pub entries_by : {X : Type 0} (n : fin.FinMap name_cmp X) → filter_map (λ k. option_map (λ x. (k, x)) (fin.get n k)) (fin.keys n) ≡ fin.entries n
entries_by {X} n = kept_mapped (λ k. option_map (λ x. (k, x)) (fin.get n k)) (λ (e : List ℕ × X). e.0) (λ e. e) (fin.entries n)
    (all_weaker _ _ (λ e h. ap (option_map (λ x. (e.0, x))) h) (fin.entries n) (entries_found nat_list_cmp_total n))
    ∙ map_itself (fin.entries n)

-- the logical LAN of a LAN, of those entries that have its name
module _ (net : Net) (lan : List ℕ) where
  abbrev found : List (List ℕ × LanRow) → List ℕ
  found es = logical_among (map (member_lan net) es) lan

  found_all : (es : List (List ℕ × LanRow)) → AllByRecursion (λ e. same_name e.0 lan ≡ true → logical_lan net e.0 ≡ found es) es
  found_all [] = tt
  found_all (e ∷ es) = go (same_name e.0 lan) refl (found_all es)
    where
      first : List ℕ
      first = logical_lan net e.0

      go : (b : Bool) → same_name e.0 lan ≡ b → AllByRecursion (λ f. same_name f.0 lan ≡ true → logical_lan net f.0 ≡ found es) es
          → AllByRecursion (λ f. same_name f.0 lan ≡ true → logical_lan net f.0 ≡ found (e ∷ es)) (e ∷ es)
      go true h rest =
          let is : first ≡ found (e ∷ es) = sym (ap (λ b. option_map_or (λ (m : MemberLan). m.lan) (cond b (Some (member_lan net e)) (find (λ m. same_name m.name lan) (map (member_lan net) es))) lan) h) in (
            λ _. is,
            all_of (λ f. same_name f.0 lan ≡ true → logical_lan net f.0 ≡ found (e ∷ es))
                (λ f k. ap (logical_lan net) (same_names f.0 lan k ∙ sym (same_names e.0 lan h)) ∙ is) es,
          )
      go false h rest =
          let is : found es ≡ found (e ∷ es) = sym (ap (λ b. option_map_or (λ (m : MemberLan). m.lan) (cond b (Some (member_lan net e)) (find (λ m. same_name m.name lan) (map (member_lan net) es))) lan) h) in
          (λ k. absurd (true≢false (sym k ∙ h)), all_weaker _ _ (λ f later k. later k ∙ is) es rest)

module _ (net : Net) (m : fin.FinMap name_cmp LanRow) (lan : List ℕ)
    (names : fin.keys m ≡ fin.keys net.lans) (others : (l : List ℕ) → same_name lan l ≡ false → fin.get m l ≡ fin.get net.lans l) where
  abbrev now : Net
  now = record net { lans = m }

  abbrev rows : List (List ℕ × LanRow)
  rows = fin.entries net.lans

  record IsRow (e : List ℕ × LanRow) : Type 0 where
    was : fin.get net.lans e.0 ≡ Some e.1
    is : is_some (fin.get m e.0) ≡ true

  all_rows : AllByRecursion IsRow rows
  all_rows = all_weaker _ IsRow (λ e h. record {
    was = h;
    is = contains_key-keys m e.0 ∙ ap (list_any (eq_by_cmp name_cmp e.0)) names ∙ sym (contains_key-keys net.lans e.0) ∙ ap is_some h;
  }) rows (entries_found nat_list_cmp_total net.lans)

  logical_stays : (l : List ℕ) → logical_lan now l ≡ logical_lan net l
  logical_stays l = ap (λ ks. unwrap_or (find (lans_as_one net l) ks) l) names

  -- the entries now
  abbrev patch : List ℕ × LanRow → List ℕ × LanRow
  patch e = (e.0, unwrap_or (fin.get m e.0) e.1)

  patched : fin.entries m ≡ map patch rows
  patched =
      sym (entries_by m) ∙ ap (filter_map (λ k. option_map (λ x. (k, x)) (fin.get m k))) names
      ∙ kept_mapped (λ k. option_map (λ x. (k, x)) (fin.get m k)) (λ (e : List ℕ × LanRow). e.0) patch rows
      (all_weaker IsRow _ (λ e h. ap (option_map (λ x. (e.0, x))) (there_is (fin.get m e.0) e.1 h.is)) rows all_rows)

  other_stays : (e : List ℕ × LanRow) → IsRow e → same_name e.0 lan ≡ false → patch e ≡ e
  other_stays e h other = ap (λ (o : Option LanRow). (e.0, unwrap_or o e.1)) (others e.0 (swapped lan e.0 ∙ other) ∙ h.was)

  members_now : (k : List ℕ) → members now k ≡ map patch (members net k)
  members_now k =
      (λ i. filter (λ (e : List ℕ × LanRow). same_name (logical_stays e.0 i) k) (patched i))
      ∙ filter_mapped (λ (e : List ℕ × LanRow). same_name (logical_lan net e.0) k) patch rows

  -- ---- members
  up_now : (e : List ℕ × LanRow) → IsRow e → member_again lan (is_up_there now lan) (member_lan net e) ≡ member_lan now (patch e)
  up_now e h = go (same_name e.0 lan) refl
    where
      go : (b : Bool) → same_name e.0 lan ≡ b
          → cond b (record { name = e.0; lan = logical_lan net e.0; is_up = is_up_there now lan }) (member_lan net e) ≡ member_lan now (patch e)
      go true k =
          let up : is_up_there now lan ≡ (unwrap_or (fin.get m e.0) e.1).is_up =
          ap (λ l. option_map_or (λ (row : LanRow). row.is_up) (fin.get m l) false) (sym (same_names e.0 lan k))
          ∙ ap (λ (o : Option LanRow). option_map_or (λ (row : LanRow). row.is_up) o false) (there_is (fin.get m e.0) e.1 h.is) in
          λ i. record { name = e.0; lan = sym (logical_stays e.0) i; is_up = up i }
      go false k = λ i. record { name = e.0; lan = sym (logical_stays e.0) i; is_up = sym (ap (λ (x : List ℕ × LanRow). x.1.is_up) (other_stays e h k)) i }

  members_are : map (member_again lan (is_up_there now lan)) (map (member_lan net) rows) ≡ map (member_lan now) (fin.entries m)
  members_are =
      mapped_twice (member_again lan (is_up_there now lan)) (member_lan net) rows
      ∙ same_map (λ e. member_again lan (is_up_there now lan) (member_lan net e)) (λ e. member_lan now (patch e)) rows (all_weaker IsRow _ up_now rows all_rows)
      ∙ sym (mapped_twice (member_lan now) patch rows) ∙ sym (ap (map (member_lan now)) patched)

  few : IsNetwork now → length (map (member_lan net) rows) ≤ 8192
  few ok =
      let same : length (map (member_lan net) rows) ≡ fin.len m =
      length-map rows (member_lan net) ∙ sym (length-map rows (λ (e : List ℕ × LanRow). e.0)) ∙ sym (ap length names) ∙ length-map (fin.entries m) (λ (e : List ℕ × LanRow). e.0) ∙ sym (len-entries m) in
      subst (λ n. n ≤ 8192) (sym same) ok.lans.few

  -- ---- what they give together
  abbrev logical : List ℕ
  logical = found net lan rows

  abbrev total_now : Total
  total_now = record { speed = speed now logical; is_up = is_up now logical }

  module _ (numbers : Numbers) (num : IsNumbered now numbers) where
    abbrev seen_of : List ℕ × LanRow → LanSeen
    seen_of e = record { name = e.0; number = unwrap_or (fin.get numbers.lans e.0) 0; lan = logical_lan net e.0; speed = e.1.speed; is_up = e.1.is_up }

    seen : (e : List ℕ × LanRow) → IsRow e → seen_member now numbers (member_lan net e) ≡ Some (seen_of (patch e))
    seen e h =
        ap (option_and_then (λ (row : LanRow). option_map (λ (number : ℕ). record { name = e.0; number = number; lan = logical_lan net e.0; speed = row.speed; is_up = row.is_up }) (fin.get numbers.lans e.0)))
        (there_is (fin.get m e.0) e.1 h.is)
        ∙ ap (option_map (λ (number : ℕ). record { name = e.0; number = number; lan = logical_lan net e.0; speed = (patch e).1.speed; is_up = (patch e).1.is_up }))
        (there_is (fin.get numbers.lans e.0) 0 (num.lans e.0 ∙ h.is))

    abbrev own_test : List ℕ × LanRow → Bool
    own_test e = same_name (logical_lan net e.0) logical

    all_own : AllByRecursion IsRow (filter own_test rows)
    all_own = all_filtered IsRow own_test rows all_rows

    seen_all : filter_map (seen_member now numbers) (filter (λ x. same_name x.lan logical) (map (member_lan net) rows)) ≡ map (λ e. seen_of (patch e)) (filter own_test rows)
    seen_all =
        ap (filter_map (seen_member now numbers)) (filter_mapped (λ (x : MemberLan). same_name x.lan logical) (member_lan net) rows)
        ∙ kept_mapped (seen_member now numbers) (member_lan net) (λ e. seen_of (patch e)) (filter own_test rows) (all_weaker IsRow _ seen (filter own_test rows) all_own)

    right : total_of (filter (λ x. same_name x.lan logical) (filter_map (seen_member now numbers) (filter (λ x. same_name x.lan logical) (map (member_lan net) rows)))) ≡ total_now
    right =
        ap (λ ls. total_of (filter (λ (x : LanSeen). same_name x.lan logical) ls)) seen_all
        ∙ ap total_of (filter_mapped (λ (x : LanSeen). same_name x.lan logical) (λ e. seen_of (patch e)) (filter own_test rows))
        ∙ ap (λ es. total_of (map (λ e. seen_of (patch e)) es)) (filter_twice own_test rows)
        ∙ ap total_of (sym (mapped_twice seen_of patch (filter own_test rows)))
        ∙ ap (λ es. total_of (map seen_of es)) (sym (members_now logical))
        ∙ totals_of seen_of (members now logical)

  -- ---- logical LANs
  others_stay : (k : List ℕ) → same_name k logical ≡ false → members now k ≡ members net k
  others_stay k other = members_now k ∙ kept_alone patch (λ e. same_name (logical_lan net e.0) k) rows (all_both IsRow _ _ stays rows all_rows (found_all net lan rows))
    where
      stays : (e : List ℕ × LanRow) → IsRow e → (same_name e.0 lan ≡ true → logical_lan net e.0 ≡ logical) → same_name (logical_lan net e.0) k ≡ true → patch e ≡ e
      stays e h is of = go (same_name e.0 lan) refl
        where
          go : (b : Bool) → same_name e.0 lan ≡ b → patch e ≡ e
          go false t = other_stays e h t
          go true t =
              let same : k ≡ logical = sym (same_names (logical_lan net e.0) k of) ∙ is t in
              absurd (true≢false (sym (nat_list_eq_equiv.refl k) ∙ ap (same_name k) same ∙ other))

  speed_stays : (k : List ℕ) → same_name k logical ≡ false → speed now k ≡ speed net k
  speed_stays k other = ap (λ ms. sum_by (λ (e : List ℕ × LanRow). e.1.speed) (filter (λ (e : List ℕ × LanRow). e.1.is_up) ms)) (others_stay k other)

  is_up_stays : (k : List ℕ) → same_name k logical ≡ false → is_up now k ≡ is_up net k
  is_up_stays k other = ap (list_any (λ (e : List ℕ × LanRow). e.1.is_up)) (others_stay k other)

  abbrev named_again : LogicalLan → LogicalLan
  named_again x = cond (same_name x.name logical) (record x { speed = total_now.speed; is_up = total_now.is_up }) x

  lan_named : (l : LanInView) → named_lan (lan_again logical total_now l) ≡ named_again (named_lan l)
  lan_named l = go (same_name l.name logical)
    where
      go : (b : Bool) → named_lan (cond b (record l { speed = total_now.speed; is_up = total_now.is_up }) l)
          ≡ cond b (record (named_lan l) { speed = total_now.speed; is_up = total_now.is_up }) (named_lan l)
      go true = refl
      go false = refl

  lan_now : (k : List ℕ) → named_again (as_lan net k) ≡ as_lan now k
  lan_now k = go (same_name k logical) refl
    where
      go : (b : Bool) → same_name k logical ≡ b → cond b (record (as_lan net k) { speed = total_now.speed; is_up = total_now.is_up }) (as_lan net k) ≡ as_lan now k
      go true e = let same : logical ≡ k = sym (same_names k logical e) in λ i. record { name = k; speed = speed now (same i); is_up = is_up now (same i); lag = lag_of net k }
      go false e = λ i. record { name = k; speed = sym (speed_stays k e) i; is_up = sym (is_up_stays k e) i; lag = lag_of net k }

  own_lans_stay : filter (λ l. same_name (logical_lan now l) l) (fin.keys m) ≡ filter (λ l. same_name (logical_lan net l) l) (fin.keys net.lans)
  own_lans_stay = λ i. filter (λ l. same_name (logical_stays l i) l) (names i)

  lans_are : (ls : List LanInView) → map named_lan ls ≡ view_lans net → map named_lan (map (lan_again logical total_now) ls) ≡ view_lans now
  lans_are ls was =
      mapped_twice named_lan (lan_again logical total_now) ls
      ∙ same_map (λ l. named_lan (lan_again logical total_now l)) (λ l. named_again (named_lan l)) ls (all_of _ lan_named ls)
      ∙ sym (mapped_twice named_again named_lan ls) ∙ ap (map named_again) was
      ∙ mapped_twice named_again (as_lan net) (filter (λ l. same_name (logical_lan net l) l) (fin.keys net.lans))
      ∙ same_map (λ k. named_again (as_lan net k)) (as_lan now) (filter (λ l. same_name (logical_lan net l) l) (fin.keys net.lans)) (all_of _ lan_now _)
      ∙ sym (ap (map (as_lan now)) own_lans_stay)

  -- ---- logical ports
  abbrev port_named_again : LogicalPort → LogicalPort
  port_named_again x = cond (same_name x.lan logical) (record x { speed = total_now.speed; is_enabled = is_on net x.name.bridge && total_now.is_up }) x

  port_named : (p : PortInView) → named_port (port_again now logical total_now p) ≡ port_named_again (named_port p)
  port_named p = go (same_name p.lan logical)
    where
      go : (b : Bool) → named_port (cond b (record p { speed = total_now.speed; is_enabled = is_on net p.name.bridge && total_now.is_up }) p)
          ≡ cond b (record (named_port p) { speed = total_now.speed; is_enabled = is_on net p.name.bridge && total_now.is_up }) (named_port p)
      go true = refl
      go false = refl

  port_now : (p : Plug) → port_named_again (as_port net p) ≡ as_port now p
  port_now p = go (same_name (logical_lan net p.lan) logical) refl
    where
      stays : logical_lan net p.lan ≡ logical_lan now p.lan
      stays = sym (logical_stays p.lan)

      go : (b : Bool) → same_name (logical_lan net p.lan) logical ≡ b
          → cond b (record (as_port net p) { speed = total_now.speed; is_enabled = is_on net p.port.bridge && total_now.is_up }) (as_port net p) ≡ as_port now p
      go true e =
          let same : logical ≡ logical_lan now p.lan = sym (same_names (logical_lan net p.lan) logical e) ∙ stays in
          λ i. record { name = p.port; lan = stays i; speed = speed now (same i); settings = p.settings; is_enabled = is_on net p.port.bridge && is_up now (same i) }
      go false e =
          let speeds : speed net (logical_lan net p.lan) ≡ speed now (logical_lan now p.lan) = sym (speed_stays (logical_lan net p.lan) e) ∙ ap (speed now) stays in
          let ups : is_up net (logical_lan net p.lan) ≡ is_up now (logical_lan now p.lan) = sym (is_up_stays (logical_lan net p.lan) e) ∙ ap (is_up now) stays in
          λ i. record { name = p.port; lan = stays i; speed = speeds i; settings = p.settings; is_enabled = is_on net p.port.bridge && ups i }

  ports_are : (ps : List PortInView) → map named_port ps ≡ view_ports net → map named_port (map (port_again now logical total_now) ps) ≡ view_ports now
  ports_are ps was =
      mapped_twice named_port (port_again now logical total_now) ps
      ∙ same_map (λ p. named_port (port_again now logical total_now p)) (λ p. port_named_again (named_port p)) ps (all_of _ port_named ps)
      ∙ sym (mapped_twice port_named_again named_port ps) ∙ ap (map port_named_again) was
      ∙ mapped_twice port_named_again (as_port net) (filter (λ p. port_eq (logical_port net p).port p.port) (plugs net))
      ∙ same_map (λ p. port_named_again (as_port net p)) (as_port now) (filter (λ p. port_eq (logical_port net p).port p.port) (plugs net)) (all_of _ port_now _)

  port_numbered : (numbers : Numbers) (p : PortInView) → HasNumbers numbers p → HasNumbers numbers (port_again now logical total_now p)
  port_numbered numbers p h = go (same_name p.lan logical)
    where
      go : (b : Bool) → HasNumbers numbers (cond b (record p { speed = total_now.speed; is_enabled = is_on net p.name.bridge && total_now.is_up }) p)
      go true = record { port = h.port; bridge = h.bridge; lan = h.lan }
      go false = h

  lan_numbered : (numbers : Numbers) (l : LanInView) → fin.get numbers.lans l.name ≡ Some l.number
      → fin.get numbers.lans (lan_again logical total_now l).name ≡ Some (lan_again logical total_now l).number
  lan_numbered numbers l h = go (same_name l.name logical)
    where
      go : (b : Bool) → fin.get numbers.lans (cond b (record l { speed = total_now.speed; is_up = total_now.is_up }) l).name
          ≡ Some (cond b (record l { speed = total_now.speed; is_up = total_now.is_up }) l).number
      go true = h
      go false = h

  -- ---- the view
  abbrev again : List ℕ → Total → Viewed → Viewed
  again at total v = record v {
    ports = map (port_again now at total) v.ports;
    lans = map (lan_again at total) v.lans;
    member_lans = map (member_again lan (is_up_there now lan)) v.member_lans;
  }

  renewed_right : (numbers : Numbers) (v : Viewed) → IsView net numbers v → IsView now numbers (again logical total_now v)
  renewed_right numbers v was = record {
    bridges = was.bridges;
    trees = was.trees;
    ports = ports_are v.ports was.ports;
    lans = lans_are v.lans was.lans;
    member_lans = ap (map (member_again lan (is_up_there now lan))) was.member_lans ∙ members_are;
    member_ports = was.member_ports ∙ (λ i. map (λ (p : Plug). record { name = p.port; lan = sym (logical_stays p.lan) i }) (plugs net));
    bridge_numbers = was.bridge_numbers;
    port_numbers = all_mapped (HasNumbers numbers) (port_again now logical total_now) v.ports (all_weaker _ _ (port_numbered numbers) v.ports was.port_numbers);
    lan_numbers = all_mapped (λ (l : LanInView). fin.get numbers.lans l.name ≡ Some l.number) (lan_again logical total_now) v.lans (all_weaker _ _ (lan_numbered numbers) v.lans was.lan_numbers);
    lags = was.lags;
    no_lags = was.no_lags;
    settings = was.settings;
  }

  renewed_here : (numbers : Numbers) (v : Viewed) → IsView net numbers v → IsNumbered now numbers → (total : Total)
      → total ≡ total_of (filter (λ x. same_name x.lan (logical_among v.member_lans lan)) (filter_map (seen_member now numbers) (filter (λ x. same_name x.lan (logical_among v.member_lans lan)) v.member_lans)))
      → IsView now numbers (again (logical_among v.member_lans lan) total v)
  renewed_here numbers v was num total is =
      let at : logical_among v.member_lans lan ≡ logical = ap (λ ms. logical_among ms lan) was.member_lans in
      let sum : total ≡ total_now =
      is ∙ ap (λ ms. total_of (filter (λ (x : LanSeen). same_name x.lan (logical_among ms lan)) (filter_map (seen_member now numbers) (filter (λ (x : MemberLan). same_name x.lan (logical_among ms lan)) ms)))) was.member_lans
      ∙ right numbers num in
      subst (λ t. IsView now numbers (again (logical_among v.member_lans lan) t v)) (sym sum)
      (subst (λ l. IsView now numbers (again l total_now v)) (sym at) (renewed_right numbers v was))

-- fewer are kept than there are
pub few_kept : {A B : Type 0} (g : A → Option B) (test : A → Bool) (xs : List A) (n : ℕ) → length xs ≤ n → length (filter_map g (filter test xs)) ≤ n
few_kept {A} {B} g test xs n h = let k = fewer xs in omega arith
  where
    fewer : (xs : List A) → length (filter_map g (filter test xs)) ≤ length xs
    fewer [] = omega arith
    fewer (x ∷ xs) = by (test x) (fewer xs)
      where
        kept : (o : Option B) → length (filter_map g (filter test xs)) ≤ length xs → length (cons_option o (filter_map g (filter test xs))) ≤ length (x ∷ xs)
        kept None h = omega arith
        kept (Some y) h = omega arith

        by : (b : Bool) → length (filter_map g (filter test xs)) ≤ length xs → length (filter_map g (cond b (x ∷ filter test xs) (filter test xs))) ≤ length (x ∷ xs)
        by true h = kept (g x) h
        by false h = omega arith

-- what is renewed of a view
abbrev pub view_again : Net → (lan at : List ℕ) → Total → Viewed → Viewed
view_again net lan at total v = record v {
  ports = map (port_again net at total) v.ports;
  lans = map (lan_again at total) v.lans;
  member_lans = map (member_again lan (is_up_there net lan)) v.member_lans;
}

pub is_renewed : (lan : List ℕ) (net : Net) (numbers : Numbers) (v : Viewed) → IsViewButLan lan net numbers v → IsNumbered net numbers → (total : Total)
    → total ≡ total_of (filter (λ x. same_name x.lan (logical_among v.member_lans lan)) (filter_map (seen_member net numbers) (filter (λ x. same_name x.lan (logical_among v.member_lans lan)) v.member_lans)))
    → IsView net numbers (view_again net lan (logical_among v.member_lans lan) total v)
is_renewed lan net numbers v was num total is =
    subst (λ n. IsNumbered n numbers
    → total ≡ total_of (filter (λ (x : LanSeen). same_name x.lan (logical_among v.member_lans lan)) (filter_map (seen_member n numbers) (filter (λ (x : MemberLan). same_name x.lan (logical_among v.member_lans lan)) v.member_lans)))
    → IsView n numbers (view_again n lan (logical_among v.member_lans lan) total v)) (sym was.differ.is)
    (λ here sum. renewed_here was.old was.differ.lans lan was.differ.names was.differ.others numbers v was.view here total sum) num is

-- the view of these lists
pub is_view : (lan : List ℕ) (net : Net) (numbers : Numbers) (v : Viewed) → IsViewButLan lan net numbers v → IsNumbered net numbers
    → (at : List ℕ) → at ≡ logical_among v.member_lans lan
    → (total : Total) → total ≡ total_of (filter (λ x. same_name x.lan at) (filter_map (seen_member net numbers) (filter (λ x. same_name x.lan at) v.member_lans)))
    → (up : Bool) → up ≡ is_up_there net lan
    → (ports : List PortInView) → ports ≡ map (port_again net at total) v.ports
    → (lans : List LanInView) → lans ≡ map (lan_again at total) v.lans
    → (members : List MemberLan) → members ≡ map (member_again lan up) v.member_lans
    → IsView net numbers (record v { ports = ports; lans = lans; member_lans = members })
is_view lan net numbers v was num at at_is total sum up up_is ports ports_are lans lans_are members members_are =
    let sum_is : total ≡ total_of (filter (λ x. same_name x.lan (logical_among v.member_lans lan)) (filter_map (seen_member net numbers) (filter (λ x. same_name x.lan (logical_among v.member_lans lan)) v.member_lans))) =
    sum ∙ ap (λ l. total_of (filter (λ (x : LanSeen). same_name x.lan l) (filter_map (seen_member net numbers) (filter (λ (x : MemberLan). same_name x.lan l) v.member_lans)))) at_is in
    let ports_is : map (port_again net (logical_among v.member_lans lan) total) v.ports ≡ ports = ap (λ l. map (port_again net l total) v.ports) (sym at_is) ∙ sym ports_are in
    let lans_is : map (lan_again (logical_among v.member_lans lan) total) v.lans ≡ lans = ap (λ l. map (lan_again l total) v.lans) (sym at_is) ∙ sym lans_are in
    let members_is : map (member_again lan (is_up_there net lan)) v.member_lans ≡ members = ap (λ u. map (member_again lan u) v.member_lans) (sym up_is) ∙ sym members_are in
    let is : view_again net lan (logical_among v.member_lans lan) total v ≡ record v { ports = ports; lans = lans; member_lans = members } =
    λ i. record v { ports = ports_is i; lans = lans_is i; member_lans = members_is i } in
    subst (IsView net numbers) is (is_renewed lan net numbers v was num total sum_is)

pub few_members : (lan : List ℕ) (net : Net) (numbers : Numbers) (v : Viewed) → IsViewButLan lan net numbers v → IsNetwork net → length v.member_lans ≤ 8192
few_members lan net numbers v was ok =
    subst (λ ms. length ms ≤ 8192) (sym was.view.member_lans)
    (few was.old was.differ.lans lan was.differ.names was.differ.others (subst IsNetwork was.differ.is ok))
