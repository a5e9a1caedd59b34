use Rattle.std.proofs.Common.{◌∙◌, ℕ, List, ap, map}
use Rattle.mst_view.specs.Aggregation.{same_name}
use Rattle.mst_view.specs.declared.in_view.MemberLan.{MemberLan}
use Rattle.mst_view.specs.declared.in_view.MemberPort.{MemberPort}
use Rattle.mst_text.specs.LagView.{lans_in, ports_in, up_of, lan_of, port_of}
use Rattle.mst_text.proofs.LagsByLan.{filters_swapped}
use Rattle.mst_text.proofs.by_lan.members_by_lan.Goals as goal

pub returns : goal.returns
returns c =
    let v = c.args.view.now in
    let given : List ℕ → List MemberLan → List (List ℕ) = λ q l. map lan_of (lans_in q l) in
    record {
      up = λ q. c.in_ok-lans_of.ensures q ∙ ap (given q) (c.as_slice.ensures.value ∙ c.in_ok-up.ensures ∙ ap up_of c.member_lans-members.ensures) ∙ ap (map lan_of) (filters_swapped (λ (m : MemberLan). same_name m.lan q) (λ (m : MemberLan). m.is_up) v.member_lans);
      lans = λ q. c.in_ok-lans_of-2.ensures q ∙ ap (given q) c.member_lans-members.ensures;
      ports = λ q. c.in_ok-ports_of.ensures q ∙ ap (λ (l : List MemberPort). map port_of (ports_in q l)) c.member_ports.ensures;
    }
