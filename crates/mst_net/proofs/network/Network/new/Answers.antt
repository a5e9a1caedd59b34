use Rattle.mst_net.specs.declared.network.Network.TheInside.{Inside}
use Rattle.mst_net.proofs.SoundLemmas.{empty_sound}
use Rattle.mst_net.proofs.network.Network.new.Goals as goal

pub invariant_of-result : goal.invariant_of-result
invariant_of-result c =
    let a : Inside = record {
      bridges = c.new.result;
      ports = c.new-2.result;
      lans = c.new-3.result;
      macs = c.new-4.result;
      port_counts = c.new-5.result;
      plug_counts = c.new-6.result;
      settings = c.new-7.result;
    } in
    empty_sound a c.new.ensures.rows c.new-2.ensures.rows c.new-3.ensures.rows c.new-4.ensures.empty c.new-5.ensures.none c.new-6.ensures.none
    c.new-7.ensures
    c.new.ensures.numbered c.new-2.ensures.numbered c.new-3.ensures.numbered
