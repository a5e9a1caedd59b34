use Rattle.std.proofs.Common.{◌<◌, length}
use Rattle.indexmap.specs.IndexMap.{get}
use Rattle.mst_sweep.specs.Seen.{same_places, seen_places}
use Rattle.mst_sweep.proofs.WithBoth.{loop_first, loop_stays}
use Rattle.mst_sweep.proofs.with_both.staying_with_both.Goals as goal

pub loop-here-preserved : goal.loop-here-preserved
loop-here-preserved c =
    let l = c.loop-here in
    let P = seen_places c.args.homes.now in
    let news = c.args.news.now.entries in
    let all = c.args.both.now in
    let e = c.in_ok-add_staying.ensures in
    let olds = get same_places l.firsts in
    let now = get same_places c.add_staying.new.firsts in
    record {
      firsts = loop_first P news all l.here c.index-both-here.result c.loop-here-test.true c.index-both-here.is olds now l.invariant.firsts e.firsts;
      all = loop_stays P news all l.here c.index-both-here.result c.loop-here-test.true c.index-both-here.is olds now l.invariant.firsts e.firsts l.all.items c.add_staying.new.all.items l.invariant.all e.all;
    }
