use Rattle.mst_sweeping.proofs.TurnLaws.{lists_exactly, none_by_itself, none_kept, trees_exactly, turns_exactly}
use Rattle.mst_sweeping.proofs.laws.turns_by_way_out.Goals as goal

pub returns-clause-none : goal.returns-clause-none
returns-clause-none c net o = none_by_itself net o

pub returns-clause-exactly : goal.returns-clause-exactly
returns-clause-exactly c a b o p tree bridge = turns_exactly a b o p tree bridge

pub returns-clause-trees : goal.returns-clause-trees
returns-clause-trees c a b o p bridges tree = trees_exactly a b o p bridges tree

pub returns-clause-lists : goal.returns-clause-lists
returns-clause-lists c a b o p bridges = lists_exactly a b o p bridges

pub returns-clause-kept : goal.returns-clause-kept
returns-clause-kept c a b o p bridge keep told h there = none_kept a b o p bridge keep told h there
