use Rattle.std.proofs.Common.{inl}
use Rattle.fo_tree_clear.proofs.Putting.{changes_wider}
use Rattle.fo_tree_grown.proofs.leaf.own_any.Goals as goal

pub returns-then-end_of-tree-clause-owns : goal.returns-then-end_of-tree-clause-owns
returns-then-end_of-tree-clause-owns g c =
    let e = c.own_leaf.ensures in
    record {
      owned = e.owned;
      bytes = e.bytes;
      top_of = e.top;
      over = e.over;
      grows = e.grows;
      changes = λ generation limit. changes_wider (λ b inner. inl inner) e.changes;
      most = e.spare.0;
      dirties = e.dirties;
      less = e.spare.1;
      current = e.current;
      clear = e.clear;
      room = e.room;
    }
