-- What a list of blocks keeps between calls.
use Rattle.std.specs.Prelude.{◌≡◌, ◌≤◌}
use Rattle.std.specs.Vec.{vec_len, vec_capacity}
use Rattle.fo_linking.specs.declared.list.Worklist.TheInside.{Inside}

pub record IsRoomy (a : Inside) : Type 0 where
  pub none : vec_len a.list ≡ 0
  pub capacity : a.room ≤ vec_capacity a.list
