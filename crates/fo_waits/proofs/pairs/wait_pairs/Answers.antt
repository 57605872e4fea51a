use Rattle.std.proofs.Common.{◌∙◌, refl, arith}
use Rattle.fo_image.specs.declared.types.Kind.TheVariants.{Dir}
use Rattle.fo_slots.specs.Read.{read}
use Rattle.fo_waits.proofs.Pairing.{lists_none}
use Rattle.fo_waits.proofs.pairs.wait_pairs.Goals as goal

pub loop-k-init : goal.loop-k-init
loop-k-init c = record {
  len = omega arith;
  capacity = refl;
  lists = lists_none c.args.clears.now.items (read (Dir 0) c.args.bytes.now) c.args.at c.args.on c.args.waits.now.items;
}

pub loop-k-preserved : goal.loop-k-preserved
loop-k-preserved c =
    let i = c.loop-k.invariant in
    let n = c.wait_pair.ensures.len in
    let l = i.len in
    record {
      len = omega (arith, n, l);
      capacity = c.wait_pair.ensures.capacity ∙ i.capacity;
      lists = c.wait_pair.ensures.lists c.args.waits.now.items i.lists;
    }
