use Rattle.std.proofs.Common.{◌≡◌, ◌≤◌, ◌-◌, List, length, vec_len, vec_capacity}
use Rattle.fo_image.specs.declared.types.Pointer.{Pointer}
use Rattle.fo_facts.specs.declared.fact.Fact.{Fact}
use Rattle.fo_linking.specs.Steps.{Grows, IsAble, Looks, Reaches}
use Rattle.fo_linking.proofs.linking.link_listed.Given as goal

abbrev pub invariant-loop-done : goal.invariant-loop-done
invariant-loop-done l = record {
  able : IsAble l.facts l.order (vec_len l.links) (vec_capacity l.links);
  capacity : vec_capacity l.links ≡ vec_capacity l.fn.links;
  within : l.done ≤ length l.links.items;
  looks : (old : List Fact) → Looks l.buffers l.labels old l.fn.facts l.fn.links.items 0 → Looks l.buffers l.labels old l.facts l.links.items l.done;
  grows : Grows l.buffers l.fn.facts l.facts l.fn.order l.order l.fn.links.items l.links.items;
  only : (old : List Fact) (to : Pointer) → Reaches l.buffers l.labels to old l.fn.facts l.fn.links.items → Reaches l.buffers l.labels to old l.facts l.links.items;
}

abbrev pub decreases-loop-done : goal.decreases-loop-done
decreases-loop-done l = vec_capacity l.links - l.done
