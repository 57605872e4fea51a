use Rattle.std.proofs.Common.{◌≡◌, ◌<◌, ℕ, List, true, vec_len, vec_capacity}
use Rattle.fo_image.specs.declared.types.Pointer.{Pointer}
use Rattle.fo_image.specs.declared.types.Pointer.TheVariants.{Local}
use Rattle.fo_buffers.specs.of_crash.Images.{target}
use Rattle.fo_labels.specs.Region.{Region}
use Rattle.fo_buffers.specs.of_slots.Read.{read}
use Rattle.fo_facts.specs.declared.fact.Fact.{Fact}
use Rattle.fo_facts.specs.Known.{fact_at}
use Rattle.fo_linking.specs.Joined.{IsReached}
use Rattle.fo_linking.specs.Steps.{Grows, IsAble, Reaches}
use Rattle.fo_linking.proofs.linking.link_slots.Given as goal

abbrev pub invariant-loop-j : goal.invariant-loop-j
invariant-loop-j l = record {
  able : IsAble l.facts l.order (vec_len l.links) (vec_capacity l.links);
  capacity : vec_capacity l.links ≡ vec_capacity l.fn.links;
  linked : (k c : ℕ) → k < l.j → target ((read l.kind l.bytes).slot k) ≡ Local c → (fact_at l.facts c).linked ≡ true;
  grows : Grows l.buffers l.fn.facts l.facts l.fn.order l.order l.fn.links.items l.links.items;
  only : (region : Region) (old : List Fact) (to : Pointer) → ((j c : ℕ) → target ((read l.kind l.bytes).slot j) ≡ Local c → IsReached l.buffers region old to c) → Reaches l.buffers region to old l.fn.facts l.fn.links.items → Reaches l.buffers region to old l.facts l.links.items;
}
