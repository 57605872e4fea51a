-- A cache in which nothing is held yet keeps what it has to.
use Rattle.std.proofs.Common.{◌≡◌, ℕ, ◌*◌, ◌<◌, ◌^◌, ◌-◌, cond, List, [], length, replicate, count_by, Some, None, sym, ap, ◌∙◌, arith}
use Rattle.std.specs.FinMap.{get-empty}
use Rattle.std.specs.Ordering.{nat_cmp}
use Rattle.std.proofs.lemmas.List.{length-replicate}
use Rattle.std.proofs.lemmas.List.Folds.{sum_by-replicate}
use Rattle.fo_image.specs.Place.{first_data}
use Rattle.fo_buffers.specs.declared.block.Buffer.{Buffer}
use Rattle.fo_buffers.specs.Held.{held_at}
use Rattle.fo_order.specs.Flags.{quiet}
use Rattle.fo_order.specs.Keeps.{Turns}
use Rattle.fo_labels.specs.Region.{Region}
use Rattle.fo_facts.specs.declared.fact.Fact.{Fact}
use Rattle.fo_facts.specs.Known.{no_fact}
use Rattle.fo_facts.specs.Counts.{owes}
use Rattle.fo_mind.specs.Parts.{count_of}
use Rattle.fo_mind.specs.Opened.{no_buffers, no_turns}
use Rattle.fo_mind.specs.Sound.{Placed, Holding, Waiting, Clearable, Owing, Roomy}

none_some : {A : Type 0} (x : Buffer) → None ≡ Some x → A
none_some x e = cc

pub none : (q : ℕ) → held_at no_buffers q ≡ None
none q = get-empty nat_cmp q

pub placed_opened : (r : Region) (t : Turns) (fs : List Fact) (first n : ℕ) → first ≡ r.first → n ≡ count_of r → t ≡ no_turns n → fs ≡ replicate n no_fact → r.first ≡ first_data (count_of r) → count_of r < 2 ^ 32 - 1 → Placed r t fs first n
placed_opened r t fs first n e1 e2 et ef place small = record {
  is_first = sym e1;
  is_count = sym e2;
  is_place = e1 ∙ place ∙ ap first_data (sym e2);
  begins = omega (arith, e1, place);
  small = omega (arith, e2, small);
  flag_count = ap (λ (x : Turns). length x.flags) et ∙ length-replicate n quiet;
  fact_count = ap length ef ∙ length-replicate n no_fact;
}

pub holding_opened : (low first count : ℕ) (r : Region) → Holding low first count r no_buffers
holding_opened low first count r = record {
  block = λ b x is. none_some x (sym (none b) ∙ is);
  good = λ b x is. none_some x (sym (none b) ∙ is);
  kept = λ b x is. none_some x (sym (none b) ∙ is);
}

pub waiting_opened : (r : Region) → Waiting r no_buffers []
waiting_opened r = record { used = λ a on k w. absurd w; within = λ a on k w. absurd w }

pub clearable_opened : (r : Region) (low high : ℕ) → Clearable r low high []
clearable_opened r low high = record { each = λ b j w. absurd w; kept = λ b j w. absurd w; within = λ b j w. absurd w }

pub owing_opened : (n : ℕ) → Owing no_buffers (no_turns n) (replicate n no_fact)
owing_opened n = record { each = λ b x is. none_some x (sym (none b) ∙ is) }

pub roomy_opened : (r : Region) (n low : ℕ) → Roomy no_buffers (no_turns n) r (replicate n no_fact) low 0 0 0
roomy_opened r n low =
    let o : count_by owes (replicate n no_fact) ≡ n * 0 = sum_by-replicate (λ (f : Fact). cond (owes f) 1 0) n no_fact in
    record { buffer_room = omega arith; turn_room = omega (arith, o); usable = omega arith }
