use Rattle.std.proofs.Common.{◌≡◌, ◌+◌, ◌*◌, ◌<◌, ◌≤◌, ℕ, length, sym, ◌∙◌, ap, subst, arith}
use Rattle.std.specs.Vec.{vec_len, vec_capacity}
use Rattle.fo_ports_plain.specs.declared.block.PlainBlock.{PlainBlock}
use Rattle.fo_ports_plain.specs.declared.wait.Wait.{Wait}
use Rattle.fo_ports_plain.specs.Plain.{block_at, slot_of, is_active, pair_of}
use Rattle.fo_ports_plain.specs.Sound.{Waiting}
use Rattle.fo_ports_plain.proofs.Lists.{block_is}
use Rattle.fo_ports_plain.proofs.Waiting.{waiting_more}
use Rattle.fo_ports_plain.proofs.plain.PlainBlocks.add_wait.Goals as goal

pub invariant_of-self-clause-waiting : goal.invariant_of-self-clause-waiting
invariant_of-self-clause-waiting c =
    let self = c.args.self.now in
    let blocks = self.blocks.items in
    let spared : self.made + self.spare ≤ length blocks = self.spared in
    let lt : c.args.on < self.made = c.requires.made in
    let is = block_is blocks c.args.on c.index.result.now (omega (arith, spared, lt)) c.index.ensures in
    let w : Wait = record { at = c.args.at; on = c.args.on; pairs = c.used_pairs-pairs.result } in
    let pairs : (k : ℕ) → pair_of w k ≡ is_active (slot_of (block_at blocks c.args.on) (2 * k)) = λ k. c.used_pairs-pairs.ensures k ∙ ap (λ (y : PlainBlock). is_active (slot_of y (2 * k))) is in
    subst (λ ws. Waiting blocks self.made ws) (sym c.push_reserved.ensures.items) (waiting_more self.waits.items w self.waiting lt c.requires.entries pairs)

pub invariant_of-self-clause-roomy : goal.invariant_of-self-clause-roomy
invariant_of-self-clause-roomy c =
    let roomy : vec_len c.args.self.now.waits + c.args.self.now.room ≤ vec_capacity c.args.self.now.waits = c.args.self.now.roomy in
    let len = c.push_reserved.ensures.len in
    let capacity = c.push_reserved.ensures.capacity in
    let some : 0 < c.args.self.now.room = c.requires.room in
    omega (arith, roomy, len, capacity, some)
