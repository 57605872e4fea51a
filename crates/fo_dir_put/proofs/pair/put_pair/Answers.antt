use Rattle.std.proofs.Common.{◌≢◌, ◌+◌, ◌*◌, ℕ, inl, inr, refl, subst, arith}
use Rattle.fo_crash.specs.declared.slot.Slot.{Slot}
use Rattle.fo_crash.specs.Names.{IsInUse}
use Rattle.fo_crash.proofs.Names.{free_entry_put}
use Rattle.fo_dir_put.specs.Names.{ListsIn}
use Rattle.fo_dir_put.proofs.Aparts.{shows_joins}
use Rattle.fo_dir_put.proofs.Finds.{slot_finds, finds_joins, finds_shows, finds_come}
use Rattle.fo_dir_put.proofs.Calms.{calm_joins}
use Rattle.fo_dir_put.specs.Paired.{AllPaired}
use Rattle.fo_dir_put.proofs.Paired.{free_paired}
use Rattle.fo_dir_put.proofs.pair.put_pair.Goals as goal
use Rattle.fo_dirties.proofs.Adding.{dirties_then, all_of}

differs : (p : ℕ) → 2 * p ≢ 2 * p + 1
differs p e = omega (arith, e)

pub returns-clause-fit : goal.returns-clause-fit
returns-clause-fit g c = λ n leaf all.
    let t = g.B.Blocks.state c.put_entry.new.on in
    let free : (generation : ℕ) → IsInUse ((t.now c.args.entries).slot (2 * c.args.p)) generation → ⊥ = λ generation used. c.requires.first_unused.free generation (subst (λ (x : Slot). IsInUse x generation) (c.put_entry.ensures.puts.others c.args.entries (2 * c.args.p) (inr (differs c.args.p))) used) in
    record { are = free_entry_put (ListsIn n) leaf c.args.entries (free_entry_put (ListsIn n) leaf c.args.entries all.are c.put_entry.ensures.images c.requires.second_unused.free) c.put_entry-2.ensures.images free }

pub returns-clause-shows : goal.returns-clause-shows
returns-clause-shows g c = shows_joins c.put_entry.ensures.shows c.put_entry-2.ensures.shows

pub returns-clause-paired : goal.returns-clause-paired
returns-clause-paired g c = λ n a e all.
    let s = g.B.Blocks.state c.args.on.now in
    let t = g.B.Blocks.state c.put_entry.new.on in
    let v = g.B.Blocks.state c.put_entry-2.new.on in
    let free : (generation : ℕ) → IsInUse ((t.now c.args.entries).slot (2 * c.args.p)) generation → ⊥ = λ generation used. c.requires.first_unused.free generation (subst (λ (x : Slot). IsInUse x generation) (c.put_entry.ensures.puts.others c.args.entries (2 * c.args.p) (inr (differs c.args.p))) used) in
    let mid : AllPaired n a e t = free_paired s t n a e c.args.p (inr refl) c.put_entry.ensures.images c.put_entry.ensures.puts c.requires.first_unused.free all in
    free_paired t v n a e c.args.p (inl refl) c.put_entry-2.ensures.images c.put_entry-2.ensures.puts free mid

pub returns-clause-calm : goal.returns-clause-calm
returns-clause-calm g c = calm_joins (g.met.B.Blocks.keeps_all c.args.on.now c.put_entry.new.on c.put_entry.ensures.keeps) c.put_entry.ensures.calm c.put_entry-2.ensures.calm

pub returns-clause-dirties : goal.returns-clause-dirties
returns-clause-dirties g c = dirties_then c.put_entry.ensures.dirties c.put_entry-2.ensures.dirties all_of

pub returns-clause-shown : goal.returns-clause-shown
returns-clause-shown g c = finds_shows (finds_joins (slot_finds c.requires.new.1.empty c.put_entry.ensures.images) (slot_finds c.requires.new.0.empty c.put_entry-2.ensures.images))

pub returns-clause-comes : goal.returns-clause-comes
returns-clause-comes g c = λ leaf bytes was may. finds_come refl (finds_joins (slot_finds c.requires.new.1.empty c.put_entry.ensures.images) (slot_finds c.requires.new.0.empty c.put_entry-2.ensures.images)) may
