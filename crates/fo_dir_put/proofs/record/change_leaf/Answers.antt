use Rattle.std.proofs.Common.{ℕ, inl, ⊎_elim, sym, ◌∙◌, subst, arith}
use Rattle.std.proofs.lemmas.Bool.{cases_eq}
use Rattle.fo_crash.specs.Images.{Image}
use Rattle.fo_crash.specs.Steps.{AddsBytes, PutsBytes}
use Rattle.fo_crash.specs.Names.{SameUse}
use Rattle.fo_crash.proofs.Names.{leaf_put}
use Rattle.fo_ports.specs.Blocks.{IsFormed}
use Rattle.fo_dir_put.specs.Names.{ListsIn, MayStand}
use Rattle.fo_dir_put.proofs.Calms.{bytes_calm}
use Rattle.fo_dir_put.proofs.Leaves.{leaf_long, whole_put, leaf_formed, bytes_beside}
use Rattle.fo_dir_put.proofs.Aparts.{bytes_apart, bytes_rest}
use Rattle.fo_dir_put.specs.Differ.{MayName}
use Rattle.fo_dir_put.specs.Paired.{AllPaired}
use Rattle.fo_dir_put.specs.Once.{MayComeOnce}
use Rattle.fo_dir_put.proofs.Once.{bytes_once}
use Rattle.fo_dir_put.proofs.Named.{differ_put}
use Rattle.fo_dir_put.proofs.Paired.{bytes_paired, bytes_others}
use Rattle.fo_dir_put.proofs.record.change_leaf.Goals as goal
use Rattle.fo_dirties.proofs.Putting.{dirties_calm}

pub put_bytes-requires-clause-within : goal.put_bytes-requires-clause-within
put_bytes-requires-clause-within g c =
    let long = leaf_long c.requires.bytes in
    let same = c.requires.owned.whole in
    omega (arith, long, same)

pub put_bytes-requires-clause-formed : goal.put_bytes-requires-clause-formed
put_bytes-requires-clause-formed g c = λ told p stands.
    let s = g.B.Blocks.state c.args.on.now in
    let kind = sym (g.met.B.Blocks.labelled c.args.on.now c.args.leaf p told (c.requires.owned.other told) stands).1 ∙ c.requires.owned.leaf_kind in
    subst (λ xs. IsFormed p.kind p.rank xs) (sym (whole_put c.args.bytes.now ((s.now c.args.leaf).bytes) (leaf_long c.requires.bytes) c.requires.owned.whole))
    (leaf_formed p.kind p.rank c.args.bytes.now kind c.requires.bytes)

pub returns-clause-puts : goal.returns-clause-puts
returns-clause-puts g c =
    let s = g.B.Blocks.state c.args.on.now in
    let v = g.B.Blocks.state c.put_bytes.new.self in
    subst (λ xs. PutsBytes c.args.leaf xs s.now v.now) (whole_put c.args.bytes.now ((s.now c.args.leaf).bytes) (leaf_long c.requires.bytes) c.requires.owned.whole) c.put_bytes.ensures.now

pub returns-clause-fit : goal.returns-clause-fit
returns-clause-fit g c = λ n entries kept all.
    let s = g.B.Blocks.state c.args.on.now in
    let v = g.B.Blocks.state c.put_bytes.new.self in
    let whole = whole_put c.args.bytes.now ((s.now c.args.leaf).bytes) (leaf_long c.requires.bytes) c.requires.owned.whole in
    let adds = subst (λ xs. AddsBytes s.now c.args.leaf xs (λ (image : Image). (on j : ℕ) → s.waits c.args.leaf on j → (s.clearing on j → ⊥) → SameUse ((image on).slot j) ((s.now on).slot j)) s.may_leave v.may_leave) whole c.put_bytes.ensures.images in
    record { are = leaf_put (ListsIn n) c.args.leaf entries {waits = λ j. ⊥} all.are (bytes_beside adds (λ image h j w. absurd w)) (λ j g' lists. inl (kept.each j g' lists)) }

pub returns-clause-calm : goal.returns-clause-calm
returns-clause-calm g c = bytes_calm (g.met.B.Blocks.keeps_all c.args.on.now c.put_bytes.new.self c.put_bytes.ensures.keeps) c.put_bytes.ensures.calm c.put_bytes.ensures.now.slots

pub returns-clause-apart : goal.returns-clause-apart
returns-clause-apart g c = λ b differs may all.
    let s = g.B.Blocks.state c.args.on.now in
    let whole = whole_put c.args.bytes.now ((s.now c.args.leaf).bytes) (leaf_long c.requires.bytes) c.requires.owned.whole in
    bytes_apart differs all c.put_bytes.ensures.images (subst (λ xs. MayStand b xs ((s.now c.args.leaf).bytes) s.may_leave) (sym whole) may)

pub returns-clause-others : goal.returns-clause-others
returns-clause-others g c = bytes_rest c.put_bytes.ensures.images

pub returns-clause-named : goal.returns-clause-named
returns-clause-named g c = λ leaves may all.
    let s = g.B.Blocks.state c.args.on.now in
    let whole = whole_put c.args.bytes.now ((s.now c.args.leaf).bytes) (leaf_long c.requires.bytes) c.requires.owned.whole in
    differ_put c.put_bytes.ensures.images (subst (λ xs. MayName leaves c.args.leaf xs ((s.now c.args.leaf).bytes) s.may_leave) (sym whole) may) all

pub returns-clause-paired : goal.returns-clause-paired
returns-clause-paired g c = λ n a e stood all.
    let s = g.B.Blocks.state c.args.on.now in
    let v = g.B.Blocks.state c.put_bytes.new.self in
    let whole = whole_put c.args.bytes.now ((s.now c.args.leaf).bytes) (leaf_long c.requires.bytes) c.requires.owned.whole in
    let adds = subst (λ xs. AddsBytes s.now c.args.leaf xs (λ (image : Image). (on j : ℕ) → s.waits c.args.leaf on j → (s.clearing on j → ⊥) → SameUse ((image on).slot j) ((s.now on).slot j)) s.may_leave v.may_leave) whole c.put_bytes.ensures.images in
    ⊎_elim
    (λ is. subst (λ x. AllPaired n x e v) (sym is) (bytes_paired {old = s} {new = v} {e = e} adds c.put_bytes.ensures.now.slots (λ r has slot. inl ((stood is).each r has slot)) (subst (λ x. AllPaired n x e s) is all)))
    (λ ne. bytes_others {old = s} {new = v} ne adds c.put_bytes.ensures.now.slots all)
    (cases_eq a c.args.leaf)

pub returns-clause-queues : goal.returns-clause-queues
returns-clause-queues g c = record { queued = c.put_bytes.ensures.calm.queued; no_wait = c.put_bytes.ensures.no_wait; newborn = λ b h. c.put_bytes.ensures.calm.frame.stays.newborn b (λ n. n) h }

pub returns-clause-dirties : goal.returns-clause-dirties
returns-clause-dirties g c = dirties_calm c.args.leaf (g.met.B.Blocks.keeps_all c.args.on.now c.put_bytes.new.self c.put_bytes.ensures.keeps) c.put_bytes.ensures.calm

pub returns-clause-once : goal.returns-clause-once
returns-clause-once g c = λ may once.
    let on = c.args.on.now in
    let s = g.B.Blocks.state on in
    let whole = whole_put c.args.bytes.now ((s.now c.args.leaf).bytes) (leaf_long c.requires.bytes) c.requires.owned.whole in
    bytes_once c.put_bytes.ensures.images (subst (λ xs. MayComeOnce c.args.leaf xs ((s.now c.args.leaf).bytes) s.may_leave) (sym whole) may) (g.met.B.Blocks.active on).0 (g.met.B.Blocks.one_spot on) once
