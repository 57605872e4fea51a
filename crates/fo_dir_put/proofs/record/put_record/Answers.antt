use Rattle.std.proofs.Common.{◌+◌, ◌*◌, ℕ, length, List, ⊎_elim, sym, ◌∙◌, ap, subst, arith}
use Rattle.std.proofs.lemmas.Bool.{cases_eq}
use Rattle.fo_image.specs.declared.types.Label.{Label}
use Rattle.fo_crash.specs.Images.{Image}
use Rattle.fo_crash.specs.Steps.{AddsBytes}
use Rattle.fo_crash.specs.Names.{SameUse}
use Rattle.fo_crash.proofs.Names.{leaf_put}
use Rattle.fo_ports.specs.Blocks.{IsFormed}
use Rattle.fo_dir_put.specs.Names.{ListsIn, MayStand}
use Rattle.fo_dir_put.proofs.Calms.{calm_joins, bytes_calm}
use Rattle.fo_dir_put.proofs.Leaves.{leaf_long, whole_put, leaf_formed, bytes_beside, still_all, puts_later, backed_later}
use Rattle.fo_dir_put.proofs.Aparts.{nothing_shows, shows_apart, bytes_apart, bytes_rest, rest_later, may_later}
use Rattle.fo_ports.specs.State.{WaitsInUse}
use Rattle.fo_dir_put.specs.Differ.{MayName}
use Rattle.fo_dir_put.specs.Paired.{AllPaired}
use Rattle.fo_dir_put.specs.Once.{MayComeOnce}
use Rattle.fo_dir_put.proofs.Once.{bytes_once, shows_once}
use Rattle.fo_dir_put.proofs.Finds.{nothing_finds, finds_shows, finds_come}
use Rattle.fo_dir_put.proofs.Named.{differ_put, differ_shows, name_later}
use Rattle.fo_dir_put.proofs.Paired.{bytes_paired, bytes_others, still_paired, waits_back}
use Rattle.fo_dir_put.proofs.Spared.{is_there}
use Rattle.fo_dir_put.proofs.record.put_record.Goals as goal
use Rattle.fo_dirties.proofs.Putting.{dirties_wait, dirties_calm}
use Rattle.fo_dirties.proofs.Adding.{dirties_after}

pub put_bytes-requires-clause-within : goal.put_bytes-requires-clause-within
put_bytes-requires-clause-within g c =
    let long = leaf_long c.requires.bytes in
    let same = ap (λ (xs : List ℕ). length xs) ((c.wait_for.ensures.now.each c.args.leaf).bytes) ∙ c.requires.owned.whole in
    omega (arith, long, same)

pub put_bytes-requires-clause-formed : goal.put_bytes-requires-clause-formed
put_bytes-requires-clause-formed g c = λ told p stands.
    let before = (g.met.B.Blocks.keeps_all c.args.on.now c.wait_for.new.self c.wait_for.ensures.keeps).still_tells.0 told in
    let u = g.B.Blocks.state c.wait_for.new.self in
    let kind = sym (g.met.B.Blocks.labelled c.wait_for.new.self c.args.leaf p told (c.requires.owned.other before) stands).1 ∙ ap (λ (l : Label). l.kind) (c.wait_for.ensures.calm.frame.stays.labels c.args.leaf (λ n. n)) ∙ c.requires.owned.leaf_kind in
    let long = leaf_long c.requires.bytes in
    let same = ap (λ (xs : List ℕ). length xs) ((c.wait_for.ensures.now.each c.args.leaf).bytes) ∙ c.requires.owned.whole in
    subst (λ xs. IsFormed p.kind p.rank xs) (sym (whole_put c.args.bytes.now ((u.now c.args.leaf).bytes) long same))
    (leaf_formed p.kind p.rank c.args.bytes.now kind c.requires.bytes)

pub returns-clause-puts : goal.returns-clause-puts
returns-clause-puts g c =
    let u = g.B.Blocks.state c.wait_for.new.self in
    let long = leaf_long c.requires.bytes in
    let same = ap (λ (xs : List ℕ). length xs) ((c.wait_for.ensures.now.each c.args.leaf).bytes) ∙ c.requires.owned.whole in
    puts_later c.wait_for.ensures.now c.put_bytes.ensures.now (whole_put c.args.bytes.now ((u.now c.args.leaf).bytes) long same)

pub returns-clause-fit : goal.returns-clause-fit
returns-clause-fit g c = λ n backed all.
    let s = g.B.Blocks.state c.args.on.now in
    let u = g.B.Blocks.state c.wait_for.new.self in
    let v = g.B.Blocks.state c.put_bytes.new.self in
    let long = leaf_long c.requires.bytes in
    let same = ap (λ (xs : List ℕ). length xs) ((c.wait_for.ensures.now.each c.args.leaf).bytes) ∙ c.requires.owned.whole in
    let whole = whole_put c.args.bytes.now ((u.now c.args.leaf).bytes) long same in
    let adds = subst (λ xs. AddsBytes u.now c.args.leaf xs (λ (image : Image). (on j : ℕ) → u.waits c.args.leaf on j → (u.clearing on j → ⊥) → SameUse ((image on).slot j) ((u.now on).slot j)) u.may_leave v.may_leave) whole c.put_bytes.ensures.images in
    record {
      are = leaf_put (ListsIn n) c.args.leaf c.args.entries {waits = λ j. u.waits c.args.leaf c.args.entries j × (u.clearing c.args.entries j → ⊥)} (still_all all.are c.wait_for.ensures.images)
          (bytes_beside adds (λ image h j w. h c.args.entries j w.0 w.1))
          (backed_later backed c.wait_for.ensures.now c.wait_for.ensures.waits.0 (λ b j h. (c.wait_for.ensures.calm.order.clearing b j h).1));
    }

pub returns-clause-calm : goal.returns-clause-calm
returns-clause-calm g c =
    calm_joins (g.met.B.Blocks.keeps_all c.args.on.now c.wait_for.new.self c.wait_for.ensures.keeps)
    (bytes_calm (g.met.B.Blocks.keeps_all c.args.on.now c.wait_for.new.self c.wait_for.ensures.keeps) c.wait_for.ensures.calm (λ b j. (c.wait_for.ensures.now.each b).slots j))
    (bytes_calm (g.met.B.Blocks.keeps_all c.wait_for.new.self c.put_bytes.new.self c.put_bytes.ensures.keeps) c.put_bytes.ensures.calm c.put_bytes.ensures.now.slots)

pub returns-clause-apart : goal.returns-clause-apart
returns-clause-apart g c = λ b differs may all.
    let s = g.B.Blocks.state c.args.on.now in
    let u = g.B.Blocks.state c.wait_for.new.self in
    let long = leaf_long c.requires.bytes in
    let same = ap (λ (xs : List ℕ). length xs) ((c.wait_for.ensures.now.each c.args.leaf).bytes) ∙ c.requires.owned.whole in
    let whole = whole_put c.args.bytes.now ((u.now c.args.leaf).bytes) long same in
    let shows = nothing_shows c.wait_for.ensures.images in
    let later = may_later (sym ((c.wait_for.ensures.now.each c.args.leaf).bytes)) shows may in
    bytes_apart differs (shows_apart all shows) c.put_bytes.ensures.images (subst (λ xs. MayStand b xs ((u.now c.args.leaf).bytes) u.may_leave) (sym whole) later)

pub returns-clause-others : goal.returns-clause-others
returns-clause-others g c = rest_later c.wait_for.ensures.images (bytes_rest c.put_bytes.ensures.images)

pub returns-clause-named : goal.returns-clause-named
returns-clause-named g c = λ leaves may all.
    let u = g.B.Blocks.state c.wait_for.new.self in
    let long = leaf_long c.requires.bytes in
    let same = ap (λ (xs : List ℕ). length xs) ((c.wait_for.ensures.now.each c.args.leaf).bytes) ∙ c.requires.owned.whole in
    let whole = whole_put c.args.bytes.now ((u.now c.args.leaf).bytes) long same in
    let shows = nothing_shows c.wait_for.ensures.images in
    let later = name_later (sym ((c.wait_for.ensures.now.each c.args.leaf).bytes)) shows may in
    differ_put c.put_bytes.ensures.images (subst (λ xs. MayName leaves c.args.leaf xs ((u.now c.args.leaf).bytes) u.may_leave) (sym whole) later) (differ_shows shows all)

pub returns-clause-paired : goal.returns-clause-paired
returns-clause-paired g c = λ n a e backed all.
    let s = g.B.Blocks.state c.args.on.now in
    let u = g.B.Blocks.state c.wait_for.new.self in
    let v = g.B.Blocks.state c.put_bytes.new.self in
    let long = leaf_long c.requires.bytes in
    let same = ap (λ (xs : List ℕ). length xs) ((c.wait_for.ensures.now.each c.args.leaf).bytes) ∙ c.requires.owned.whole in
    let whole = whole_put c.args.bytes.now ((u.now c.args.leaf).bytes) long same in
    let adds = subst (λ xs. AddsBytes u.now c.args.leaf xs (λ (image : Image). (on j : ℕ) → u.waits c.args.leaf on j → (u.clearing on j → ⊥) → SameUse ((image on).slot j) ((u.now on).slot j)) u.may_leave v.may_leave) whole c.put_bytes.ensures.images in
    let mid : AllPaired n a e u = still_paired {old = s} {new = u} c.wait_for.ensures.images c.wait_for.ensures.now all in
    let used : (image : Image) → u.may_leave image → WaitsInUse u = λ image is. g.met.B.Blocks.clears_used c.wait_for.new.self (g.met.B.Blocks.told c.wait_for.new.self image is) in
    ⊎_elim
    (λ is. subst (λ x. AllPaired n x e v) (sym is) (bytes_paired {old = u} {new = v} {e = e} adds c.put_bytes.ensures.now.slots
    (waits_back {s = s} {u = u} (backed is) c.wait_for.ensures.waits.0 c.wait_for.ensures.now used (λ b j h. (c.wait_for.ensures.calm.order.clearing b j h).1)) (subst (λ x. AllPaired n x e u) is mid)))
    (λ ne. bytes_others {old = u} {new = v} ne adds c.put_bytes.ensures.now.slots mid)
    (cases_eq a c.args.leaf)

pub returns-clause-there : goal.returns-clause-there
returns-clause-there g c = λ told b sealed spared linked.
    let m = c.wait_for.new.self in
    let n = c.put_bytes.new.self in
    let first = g.met.B.Blocks.keeps_all c.args.on.now m c.wait_for.ensures.keeps in
    let last = g.met.B.Blocks.keeps_all m n c.put_bytes.ensures.keeps in
    let calm = calm_joins first (bytes_calm first c.wait_for.ensures.calm (λ x j. (c.wait_for.ensures.now.each x).slots j)) (bytes_calm last c.put_bytes.ensures.calm c.put_bytes.ensures.now.slots) in
    is_there (g.B.Blocks.state n) b (g.met.B.Blocks.active n).0 (g.met.B.Blocks.present n (last.still_tells.1 (first.still_tells.1 told))) (g.met.B.Blocks.one_spot n)
    (g.met.B.Blocks.in_place n b ((calm.marks b).1 sealed) (calm.spared b spared) (calm.linked told b linked))

pub returns-clause-waits : goal.returns-clause-waits
returns-clause-waits g c =
    let waits = c.wait_for.ensures.waits in
    let stays = c.put_bytes.ensures.calm.frame.stays in (
      record {
        each = λ k generation used settled. let w = waits.0.each k generation used settled in
            (stays.waits c.args.leaf c.args.entries (2 * k) (λ n. n) (λ n. n) (λ n. n) w.0, stays.waits c.args.leaf c.args.entries (2 * k + 1) (λ n. n) (λ n. n) (λ n. n) w.1);
      },
      record { each = λ a on j other h. waits.1.each a on j other (c.put_bytes.ensures.no_wait.each a on j (λ n. n) h) },
    )

pub returns-clause-dirties : goal.returns-clause-dirties
returns-clause-dirties g c =
    dirties_after (dirties_wait (g.met.B.Blocks.keeps_all c.args.on.now c.wait_for.new.self c.wait_for.ensures.keeps) c.wait_for.ensures.calm)
    (dirties_calm c.args.leaf (g.met.B.Blocks.keeps_all c.wait_for.new.self c.put_bytes.new.self c.put_bytes.ensures.keeps) c.put_bytes.ensures.calm)

pub returns-clause-once : goal.returns-clause-once
returns-clause-once g c = λ may once.
    let m = c.wait_for.new.self in
    let u = g.B.Blocks.state m in
    let same = (c.wait_for.ensures.now.each c.args.leaf).bytes in
    let whole = whole_put c.args.bytes.now ((u.now c.args.leaf).bytes) (leaf_long c.requires.bytes) (ap (λ (xs : List ℕ). length xs) same ∙ c.requires.owned.whole) in
    let later = finds_come same (nothing_finds c.wait_for.ensures.images) may in
    bytes_once c.put_bytes.ensures.images (subst (λ xs. MayComeOnce c.args.leaf xs ((u.now c.args.leaf).bytes) u.may_leave) (sym whole) later) (g.met.B.Blocks.active m).0 (g.met.B.Blocks.one_spot m) (shows_once (finds_shows (nothing_finds c.wait_for.ensures.images)) once)
