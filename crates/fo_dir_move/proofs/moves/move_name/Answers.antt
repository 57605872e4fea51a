use Rattle.std.proofs.Common.{◌≡◌, ◌≢◌, ◌∙◌, ℕ, Contains, inl, inr, ⊎_elim, refl, sym, subst}
use Rattle.std.proofs.lemmas.Bool.{cases_eq}
use Rattle.fo_crash.specs.Images.{Image}
use Rattle.fo_dir_put.specs.Differ.{AreDistinct, AllDiffer}
use Rattle.fo_dir_put.specs.Paired.{AllPaired, ArePaired}
use Rattle.fo_dir_put.proofs.Named.{differ_shows}
use Rattle.fo_dir_move.proofs.Pairing.{slots_over, rests_paired, paired_later}
use Rattle.fo_dir_put.specs.Names.{AreBacked, MayStand}
use Rattle.fo_dir_put.proofs.Leaves.{leaf_long}
use Rattle.fo_dir_put.proofs.Aparts.{others_fit, others_apart, rest_but, nothing_shows, shows_apart, apart_back}
use Rattle.fo_dir_move.proofs.Settled.{ready_taken, settle_taken, fit_later, backs_later}
use Rattle.fo_dir_move.proofs.Aside.{kept_stands, moved_stands, settled_stands, back_stands, apart_settled}
use Rattle.fo_dir_put.specs.Once.{StandOnce, MayComeOnce}
use Rattle.fo_dir_put.proofs.Once.{shows_once}
use Rattle.fo_dir_put.proofs.Finds.{nothing_finds, finds_shows}
use Rattle.fo_dir_move.proofs.Once.{HasLaws, once_told, left_once, back_once, moved_once}
use Rattle.fo_dir_move.proofs.Alone.{moves_alone, ready_after, settled_but}
use Rattle.fo_dir_move.proofs.moves.move_name.Goals as goal
use Rattle.fo_dir_put.proofs.of_dirties.Adding.{dirties_quiet, dirties_more, dirties_then, cons_of, none_of, all_of, first_of, next_of}
use Rattle.fo_dir_put.proofs.of_dirties.Dirtied.{dirties_rests}

pub settle_between-requires-clause-ready : goal.settle_between-requires-clause-ready
settle_between-requires-clause-ready g c =
    ready_taken c.args.from c.args.to c.args.entries c.requires.differ (g.met.B.Blocks.active c.change_leaf.new.on).0 (g.met.B.Blocks.keeps_all c.args.on.now c.change_leaf.new.on c.change_leaf.ensures.keeps) c.change_leaf.ensures.calm c.change_leaf.ensures.puts (leaf_long c.requires.bytes.0) c.requires.ready

pub settle_between-requires-clause-may : goal.settle_between-requires-clause-may
settle_between-requires-clause-may g c = λ told.
    let all = g.met.B.Blocks.keeps_all c.args.on.now c.change_leaf.new.on c.change_leaf.ensures.keeps in
    settle_taken c.args.from c.args.to c.args.entries all c.change_leaf.ensures.calm c.change_leaf.ensures.puts (c.requires.may (all.still_tells.0 told))

pub returns-in-Ok-clause-moved : goal.returns-in-Ok-clause-moved
returns-in-Ok-clause-moved g c = record {
  from_is = c.put_record.ensures.puts.others c.args.from c.requires.differ ∙ c.settle_between.ensures.leaves.from_is ∙ c.change_leaf.ensures.puts.here;
  to_is = c.put_record.ensures.puts.here;
}

pub returns-in-Ok-clause-fit : goal.returns-in-Ok-clause-fit
returns-in-Ok-clause-fit g c = λ n may from to.
    let apart : c.args.to ≢ c.args.from = λ e. c.requires.differ (sym e) in
    let left = fit_later (c.change_leaf.ensures.fit n c.args.entries may.kept from) c.settle_between.ensures.images in
    let other = fit_later (others_fit apart to c.change_leaf.ensures.others) c.settle_between.ensures.images in
    let same = c.settle_between.ensures.leaves.to_is ∙ c.change_leaf.ensures.puts.others c.args.to apart in
    (others_fit c.requires.differ left c.put_record.ensures.others, c.put_record.ensures.fit n (backs_later may.put c.change_leaf.ensures.calm c.change_leaf.ensures.puts c.settle_between.ensures.entries same) other)

pub returns-in-Err-clause-stays : goal.returns-in-Err-clause-stays
returns-in-Err-clause-stays g c =
    let apart : c.args.to ≢ c.args.from = λ e. c.requires.differ (sym e) in record {
      from_is = c.put_record-in-Err.ensures.puts.here ∙ c.requires.back.1;
      to_is = c.put_record-in-Err.ensures.puts.others c.args.to apart ∙ c.settle_between.ensures.leaves.to_is ∙ c.change_leaf.ensures.puts.others c.args.to apart;
    }

pub returns-in-Err-clause-fit : goal.returns-in-Err-clause-fit
returns-in-Err-clause-fit g c = λ n may from to.
    let u = g.B.Blocks.state c.settle_between.new.on in
    let apart : c.args.to ≢ c.args.from = λ e. c.requires.differ (sym e) in
    let left = fit_later (c.change_leaf.ensures.fit n c.args.entries may.kept from) c.settle_between.ensures.images in
    let other = fit_later (others_fit apart to c.change_leaf.ensures.others) c.settle_between.ensures.images in
    let same = c.settle_between.ensures.leaves.from_is ∙ c.change_leaf.ensures.puts.here in
    let backed = backs_later may.back c.change_leaf.ensures.calm c.change_leaf.ensures.puts c.settle_between.ensures.entries same in
    (c.put_record-in-Err.ensures.fit n (subst (λ xs. AreBacked n c.args.from c.args.entries xs u) (sym c.requires.back.1) backed) left, others_fit apart other c.put_record-in-Err.ensures.others)

pub returns-in-Ok-clause-apart : goal.returns-in-Ok-clause-apart
returns-in-Ok-clause-apart g c = λ b not_from not_to keys one two.
    let u = g.B.Blocks.state c.settle_between.new.on in
    let differ : c.args.to ≢ c.args.from = λ e. c.requires.differ (sym e) in
    let images = c.settle_between.ensures.images in
    let rest = c.change_leaf.ensures.others in
    let same = c.settle_between.ensures.leaves.to_is ∙ c.change_leaf.ensures.puts.others c.args.to differ in
    let stands = moved_stands one (λ image is. g.met.B.Blocks.present c.args.on.now (g.met.B.Blocks.told c.args.on.now image is)) rest images not_from keys in
    let from_mid = shows_apart (c.change_leaf.ensures.apart b not_from (kept_stands keys) one) (nothing_shows images) in
    let to_mid = apart_settled differ not_from two rest images in
    (others_apart c.requires.differ not_to from_mid (rest_but c.put_record.ensures.others), c.put_record.ensures.apart b not_to (subst (λ xs. MayStand b c.args.with.now xs u.may_leave) (sym same) stands) to_mid)

pub returns-in-Ok-clause-between : goal.returns-in-Ok-clause-between
returns-in-Ok-clause-between g c = λ keys all.
    let u = g.B.Blocks.state c.settle_between.new.on in
    let differ : c.args.to ≢ c.args.from = λ e. c.requires.differ (sym e) in
    let same = c.settle_between.ensures.leaves.to_is ∙ c.change_leaf.ensures.puts.others c.args.to differ in
    let left = c.settle_between.ensures.leaves.from_is ∙ c.change_leaf.ensures.puts.here in
    let mid = shows_apart (c.change_leaf.ensures.apart c.args.to differ (kept_stands keys) all) (nothing_shows c.settle_between.ensures.images) in
    apart_back (c.put_record.ensures.apart c.args.from c.requires.differ (subst (λ xs. MayStand c.args.from c.args.with.now xs u.may_leave) (sym same) (settled_stands c.in-Ok.ensures.all left keys)) (apart_back mid))

pub returns-in-Err-clause-apart : goal.returns-in-Err-clause-apart
returns-in-Err-clause-apart g c = λ b not_from not_to keys one two.
    let u = g.B.Blocks.state c.settle_between.new.on in
    let differ : c.args.to ≢ c.args.from = λ e. c.requires.differ (sym e) in
    let images = c.settle_between.ensures.images in
    let rest = c.change_leaf.ensures.others in
    let stands = back_stands {left = (u.now c.args.from).bytes} one (λ image is. g.met.B.Blocks.present c.args.on.now (g.met.B.Blocks.told c.args.on.now image is)) rest images not_from in
    let from_mid = shows_apart (c.change_leaf.ensures.apart b not_from (kept_stands keys) one) (nothing_shows images) in
    let to_mid = apart_settled differ not_from two rest images in
    (c.put_record-in-Err.ensures.apart b not_from (subst (λ xs. MayStand b xs ((u.now c.args.from).bytes) u.may_leave) (sym c.requires.back.1) stands) from_mid, others_apart differ not_from to_mid (rest_but c.put_record-in-Err.ensures.others))

pub returns-in-Err-clause-between : goal.returns-in-Err-clause-between
returns-in-Err-clause-between g c = λ keys all.
    let u = g.B.Blocks.state c.settle_between.new.on in
    let differ : c.args.to ≢ c.args.from = λ e. c.requires.differ (sym e) in
    let images = c.settle_between.ensures.images in
    let rest = c.change_leaf.ensures.others in
    let stands = back_stands {left = (u.now c.args.from).bytes} all (λ image is. g.met.B.Blocks.present c.args.on.now (g.met.B.Blocks.told c.args.on.now image is)) rest images differ in
    let mid = shows_apart (c.change_leaf.ensures.apart c.args.to differ (kept_stands keys) all) (nothing_shows images) in
    c.put_record-in-Err.ensures.apart c.args.to differ (subst (λ xs. MayStand c.args.to xs ((u.now c.args.from).bytes) u.may_leave) (sym c.requires.back.1) stands) mid

pub returns-in-Ok-clause-alone : goal.returns-in-Ok-clause-alone
returns-in-Ok-clause-alone g c =
    let o = c.args.on.now in let a = c.change_leaf.new.on in let m = c.settle_between.new.on in
    let s = c.settle_between.ensures in
    moves_alone (g.met.B.Blocks.keeps_all o a c.change_leaf.ensures.keeps) c.change_leaf.ensures.calm c.change_leaf.ensures.puts s.rests s.known s.blocks
    (g.met.B.Blocks.keeps_all a m s.keeps) c.put_record.ensures.calm c.put_record.ensures.puts (inr refl)
    s.images c.change_leaf.ensures.others c.put_record.ensures.others (λ h. g.met.B.Blocks.one_stays a h) (λ told x ne r. (g.met.B.Blocks.live a x told ne r).2) s.left

pub returns-in-Ok-clause-ready : goal.returns-in-Ok-clause-ready
returns-in-Ok-clause-ready g c =
    ready_after c.args.from c.args.to c.args.entries (g.met.B.Blocks.active c.put_record.new.on).0 (g.met.B.Blocks.keeps_all c.settle_between.new.on c.put_record.new.on c.put_record.ensures.keeps) c.put_record.ensures.calm c.put_record.ensures.puts (leaf_long c.requires.bytes.1) c.settle_between.ensures.ready

pub returns-in-Ok-clause-settled : goal.returns-in-Ok-clause-settled
returns-in-Ok-clause-settled g c =
    let a = c.change_leaf.new.on in let m = c.settle_between.new.on in
    settled_but (g.met.B.Blocks.keeps_all m c.put_record.new.on c.put_record.ensures.keeps) c.put_record.ensures.calm c.put_record.ensures.puts c.put_record.ensures.others
    c.in-Ok.ensures.all c.in-Ok.ensures.none (λ told. c.in-Ok.ensures.sealed ((g.met.B.Blocks.keeps_all a m c.settle_between.ensures.keeps).still_tells.0 told))

pub returns-in-Err-clause-alone : goal.returns-in-Err-clause-alone
returns-in-Err-clause-alone g c =
    let o = c.args.on.now in let a = c.change_leaf.new.on in let m = c.settle_between.new.on in
    let s = c.settle_between.ensures in
    moves_alone (g.met.B.Blocks.keeps_all o a c.change_leaf.ensures.keeps) c.change_leaf.ensures.calm c.change_leaf.ensures.puts s.rests s.known s.blocks
    (g.met.B.Blocks.keeps_all a m s.keeps) c.put_record-in-Err.ensures.calm c.put_record-in-Err.ensures.puts (inl refl)
    s.images c.change_leaf.ensures.others c.put_record-in-Err.ensures.others (λ h. g.met.B.Blocks.one_stays a h) (λ told x ne r. (g.met.B.Blocks.live a x told ne r).2) s.left

pub returns-in-Err-clause-ready : goal.returns-in-Err-clause-ready
returns-in-Err-clause-ready g c =
    ready_after c.args.from c.args.to c.args.entries (g.met.B.Blocks.active c.put_record-in-Err.new.on).0 (g.met.B.Blocks.keeps_all c.settle_between.new.on c.put_record-in-Err.new.on c.put_record-in-Err.ensures.keeps) c.put_record-in-Err.ensures.calm c.put_record-in-Err.ensures.puts (leaf_long c.requires.back.0) c.settle_between.ensures.ready

pub returns-in-Ok-clause-named : goal.returns-in-Ok-clause-named
returns-in-Ok-clause-named g c = λ leaves in_from in_to keys first second all.
    let u = g.B.Blocks.state c.settle_between.new.on in
    let differ : c.args.to ≢ c.args.from = λ e. c.requires.differ (sym e) in
    let images = c.settle_between.ensures.images in
    let rest = c.change_leaf.ensures.others in
    let same = c.settle_between.ensures.leaves.to_is ∙ c.change_leaf.ensures.puts.others c.args.to differ in
    let left = c.settle_between.ensures.leaves.from_is ∙ c.change_leaf.ensures.puts.here in
    let mid : AllDiffer leaves u.may_leave = differ_shows (nothing_shows images) (c.change_leaf.ensures.named leaves (record { distinct = λ image is h. first; beside = λ b in_b ne. kept_stands keys }) all) in
    let stands : (b : ℕ) → Contains leaves b → MayStand b c.args.with.now ((g.B.Blocks.state c.args.on.now).now c.args.to).bytes u.may_leave = λ b in_b. ⊎_elim
    (λ e. subst (λ x. MayStand x c.args.with.now ((g.B.Blocks.state c.args.on.now).now c.args.to).bytes u.may_leave) (sym e) (settled_stands c.in-Ok.ensures.all left keys))
    (λ ne. moved_stands (all.between c.args.from b in_from in_b (λ e. ne (sym e))) (λ image is. g.met.B.Blocks.present c.args.on.now (g.met.B.Blocks.told c.args.on.now image is)) rest images ne keys)
    (cases_eq b c.args.from) in
    c.put_record.ensures.named leaves (record { distinct = λ image is h. second; beside = λ b in_b ne. subst (λ xs. MayStand b c.args.with.now xs u.may_leave) (sym same) (stands b in_b) }) mid

pub returns-in-Err-clause-named : goal.returns-in-Err-clause-named
returns-in-Err-clause-named g c = λ leaves in_from in_to keys first second all.
    let o = g.B.Blocks.state c.args.on.now in
    let u = g.B.Blocks.state c.settle_between.new.on in
    let images = c.settle_between.ensures.images in
    let rest = c.change_leaf.ensures.others in
    let present : (image : Image) → o.may_leave image → o.may_leave o.now = λ image is. g.met.B.Blocks.present c.args.on.now (g.met.B.Blocks.told c.args.on.now image is) in
    let mid : AllDiffer leaves u.may_leave = differ_shows (nothing_shows images) (c.change_leaf.ensures.named leaves (record { distinct = λ image is h. first; beside = λ b in_b ne. kept_stands keys }) all) in
    let distinct : (image : Image) → u.may_leave image → AreDistinct c.args.back.now = λ image is.
    let h = rest.each image (images.each image is) in subst AreDistinct (sym c.requires.back.1) (all.within c.args.from in_from o.now (present h.0 h.1)) in
    let stands : (b : ℕ) → Contains leaves b → b ≢ c.args.from → MayStand b c.args.back.now ((u.now c.args.from).bytes) u.may_leave = λ b in_b ne.
    subst (λ xs. MayStand b xs ((u.now c.args.from).bytes) u.may_leave) (sym c.requires.back.1) (back_stands {left = (u.now c.args.from).bytes} (all.between c.args.from b in_from in_b (λ e. ne (sym e))) present rest images ne) in
    c.put_record-in-Err.ensures.named leaves (record { distinct = λ image is h. distinct image is; beside = stands }) mid

pub returns-in-Ok-clause-paired : goal.returns-in-Ok-clause-paired
returns-in-Ok-clause-paired g c = λ n a e may all.
    let b = c.args.on.now in
    let o = g.B.Blocks.state b in
    let t = g.B.Blocks.state c.change_leaf.new.on in
    let u = g.B.Blocks.state c.settle_between.new.on in
    let s = c.settle_between.ensures in
    let k = c.change_leaf.ensures in
    let keeps = g.met.B.Blocks.keeps_all b c.change_leaf.new.on k.keeps in
    let differ : c.args.to ≢ c.args.from = λ e. c.requires.differ (sym e) in
    let told : (image : Image) → u.may_leave image → o.tells = λ image is. keeps.still_tells.0 (g.met.B.Blocks.told c.change_leaf.new.on image (s.images.each image is)) in
    let one : AllPaired n a e t = k.paired n a e may.kept all in
    let two : AllPaired n a e u = rests_paired {a = t} {m = u} s.images (λ image is. (s.rests.fills (keeps.still_tells.1 (told image is)), slots_over {o = o} {a = t} {m = u} e keeps k.calm k.puts s.rests s.known may.stays (told image is))) one in
    let same = s.leaves.to_is ∙ k.puts.others c.args.to differ in
    let slots : (j : ℕ) → (o.clearing c.args.entries j → ⊥) → ((u.now c.args.entries).slot j ≡ (o.now c.args.entries).slot j) × (u.clearing c.args.entries j → ⊥) = λ j free. let still = s.entries.each j (λ h. free (k.calm.order.clearing c.args.entries j h).1) in (still.0 ∙ k.puts.slots c.args.entries j, still.1) in
    c.put_record.ensures.paired n a e (λ is. paired_later {o = o} {m = u} (may.put is) same slots) two

pub returns-in-Err-clause-paired : goal.returns-in-Err-clause-paired
returns-in-Err-clause-paired g c = λ n a e may all.
    let b = c.args.on.now in
    let o = g.B.Blocks.state b in
    let t = g.B.Blocks.state c.change_leaf.new.on in
    let u = g.B.Blocks.state c.settle_between.new.on in
    let s = c.settle_between.ensures in
    let k = c.change_leaf.ensures in
    let keeps = g.met.B.Blocks.keeps_all b c.change_leaf.new.on k.keeps in
    let told : (image : Image) → u.may_leave image → o.tells = λ image is. keeps.still_tells.0 (g.met.B.Blocks.told c.change_leaf.new.on image (s.images.each image is)) in
    let one : AllPaired n a e t = k.paired n a e may.kept all in
    let two : AllPaired n a e u = rests_paired {a = t} {m = u} s.images (λ image is. (s.rests.fills (keeps.still_tells.1 (told image is)), slots_over {o = o} {a = t} {m = u} e keeps k.calm k.puts s.rests s.known may.stays (told image is))) one in
    let left = s.leaves.from_is ∙ k.puts.here in
    let slots : (j : ℕ) → (o.clearing c.args.entries j → ⊥) → ((u.now c.args.entries).slot j ≡ (o.now c.args.entries).slot j) × (u.clearing c.args.entries j → ⊥) = λ j free. let still = s.entries.each j (λ h. free (k.calm.order.clearing c.args.entries j h).1) in (still.0 ∙ k.puts.slots c.args.entries j, still.1) in
    c.put_record-in-Err.ensures.paired n a e (λ is. subst (λ xs. ArePaired n c.args.from e c.args.entries xs u) (sym c.requires.back.1) (paired_later {o = o} {m = u} (may.back is) left slots)) two

pub returns-in-Ok-clause-dirties : goal.returns-in-Ok-clause-dirties
returns-in-Ok-clause-dirties g c =
    let all = g.met.B.Blocks.keeps_all c.change_leaf.new.on c.settle_between.new.on c.settle_between.ensures.keeps in
    let settled = dirties_rests (g.B.Blocks.state c.change_leaf.new.on) (g.B.Blocks.state c.settle_between.new.on) all c.settle_between.ensures.rests in
    dirties_then (dirties_more (cons_of first_of none_of) (dirties_quiet c.change_leaf.ensures.dirties settled)) c.put_record.ensures.dirties (cons_of (next_of first_of) none_of)

pub returns-in-Err-clause-dirties : goal.returns-in-Err-clause-dirties
returns-in-Err-clause-dirties g c =
    let all = g.met.B.Blocks.keeps_all c.change_leaf.new.on c.settle_between.new.on c.settle_between.ensures.keeps in
    let settled = dirties_rests (g.B.Blocks.state c.change_leaf.new.on) (g.B.Blocks.state c.settle_between.new.on) all c.settle_between.ensures.rests in
    dirties_more (cons_of first_of none_of) (dirties_then (dirties_quiet c.change_leaf.ensures.dirties settled) c.put_record-in-Err.ensures.dirties all_of)

pub returns-in-Ok-clause-once : goal.returns-in-Ok-clause-once
returns-in-Ok-clause-once g c = λ beside keys first second once.
    let b = c.args.on.now in let t = c.change_leaf.new.on in let m = c.settle_between.new.on in let n = c.put_record.new.on in
    let o = g.B.Blocks.state b in
    let u = g.B.Blocks.state m in
    let s = c.settle_between.ensures in
    let before = g.met.B.Blocks.keeps_all b t c.change_leaf.ensures.keeps in
    let between = g.met.B.Blocks.keeps_all t m s.keeps in
    let after = g.met.B.Blocks.keeps_all m n c.put_record.ensures.keeps in
    let same = s.leaves.to_is ∙ c.change_leaf.ensures.puts.others c.args.to (λ e. c.requires.differ (sym e)) in
    let left = s.leaves.from_is ∙ c.change_leaf.ensures.puts.here in
    let mid : StandOnce u.may_leave = shows_once (finds_shows (nothing_finds s.images)) (c.change_leaf.ensures.once (left_once keys first) once) in
    once_told {told = u.tells} (λ image is. after.still_tells.0 (g.met.B.Blocks.told n image is)) (λ told.
    let was = before.still_tells.0 (between.still_tells.0 told) in
    let laws : HasLaws o = record {
      now = g.met.B.Blocks.present b was;
      top = (g.met.B.Blocks.active b).0;
      one_spot = g.met.B.Blocks.one_spot b;
      super_at = g.met.B.Blocks.super_stands b was;
      placed = λ image is. g.met.B.Blocks.placed b image is;
      few = λ image is. g.met.B.Blocks.few b image is;
    } in
    let may = moved_once laws once (beside was) c.change_leaf.ensures.others s.images c.in-Ok.ensures.all ((s.ready.from_place told).leaf_linked) left keys second in
    c.put_record.ensures.once (subst (λ xs. MayComeOnce c.args.to c.args.with.now xs u.may_leave) (sym same) may) mid)

pub returns-in-Err-clause-once : goal.returns-in-Err-clause-once
returns-in-Err-clause-once g c = λ beside keys first second once.
    let b = c.args.on.now in let t = c.change_leaf.new.on in let m = c.settle_between.new.on in let n = c.put_record-in-Err.new.on in
    let o = g.B.Blocks.state b in
    let u = g.B.Blocks.state m in
    let s = c.settle_between.ensures in
    let before = g.met.B.Blocks.keeps_all b t c.change_leaf.ensures.keeps in
    let between = g.met.B.Blocks.keeps_all t m s.keeps in
    let after = g.met.B.Blocks.keeps_all m n c.put_record-in-Err.ensures.keeps in
    let mid : StandOnce u.may_leave = shows_once (finds_shows (nothing_finds s.images)) (c.change_leaf.ensures.once (left_once keys first) once) in
    once_told {told = u.tells} (λ image is. after.still_tells.0 (g.met.B.Blocks.told n image is)) (λ told.
    let was = before.still_tells.0 (between.still_tells.0 told) in
    let laws : HasLaws o = record {
      now = g.met.B.Blocks.present b was;
      top = (g.met.B.Blocks.active b).0;
      one_spot = g.met.B.Blocks.one_spot b;
      super_at = g.met.B.Blocks.super_stands b was;
      placed = λ image is. g.met.B.Blocks.placed b image is;
      few = λ image is. g.met.B.Blocks.few b image is;
    } in
    c.put_record-in-Err.ensures.once (back_once laws once (beside was) c.change_leaf.ensures.others s.images c.requires.back.1) mid)
