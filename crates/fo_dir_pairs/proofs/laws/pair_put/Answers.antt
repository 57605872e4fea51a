use Rattle.std.proofs.Common.{◌+◌, ◌*◌, ◌<◌, ℕ, ⊎_elim, sym, subst, arith}
use Rattle.fo_image.specs.declared.types.Kind.{Kind}
use Rattle.fo_crash.specs.Names.{IsInUse}
use Rattle.fo_ports.specs.Blocks.{slot_count}
use Rattle.fo_dir_put.specs.Puts.{IsOwnedEntries}
use Rattle.fo_dir_put.proofs.Nothing.{free_is_empty}
use Rattle.fo_dir_pairs.specs.Pairs.{PairsStand}
use Rattle.fo_dir_pairs.proofs.Finding.{HasWays}
use Rattle.fo_dir_pairs.proofs.Traces.{IsFree, pair_stands}
use Rattle.fo_dir_pairs.proofs.Settled.{lazily}
use Rattle.fo_dir_pairs.proofs.laws.pair_put.Given as given
use Rattle.fo_dir_pairs.proofs.laws.pair_put.Goals as goal

-- a slot that nobody uses leads nowhere
free_slot : (g : given.Over) (b : _) (at j : ℕ) → j < 204 → IsOwnedEntries (g.B.Blocks.state b) at → ((n : ℕ) → IsInUse (((g.B.Blocks.state b).now at).slot j) n → ⊥) → IsFree (g.B.Blocks.state b).now at j
free_slot g b at j few owned unused =
    let s = g.B.Blocks.state b in
    let within = subst (λ (k : Kind). j < slot_count k) (sym owned.leaf_kind) few in
    record { unused = unused; bare = (free_is_empty (s.label at).kind j ((s.now at).slot j) owned.leaf_kind (g.met.B.Blocks.spelled b at j owned.is_pinned within) unused).0 }

ways : (g : given.Over) (b : _) → (g.B.Blocks.state b).tells → HasWays (g.B.Blocks.state b)
ways g b told = record {
  top = (g.met.B.Blocks.active b).0;
  one_spot = g.met.B.Blocks.one_spot b;
  present = g.met.B.Blocks.present b told;
  super_at = g.met.B.Blocks.super_stands b told;
  placed = λ image is. g.met.B.Blocks.placed b image is;
  few = λ image is. g.met.B.Blocks.few b image is;
}

pub returns : goal.returns
returns g c =
    let before = c.args.before.now in
    let r = c.requires in
    let s = g.B.Blocks.state before in
    let v = g.B.Blocks.state c.args.after.now in
    let within = r.within in
    let by : s.tells → PairsStand v = λ told. pair_stands s c.args.entries c.args.p c.args.first c.args.second (free_slot g before c.args.entries (2 * c.args.p) (omega (arith, within)) r.owned r.first_unused.free)
    (free_slot g before c.args.entries (2 * c.args.p + 1) (omega (arith, within)) r.owned r.second_unused.free) r.new.0.empty r.new.1.empty r.plain (ways g before told) (r.owned.linked told) (r.named told) r.unseen r.stand v r.puts r.images in
    lazily v (λ image is. ⊎_elim
    (λ mid. ⊎_elim (λ was. by (g.met.B.Blocks.told before image was)) (λ h. by (g.met.B.Blocks.told before _ h.1)) mid)
    (λ k. ⊎_elim (λ was. by (g.met.B.Blocks.told before _ was)) (λ h. by (g.met.B.Blocks.told before _ h.1)) k.1)
    (r.images.each image is))
