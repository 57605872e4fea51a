use Rattle.std.proofs.Common.{◌≡◌, ◌*◌, take, drop, inr, ⊎_elim, refl, sym, ap, ◌∙◌, subst, arith}
use Rattle.std.proofs.lemmas.Bool.{cases_lt}
use Rattle.fo_image.specs.declared.types.Pointer.{Pointer}
use Rattle.fo_image.specs.Format.{PointerHolds}
use Rattle.fo_crash.specs.declared.slot.Slot.TheVariants.{Pointer as To}
use Rattle.fo_tree_look.specs.of_tree_read.Tree.{score_of}
use Rattle.fo_tree_own.proofs.Filling.{score_holds, score_leads, filled_none, filled_joins}
use Rattle.fo_tree_own.proofs.fill.fill_slots.Goals as goal

pub loop-i-init : goal.loop-i-init
loop-i-init g c =
    record {
      filled = filled_none c.args.at (g.B.Blocks.state c.args.on.now);
      bare = λ kind was. was;
      keeps = g.met.B.Blocks.keeps_at_once c.args.on.now;
      content = λ j lt. absurd (omega (arith, lt));
      bytes = refl;
    }

pub put_score-requires-clause-bare : goal.put_score-requires-clause-bare
put_score-requires-clause-bare g c =
    (c.requires.bare.0, c.requires.bare.1, c.loop-i.invariant.bare c.requires.bare.0 c.requires.bare.2)

pub put_score-requires-clause-holds : goal.put_score-requires-clause-holds
put_score-requires-clause-holds g c =
    subst (λ (p : Pointer). PointerHolds p) (sym c.score_in.ensures) (score_holds (take 20 (drop (20 * c.loop-i.i) c.args.bytes.now)))

pub put_score-requires-clause-none : goal.put_score-requires-clause-none
put_score-requires-clause-none g c =
    λ b e. score_leads (take 20 (drop (20 * c.loop-i.i) c.args.bytes.now)) b (sym c.score_in.ensures ∙ e)

pub loop-i-preserved : goal.loop-i-preserved
loop-i-preserved g c =
    let i = c.loop-i.invariant in
    let on = c.args.on.now in
    let mid = c.loop-i.on in
    let end = c.put_score.new.on in
    let p = c.put_score.ensures in
    let k = c.loop-i.i in
    let at = c.args.at in
    let all = g.met.B.Blocks.keeps_all on mid i.keeps in
    let u = g.B.Blocks.state end in
    record {
      filled = filled_joins all i.filled p.filled;
      bare = λ kind was. p.bare kind (i.bare kind was);
      keeps = g.met.B.Blocks.keeps_joins on mid end i.keeps p.keeps;
      content = λ j lt. ⊎_elim
          (λ below. p.puts.others at j (inr (λ e. absurd (omega (arith, below, e)))) ∙ i.content j below)
          (λ above.
          let same : j ≡ k = omega (arith, lt, above) in
          ap (λ x. (u.now at).slot x) same ∙ p.puts.here ∙ ap (λ (q : Pointer). To q) c.score_in.ensures ∙ sym (ap (λ x. To (score_of (take 20 (drop (20 * x) c.args.bytes.now)))) same))
          (cases_lt j k);
      bytes = p.puts.bytes at ∙ i.bytes;
    }

pub returns-clause-content : goal.returns-clause-content
returns-clause-content g c =
    λ j lt. c.loop-i.invariant.content j (omega (arith, lt))
