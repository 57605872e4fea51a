use Rattle.std.proofs.Common.{◌≡◌, inr, sym, subst, ◌∙◌}
use Rattle.fo_image.specs.declared.types.Pointer.TheVariants.{Local}
use Rattle.test_blocks.specs.Silent.{IsOver}
use Rattle.test_blocks.proofs.silent.CarelessBlocks.origin_with.Goals as goal

pub returns-then-is_top : goal.returns-then-is_top
returns-then-is_top c =
    let top = c.is_top.ensures.0 c.if-is_top.true in
    let leads = sym c.target.ensures ∙ c.in-Local.is in
    record {
      raised = λ x _ e. inr (top, (c.in-Local.below, leads, (c.origin_over.ensures x).0 e));
      raises = λ b x _ to over.
          let both : Local b ≡ Local c.in-Local.below = sym to ∙ leads in
          let same : b ≡ c.in-Local.below = cc in
          (c.origin_over.ensures x).1 (subst (λ n. IsOver c.args.self.now.blocks.items n x) same over);
      still = λ x h. absurd (top.0.0.1 x h);
    }
