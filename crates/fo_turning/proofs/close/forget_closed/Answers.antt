use Rattle.fo_turning.proofs.close.forget_closed.Goals as goal

pub forget_clean-requires : goal.forget_clean-requires
forget_clean-requires c = c.requires c.in-Closed.at c.in-Closed.is
