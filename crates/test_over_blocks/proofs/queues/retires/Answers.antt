use Rattle.test_over_blocks.proofs.queues.retires.Goals as goal

pub reserve-requires : goal.reserve-requires
reserve-requires g c = record { apart = λ _ y x h. absurd (c.retired.ensures.none y x h) }
