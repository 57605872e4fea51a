use Rattle.nine_fids.specs.Told.{named_at}
use Rattle.nine_fids.specs.Rights.{found_at}
use Rattle.nine_fids.proofs.Seeing.{apart_looks}
use Rattle.nine_fids.proofs.Staying.{named_plain}
use Rattle.nine_fids.proofs.rights.found_at.Goals as goal

pub returns-clause-looks : goal.returns-clause-looks
unfolding found_at
returns-clause-looks g c =
    rw c.where_there.ensures (apart_looks _ _ (λ e w. named_at e w c.args.at.now c.args.name.now) c.named_at.result (λ e w. named_plain e w c.args.at.now c.args.name.now) c.named_at.ensures.looks)
