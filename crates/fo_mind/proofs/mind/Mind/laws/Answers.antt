use Rattle.fo_mind.specs.MindParts.{parts}
use Rattle.fo_mind.specs.Laws.{active, root_is, within, small, spelled, one_doubt, waits_in_use}
use Rattle.std.proofs.Common.{sym, ◌∙◌}
use Rattle.fo_mind.proofs.Making.{unlike}
use Rattle.fo_mind.proofs.mind.Mind.laws.Goals as goal

pub returns : goal.returns
returns c = λ disk faults.
    let self = c.args.self.now in
    let p = parts self disk faults in
    record {
      silent = λ t. t;
      no_image = λ image h. h;
      uncovered = λ at h. h;
      enough = self.roomy.usable;
      active = active p self.first self.count self.placed;
      root_is = (root_is p self.first self.count self.placed self.rooted).0;
      root_linked = λ h. unlike (sym self.root_in.linked ∙ h);
      within = within p self.first self.count self.placed self.holding;
      small = small p self.first self.count self.placed;
      spelled = spelled p self.first self.count self.placed self.holding;
      one_doubt = one_doubt p;
      waits_in_use = waits_in_use p self.first self.count self.placed self.holding self.waiting;
      waits_within = λ a on j w. self.waiting.within a on _ w;
      clears_entries = λ at j h. self.clearable.each at j h;
    }
