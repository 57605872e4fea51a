use Rattle.std.proofs.Common.{ℕ, length, sym, subst}
use Rattle.fo_image.specs.Record.{SpellsRoot}
use Rattle.fo_sound.specs.Image.{IsDataBlock}
use Rattle.fo_check.proofs.Stages.{shown_on}
use Rattle.fo_check.proofs.checker.active_root.Goals as goal

pub returns-clause-answer : goal.returns-clause-answer
returns-clause-answer g c image len shows =
    let is = c.in_ok-read_main.ensures.shown image (shown_on c.in_ok-labelled.ensures.kept shows) in
    let place : IsDataBlock (length image) c.args.s.now.active = subst (λ (n : ℕ). IsDataBlock n c.args.s.now.active) (sym len) (c.is_data_block.ensures.0 c.if-not-is_data_block.false) in
    record {
      found = record {
        epochs = c.has_epochs.ensures.0 c.if-not-has_epochs.false;
        place = place;
        label = (c.in_ok-labelled.ensures.label image len shows).0 c.if-not-labelled.false;
        block = subst (SpellsRoot c.in_ok-root.root) is c.in_ok-root.ensures.found.0;
        epoch = c.in_ok-root.ensures.found.1;
      };
      only = λ v h. c.in_ok-root.ensures.only v (subst (SpellsRoot v) (sym is) h.block, h.epoch);
    }
