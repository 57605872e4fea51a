-- Why a cache with an arena keeps the laws of blocks, and what every call keeps.
use Rattle.std.specs.Prelude.{◌≡◌, ℕ, true, false, refl}
use Rattle.std.proofs.Common.{sym, ◌∙◌, arith}
use Rattle.fo_disk.specs.Disk.{Content as Holds}
use Rattle.fo_ports.specs.State.{KeepsAll}
use Rattle.fo_settling.specs.of_mind.declared.mind.Mind.{Mind}
use Rattle.fo_settling.specs.of_mind.Lawful.{IsLawful}
use Rattle.fo_settling.specs.of_mind.Laws as mind
use Rattle.fo_settling.specs.of_mind.MindParts.{parts}
use Rattle.fo_settling.specs.of_mind.Parts.{state_of}
use Rattle.fo_devices.specs.Seen.{DevicesKeep, Seen, state_of_devices}

apart : true ≡ false → ⊥
apart h = cc

-- What calls see of memory keeps the laws of blocks, over any device.
pub lawful : (m : Mind) (disk : Holds) (faults : ℕ) → IsLawful (state_of (parts m disk faults))
lawful m disk faults = let p = parts m disk faults in record {
  silent = λ t. t;
  no_image = λ image h. h;
  uncovered = λ at h. h;
  enough = m.roomy.usable;
  active = mind.active p m.first m.count m.placed;
  root_is = (mind.root_is p m.first m.count m.placed m.rooted).0;
  root_linked = λ h. apart (sym m.root_in.linked ∙ h);
  within = mind.within p m.first m.count m.placed m.holding;
  small = mind.small p m.first m.count m.placed;
  spelled = mind.spelled p m.first m.count m.placed m.holding;
  one_doubt = mind.one_doubt p;
  waits_in_use = mind.waits_in_use p m.first m.count m.placed m.holding m.waiting;
  waits_within = λ a on j w. m.waiting.within a on _ w;
  clears_entries = λ at j h. m.clearable.each at j h;
}

pub keeps_at_once : (d : Seen) → DevicesKeep d d
keeps_at_once d = record { parts = mind.keeps_at_once d.cache; same_size = refl; same_shelf = refl; same_stored = refl; more_faults = omega arith }

pub keeps_joins : (d e f : Seen) → DevicesKeep d e → DevicesKeep e f → DevicesKeep d f
keeps_joins d e f x y = record {
  parts = mind.keeps_joins d.cache e.cache f.cache x.parts y.parts;
  same_size = y.same_size ∙ x.same_size;
  same_shelf = y.same_shelf ∙ x.same_shelf;
  same_stored = y.same_stored ∙ x.same_stored;
  more_faults = let m = x.more_faults in let n = y.more_faults in omega (arith, m, n);
}

pub keeps_all : (d e : Seen) → DevicesKeep d e → KeepsAll (state_of_devices d) (state_of_devices e)
keeps_all d e k =
    let all = mind.keeps_all d.cache e.cache k.parts in
    record {
      same_high = all.same_high;
      same_low = all.same_low;
      same_root = all.same_root;
      same_tops = all.same_tops;
      same_blocks = all.same_blocks;
      same_held = all.same_held;
      same_limit = all.same_limit;
      same_label_blocks = all.same_label_blocks;
      still_tells = all.still_tells;
      more_faults = all.more_faults;
      more_arena_faults = k.more_faults;
    }
