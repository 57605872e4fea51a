-- A cache in which nothing is held yet.
use Rattle.std.specs.Prelude.{ℕ, false, List, [], replicate, None}
use Rattle.std.specs.FinMap as map
use Rattle.fo_image.specs.declared.types.Super.{Super}
use Rattle.fo_buffers.specs.Held.{Held}
use Rattle.fo_order.specs.Flags.{quiet}
use Rattle.fo_order.specs.Keeps.{Turns}
use Rattle.fo_labels.specs.Region.{Region}
use Rattle.fo_rooms.specs.of_takeout.Walking.{Walking}
use Rattle.fo_facts.specs.Known.{no_fact}
use Rattle.fo_mind.specs.Parts.{Parts, count_of}

abbrev pub no_buffers : Held
no_buffers = record { held = map.empty; clean = []; room = 0 }

abbrev pub no_turns : ℕ → Turns
no_turns count = record { flags = replicate count quiet; written = []; room = 0 }

abbrev pub no_walk : Walking
no_walk = record { pairs = []; done = 0; room = 0; after = 0; epoch = 0 }

-- All is settled, nothing is held, and no room is made.
abbrev pub opened : Region → Super → List ℕ → Parts
opened region one bytes = record {
  held = no_buffers;
  turns = no_turns (count_of region);
  region = region;
  facts = replicate (count_of region) no_fact;
  waits = [];
  clears = [];
  one = one;
  one_bytes = bytes;
  doubt = None;
  next = one.numbers;
  granted = false;
  spare = 0;
  pins = 0;
  room = 0;
  removals = [];
  walk = no_walk;
  links = 0;
  disk = [];
  faults = 0;
}
