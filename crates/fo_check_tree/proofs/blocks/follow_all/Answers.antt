use Rattle.std.proofs.Common.{◌<◌, Bool, true, false, List, [], ◌∷◌, ◌++◌, append-nil, refl, sym, ◌∙◌, subst, arith}
use Rattle.std.proofs.lemmas.Result.{err_from_is_err_and}
use Rattle.fo_disk.specs.Disk.{DiskState}
use Rattle.fo_sound.specs.Device.{Shows}
use Rattle.fo_check_tree.specs.declared.walk.Walk.{Walk}
use Rattle.fo_check_tree.specs.declared.walk.Step.{Step}
use Rattle.fo_check_tree.specs.Formats.{AreFormed}
use Rattle.fo_check_tree.specs.Grounds.{HasGrounds}
use Rattle.fo_check_tree.proofs.Grounding.{grounds_on, follow_keeps}
use Rattle.fo_check_tree.proofs.Noting.{pairs_same, pairs_then, rules_same, rules_then}
use Rattle.fo_check_tree.specs.Dirs.{AreJudged}
use Rattle.fo_check_tree.specs.Listing.{IsListing}
use Rattle.fo_check_tree.specs.Walking.{Walking}
use Rattle.fo_check_tree.proofs.Formatting.{formed_on}
use Rattle.fo_check_tree.specs.Lower.{level}
use Rattle.fo_check_tree.specs.Numbers.{AreBelow}
use Rattle.fo_check_tree.proofs.Collecting.{reached_on, fresh_on}
use Rattle.fo_check_tree.proofs.Deepening.{deepens_on}
use Rattle.fo_check_tree.proofs.Heading.{led_on, unnamed_on, unnamed_none, unnamed_then}
use Rattle.fo_check_tree.proofs.Judging.{judged_like, judged_on}
use Rattle.fo_check_tree.proofs.Listed.{lists}
use Rattle.fo_check_tree.specs.Pairing.{AreSought, AreAsked}
use Rattle.fo_check_tree.specs.Follows.{Follows}
use Rattle.fo_check_tree.proofs.Asked.{asked_on, hidden_on}
use Rattle.fo_check_tree.proofs.Seeking.{grows_none, grows_then, grows_on, sought_on}
use Rattle.fo_check_tree.specs.Depths.{AreSpread}
use Rattle.fo_check_tree.proofs.Spreading.{spread_on}
use Rattle.fo_check_tree.proofs.Stepping.{popped, followed, refused, emptied}
use Rattle.fo_check_tree.proofs.blocks.follow_all.Goals as goal

pub loop-step-preserved : goal.loop-step-preserved
loop-step-preserved g c = record {
  walks = λ arena device image s k rest shows w.
      let old : Walk = record c.loop-step.walk { steps = c.pop.new.self } in
      let before : Walking arena device image s k rest c.loop-step.walk = c.loop-step.invariant.walks arena device image s k rest shows w in
      let left : Walking arena device image s k (c.in-Some.step ∷ rest) old = popped arena device image s k c.loop-step.walk old (record { blocks = refl; epoch = refl; active = refl; labels = refl; noted = refl }) rest c.in-Some.step c.in-Some.ensures.items refl before in
      followed arena device image s k rest c.in-Some.step old c.follow.new.walk left c.args.depth c.args.named c.in_ok-follow.ensures.blocks c.in_ok-follow.ensures.tree c.in_ok-follow.ensures.level
      (c.in_ok-follow.ensures.follows device image (subst (λ (s : DiskState). Shows s.holds device) (sym c.loop-step.invariant.kept) shows));
  lists = λ arena device image s k meta rest shows w h.
      let old : Walk = record c.loop-step.walk { steps = c.pop.new.self } in
      let before : Walking arena device image s k rest c.loop-step.walk = c.loop-step.invariant.walks arena device image s k rest shows w in
      let left : Walking arena device image s k (c.in-Some.step ∷ rest) old = popped arena device image s k c.loop-step.walk old (record { blocks = refl; epoch = refl; active = refl; labels = refl; noted = refl }) rest c.in-Some.step c.in-Some.ensures.items refl before in
      let listed : IsListing arena image k meta c.loop-step.walk.labels.known.items (c.pop.new.self.items ++ c.in-Some.step ∷ []) c.loop-step.walk.named.items = subst (λ (xs : List Step). IsListing arena image k meta c.loop-step.walk.labels.known.items xs c.loop-step.walk.named.items) c.in-Some.ensures.items (c.loop-step.invariant.lists arena device image s k meta rest shows w h) in
      lists arena device image s k meta rest c.in-Some.step old c.follow.new.walk left listed c.args.depth c.args.named
      (c.in_ok-follow.ensures.follows device image (subst (λ (s : DiskState). Shows s.holds device) (sym c.loop-step.invariant.kept) shows));
  dirs = λ arena device image s k rest others shows w j.
      let old : Walk = record c.loop-step.walk { steps = c.pop.new.self } in
      let before : Walking arena device image s k rest c.loop-step.walk = c.loop-step.invariant.walks arena device image s k rest shows w in
      let left : Walking arena device image s k (c.in-Some.step ∷ rest) old = popped arena device image s k c.loop-step.walk old (record { blocks = refl; epoch = refl; active = refl; labels = refl; noted = refl }) rest c.in-Some.step c.in-Some.ensures.items refl before in
      let judged : AreJudged arena image k others old = judged_like arena device image s k others c.loop-step.walk old refl refl (omega arith) (c.loop-step.invariant.dirs arena device image s k rest others shows w j) in
      judged_on arena device image s k rest c.in-Some.step old c.follow.new.walk left others judged c.args.depth c.args.named c.in_ok-follow.ensures.level
      (c.in_ok-follow.ensures.follows device image (subst (λ (s : DiskState). Shows s.holds device) (sym c.loop-step.invariant.kept) shows));
  formed = λ arena device image s k rest others shows w j.
      let old : Walk = record c.loop-step.walk { steps = c.pop.new.self } in
      let before : Walking arena device image s k rest c.loop-step.walk = c.loop-step.invariant.walks arena device image s k rest shows w in
      let left : Walking arena device image s k (c.in-Some.step ∷ rest) old = popped arena device image s k c.loop-step.walk old (record { blocks = refl; epoch = refl; active = refl; labels = refl; noted = refl }) rest c.in-Some.step c.in-Some.ensures.items refl before in
      let formed : AreFormed arena image k c.loop-step.walk.labels.known.items c.loop-step.walk.noted (c.pop.new.self.items ++ c.in-Some.step ∷ []) (others ++ c.loop-step.walk.folders.items) =
      subst (λ (xs : List Step). AreFormed arena image k c.loop-step.walk.labels.known.items c.loop-step.walk.noted xs (others ++ c.loop-step.walk.folders.items)) c.in-Some.ensures.items (c.loop-step.invariant.formed arena device image s k rest others shows w j) in
      formed_on arena device image s k rest c.in-Some.step old c.follow.new.walk left others formed c.args.depth c.args.named c.in_ok-follow.ensures.level
      (c.in_ok-follow.ensures.follows device image (subst (λ (x : DiskState). Shows x.holds device) (sym c.loop-step.invariant.kept) shows));
  grounds = λ arena device image s k rest shows w h.
      let old : Walk = record c.loop-step.walk { steps = c.pop.new.self } in
      let before : Walking arena device image s k rest c.loop-step.walk = c.loop-step.invariant.walks arena device image s k rest shows w in
      let left : Walking arena device image s k (c.in-Some.step ∷ rest) old = popped arena device image s k c.loop-step.walk old (record { blocks = refl; epoch = refl; active = refl; labels = refl; noted = refl }) rest c.in-Some.step c.in-Some.ensures.items refl before in
      let step = c.in_ok-follow.ensures.follows device image (subst (λ (x : DiskState). Shows x.holds device) (sym c.loop-step.invariant.kept) shows) in
      let after : Walking arena device image s k rest c.follow.new.walk = followed arena device image s k rest c.in-Some.step old c.follow.new.walk left c.args.depth c.args.named c.in_ok-follow.ensures.blocks c.in_ok-follow.ensures.tree c.in_ok-follow.ensures.level step in
      let grounds : HasGrounds arena image k c.loop-step.walk.noted (c.pop.new.self.items ++ c.in-Some.step ∷ []) c.loop-step.walk.folders.items =
      subst (λ (xs : List Step). HasGrounds arena image k c.loop-step.walk.noted xs c.loop-step.walk.folders.items) c.in-Some.ensures.items (c.loop-step.invariant.grounds arena device image s k rest shows w h) in
      grounds_on arena device image s k rest c.in-Some.step old c.follow.new.walk left after c.args.depth c.args.named grounds step;
  pairs = λ arena device image s k entries names rest shows w lead h.
      let old : Walk = record c.loop-step.walk { steps = c.pop.new.self } in
      let before : Walking arena device image s k rest c.loop-step.walk = c.loop-step.invariant.walks arena device image s k rest shows w in
      let left : Walking arena device image s k (c.in-Some.step ∷ rest) old = popped arena device image s k c.loop-step.walk old (record { blocks = refl; epoch = refl; active = refl; labels = refl; noted = refl }) rest c.in-Some.step c.in-Some.ensures.items refl before in
      let sought : AreSought arena image entries names c.loop-step.walk.noted (c.pop.new.self.items ++ c.in-Some.step ∷ []) c.loop-step.walk.named.items c.loop-step.walk.folders.items =
      subst (λ (xs : List Step). AreSought arena image entries names c.loop-step.walk.noted xs c.loop-step.walk.named.items c.loop-step.walk.folders.items) c.in-Some.ensures.items (c.loop-step.invariant.pairs arena device image s k entries names rest shows w lead h) in
      sought_on arena device image s k rest c.in-Some.step old c.follow.new.walk left c.in_ok-follow.ensures.level c.args.depth entries names sought
      (subst (λ (b : Bool). Follows device image c.args.depth b c.in-Some.step old c.follow.new.walk) lead (c.in_ok-follow.ensures.follows device image (subst (λ (x : DiskState). Shows x.holds device) (sym c.loop-step.invariant.kept) shows)));
  asked = λ arena device image s k entries names rest shows w lead apart h b.
      let old : Walk = record c.loop-step.walk { steps = c.pop.new.self } in
      let before : Walking arena device image s k rest c.loop-step.walk = c.loop-step.invariant.walks arena device image s k rest shows w in
      let left : Walking arena device image s k (c.in-Some.step ∷ rest) old = popped arena device image s k c.loop-step.walk old (record { blocks = refl; epoch = refl; active = refl; labels = refl; noted = refl }) rest c.in-Some.step c.in-Some.ensures.items refl before in
      let sought : AreSought arena image entries names c.loop-step.walk.noted (c.pop.new.self.items ++ c.in-Some.step ∷ []) c.loop-step.walk.named.items c.loop-step.walk.folders.items =
      subst (λ (xs : List Step). AreSought arena image entries names c.loop-step.walk.noted xs c.loop-step.walk.named.items c.loop-step.walk.folders.items) c.in-Some.ensures.items (c.loop-step.invariant.pairs arena device image s k entries names rest shows w lead h) in
      let step : Follows device image c.args.depth true c.in-Some.step old c.follow.new.walk = subst (λ (b : Bool). Follows device image c.args.depth b c.in-Some.step old c.follow.new.walk) lead (c.in_ok-follow.ensures.follows device image (subst (λ (x : DiskState). Shows x.holds device) (sym c.loop-step.invariant.kept) shows)) in
      let before' : AreAsked arena image entries (c.pop.new.self.items ++ c.in-Some.step ∷ []) c.loop-step.walk.named.items =
      subst (λ (xs : List Step). AreAsked arena image entries xs c.loop-step.walk.named.items) c.in-Some.ensures.items (c.loop-step.invariant.asked arena device image s k entries names rest shows w lead apart h b) in
      asked_on arena device image s k rest c.in-Some.step old c.follow.new.walk left c.in_ok-follow.ensures.level c.args.depth entries names sought apart before' step;
  hidden = λ arena device image s k entries names rest shows w lead h none.
      let old : Walk = record c.loop-step.walk { steps = c.pop.new.self } in
      let before : Walking arena device image s k rest c.loop-step.walk = c.loop-step.invariant.walks arena device image s k rest shows w in
      let left : Walking arena device image s k (c.in-Some.step ∷ rest) old = popped arena device image s k c.loop-step.walk old (record { blocks = refl; epoch = refl; active = refl; labels = refl; noted = refl }) rest c.in-Some.step c.in-Some.ensures.items refl before in
      let sought : AreSought arena image entries names c.loop-step.walk.noted (c.pop.new.self.items ++ c.in-Some.step ∷ []) c.loop-step.walk.named.items c.loop-step.walk.folders.items =
      subst (λ (xs : List Step). AreSought arena image entries names c.loop-step.walk.noted xs c.loop-step.walk.named.items c.loop-step.walk.folders.items) c.in-Some.ensures.items (c.loop-step.invariant.pairs arena device image s k entries names rest shows w lead h) in
      let step : Follows device image c.args.depth true c.in-Some.step old c.follow.new.walk = subst (λ (b : Bool). Follows device image c.args.depth b c.in-Some.step old c.follow.new.walk) lead (c.in_ok-follow.ensures.follows device image (subst (λ (x : DiskState). Shows x.holds device) (sym c.loop-step.invariant.kept) shows)) in
      hidden_on arena device image s k rest c.in-Some.step old c.follow.new.walk left c.in_ok-follow.ensures.level c.args.depth entries names sought (c.loop-step.invariant.hidden arena device image s k entries names rest shows w lead h none) step;
  rules = rules_then c.args.walk.now.noted c.loop-step.walk.noted c.follow.new.walk.noted c.loop-step.invariant.rules c.in_ok-follow.ensures.rules;
  heads = λ arena device image s k entries names rest before shows w lead h l.
      let old : Walk = record c.loop-step.walk { steps = c.pop.new.self } in
      let walking : Walking arena device image s k rest c.loop-step.walk = c.loop-step.invariant.walks arena device image s k rest shows w in
      let left : Walking arena device image s k (c.in-Some.step ∷ rest) old = popped arena device image s k c.loop-step.walk old (record { blocks = refl; epoch = refl; active = refl; labels = refl; noted = refl }) rest c.in-Some.step c.in-Some.ensures.items refl walking in
      let sought : AreSought arena image entries names c.loop-step.walk.noted (c.pop.new.self.items ++ c.in-Some.step ∷ []) c.loop-step.walk.named.items c.loop-step.walk.folders.items =
      subst (λ (xs : List Step). AreSought arena image entries names c.loop-step.walk.noted xs c.loop-step.walk.named.items c.loop-step.walk.folders.items) c.in-Some.ensures.items (c.loop-step.invariant.pairs arena device image s k entries names rest shows w lead h) in
      let step : Follows device image c.args.depth true c.in-Some.step old c.follow.new.walk = subst (λ (b : Bool). Follows device image c.args.depth b c.in-Some.step old c.follow.new.walk) lead (c.in_ok-follow.ensures.follows device image (subst (λ (x : DiskState). Shows x.holds device) (sym c.loop-step.invariant.kept) shows)) in
      led_on arena device image s k rest c.in-Some.step old c.follow.new.walk left c.in_ok-follow.ensures.level c.args.depth entries names sought before (c.loop-step.invariant.heads arena device image s k entries names rest before shows w lead h l) step;
  reached = λ arena device image s k rest shows w at m h.
      let old : Walk = record c.loop-step.walk { steps = c.pop.new.self } in
      let walking : Walking arena device image s k rest c.loop-step.walk = c.loop-step.invariant.walks arena device image s k rest shows w in
      let left : Walking arena device image s k (c.in-Some.step ∷ rest) old = popped arena device image s k c.loop-step.walk old (record { blocks = refl; epoch = refl; active = refl; labels = refl; noted = refl }) rest c.in-Some.step c.in-Some.ensures.items refl walking in
      reached_on arena device image s k rest c.in-Some.step old c.follow.new.walk left c.args.depth c.args.named
      (c.in_ok-follow.ensures.follows device image (subst (λ (x : DiskState). Shows x.holds device) (sym c.loop-step.invariant.kept) shows)) at m (c.loop-step.invariant.reached arena device image s k rest shows w at m h);
  news = λ arena device image s k meta rest before shows w h a.
      let old : Walk = record c.loop-step.walk { steps = c.pop.new.self } in
      let walking : Walking arena device image s k rest c.loop-step.walk = c.loop-step.invariant.walks arena device image s k rest shows w in
      let left : Walking arena device image s k (c.in-Some.step ∷ rest) old = popped arena device image s k c.loop-step.walk old (record { blocks = refl; epoch = refl; active = refl; labels = refl; noted = refl }) rest c.in-Some.step c.in-Some.ensures.items refl walking in
      let listed : IsListing arena image k meta c.loop-step.walk.labels.known.items (c.pop.new.self.items ++ c.in-Some.step ∷ []) c.loop-step.walk.named.items = subst (λ (xs : List Step). IsListing arena image k meta c.loop-step.walk.labels.known.items xs c.loop-step.walk.named.items) c.in-Some.ensures.items (c.loop-step.invariant.lists arena device image s k meta rest shows w h) in
      fresh_on arena device image s k rest c.in-Some.step old c.follow.new.walk left c.args.depth c.args.named meta listed before (c.loop-step.invariant.news arena device image s k meta rest before shows w h a)
      (c.in_ok-follow.ensures.follows device image (subst (λ (x : DiskState). Shows x.holds device) (sym c.loop-step.invariant.kept) shows));
  eight = λ arena device image s k rest numbers shows w start h.
      let old : Walk = record c.loop-step.walk { steps = c.pop.new.self } in
      let before : Walking arena device image s k rest c.loop-step.walk = c.loop-step.invariant.walks arena device image s k rest shows w in
      let left : Walking arena device image s k (c.in-Some.step ∷ rest) old = popped arena device image s k c.loop-step.walk old (record { blocks = refl; epoch = refl; active = refl; labels = refl; noted = refl }) rest c.in-Some.step c.in-Some.ensures.items refl before in
      let both = c.loop-step.invariant.eight arena device image s k rest numbers shows w start h in
      let ways : 8 < level c.loop-step.walk.noted → AreBelow arena image k c.args.depth (c.pop.new.self.items ++ c.in-Some.step ∷ []) = λ above. subst (λ (xs : List Step). AreBelow arena image k c.args.depth xs) c.in-Some.ensures.items (both.0 above) in
      deepens_on arena device image s k rest c.in-Some.step old c.follow.new.walk left c.in_ok-follow.ensures.level c.args.depth c.args.named numbers ways both.1
      (c.in_ok-follow.ensures.follows device image (subst (λ (x : DiskState). Shows x.holds device) (sym c.loop-step.invariant.kept) shows));
  unnamed = λ arena device image s k rest shows w isnt.
      let old : Walk = record c.loop-step.walk { steps = c.pop.new.self } in
      let before : Walking arena device image s k rest c.loop-step.walk = c.loop-step.invariant.walks arena device image s k rest shows w in
      let left : Walking arena device image s k (c.in-Some.step ∷ rest) old = popped arena device image s k c.loop-step.walk old (record { blocks = refl; epoch = refl; active = refl; labels = refl; noted = refl }) rest c.in-Some.step c.in-Some.ensures.items refl before in
      let step : Follows device image c.args.depth false c.in-Some.step old c.follow.new.walk = subst (λ (b : Bool). Follows device image c.args.depth b c.in-Some.step old c.follow.new.walk) isnt (c.in_ok-follow.ensures.follows device image (subst (λ (x : DiskState). Shows x.holds device) (sym c.loop-step.invariant.kept) shows)) in
      unnamed_then c.args.walk.now.folders.items c.loop-step.walk.folders.items c.follow.new.walk.folders.items (c.loop-step.invariant.unnamed arena device image s k rest shows w isnt)
      (unnamed_on arena device image s k rest c.in-Some.step old c.follow.new.walk left c.in_ok-follow.ensures.level c.args.depth step);
  six = λ device image shows. pairs_then c.args.walk.now.noted c.loop-step.walk.noted c.follow.new.walk.noted (c.loop-step.invariant.six device image shows)
      (follow_keeps device image c.args.depth c.args.named c.in-Some.step (record c.loop-step.walk { steps = c.pop.new.self }) c.follow.new.walk (c.in_ok-follow.ensures.follows device image (subst (λ (x : DiskState). Shows x.holds device) (sym c.loop-step.invariant.kept) shows)));
  spread = λ arena device image s k link deep rest shows w is h.
      let old : Walk = record c.loop-step.walk { steps = c.pop.new.self } in
      let before : Walking arena device image s k rest c.loop-step.walk = c.loop-step.invariant.walks arena device image s k rest shows w in
      let left : Walking arena device image s k (c.in-Some.step ∷ rest) old = popped arena device image s k c.loop-step.walk old (record { blocks = refl; epoch = refl; active = refl; labels = refl; noted = refl }) rest c.in-Some.step c.in-Some.ensures.items refl before in
      let spread : AreSpread arena image k link deep c.loop-step.walk.noted (c.pop.new.self.items ++ c.in-Some.step ∷ []) c.loop-step.walk.folders.items =
      subst (λ (xs : List Step). AreSpread arena image k link deep c.loop-step.walk.noted xs c.loop-step.walk.folders.items) c.in-Some.ensures.items (c.loop-step.invariant.spread arena device image s k link deep rest shows w is h) in
      spread_on arena device image s k rest c.in-Some.step old c.follow.new.walk left link deep spread c.args.depth c.args.named is c.in_ok-follow.ensures.level
      (c.in_ok-follow.ensures.follows device image (subst (λ (x : DiskState). Shows x.holds device) (sym c.loop-step.invariant.kept) shows));
  grows = λ arena device image s k rest shows w.
      let old : Walk = record c.loop-step.walk { steps = c.pop.new.self } in
      let before : Walking arena device image s k rest c.loop-step.walk = c.loop-step.invariant.walks arena device image s k rest shows w in
      let left : Walking arena device image s k (c.in-Some.step ∷ rest) old = popped arena device image s k c.loop-step.walk old (record { blocks = refl; epoch = refl; active = refl; labels = refl; noted = refl }) rest c.in-Some.step c.in-Some.ensures.items refl before in
      grows_then c.args.walk.now.folders.items c.loop-step.walk.folders.items c.follow.new.walk.folders.items (c.loop-step.invariant.grows arena device image s k rest shows w)
      (grows_on arena device image s k rest c.in-Some.step old c.follow.new.walk left c.in_ok-follow.ensures.level c.args.depth c.args.named
      (c.in_ok-follow.ensures.follows device image (subst (λ (x : DiskState). Shows x.holds device) (sym c.loop-step.invariant.kept) shows)));
  blocks = c.in_ok-follow.ensures.blocks ∙ c.loop-step.invariant.blocks;
  low = omega (arith, c.in_ok-follow.ensures.level, c.loop-step.invariant.low);
  size = c.follow.ensures.size ∙ c.loop-step.invariant.size ∙ sym c.in_ok-follow.ensures.blocks;
  same = c.follow.ensures.size ∙ c.loop-step.invariant.same;
  kept = c.follow.ensures.kept ∙ c.loop-step.invariant.kept;
  later = omega (arith, c.follow.ensures.cause.later, c.loop-step.invariant.later);
  reads = (omega (arith, c.in_ok-follow.ensures.reads.0, c.loop-step.invariant.reads.0), c.in_ok-follow.ensures.reads.1 ∙ c.loop-step.invariant.reads.1);
  once = omega (arith, c.in_ok-follow.ensures.once, c.loop-step.invariant.once);
  budget = omega (arith, c.in_ok-follow.ensures.budget, c.loop-step.invariant.budget);
}

pub loop-step-init : goal.loop-step-init
loop-step-init g c = record {
  walks = λ arena device image s k rest shows w. w;
  lists = λ arena device image s k meta rest shows w h. h;
  dirs = λ arena device image s k rest others shows w j. j;
  formed = λ arena device image s k rest others shows w j. j;
  grounds = λ arena device image s k rest shows w h. h;
  pairs = λ arena device image s k entries names rest shows w lead h. h;
  asked = λ arena device image s k entries names rest shows w lead apart h b. b;
  hidden = λ arena device image s k entries names rest shows w lead h none. none;
  rules = rules_same c.args.walk.now.noted c.args.walk.now.noted refl;
  heads = λ arena device image s k entries names rest before shows w lead h l. l;
  reached = λ arena device image s k rest shows w at m h. h;
  news = λ arena device image s k meta rest before shows w h a. a;
  eight = λ arena device image s k rest numbers shows w start h. (start, h);
  unnamed = λ arena device image s k rest shows w isnt. unnamed_none c.args.walk.now.folders.items c.args.walk.now.folders.items refl;
  six = λ device image shows. pairs_same c.args.walk.now.noted c.args.walk.now.noted refl;
  spread = λ arena device image s k link deep rest shows w is h. h;
  grows = λ arena device image s k rest shows w. grows_none c.args.walk.now.folders.items;
  blocks = refl;
  low = omega arith;
  size = c.requires.size;
  same = refl;
  kept = refl;
  later = omega arith;
  reads = (omega arith, refl);
  once = omega arith;
  budget = omega arith;
}

pub returns-in_err-follow-clause-walks : goal.returns-in_err-follow-clause-walks
returns-in_err-follow-clause-walks g c arena device image s k rest shows w =
    let p = err_from_is_err_and c.from_residual.result c.from_residual.ensures.1 in
    let old : Walk = record c.loop-step.walk { steps = c.pop.new.self } in
    let before : Walking arena device image s k rest c.loop-step.walk = c.loop-step.invariant.walks arena device image s k rest shows w in
    let left : Walking arena device image s k (c.in-Some.step ∷ rest) old = popped arena device image s k c.loop-step.walk old (record { blocks = refl; epoch = refl; active = refl; labels = refl; noted = refl }) rest c.in-Some.step c.in-Some.ensures.items refl before in
    rw (p.1, p.2) (refused arena device image s k rest c.in-Some.step old old left c.in_err-follow.field-0.0 c.in_err-follow.ensures.refuses)

pub returns-clause-walks : goal.returns-clause-walks
returns-clause-walks g c arena device image s k rest shows w =
    emptied arena device image s k c.loop-step.walk (record c.loop-step.walk { steps = c.pop.new.self }) (record { blocks = refl; epoch = refl; active = refl; labels = refl; noted = refl }) rest (sym (append-nil c.pop.new.self.items) ∙ sym c.in_default.ensures.items) refl (c.loop-step.invariant.walks arena device image s k rest shows w)

pub returns-clause-lists : goal.returns-clause-lists
returns-clause-lists g c arena device image s k meta rest shows w h =
    subst (λ (xs : List Step). IsListing arena image k meta c.loop-step.walk.labels.known.items xs c.loop-step.walk.named.items) (c.in_default.ensures.items ∙ append-nil c.pop.new.self.items) (c.loop-step.invariant.lists arena device image s k meta rest shows w h)

pub returns-clause-dirs : goal.returns-clause-dirs
returns-clause-dirs g c arena device image s k rest others shows w j =
    judged_like arena device image s k others c.loop-step.walk (record c.loop-step.walk { steps = c.pop.new.self }) refl refl (omega arith) (c.loop-step.invariant.dirs arena device image s k rest others shows w j)

pub returns-clause-formed : goal.returns-clause-formed
returns-clause-formed g c arena device image s k rest others shows w j =
    subst (λ (xs : List Step). AreFormed arena image k c.loop-step.walk.labels.known.items c.loop-step.walk.noted xs (others ++ c.loop-step.walk.folders.items)) (c.in_default.ensures.items ∙ append-nil c.pop.new.self.items) (c.loop-step.invariant.formed arena device image s k rest others shows w j)

pub returns-clause-pairs : goal.returns-clause-pairs
returns-clause-pairs g c arena device image s k entries names rest shows w lead h =
    subst (λ (xs : List Step). AreSought arena image entries names c.loop-step.walk.noted xs c.loop-step.walk.named.items c.loop-step.walk.folders.items) (c.in_default.ensures.items ∙ append-nil c.pop.new.self.items) (c.loop-step.invariant.pairs arena device image s k entries names rest shows w lead h)

pub returns-clause-spread : goal.returns-clause-spread
returns-clause-spread g c arena device image s k link deep rest shows w is h =
    subst (λ (xs : List Step). AreSpread arena image k link deep c.loop-step.walk.noted xs c.loop-step.walk.folders.items) (c.in_default.ensures.items ∙ append-nil c.pop.new.self.items) (c.loop-step.invariant.spread arena device image s k link deep rest shows w is h)

pub returns-clause-grounds : goal.returns-clause-grounds
returns-clause-grounds g c arena device image s k rest shows w h =
    subst (λ (xs : List Step). HasGrounds arena image k c.loop-step.walk.noted xs c.loop-step.walk.folders.items) (c.in_default.ensures.items ∙ append-nil c.pop.new.self.items) (c.loop-step.invariant.grounds arena device image s k rest shows w h)

pub returns-clause-asked : goal.returns-clause-asked
returns-clause-asked g c arena device image s k entries names rest shows w lead apart h b =
    subst (λ (xs : List Step). AreAsked arena image entries xs c.loop-step.walk.named.items) (c.in_default.ensures.items ∙ append-nil c.pop.new.self.items) (c.loop-step.invariant.asked arena device image s k entries names rest shows w lead apart h b)

pub returns-clause-hidden : goal.returns-clause-hidden
returns-clause-hidden g c arena device image s k entries names rest shows w lead h none = c.loop-step.invariant.hidden arena device image s k entries names rest shows w lead h none

pub returns-clause-six : goal.returns-clause-six
returns-clause-six g c device image shows = c.loop-step.invariant.six device image shows

pub returns-clause-heads : goal.returns-clause-heads
returns-clause-heads g c arena device image s k entries names rest before shows w lead h l = c.loop-step.invariant.heads arena device image s k entries names rest before shows w lead h l

pub returns-clause-unnamed : goal.returns-clause-unnamed
returns-clause-unnamed g c arena device image s k rest shows w isnt = c.loop-step.invariant.unnamed arena device image s k rest shows w isnt

pub returns-clause-eight : goal.returns-clause-eight
returns-clause-eight g c arena device image s k rest numbers shows w start h = (c.loop-step.invariant.eight arena device image s k rest numbers shows w start h).1

pub returns-clause-reached : goal.returns-clause-reached
returns-clause-reached g c arena device image s k rest shows w at m h = c.loop-step.invariant.reached arena device image s k rest shows w at m h

pub returns-clause-news : goal.returns-clause-news
returns-clause-news g c arena device image s k meta rest before shows w h a = c.loop-step.invariant.news arena device image s k meta rest before shows w h a
