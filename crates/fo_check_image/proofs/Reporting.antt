-- What is answered of a tree that was checked.
use Rattle.std.proofs.Common.{◌≡◌, ◌⊎◌, ⊎_elim, inl, inr, ℕ, ◌+◌, ◌<◌, ◌≤◌, true, List, [], ◌∷◌, length, get_or, Option, None, Some, MatchOption, MatchResult, refl, sym, ◌∙◌, ap, subst, arith}
use Rattle.std.specs.Prelude.{IfErr, IfOk}
use Rattle.std.specs.List.{Contains}
use Rattle.std.proofs.lemmas.Bool.{cases_eq, cases_lt}
use Rattle.std.proofs.lemmas.List.{length-map, get_or_past}
use Rattle.fo_base.specs.Cause.{Rose}
use Rattle.fo_disk.specs.Disk.{Block, Content, DiskState, IsContent, versions_of, AreBytes}
use Rattle.fo_disk.proofs.Quiet.{settled-is_image}
use Rattle.fo_sound.specs.Device.{Shows}
use Rattle.fo_sound.specs.Image.{block_of}
use Rattle.fo_sound.specs.Sound.{HasTable}
use Rattle.fo_good.specs.Sound.{Kept, IsSoundTree}
use Rattle.fo_check.specs.declared.error.CheckError.{CheckError}
use Rattle.fo_check.specs.declared.error.CheckError.TheVariants as error
use Rattle.fo_check.specs.declared.opening.Opening.{Opening}
use Rattle.fo_check.specs.Answer.{Opens, Blames, RefusesAt, IsOutside}
use Rattle.fo_check.specs.Answer as opening
use Rattle.fo_sound.specs.Sizes.{InRange}
use Rattle.fo_check_tree.specs.declared.broken.Broken.{Broken}
use Rattle.fo_check_labels.specs.declared.error.TreeError.{TreeError}
use Rattle.fo_check_labels.specs.declared.error.TreeError.TheVariants as tree
use Rattle.fo_check_tree.specs.declared.tree.Found.{Found}
use Rattle.fo_check_tree.specs.Lower.{IsRule, level}
use Rattle.fo_check_tree.specs.Answer.{HoldsAny, IsWalked, IsNamed, RefusesCheck}
use Rattle.fo_check_image.specs.declared.report.Report.{Report}
use Rattle.fo_check_image.specs.Answer.{Reports, BreaksRule, BreaksTree, Refuses}
use Rattle.fo_check_image.specs.Answer.BreaksRule.{table, labels, formats, pairs, once, numbers, scores}
use Rattle.fo_check_image.specs.Answer.IsUnsound.{before as by_opening, tree as by_tree}
use Rattle.fo_check_image.specs.Stage.{refusal_of, report_of, IsOfTree, RefusesTree, HasSoundTree}
use Rattle.fo_check_image.proofs.Reading.{HoldsBytes, reading, empty, holds_any, super_here}

-- a device that did not change shows what it did
pub shown_on : {old new : DiskState} {image : List Block} → new ≡ old → Shows old.holds image → Shows new.holds image
shown_on kept shows = record { quiet = ap (λ (s : DiskState). s.holds) kept ∙ shows.quiet; some = shows.some }

-- Blocks of a device that tells are whole.
pub whole : (size : ℕ) (holds : Content) (image : List Block) → (holds ≡ []) ⊎ IsContent size holds → Shows holds image → (at : ℕ) → at < length image → length (block_of image at) ≡ 8192
whole size holds image (inl none) shows at lt =
    let told : length holds ≡ length image = ap length shows.quiet ∙ length-map image (λ (b : Block). b ∷ []) in
    let zero : length holds ≡ 0 = ap length none in
    absurd (omega (arith, told, zero, lt))
whole size holds image (inr content) shows at lt =
    let told : length holds ≡ length image = ap length shows.quiet ∙ length-map image (λ (b : Block). b ∷ []) in
    let has = (settled-is_image image).each at (omega (arith, lt, length-map image (λ (b : Block). b ∷ []))) in
    content.whole at (block_of image at) (omega (arith, lt, told, content.count)) (subst (λ (c : Content). Contains (versions_of c at) (block_of image at)) (sym shows.quiet) has)

-- Blocks of a device that tells hold bytes.
pub hold_bytes : (holds : Content) (image : List Block) → AreBytes holds → Shows holds image → HoldsBytes image
hold_bytes holds image small shows = record { each = each }
  where
    each : (at i : ℕ) → get_or (block_of image at) i 0 < 256
    each at i = ⊎_elim
        (λ lt.
        let has = (settled-is_image image).each at (omega (arith, lt, length-map image (λ (b : Block). b ∷ []))) in
        small.each at (block_of image at) i (subst (λ (c : Content). Contains (versions_of c at) (block_of image at)) (sym shows.quiet) has))
        (λ le. rw (get_or_past image at [] le) (omega arith))
        (cases_lt at (length image))

-- ---- refusals

pub refusal_blames : (before now : ℕ) (e : TreeError) → (e ≡ tree.Read → Rose before now) → Blames before now 0 0 (refusal_of e)
refusal_blames before now (tree.Label block) rose = tt
refusal_blames before now tree.Read rose = (refl, rose refl)
refusal_blames before now tree.Memory rose = tt

pub refusal_is : (e : TreeError) → IsOfTree (refusal_of e)
refusal_is (tree.Label block) = (omega arith, omega arith)
refusal_is tree.Read = tt
refusal_is tree.Memory = tt

-- The report has the number of used blocks that was found.
pub report_reads : (blocks used leaked calls most : ℕ) (o : Option Broken) → calls ≤ most + used → IfOk (report_of blocks used leaked o) (λ r. calls ≤ most + r.used)
report_reads blocks used leaked calls most None few = few
report_reads blocks used leaked calls most (Some b) few = tt

pub report_is : (blocks used leaked : ℕ) (o : Option Broken) → ((b : Broken) → o ≡ Some b → IsRule b.rule) → IfErr (report_of blocks used leaked o) IsOfTree
report_is blocks used leaked None rules = tt
report_is blocks used leaked (Some b) rules = let r = rules b refl in (omega (arith, r.0), r.1)

pub report_blames : (blocks used leaked before now : ℕ) (o : Option Broken) → IfErr (report_of blocks used leaked o) (Blames before now 0 0)
report_blames blocks used leaked before now None = tt
report_blames blocks used leaked before now (Some b) = tt

-- ---- reports

module _ (image vault : List Block) (o : Opening) (opens : Opens image vault o) (whole_blocks : (at : ℕ) → at < length image → length (block_of image at) ≡ 8192) (bytes : HoldsBytes image) where
  abbrev pub k : Kept
  k = record { at = o.s.active; root = o.root }

  pub read_any : HoldsAny empty image (reading image o.s o.root) o.s (record { at = o.s.active; root = o.root })
  read_any = holds_any image o.s o.root opens.active bytes whole_blocks

  module _ (holds : HoldsAny empty image (reading image o.s o.root) o.s (record { at = o.s.active; root = o.root })) where
    broken_at : (found : Found) (b : Broken) → found.broken ≡ Some b → HasTable image → IsWalked empty image (reading image o.s o.root) o.s (record { at = o.s.active; root = o.root }) found → BreaksTree image o.s o.root b.rule b.block
    broken_at found b is whole_table w = record {
      arena = empty;
      reading = reading image o.s o.root;
      holds = holds;
      breaks = breaks;
      below = record {
        table = λ lt. whole_table;
        labels = λ lt. w.labels;
        formats = λ lt. w.formats (above lt);
        leaves = λ lt. w.leaves (above lt);
        entries = λ lt. w.entries (above lt);
        pairs = λ lt. w.pairs (above lt);
        once = λ lt. w.once (above lt);
        own_leaves = λ lt. w.own_leaves (above lt);
        own_names = λ lt. w.own_names (above lt);
        own_slots = λ lt. w.own_slots (above lt);
        own_pairs = λ lt. w.own_pairs (above lt);
        numbers = λ lt. w.numbers (above lt) (w.once (omega (arith, above lt)));
      };
    }
      where
        same : level found.broken ≡ b.rule
        same = ap level is

        above : {n : ℕ} → n < b.rule → n < level found.broken
        above lt = omega (arith, same, lt)

        named : IsNamed empty (reading image o.s o.root) (record { at = o.s.active; root = o.root }) b
        named = subst (λ (x : Option Broken). MatchOption x (IsSoundTree empty image (reading image o.s o.root) o.s.numbers true (record { at = o.s.active; root = o.root })) (IsNamed empty (reading image o.s o.root) (record { at = o.s.active; root = o.root }))) is w.named

        breaks : BreaksRule empty image (reading image o.s o.root) o.s (record { at = o.s.active; root = o.root }) b.rule b.block
        breaks = ⊎_elim
            (λ five. formats five (w.five.each b is five))
            (λ not_five. ⊎_elim
            (λ six. pairs six (w.six.each b is six))
            (λ not_six. ⊎_elim
            (λ seven. once seven (named.once seven))
            (λ not_seven. ⊎_elim
            (λ eight. numbers eight (w.eight.each b is eight))
            (λ not_eight. let nine : b.rule ≡ 9 = omega (arith, named.rule.0, named.rule.1, not_five, not_six, not_seven, not_eight) in scores nine (named.scores nine))
            (cases_eq b.rule 8))
            (cases_eq b.rule 7))
            (cases_eq b.rule 6))
            (cases_eq b.rule 5)

    reported : (found : Found) → found.broken ≡ None → HasTable image → IsWalked empty image (reading image o.s o.root) o.s (record { at = o.s.active; root = o.root }) found
        → Reports image vault (record { blocks = o.blocks; used = found.used; leaked = found.leaked; snapshots = 0 })
    reported found is whole_table w = record {
      arena = empty;
      s = o.s;
      active = record { at = o.s.active; root = o.root };
      reading = reading image o.s o.root;
      sound = record {
        sizes = opens.opened.sizes;
        vault_is = opens.opened.arena;
        formatted = opens.opened.formatted;
        root = opens.active;
        at = refl;
        named = super_here image o.s o.root;
        chain = (opens.active.epoch ∙ sym opens.chain.reached, opens.alone.before);
        table = whole_table;
        tree = subst (λ (x : Option Broken). MatchOption x (IsSoundTree empty image (reading image o.s o.root) o.s.numbers true (record { at = o.s.active; root = o.root })) (IsNamed empty (reading image o.s o.root) (record { at = o.s.active; root = o.root }))) is w.named;
        trees = tt;
        last = opens.alone.last;
      };
      counts = record { blocks = opens.blocks; used = w.used; leaked = w.leaked; snapshots = refl };
    }

  pub found_answers : (found : Found) (b : Option Broken) → found.broken ≡ b → HasTable image
      → (HoldsAny empty image (reading image o.s o.root) o.s (record { at = o.s.active; root = o.root }) → IsWalked empty image (reading image o.s o.root) o.s (record { at = o.s.active; root = o.root }) found)
      → MatchResult (report_of o.blocks found.used found.leaked b) (Reports image vault) (RefusesTree image o)
  found_answers found None is whole_table walked = reported read_any found is whole_table (walked read_any)
  found_answers found (Some b) is whole_table walked = broken_at read_any found b is whole_table (walked read_any)

  pub refusal_answers : (e : TreeError)
      → (HoldsAny empty image (reading image o.s o.root) o.s (record { at = o.s.active; root = o.root }) → RefusesCheck empty image (reading image o.s o.root) (record { at = o.s.active; root = o.root }) e)
      → RefusesTree image o (refusal_of e)
  refusal_answers (tree.Label block) why = record {
    arena = empty;
    reading = reading image o.s o.root;
    holds = read_any;
    breaks = ⊎_elim (λ t. table refl t) (λ l. labels refl l) (why read_any);
    below = record {
      table = λ lt. absurd (omega (arith, lt));
      labels = λ lt. absurd (omega (arith, lt));
      formats = λ lt. absurd (omega (arith, lt));
      leaves = λ lt. absurd (omega (arith, lt));
      entries = λ lt. absurd (omega (arith, lt));
      pairs = λ lt. absurd (omega (arith, lt));
      once = λ lt. absurd (omega (arith, lt));
      own_leaves = λ lt. absurd (omega (arith, lt));
      own_names = λ lt. absurd (omega (arith, lt));
      own_slots = λ lt. absurd (omega (arith, lt));
      own_pairs = λ lt. absurd (omega (arith, lt));
      numbers = λ lt. absurd (omega (arith, lt));
    };
  }
  refusal_answers tree.Read why = tt
  refusal_answers tree.Memory why = tt

-- ---- both steps

pub opening_refuses : (image vault : List Block) (e : CheckError) → opening.Refuses image vault e → Refuses image vault e
opening_refuses image vault error.Size h = h
opening_refuses image vault error.NotArena h = h
opening_refuses image vault error.NotBuilt h = h
opening_refuses image vault (error.Unsound rule block) h = by_opening h
opening_refuses image vault (error.Main fault) h = tt
opening_refuses image vault (error.Arena fault) h = tt
opening_refuses image vault error.Memory h = tt

pub tree_refuses : (image vault : List Block) (o : Opening) → Opens image vault o → (e : CheckError) → IsOfTree e → RefusesTree image o e → Refuses image vault e
tree_refuses image vault o opens error.Size is h = absurd is
tree_refuses image vault o opens error.NotArena is h = absurd is
tree_refuses image vault o opens error.NotBuilt is h = absurd is
tree_refuses image vault o opens (error.Unsound rule block) is h = by_tree o opens is.0 is.1 h
tree_refuses image vault o opens (error.Main fault) is h = tt
tree_refuses image vault o opens (error.Arena fault) is h = tt
tree_refuses image vault o opens error.Memory is h = tt

pub tree_sizes : (main arena : ℕ) → InRange main arena → (e : CheckError) → IsOfTree e → RefusesAt main arena e
tree_sizes main arena range error.Size is = absurd is
tree_sizes main arena range error.NotArena is = range
tree_sizes main arena range error.NotBuilt is = range
tree_sizes main arena range (error.Unsound rule block) is = range
tree_sizes main arena range (error.Main fault) is = tt
tree_sizes main arena range (error.Arena fault) is = range.0
tree_sizes main arena range error.Memory is = range

pub not_size : (e : CheckError) → IsOfTree e → e ≡ error.Size → ⊥
not_size e is same = subst IsOfTree same is

-- ---- sound images

pub only_found : (blocks used leaked : ℕ) (o : Option Broken) → o ≡ None → IfErr (report_of blocks used leaked o) IsOutside
only_found blocks used leaked None is = tt
only_found blocks used leaked (Some b) is = absurd (some_none is)
  where
    some_none : {x : Broken} → Some x ≡ None → ⊥
    some_none e = cc

pub only_refusal : (e : TreeError) → ((block : ℕ) → e ≡ tree.Label block → ⊥) → IsOutside (refusal_of e)
only_refusal (tree.Label block) none = absurd (none block refl)
only_refusal tree.Read none = tt
only_refusal tree.Memory none = tt

module _ (image vault : List Block) (report : Report) (r : Reports image vault report) where
  abbrev pub opening_of : Opening
  opening_of = record { blocks = length image; s = r.s; root = r.active.root }

  pub opens_of : Opens image vault (record { blocks = length image; s = r.s; root = r.active.root })
  opens_of = record {
    blocks = refl;
    opened = record { sizes = r.sound.sizes; formatted = r.sound.formatted; arena = r.sound.vault_is };
    active = r.sound.root;
    alone = record { before = r.sound.chain.1; last = r.sound.last };
    chain = record { reached = sym r.sound.chain.0 ∙ r.sound.root.epoch };
  }

  pub tree_of : (o : Opening) → o ≡ record { blocks = length image; s = r.s; root = r.active.root } → HasSoundTree image o
  tree_of o is = subst (λ (x : Opening). HasSoundTree image x) (sym is) (record {
    arena = r.arena;
    reading = r.reading;
    active = r.active;
    at = r.sound.at;
    root = refl;
    table = r.sound.table;
    tree = r.sound.tree;
  })
