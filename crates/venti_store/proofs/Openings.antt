-- The lines that an opening reads, and what an open arena keeps.
use Rattle.std.proofs.Common.{◌≡◌, ◌≢◌, ◌⊎◌, true, inl, inr, ⊎_elim, ℕ, ◌+◌, ◌-◌, ◌*◌, ◌/◌, ◌%◌, ◌<◌, ◌≤◌, ◌^◌, List, [], ◌∷◌, ◌++◌, length, get_or, take, drop, refl, sym, ◌∙◌, ap, subst, arith, length-take}
use Rattle.std.specs.Prelude.{Option, Some, None, IfSome, is_some}
use Rattle.std.specs.List.{Contains}
use Rattle.std.proofs.lemmas.Bool.{cases_eq}
use Rattle.std.proofs.lemmas.List.{get_or_push, length_push, get_or_append_left, length-map}
use Rattle.fo_disk.specs.Disk.{Block, Content, DiskState, versions_of, IsContent}
use Rattle.fo_disk.proofs.Quiet.{settled-quiet, settled-is_image, read-quiet}
use Rattle.fo_image.specs.declared.types.ArenaLine.{ArenaLine}
use Rattle.fo_image.specs.Format.{SpellsArenaLine}
use Rattle.fo_image.specs.Place.{line_block, line_byte, stored_block}
use Rattle.fo_sound.specs.Device.{Shows}
use Rattle.fo_sound.specs.Image.{block_of}
use Rattle.venti_store.specs.Held.{no_line, line_at, stored_at, name_of, line_bytes, HasLine, IsIndexed, IsArenaOf}
use Rattle.venti_store.specs.Kept.{waits, settled_count, Fits, AreRecalled, KeepsIn}
use Rattle.venti_store.specs.Opening.{Opens, OpenRefuses, HeadRefuses, UsedIs, TakesLine, IsTaken, LineRefuses, ReadLines, AreLines, LinesRefuse}
use Rattle.venti_store.specs.declared.recent.Recalled.{Recalled}
use Rattle.venti_store.specs.declared.index.Index.{Index}
use Rattle.venti_store.specs.declared.shelf.Shelf.{Shelf}
use Rattle.venti_store.specs.declared.error.ArenaWhy.{ArenaWhy}
use Rattle.venti_store.specs.declared.error.ArenaWhy.TheVariants as why
use Rattle.fo_sound.specs.Sizes.{IsArena}
use Rattle.venti_store.proofs.Settled.{stored_within}
use Rattle.venti_store.proofs.Keeping.{apart}

pub shown_on : {old new : DiskState} {vault : List Block} → new ≡ old → Shows old.holds vault → Shows new.holds vault
shown_on kept shows = record { quiet = ap (λ (s : DiskState). s.holds) kept ∙ shows.quiet; some = shows.some }

-- the bytes of the line of a place, in the block of its group
pub bytes_here : (group n : ℕ) (block : Block) (vault : List Block) → n < 341 → block ≡ block_of vault (1 + 342 * group) → take (24 * n + 24 - 24 * n) (drop (24 * n) block) ≡ line_bytes (341 * group + n) (block_of vault (line_block (341 * group + n)))
bytes_here group n block vault lt is =
    let width : 24 * n + 24 - 24 * n ≡ 24 = omega arith in
    let byte : 24 * n ≡ line_byte (341 * group + n) = omega arith in
    let at : 1 + 342 * group ≡ line_block (341 * group + n) = omega arith in
    ap (λ (k : ℕ). take k (drop (24 * n) block)) width
    ∙ ap (λ (k : ℕ). take 24 (drop k block)) byte
    ∙ ap (λ (b : Block). take 24 (drop (line_byte (341 * group + n)) b)) (is ∙ ap (block_of vault) at)

-- ---- one line more

module _ {upto : ℕ} {lines : List ArenaLine} {vault : List Block} {bytes : List ℕ} (r : ReadLines upto lines vault) (is : bytes ≡ line_bytes upto (block_of vault (line_block upto))) where
  module _ {now : List ArenaLine} (t : TakesLine bytes lines now) where
    here : line_at now upto ≡ t.line
    here = ap (λ (ls : List ArenaLine). line_at ls upto) t.is ∙ get_or_push lines t.line no_line upto r.count

    there : (place : ℕ) → place < upto → line_at now place ≡ line_at lines place
    there place lt = ap (λ (ls : List ArenaLine). line_at ls place) t.is ∙ get_or_append_left lines (t.line ∷ []) no_line place (omega (arith, lt, r.count))

    read_next : ReadLines (upto + 1) now vault
    read_next = record {
      count = ap length t.is ∙ length_push lines t.line ∙ ap (λ (n : ℕ). n + 1) r.count;
      line = λ place lt. ⊎_elim
          (λ last. subst (λ (p : ℕ). HasLine now p (block_of vault (line_block p))) (sym last) (subst (λ (l : ArenaLine). SpellsArenaLine l (line_bytes upto (block_of vault (line_block upto)))) (sym here) (subst (SpellsArenaLine t.line) is t.spelled)))
          (λ other. let before : place < upto = omega (arith, lt, other) in subst (λ (l : ArenaLine). SpellsArenaLine l (line_bytes place (block_of vault (line_block place)))) (sym (there place before)) (r.line place before))
          (cases_eq place upto);
      only = λ place line lt spelled. ⊎_elim
          (λ last. ap (line_at now) last ∙ here ∙ t.only line (subst (SpellsArenaLine line) (sym is) (subst (λ (p : ℕ). SpellsArenaLine line (line_bytes p (block_of vault (line_block p)))) last spelled)))
          (λ other. let before : place < upto = omega (arith, lt, other) in there place before ∙ r.only place line before spelled)
          (cases_eq place upto);
    }

    pub read_more : (next : ℕ) → next ≡ upto + 1 → ReadLines next now vault
    read_more next is = subst (λ (n : ℕ). ReadLines n now vault) (sym is) read_next

  none_spelled : {used : ℕ} → upto < used → ((line : ArenaLine) → ¬ SpellsArenaLine line bytes) → (others : List ArenaLine) → ¬ AreLines used others vault
  none_spelled lt none others a = none (line_at others upto) (subst (SpellsArenaLine (line_at others upto)) (sym is) (a.line upto lt))

  taken : {used : ℕ} → upto < used → IsTaken bytes lines → (others : List ArenaLine) → ¬ AreLines used others vault
  taken lt t others a =
      let used : t.place < upto = omega (arith, t.named.used, r.count) in
      let new : t.line ≡ line_at others upto = t.only (line_at others upto) (subst (SpellsArenaLine (line_at others upto)) (sym is) (a.line upto lt)) in
      let old : line_at lines t.place ≡ line_at others t.place = r.only t.place (line_at others t.place) used (a.line t.place (omega (arith, used, lt))) in
      a.apart t.place upto used lt (ap name_of (sym old) ∙ (λ i. (t.named.score_is i, t.named.kind_is i)) ∙ ap name_of new)

  pub refuse_line : {used : ℕ} (e : ArenaWhy) → upto < used → LineRefuses bytes lines e → LinesRefuse used vault e
  refuse_line why.NotArena lt h = λ others a. ⊎_elim (λ none. none_spelled lt none others a) (λ t. taken lt t others a) h
  refuse_line why.ArenaRead lt h = absurd h
  refuse_line why.Memory lt h = tt

-- ---- what is kept once the lines are read

stored_from : List Block → ℕ → List ArenaLine → List (List ℕ)
stored_from vault place [] = []
stored_from vault place (line ∷ lines) = take line.len (block_of vault (stored_block place)) ∷ stored_from vault (place + 1) lines

stored_count : (vault : List Block) (place : ℕ) (lines : List ArenaLine) → length (stored_from vault place lines) ≡ length lines
unfolding stored_from
stored_count vault place [] = refl
stored_count vault place (line ∷ lines) = let rest = stored_count vault (place + 1) lines in omega (arith, rest)

stored_is : (vault : List Block) (place : ℕ) (lines : List ArenaLine) (k : ℕ) → k < length lines → stored_at (stored_from vault place lines) k ≡ take (line_at lines k).len (block_of vault (stored_block (place + k)))
unfolding stored_from
stored_is vault place [] k lt = absurd (omega (arith, lt))
stored_is vault place (line ∷ lines) Rattle.std.proofs.Common.zero lt = ap (λ (n : ℕ). take line.len (block_of vault (stored_block n))) (let e : place ≡ place + 0 = omega arith in e)
stored_is vault place (line ∷ lines) (Rattle.std.proofs.Common.suc k) lt = stored_is vault (place + 1) lines k (omega (arith, lt)) ∙ ap (λ (n : ℕ). take (line_at lines k).len (block_of vault (stored_block n))) (let e : place + 1 + k ≡ place + Rattle.std.proofs.Common.suc k = omega arith in e)

module _ {size device : ℕ} {lines : List ArenaLine} {waiting : List (List ℕ)} (s : DiskState) {vault : List Block} (shows : Shows s.holds vault) (content : IsContent device s.holds) (indexed : IsIndexed (length lines) lines vault) (none : waiting ≡ []) {recalled : List Recalled} (nothing : recalled ≡ []) (size_is : size ≡ length vault) where
  stored : List (List ℕ)
  stored = stored_from vault 0 lines

  count : length stored ≡ length lines
  unfolding stored
  count = stored_count vault 0 lines

  bytes : (place : ℕ) → place < length lines → stored_at stored place ≡ take (line_at lines place).len (block_of vault (stored_block place))
  unfolding stored
  bytes place lt = stored_is vault 0 lines place lt ∙ ap (λ (n : ℕ). take (line_at lines place).len (block_of vault (stored_block n))) (let e : 0 + place ≡ place = omega arith in e)

  all : settled_count lines waiting ≡ length lines
  all = omega (arith, ap length none)

  told : length s.holds ≡ length vault
  told = ap length shows.quiet ∙ length-map vault (λ (b : Block). b ∷ [])

  version : (at : ℕ) (block : Block) → at < size → Contains (versions_of s.holds at) block → block ≡ block_of vault at
  version at block lt has = read-quiet vault at (omega (arith, lt, size_is)) (subst (λ (c : Content). Contains (versions_of c at) block) shows.quiet has)

  whole : (at : ℕ) → at < size → length (block_of vault at) ≡ 8192
  whole at lt =
      let image = settled-is_image vault in
      let has = image.each at (omega (arith, lt, size_is, length-map vault (λ (b : Block). b ∷ []))) in
      content.whole at (block_of vault at) (omega (arith, lt, size_is, told, content.count)) (subst (λ (c : Content). Contains (versions_of c at) (block_of vault at)) (sym shows.quiet) has)

  one : (at : ℕ) → at < size → length (versions_of s.holds at) ≡ 1
  one at lt = subst (λ (c : Content). length (versions_of c at) ≡ 1) (sym shows.quiet) ((settled-quiet vault).each at (omega (arith, lt, size_is, length-map vault (λ (b : Block). b ∷ []))))

  fits : (at : ℕ) (block : Block) → at < size → Contains (versions_of s.holds at) block → Fits size (length lines) (length lines) lines stored at block
  fits at block lt has =
      let is = version at block lt has in
      record {
        head = λ zero. record {
          used = length lines;
          from = omega arith;
          to = omega arith;
          spelled = subst (λ (n : ℕ). Rattle.fo_image.specs.Format.SpellsArenaHead (record { blocks = n; used = length lines }) block) (sym size_is) (subst (Rattle.fo_image.specs.Format.SpellsArenaHead (record { blocks = length vault; used = length lines })) (sym (is ∙ ap (block_of vault) zero)) indexed.arena.head);
        };
        line = λ place used at_is. subst (λ (b : Block). HasLine lines place b) (sym (is ∙ ap (block_of vault) (sym at_is))) (indexed.line place used);
        bytes = λ place used at_is. bytes place used ∙ ap (take (line_at lines place).len) (sym (is ∙ ap (block_of vault) (sym at_is)));
      }

  arena : IsArenaOf (length lines) lines stored vault
  arena = record { indexed = indexed; bytes = λ place used. bytes place used }

  keeps : KeepsIn size lines waiting recalled stored (length stored) s
  keeps = record {
    told = told ∙ sym size_is;
    some = λ at lt. let is = one at lt in omega (arith, is);
    count = count;
    lens = λ place lt.
        let within = stored_within size place (omega (arith, lt, size_is, indexed.arena.places)) in
        let full = whole (stored_block place) within in
        let few = (indexed.line place lt).holds.len_fits in
        ap length (bytes place lt) ∙ length-take (line_at lines place).len (block_of vault (stored_block place)) ∙ omega (arith, full, few);
    wait = none ∙ sym (all_dropped stored (settled_count lines waiting) (omega (arith, count, all)));
    order = omega (arith, count, all);
    fits = λ at block lt has. subst (λ (n : ℕ). Fits size n (settled_count lines waiting) lines stored at block) (sym count) (subst (λ (n : ℕ). Fits size (length lines) n lines stored at block) (sym all) (fits at block lt has));
    due = λ at lt flag. inl (one at lt);
    recalls = subst (AreRecalled lines stored) (sym nothing) (λ k d lt. absurd (omega (arith, lt)));
  }
    where
      all_dropped : (xs : List (List ℕ)) (n : ℕ) → length xs ≤ n → drop n xs ≡ []
      all_dropped xs n le = nil (drop n xs) (omega (arith, Rattle.std.proofs.Common.length-drop n xs, le))
        where
          nil : (ys : List (List ℕ)) → length ys ≡ 0 → ys ≡ []
          nil [] is = refl
          nil (y ∷ ys) is = absurd (omega (arith, is))

  pub kept : (stored : List (List ℕ)) × IsArenaOf (length lines) lines stored vault × KeepsIn size lines waiting recalled stored (length stored) s
  kept = (stored, arena, keeps)

pub opens : (s : Shelf) {device : ℕ} (d : DiskState) {vault : List Block} → Shows d.holds vault → (d.holds ≡ []) ⊎ IsContent device d.holds → IsIndexed (length s.index.lines.items) s.index.lines.items vault → s.pending.items ≡ [] → s.recent.blocks.items ≡ [] → device ≡ s.blocks → Opens vault s d
opens s {device} d {vault} shows content indexed none nothing size_is = ⊎_elim
    (λ nil. absurd (omega (arith, ap length (sym nil ∙ shows.quiet), length-map vault (λ (b : Block). b ∷ []), shows.some)))
    (λ is.
    let size : s.blocks ≡ length vault = sym size_is ∙ sym is.count ∙ ap length shows.quiet ∙ length-map vault (λ (b : Block). b ∷ []) in
    let k = kept d shows is indexed (ap waits none) nothing size in record { stored = k.0; is = k.1; keeps = k.2 })
    content

-- ---- the ways out of an opening

pub found_at : (o : Option ℕ) (P : ℕ → Type 0) → is_some o ≡ true → IfSome o P → (place : ℕ) × P place
found_at (Some place) P is h = (place, h)
found_at None P is h = cc

pub more_lines : {bytes : List ℕ} {lines now : List ArenaLine} → TakesLine bytes lines now → length now ≡ length lines + 1
more_lines {lines = lines} t = ap length t.is ∙ length_push lines t.line

pub head_refused : (vault : List Block) (e : ArenaWhy) → HeadRefuses vault e → OpenRefuses vault e
head_refused vault why.NotArena h = λ used lines i. h used i.arena
head_refused vault why.ArenaRead h = tt
head_refused vault why.Memory h = tt

pub lines_refused : (vault : List Block) (used : ℕ) (e : ArenaWhy) → UsedIs vault used → LinesRefuse used vault e → OpenRefuses vault e
lines_refused vault used why.NotArena u h = λ other lines i.
    let same : used ≡ other = u.only other i.arena in
    h lines (record { line = λ place lt. i.line place (omega (arith, lt, same)); apart = λ one two lt below. i.apart one two lt (omega (arith, below, same)) })
lines_refused vault used why.ArenaRead u h = tt
lines_refused vault used why.Memory u h = tt

pub indexed_is : (i : Index) {vault : List Block} {used : ℕ} → 16 ≤ length vault → length vault ≤ 2 ^ 20 → IsArena vault used → ReadLines used i.lines.items vault → IsIndexed (length i.lines.items) i.lines.items vault
indexed_is i {vault} {used} least most arena r = subst (λ (n : ℕ). IsIndexed n i.lines.items vault) (sym r.count) (record {
  least = least;
  most = most;
  arena = arena;
  line = r.line;
  apart = λ one other lt below. apart i.lines.items i.places i.found one other lt (omega (arith, below, r.count));
})
