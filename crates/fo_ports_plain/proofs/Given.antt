-- What the calls on blocks see of a block that is given out.
use Rattle.std.proofs.Common.{◌≡◌, ◌≢◌, ◌↔◌, inl, inr, ⊎_elim, ℕ, ◌+◌, ◌-◌, ◌/◌, ◌^◌, ◌<◌, ◌≤◌, Bool, true, false, cond, nat_lt, ◌&&◌, List, [], ◌∷◌, length, refl, sym, ◌∙◌, ap, subst, arith}
use Rattle.std.proofs.lemmas.Bool.{cases_eq, cases_lt, lt-ltb}
use Rattle.std.proofs.lemmas.Grind.{common_steps}
use Rattle.fo_image.specs.declared.types.Label.{Label}
use Rattle.fo_image.specs.declared.types.State.TheVariants.{Free, Live}
use Rattle.fo_image.specs.Usable.{is_usable}
use Rattle.fo_image.specs.declared.types.Pointer.{Pointer}
use Rattle.fo_image.specs.declared.types.Pointer.TheVariants.{Nil, Local, Score as Held}
use Rattle.fo_crash.specs.declared.slot.Slot.{Slot}
use Rattle.fo_crash.specs.Images.{Content, Image, SameContent, target, local, walk, to_block, Reaches}
use Rattle.fo_crash.specs.Steps.{PutsBlock}
use Rattle.fo_crash.proofs.Reach.{lost, reaches_within, reaches_same}
use Rattle.fo_ports.specs.State.{Gives, Stays, IsRooted, none}
use Rattle.fo_ports_plain.specs.declared.block.PlainBlock.{PlainBlock}
use Rattle.fo_ports_plain.specs.Plain.{block_at, slot_of, content_of, memory, label_of, label_at, IsTop, TakenOut, Covered, Updates, is_live}
use Rattle.fo_ports_plain.specs.Sound.{Sound, Well}
use Rattle.fo_ports_plain.specs.Meaning.{Plain, state_of, PlainKeeps}
use Rattle.fo_ports_plain.specs.Laws.{label_made}
use Rattle.fo_ports_plain.proofs.Made.{MayMake, none_leads}
use Rattle.fo_ports_plain.proofs.Memory.{block_added}
use Rattle.fo_ports_plain.proofs.Rooted.{rooted_on}

-- Two images with the same slots but in one block, to which no slot of the first leads: what it reaches from another block, the second
-- reaches too.
pub reaches_beside : {image other : Image} {m : ℕ} → ((a i : ℕ) → target ((image a).slot i) ≢ Local m) → ((a i : ℕ) → a ≢ m → (other a).slot i ≡ (image a).slot i) → {t b : ℕ} → t ≢ m → Reaches image (to_block t) b → Reaches other (to_block t) b
reaches_beside {image} {other} {m} none same {t} {b} ne r = record {
  path = r.path;
  leads = along r.path (to_block t) (λ c e. let is : t ≡ c = cc in λ c_is. ne (is ∙ c_is)) r.leads;
}
  where
    one : (p : Pointer) (i : ℕ) → ((c : ℕ) → p ≡ Local c → c ≢ m) → (local other p).slot i ≡ (local image p).slot i
    one Nil i h = refl
    one (Held x) i h = refl
    one (Local a) i h = same a i (h a refl)

    next : (p : Pointer) (i c : ℕ) → target ((local image p).slot i) ≡ Local c → c ≢ m
    next Nil i c e = absurd (cc)
    next (Held x) i c e = absurd (cc)
    next (Local a) i c e = λ is. none a i (e ∙ ap Local is)

    along : (path : List ℕ) (s : Slot) → ((c : ℕ) → target s ≡ Local c → c ≢ m) → target (walk image s path) ≡ Local b → target (walk other s path) ≡ Local b
    along [] s h e = e
    along (i ∷ path) s h e = subst (λ z. target (walk other z path) ≡ Local b) (sym (one (target s) i h)) (along path ((local image (target s)).slot i) (next (target s) i) e)

not_lt : (m n : ℕ) → n ≤ m → nat_lt m n ≡ false
not_lt m n le = grind (arith, common_steps)

same_test : (b m : ℕ) → b ≢ m → nat_lt b (m + 1) ≡ nat_lt b m
same_test b m ne = ⊎_elim
    (λ lt. lt-ltb b (m + 1) (omega (arith, lt)) ∙ sym (lt-ltb b m lt))
    (λ le. not_lt b (m + 1) (omega (arith, le, ne)) ∙ sym (not_lt b m le))
    (cases_lt b m)

-- a block that was not made is not live
never_live : (made b : ℕ) → nat_lt b made ≡ false → is_live made b ≡ false
never_live made b e = ap (λ t. nat_lt 1 b && t) e ∙ by (nat_lt 1 b)
  where
    by : (t : Bool) → (t && false) ≡ false
    by true = refl
    by false = refl

never_both : {x : Bool} → x ≡ true → x ≡ false → ⊥
never_both {x} t f = let both : true ≡ false = sym t ∙ f in cc

module _ (p : Plain) (new : List PlainBlock) (spare : ℕ) {block : PlainBlock} {c : Content} {l : Label} (up : Updates p.made block p.blocks new) (may : MayMake p.blocks p.made p.high block) (three : 2 < p.made) (well : Well p.blocks p.made p.high p.root p.waits p.queued) (room : p.made < length p.blocks) (spent : spare + 1 ≡ p.spare) (holds : SameContent (content_of block) c) (is_label : label_of Live p.high (2 ^ 32 - 1) block ≡ l) (hung : (i x : ℕ) → target (slot_of block i) ≡ Local x → IsRooted (state_of p) x) where
  abbrev q : Plain
  q = record p { blocks = new; made = p.made + 1; spare = spare }

  sound : Sound p.blocks p.made p.high p.root
  sound = well.sound

  none_new : (a i : ℕ) → target ((memory new a).slot i) ≢ Local p.made
  none_new = none_leads up may three well

  none_old : (a i : ℕ) → target ((memory p.blocks a).slot i) ≢ Local p.made
  none_old a i e = let lt = (sound.links a i p.made e).was_made in omega (arith, lt)

  forth : {t b : ℕ} → t ≢ p.made → Reaches (memory p.blocks) (to_block t) b → Reaches (memory new) (to_block t) b
  forth = reaches_beside none_old (λ a i ne. ap (λ (z : PlainBlock). slot_of z i) (up.others a ne))

  back : {t b : ℕ} → t ≢ p.made → Reaches (memory new) (to_block t) b → Reaches (memory p.blocks) (to_block t) b
  back = reaches_beside none_new (λ a i ne. sym (ap (λ (z : PlainBlock). slot_of z i) (up.others a ne)))

  not_super : 1 ≢ p.made
  not_super e = omega (arith, three, e)

  rest_taken : (t : ℕ) → (block_at p.blocks t).taken ≡ true → t ≢ p.made
  rest_taken t is e = never_both (ap (λ y. (block_at p.blocks y).taken) (sym e) ∙ is) (sound.rest p.made (omega arith)).stays

  rest_on : (block_at p.blocks p.made).retired ≡ false
  rest_on = (sound.rest p.made (omega arith)).goes_on

  new_on : (block_at new p.made).retired ≡ false
  new_on = ap (λ (z : PlainBlock). z.retired) up.here ∙ may.retired

  new_taken : (t : ℕ) → (block_at new t).taken ≡ true → t ≢ p.made
  new_taken t is e = never_both (ap (λ y. (block_at new y).taken) (sym e) ∙ is) (ap (λ (z : PlainBlock). z.taken) up.here ∙ may.taken)

  never_out : (blocks : List PlainBlock) → ((t : ℕ) → (block_at blocks t).taken ≡ true → t ≢ p.made) → ((a i : ℕ) → target ((memory blocks a).slot i) ≢ Local p.made) → TakenOut blocks p.made → ⊥
  never_out blocks marks none k = reaches_within (λ b. b ≢ p.made) (memory blocks) (λ a i b e is. none a i (e ∙ ap Local is)) (λ b e. let is : k.top ≡ b = cc in λ b_is. marks k.top k.taken (is ∙ b_is)) k.below refl

  never_covered : (blocks : List PlainBlock) → ((t : ℕ) → (block_at blocks t).taken ≡ true → t ≢ p.made) → (block_at blocks p.made).retired ≡ false → ((a i : ℕ) → target ((memory blocks a).slot i) ≢ Local p.made) → Covered blocks p.made → ⊥
  never_covered blocks marks goes_on none = ⊎_elim (never_out blocks marks none) (λ k. never_both k.is goes_on)

  not_top : (t : ℕ) → IsTop p.blocks t → t ≢ p.made
  not_top t is e = ⊎_elim
      (λ one. not_super (sym one ∙ e))
      (λ kept. let lt = (sound.tops t kept).was_made in omega (arith, lt, e))
      is

  label_was : label_at p.blocks p.made p.made ≡ label_of Free 0 0 (block_at p.blocks p.made)
  label_was = ap (λ t. cond t (label_of Live (block_at p.blocks p.made).epoch (2 ^ 32 - 1) (block_at p.blocks p.made)) (label_of Free 0 0 (block_at p.blocks p.made))) (never_live p.made p.made (not_lt p.made p.made (omega arith)))

  was_free : (label_at p.blocks p.made p.made).state ≢ Live
  was_free e = let no : Free ≡ Live = sym (ap (λ (x : Label). x.state) label_was) ∙ e in cc

  label_here : label_at new (p.made + 1) p.made ≡ l
  label_here = label_made new (p.made + 1) p.made (omega (arith, three)) (omega arith)
      ∙ ap (λ (z : PlainBlock). label_of Live z.epoch (2 ^ 32 - 1) z) up.here
      ∙ ap (λ e. label_of Live e (2 ^ 32 - 1) block) may.epoch
      ∙ is_label

  label_other : (b : ℕ) → b ≢ p.made → label_at new (p.made + 1) b ≡ label_at p.blocks p.made b
  label_other b ne = ap (λ t. cond t (label_of Live (block_at new b).epoch (2 ^ 32 - 1) (block_at new b)) (label_of Free 0 0 (block_at new b))) (ap (λ t. nat_lt 1 b && t) (same_test b p.made ne))
      ∙ ap (λ (z : PlainBlock). cond (is_live p.made b) (label_of Live z.epoch (2 ^ 32 - 1) z) (label_of Free 0 0 z)) (up.others b ne)

  -- what hangs from the new block hung before
  from_new : (b : ℕ) → b ≢ p.made → Reaches (memory new) (to_block p.made) b → IsRooted (state_of p) b
  from_new b ne r = along r.path r.leads
    where
      slots : (i : ℕ) → (memory new p.made).slot i ≡ slot_of block i
      slots i = ap (λ (z : PlainBlock). slot_of z i) up.here

      one : (i : ℕ) (path : List ℕ) (x : Pointer) → target ((memory new p.made).slot i) ≡ x → target (walk (memory new) ((memory new p.made).slot i) path) ≡ Local b → IsRooted (state_of p) b
      one i path Nil q e = absurd (lost (memory new) path ((memory new p.made).slot i) (λ c h. let no : Nil ≡ Local c = sym q ∙ h in cc) b e)
      one i path (Held score) q e = absurd (lost (memory new) path ((memory new p.made).slot i) (λ c h. let no : Held score ≡ Local c = sym q ∙ h in cc) b e)
      one i path (Local x) q e =
          let below : Reaches (memory new) (to_block x) b = reaches_same q (record { path = path; leads = e }) in
          rooted_on (state_of p) x b (hung i x (ap target (sym (slots i)) ∙ q)) (back (λ is. none_new p.made i (q ∙ ap Local is)) below)

      along : (path : List ℕ) → target (walk (memory new) (to_block p.made) path) ≡ Local b → IsRooted (state_of p) b
      along [] e = absurd (ne (let is : b ≡ p.made = cc in is))
      along (i ∷ path) e = one i path (target ((memory new p.made).slot i)) refl e

  rooted : (b : ℕ) → b ≢ p.made → IsRooted (state_of q) b → IsRooted (state_of p) b
  rooted b ne r = ⊎_elim
      (λ e. from_new b ne (subst (λ t. Reaches (memory new) (to_block t) b) e r.2))
      (λ other. (
        r.0,
        ⊎_elim
            (λ top. inl (⊎_elim (λ e. inl e) (λ is. inr (sym (ap (λ (z : PlainBlock). z.kept) (up.others r.0 other)) ∙ is)) top))
            (λ is. inr (sym (ap (λ (z : PlainBlock). z.apart) (up.others r.0 other)) ∙ is))
            r.1,
        back other r.2,
      ))
      (cases_eq r.0 p.made)

  stays : Stays (λ b. b ≡ p.made) none (state_of p) (state_of q)
  stays = record {
    labels = λ b ne. label_other b ne;
    marks = λ b ne. (λ h. let lt = h.1 in (h.0, omega (arith, lt)), λ h. h, λ h. h);
    places = λ t b x ne _ _ _ st. let lt = st.was_made in record { above = st.above; was_made = omega (arith, lt); is = ap (λ (z : PlainBlock). z.place) (up.others b ne) ∙ st.is };
    rooted = λ t b ne r. rooted b ne r;
    newborn = λ b _ h. h;
    apart = λ b ne _. (λ h. sym (ap (λ (z : PlainBlock). z.apart) (up.others b ne)) ∙ h, λ h. ap (λ (z : PlainBlock). z.apart) (up.others b ne) ∙ h);
    instead = λ b x ne _. (
      λ h. record { apart = sym (ap (λ (z : PlainBlock). z.apart) (up.others b ne)) ∙ h.apart; origin = sym (ap (λ (z : PlainBlock). z.origin) (up.others b ne)) ∙ h.origin; some = h.some },
      λ h. record { apart = ap (λ (z : PlainBlock). z.apart) (up.others b ne) ∙ h.apart; origin = ap (λ (z : PlainBlock). z.origin) (up.others b ne) ∙ h.origin; some = h.some },
    );
    waits = λ a on j _ _ _ w. w;
  }

  puts : PutsBlock p.made c (memory p.blocks) (memory new)
  puts = record {
    here = record { bytes = ap (λ (z : PlainBlock). z.bytes) up.here ∙ holds.bytes; slots = λ i. ap (λ (z : PlainBlock). slot_of z i) up.here ∙ holds.slots i };
    others = λ b ne. record { bytes = ap (λ (z : PlainBlock). z.bytes) (up.others b ne); slots = λ i. ap (λ (z : PlainBlock). slot_of z i) (up.others b ne) };
  }

  new_retired : (b : ℕ) → (block_at new b).retired ≡ true → b ≢ p.made
  new_retired b is e = never_both (ap (λ y. (block_at new y).retired) (sym e) ∙ is) new_on

  rest_retired : (b : ℕ) → (block_at p.blocks b).retired ≡ true → b ≢ p.made
  rest_retired b is e = never_both (ap (λ y. (block_at p.blocks y).retired) (sym e) ∙ is) rest_on

  covers : (b : ℕ) → Covered new b ↔ Covered p.blocks b
  covers b = (
    ⊎_elim
        (λ k. let ne = new_taken k.top k.taken in inl (record { top = k.top; taken = sym (ap (λ (z : PlainBlock). z.taken) (up.others k.top ne)) ∙ k.taken; below = back ne k.below; gone = λ r. k.gone (forth not_super r) }))
        (λ k. let ne = new_retired b k.is in inr (record { is = sym (ap (λ (z : PlainBlock). z.retired) (up.others b ne)) ∙ k.is; gone = λ r. k.gone (forth not_super r) })),
    ⊎_elim
        (λ k. let ne = rest_taken k.top k.taken in inl (record { top = k.top; taken = ap (λ (z : PlainBlock). z.taken) (up.others k.top ne) ∙ k.taken; below = forth ne k.below; gone = λ r. k.gone (back not_super r) }))
        (λ k. let ne = rest_retired b k.is in inr (record { is = ap (λ (z : PlainBlock). z.retired) (up.others b ne) ∙ k.is; gone = λ r. k.gone (back not_super r) })),
  )

  -- what is to come in the place of a block comes in that of one that was made before
  alone : (y : ℕ) → (state_of q).instead y p.made → ⊥
  alone y k = ⊎_elim
      (λ e.
      let is : block.origin ≡ p.made = ap (λ (z : PlainBlock). z.origin) (sym up.here) ∙ ap (λ b. (block_at new b).origin) (sym e) ∙ k.origin in
      ⊎_elim
      (λ o. let no = o.origin in omega (arith, is, no, three))
      (λ c. let lt = c.was_made in omega (arith, lt, is))
      may.source)
      (λ ne.
      let same = up.others y ne in
      let is : (block_at p.blocks y).origin ≡ p.made = ap (λ (z : PlainBlock). z.origin) (sym same) ∙ k.origin in
      let lt = (sound.sources.steads y (ap (λ (z : PlainBlock). z.apart) (sym same) ∙ k.apart) (λ none. omega (arith, none, is, three))).was_made in
      omega (arith, lt, is))
      (cases_eq y p.made)

  pub gives : Gives p.made c l (state_of p) (state_of (record p { blocks = new; made = p.made + 1; spare = spare }))
  gives = record {
    memory = puts;
    images = block_added (IsTop p.blocks) puts not_top none_new;
    label = label_here;
    free = ap (λ (x : Label). is_usable 1 x) label_was;
    was = (was_free, λ e. not_super (sym e), never_covered p.blocks rest_taken rest_on none_old, λ t. (λ is. not_top p.made is refl, λ x st. let lt = st.was_made in omega (arith, lt)));
    alone = λ t y k. alone y k;
    is = (
      (omega (arith, three), let long = up.as_long in omega (arith, room, long)),
      (omega (arith, three), omega arith),
      tt,
      ap (λ (z : PlainBlock). z.apart) up.here ∙ may.apart,
      never_covered new new_taken new_on none_new,
      λ a j w. let used = well.waiting w.number (j / 2) w.within w.pair in let lt = used.was_made in let is = w.is_on in omega (arith, lt, is),
    );
    stays = stays;
    order = record { clearing = λ b j h. absurd h; goes_on = λ b j _ h. h };
    covered = λ b ne. covers b;
    no_wait = record { each = λ a on j _ w. w };
    dirty = λ b h. absurd h;
    uses = record { spare = spent; usable = let long = up.as_long in omega (arith, room, long); room = omega arith; pins = refl; moments = refl; left = λ k image h. h };
    queued = refl;
    no_removal = record { each = λ x e w h. h };
    numbers = record { next = refl; grants = λ h. h };
  }

-- what every call keeps
pub made_keeps : (p : Plain) (new : List PlainBlock) (spare : ℕ) {block : PlainBlock} → Updates p.made block p.blocks new → block.kept ≡ false → Sound p.blocks p.made p.high p.root → PlainKeeps p (record p { blocks = new; made = p.made + 1; spare = spare })
made_keeps p new spare {block} up kept sound = record {
  as_long = up.as_long;
  held = refl;
  high = refl;
  root = refl;
  tops = λ t. ⊎_elim
      (λ e. ap (λ y. (block_at new y).kept) e ∙ ap (λ (z : PlainBlock). z.kept) up.here ∙ kept ∙ sym (sound.rest p.made (omega arith)).loses ∙ ap (λ y. (block_at p.blocks y).kept) (sym e))
      (λ ne. ap (λ (z : PlainBlock). z.kept) (up.others t ne))
      (cases_eq t p.made);
}
