-- A block is given out by blocks that tell nothing.
use Rattle.std.proofs.Common.{◌≡◌, ◌≢◌, ⊎_elim, ℕ, ◌+◌, ◌*◌, ◌/◌, ◌<◌, ◌≤◌, Bool, true, false, zero, suc, List, [], ◌∷◌, ◌++◌, length, get_or, refl, sym, ◌∙◌, ap, subst, arith}
use Rattle.std.proofs.lemmas.Bool.{cases_eq}
use Rattle.std.proofs.lemmas.List.{length-append}
use Rattle.fo_image.specs.declared.types.Label.{Label}
use Rattle.fo_image.specs.declared.types.State.TheVariants.{Free, Live}
use Rattle.fo_image.specs.declared.types.Kind.TheVariants.{Data}
use Rattle.fo_image.specs.Usable.{is_usable}
use Rattle.fo_crash.specs.Images.{Content, SameContent}
use Rattle.fo_ports.specs.State.{Gives}
use Rattle.test_blocks.specs.declared.silent.Block.{Block}
use Rattle.test_blocks.specs.Silent.{Silent, no_block, block_at, content_of, memory, Updates, Good, Sound, Waiting, is_active, state_of}
use Rattle.test_blocks.specs.SilentLaws.{past_end}
use Rattle.test_blocks.proofs.Updating.{past_slots}

push_here : (xs : List Block) (x d : Block) → get_or (xs ++ x ∷ []) (length xs) d ≡ x
push_here [] x d = refl
push_here (y ∷ ys) x d = push_here ys x d

push_other : (xs : List Block) (x d : Block) (b : ℕ) → b ≢ length xs → get_or (xs ++ x ∷ []) b d ≡ get_or xs b d
push_other [] x d zero ne = absurd (ne refl)
push_other [] x d (suc b) ne = refl
push_other (y ∷ ys) x d zero ne = refl
push_other (y ∷ ys) x d (suc b) ne = push_other ys x d b (λ e. ne (ap suc e))

pub pushed : (xs : List Block) (x : Block) → Updates (length xs) x xs (xs ++ x ∷ [])
pushed xs x = record { here = push_here xs x no_block; others = λ b ne. push_other xs x no_block b ne }

pub longer : (xs : List Block) (x : Block) → length (xs ++ x ∷ []) ≡ length xs + 1
longer xs x = length-append xs (x ∷ [])

never_both : {b : Bool} → b ≡ true → b ≡ false → ⊥
never_both {b} t f = let both : true ≡ false = sym t ∙ f in cc

-- no block waits for one that was not given out
pub none_waits : (blocks : List Block) (on k : ℕ) → length blocks ≤ on → is_active ((memory blocks on).slot (2 * k)) ≡ true → ⊥
none_waits blocks on k le h = never_both {b = is_active ((memory blocks on).slot (2 * k))} h (ap (λ (z : Block). is_active ((content_of z).slot (2 * k))) (past_end blocks no_block on le) ∙ ap is_active (past_slots (Data 0) [] (2 * k) (omega arith)))

pub sound_pushed : (count : ℕ) (blocks : List Block) (x : Block) → Sound count blocks → Good count x.label.kind x.bytes → Sound count (blocks ++ x ∷ [])
sound_pushed count blocks x sound good = record {
  each = λ b lt. ⊎_elim
      (λ e. subst (λ (z : Block). Good count z.label.kind z.bytes) (sym (pushed blocks x).here ∙ ap (block_at (blocks ++ x ∷ [])) (sym e)) good)
      (λ ne. let long = longer blocks x in subst (λ (z : Block). Good count z.label.kind z.bytes) (sym ((pushed blocks x).others b ne)) (sound.each b (omega (arith, long, lt, ne))))
      (cases_eq b (length blocks));
}

pub waiting_pushed : (p : Silent) (x : Block) → Waiting p.blocks p.waits → Waiting (p.blocks ++ x ∷ []) p.waits
waiting_pushed p x waiting = record {
  used = λ a on k w. ⊎_elim
      (λ e. absurd (none_waits p.blocks on k (omega (arith, e)) (waiting.used a on k w)))
      (λ ne. ap (λ (z : Block). is_active ((content_of z).slot (2 * k))) ((pushed p.blocks x).others on ne) ∙ waiting.used a on k w)
      (cases_eq on (length p.blocks));
}

pub gives : (p : Silent) (x : Block) (c : Content) (l : Label) → Waiting p.blocks p.waits → 2 < length p.blocks → length p.blocks < p.count → SameContent (content_of x) c → x.label ≡ l → x.apart ≡ true → Gives (length p.blocks) c l (state_of p) (state_of (record p { blocks = p.blocks ++ x ∷ [] }))
gives p x c l waiting begun few same is_label apart =
    let up = pushed p.blocks x in
    let long = longer p.blocks x in
    record {
      memory = record {
        here = record {
          bytes = ap (λ (z : Block). (content_of z).bytes) up.here ∙ same.bytes;
          slots = λ i. ap (λ (z : Block). (content_of z).slot i) up.here ∙ same.slots i;
        };
        others = λ b ne. record {
          bytes = ap (λ (z : Block). (content_of z).bytes) (up.others b ne);
          slots = λ i. ap (λ (z : Block). (content_of z).slot i) (up.others b ne);
        };
      };
      images = record { apart = λ image h. absurd h; holds = λ image h. absurd h; before = λ image h. absurd h };
      label = ap (λ (z : Block). z.label) up.here ∙ is_label;
      free = ap (λ (z : Block). is_usable 1 z.label) (past_end p.blocks no_block (length p.blocks) (omega arith));
      was = (
        λ e. let no : Free ≡ Live = sym (ap (λ (z : Block). z.label.state) (past_end p.blocks no_block (length p.blocks) (omega arith))) ∙ e in cc,
        λ e. omega (arith, begun, e),
        λ h. h,
        λ t. absurd t,
      );
      alone = λ t. absurd t;
      is = (
        (omega (arith, begun), few),
        (omega (arith, begun), omega (arith, long)),
        tt,
        ap (λ (z : Block). z.apart) up.here ∙ apart,
        λ h. h,
        λ a j w. none_waits p.blocks (length p.blocks) (j / 2) (omega arith) (waiting.used a (length p.blocks) (j / 2) w),
      );
      stays = record {
        labels = λ b ne. ap (λ (z : Block). z.label) (up.others b ne);
        marks = λ b ne. (λ h. let lt = h.1 in (h.0, omega (arith, lt, long)), λ h. h, λ h. h);
        places = λ t. absurd t;
        rooted = λ t. absurd t;
        newborn = λ b _ h. h;
        apart = λ b ne _. (λ h. sym (ap (λ (z : Block). z.apart) (up.others b ne)) ∙ h, λ h. ap (λ (z : Block). z.apart) (up.others b ne) ∙ h);
        instead = λ b y ne _. (λ h. (sym (ap (λ (z : Block). z.apart) (up.others b ne)) ∙ h.0, sym (ap (λ (z : Block). z.origin) (up.others b ne)) ∙ h.1), λ h. (ap (λ (z : Block). z.apart) (up.others b ne) ∙ h.0, ap (λ (z : Block). z.origin) (up.others b ne) ∙ h.1));
        waits = λ a on j _ _ _ w. w;
      };
      order = record { clearing = λ b j h. absurd h; goes_on = λ b j _ h. h };
      covered = λ b ne. (λ h. h, λ h. h);
      no_wait = record { each = λ a on j _ w. w };
      dirty = λ b h. absurd h;
      uses = record { spare = omega (arith, long, few); usable = omega (arith, long, few); room = omega arith; pins = refl; moments = refl; left = λ k image h. h };
      queued = refl;
      no_removal = record { each = λ x e w h. h };
      numbers = record { next = refl; grants = λ h. h };
    }

sound_none : (count : ℕ) → Sound count []
sound_none count = record { each = λ b lt. absurd (omega (arith, lt)) }

pub sound_three : (count : ℕ) (a b c : List Block) (x y z : Block) → a ≡ x ∷ [] → b ≡ a ++ y ∷ [] → c ≡ b ++ z ∷ [] → Good count x.label.kind x.bytes → Good count y.label.kind y.bytes → Good count z.label.kind z.bytes → Sound count c
sound_three count a b c x y z first second third gx gy gz =
    let one : Sound count a = subst (Sound count) (sym first) (sound_pushed count [] x (sound_none count) gx) in
    let two : Sound count b = subst (Sound count) (sym second) (sound_pushed count a y one gy) in
    subst (Sound count) (sym third) (sound_pushed count b z two gz)

pub given : (p q : Silent) (at : ℕ) (x : Block) (c : Content) (l : Label) → Waiting p.blocks p.waits → 2 < length p.blocks → length p.blocks < p.count → SameContent (content_of x) c → x.label ≡ l → x.apart ≡ true → at ≡ length p.blocks → q.blocks ≡ p.blocks ++ x ∷ [] → q ≡ record p { blocks = q.blocks } → Gives at c l (state_of p) (state_of q)
given p q at x c l waiting begun few same label apart is blocks rest =
    let all : q ≡ record p { blocks = p.blocks ++ x ∷ [] } = rest ∙ ap (λ (bs : List Block). record p { blocks = bs }) blocks in
    subst (λ n. Gives n c l (state_of p) (state_of q)) (sym is) (subst (λ (z : Silent). Gives (length p.blocks) c l (state_of p) (state_of z)) (sym all) (gives p x c l waiting begun few same label apart))
