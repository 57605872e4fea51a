-- What an arena keeps when a block is read, and when one is added.
use Rattle.std.proofs.Common.{◌≡◌, ◌≢◌, inl, inr, ⊎_elim, ℕ, zero, suc, ◌+◌, ◌-◌, ◌<◌, ◌≤◌, Bool, true, false, List, [], ◌∷◌, ◌++◌, length, get_or, take, drop, refl, sym, ◌∙◌, ap, subst, arith}
use Rattle.std.specs.Prelude.{Some, Result, Ok, Err, IfOk}
use Rattle.std.specs.BTreeMap.{get}
use Rattle.std.specs.List.{Contains}
use Rattle.std.proofs.lemmas.Bool.{cases_eq}
use Rattle.std.proofs.lemmas.List.Elements.{All-weaker}
use Rattle.std.proofs.lemmas.Bool.Decides.{Decides-eqb}
use Rattle.std.proofs.lemmas.Slice.Eq.{slice_eq-Decides}
use Rattle.std.specs.Cmp.Lexicographic.{pointwise}
use Rattle.std.specs.Prelude.{nat_eq}
use Rattle.std.proofs.lemmas.List.{get_or-map, get_or-drop, get_or_push, length_push, get_or_append_left, drop-append-le}
use Rattle.fo_disk.specs.Disk.{Block, Content, DiskState, versions_of, IsNewest, Since}
use Rattle.fo_image.specs.declared.types.ArenaLine.{ArenaLine}
use Rattle.fo_image.specs.Format.{IsScore}
use Rattle.fo_image.specs.Place.{stored_block}
use Rattle.sha1.specs.Sha1.{sha1}
use Rattle.venti_store.specs.Held.{no_line, line_at, name_of, stored_at, HasLine, HasBytes, HasName, IsNamed, IsHeld, Recovers}
use Rattle.venti_store.specs.Kept.{waits, settled_count, AllFit, AreDue, KeepsIn}
use Rattle.venti_store.specs.declared.shelf.Shelf.{Shelf}
use Rattle.venti_store.specs.declared.waiting.Waiting.{Waiting}
use Rattle.venti_store.specs.declared.recent.Recalled.{Recalled}
use Rattle.venti_store.specs.declared.error.ArenaError.{ArenaError}
use Rattle.venti_store.specs.declared.error.ArenaError.TheVariants as why
use Rattle.venti_store.specs.Arena.{Keeps, line_for, IsAtHand, IsInMemory, LookRefuses, PutRefuses, RefusesHeld, AppendRefuses, IsCollision}
use Rattle.venti_store.specs.Names.{name_cmp}
use Rattle.venti_store.proofs.Keeping.{InMemory, in_memory, begins}
use Rattle.venti_store.proofs.Settled.{stored_within}

-- the bytes of a place that waits
pub read_waiting : {size : ℕ} {lines : List ArenaLine} {waiting stored : List (List ℕ)} {recalled : List Recalled} {synced : ℕ} {s : DiskState} (place : ℕ) → KeepsIn size lines waiting recalled stored synced s → settled_count lines waiting ≤ place → get_or waiting (place - settled_count lines waiting) [] ≡ stored_at stored place
read_waiting {lines = lines} {waiting = waiting} {stored = stored} place k le =
    ap (λ (ws : List (List ℕ)). get_or ws (place - settled_count lines waiting) []) k.wait
    ∙ get_or-drop (settled_count lines waiting) stored (place - settled_count lines waiting) []
    ∙ ap (λ (n : ℕ). get_or stored n []) (let e : settled_count lines waiting + (place - settled_count lines waiting) ≡ place = omega (arith, le) in e)

-- the bytes of a place that is settled
pub read_settled : {size : ℕ} {lines : List ArenaLine} {waiting stored : List (List ℕ)} {recalled : List Recalled} {synced : ℕ} {s : DiskState} (place : ℕ) (block : Block) → InMemory size lines waiting → KeepsIn size lines waiting recalled stored synced s → place < settled_count lines waiting → Contains (versions_of s.holds (stored_block place)) block
    → take (line_at lines place).len block ≡ stored_at stored place
read_settled {size} {lines} {waiting} place block m k lt has = sym ((k.fits (stored_block place) block (stored_within size place (omega (arith, lt, m.places))) has).bytes place lt refl)

-- a block is told where the device tells what it holds
pub stored_told : {size : ℕ} {lines : List ArenaLine} {waiting stored : List (List ℕ)} {recalled : List Recalled} {synced : ℕ} {s : DiskState} (place : ℕ) → InMemory size lines waiting → KeepsIn size lines waiting recalled stored synced s → place < length lines → stored_block place < length s.holds
stored_told {size} {lines} place m k lt = let within = stored_within size place (omega (arith, lt, m.places)) in omega (arith, within, k.told)

-- one block more
pub record Added (lines now : List ArenaLine) (waiting after : List (List ℕ)) (line : ArenaLine) (bytes : List ℕ) : Type 0 where
  pub line_is : now ≡ lines ++ line ∷ []
  pub bytes_is : after ≡ waiting ++ bytes ∷ []
  pub len : line.len ≡ length bytes
  pub few : length waiting ≤ length lines

module _ {lines now : List ArenaLine} {waiting after : List (List ℕ)} {line : ArenaLine} {bytes : List ℕ} (a : Added lines now waiting after line bytes) where
  more : length now ≡ length lines + 1
  more = ap length a.line_is ∙ length_push lines line

  same_count : settled_count now after ≡ settled_count lines waiting
  same_count = omega (arith, more, ap length a.bytes_is, length_push waiting bytes)

  line_before : (place : ℕ) → place < length lines → line_at now place ≡ line_at lines place
  line_before place lt = ap (λ (ls : List ArenaLine). line_at ls place) a.line_is ∙ get_or_append_left lines (line ∷ []) no_line place lt

  line_new : line_at now (length lines) ≡ line
  line_new = ap (λ (ls : List ArenaLine). line_at ls (length lines)) a.line_is ∙ get_or_push lines line no_line (length lines) refl

  module _ {size : ℕ} {stored : List (List ℕ)} {recalled : List Recalled} {synced : ℕ} {s : DiskState} (k : KeepsIn size lines waiting recalled stored synced s) where
    stored_before : (place : ℕ) → place < length lines → stored_at (stored ++ bytes ∷ []) place ≡ stored_at stored place
    stored_before place lt = get_or_append_left stored (bytes ∷ []) [] place (omega (arith, lt, k.count))

    stored_new : stored_at (stored ++ bytes ∷ []) (length lines) ≡ bytes
    stored_new = get_or_push stored bytes [] (length lines) k.count

    fits_now : AllFit size synced (settled_count lines waiting) now (stored ++ bytes ∷ []) s.holds
    fits_now at block lt has = let f = k.fits at block lt has in record {
      head = f.head;
      line = λ place below is. subst (λ (l : ArenaLine). Rattle.fo_image.specs.Format.SpellsArenaLine l (Rattle.venti_store.specs.Held.line_bytes place block)) (sym (line_before place (omega (arith, below)))) (f.line place below is);
      bytes = λ place below is. stored_before place (omega (arith, below)) ∙ f.bytes place below is ∙ ap (λ (l : ArenaLine). take l.len block) (sym (line_before place (omega (arith, below))));
    }

    due_now : AreDue size (settled_count lines waiting) (length now) s
    due_now at lt flag = ⊎_elim
        (λ one. inl one)
        (λ due. inr (⊎_elim (λ zero. inl zero) (λ (place, from, to, which). inr (place, from, omega (arith, to, more), which)) due))
        (k.due at lt flag)

    pub added_keeps : KeepsIn size now after recalled (stored ++ bytes ∷ []) synced s
    added_keeps = record {
      told = k.told;
      some = k.some;
      count = length_push stored bytes ∙ omega (arith, more, k.count);
      lens = λ place lt. ⊎_elim
          (λ last. ap (λ (p : ℕ). length (stored_at (stored ++ bytes ∷ []) p)) last ∙ ap length stored_new ∙ sym a.len ∙ ap (λ (l : ArenaLine). l.len) (sym line_new) ∙ ap (λ (p : ℕ). (line_at now p).len) (sym last))
          (λ other.
          let before : place < length lines = omega (arith, lt, more, other) in
          ap length (stored_before place before) ∙ k.lens place before ∙ ap (λ (l : ArenaLine). l.len) (sym (line_before place before)))
          (cases_eq place (length lines));
      wait = a.bytes_is ∙ ap (λ (ws : List (List ℕ)). ws ++ bytes ∷ []) k.wait ∙ sym (drop-append-le (settled_count lines waiting) stored (bytes ∷ []) (omega (arith, k.count))) ∙ ap (λ (n : ℕ). drop n (stored ++ bytes ∷ [])) (sym same_count);
      order = omega (arith, k.order, same_count);
      fits = subst (λ (n : ℕ). AllFit size synced n now (stored ++ bytes ∷ []) s.holds) (sym same_count) fits_now;
      due = subst (λ (n : ℕ). AreDue size n (length now) s) (sym same_count) due_now;
      recalls = All-weaker (λ (r : Recalled). (r.place < length lines) × (r.bytes.items ≡ stored_at stored r.place)) (λ (r : Recalled). (r.place < length now) × (r.bytes.items ≡ stored_at (stored ++ bytes ∷ []) r.place))
          (λ r h. (omega (arith, h.0, more), h.1 ∙ sym (stored_before r.place h.0))) recalled k.recalls;
    }

-- what was only read keeps what it kept
pub kept_keeps : {s t : Shelf} {stored : List (List ℕ)} {synced : ℕ} {old new : DiskState} → t ≡ s → new ≡ old → Keeps s stored synced old → Keeps t stored synced new
kept_keeps {s} {t} {stored} {synced} {old} {new} same kept k =
    subst (λ (x : Shelf). Keeps x stored synced new) (sym same) (subst (λ (d : DiskState). Keeps s stored synced d) (sym kept) k)

pub same_keeps : {size other : ℕ} {lines now : List ArenaLine} {waiting after stored : List (List ℕ)} {recalled recent : List Recalled} {synced : ℕ} {s : DiskState} → other ≡ size → now ≡ lines → after ≡ waiting → recent ≡ recalled → KeepsIn size lines waiting recalled stored synced s → KeepsIn other now after recent stored synced s
same_keeps {size} {other} {lines} {now} {waiting} {after} {stored} {recalled} {recent} {synced} {s} size_is lines_is waiting_is recent_is k =
    subst (λ (n : ℕ). KeepsIn n now after recent stored synced s) (sym size_is) (subst (λ (ls : List ArenaLine). KeepsIn size ls after recent stored synced s) (sym lines_is) (subst (λ (ws : List (List ℕ)). KeepsIn size lines ws recent stored synced s) (sym waiting_is)
    (subst (λ (rs : List Recalled). KeepsIn size lines waiting rs stored synced s) (sym recent_is) k)))

pub stays_since : (s : Shelf) {stored : List (List ℕ)} {synced size : ℕ} {d : DiskState} → Keeps s stored synced d → IsNewest size d.holds d.moments → Since d.moments d.moments (Recovers synced s.index.lines.items stored)
stays_since s k newest = (begins (in_memory s) k newest).since

pub kept_since : (s : Shelf) {stored : List (List ℕ)} {synced size : ℕ} {old new : DiskState} → new ≡ old → Keeps s stored synced old → IsNewest size old.holds old.moments → Since old.moments new.moments (Recovers synced s.index.lines.items stored)
kept_since s {stored} {synced} {old = old} kept k newest = subst (λ (d : DiskState). Since old.moments d.moments (Recovers synced s.index.lines.items stored)) (sym kept) (stays_since s k newest)

-- a run after what was only read
pub read_since : {s t : Shelf} {stored : List (List ℕ)} {synced : ℕ} {old new : DiskState} {moments : List Content} → t ≡ s → new ≡ old → Since new.moments moments (Recovers synced t.index.lines.items stored) → Since old.moments moments (Recovers synced s.index.lines.items stored)
read_since {s} {t} {stored} {synced} {old} {new} {moments} same kept since =
    subst (λ (d : DiskState). Since d.moments moments (Recovers synced s.index.lines.items stored)) kept (subst (λ (x : Shelf). Since new.moments moments (Recovers synced x.index.lines.items stored)) same since)

pub ok_weaker : {V E : Type 0} (result : Result V E) (P Q : V → Type 0) → ((v : V) → P v → Q v) → IfOk result P → IfOk result Q
ok_weaker (Ok v) P Q f h = f v h
ok_weaker (Err e) P Q f h = tt

pub collision_held : (lines : List ArenaLine) (stored : List (List ℕ)) (score : List ℕ) (kind : ℕ) (held bytes : List ℕ) (e : ArenaError) → IsCollision held bytes e → IsHeld lines stored score kind held → RefusesHeld lines stored score kind e
collision_held lines stored score kind held bytes (why.Collision one other) c h = subst (IsHeld lines stored score kind) (sym c.0) h
collision_held lines stored score kind held bytes (why.Damaged at) c h = absurd c
collision_held lines stored score kind held bytes why.Absent c h = tt
collision_held lines stored score kind held bytes why.ArenaFull c h = tt
collision_held lines stored score kind held bytes why.BadScore c h = tt
collision_held lines stored score kind held bytes why.ArenaRead c h = tt
collision_held lines stored score kind held bytes why.ArenaWrite c h = tt
collision_held lines stored score kind held bytes why.ArenaSync c h = tt
collision_held lines stored score kind held bytes why.Memory c h = tt

pub append_held : (blocks : ℕ) (lines : List ArenaLine) (stored : List (List ℕ)) (score : List ℕ) (kind : ℕ) (e : ArenaError) → AppendRefuses blocks lines e → (others : List ArenaLine) → RefusesHeld others stored score kind e
append_held blocks lines stored score kind (why.Collision one other) r others = absurd r
append_held blocks lines stored score kind (why.Damaged at) r others = absurd r
append_held blocks lines stored score kind why.Absent r others = tt
append_held blocks lines stored score kind why.ArenaFull r others = tt
append_held blocks lines stored score kind why.BadScore r others = tt
append_held blocks lines stored score kind why.ArenaRead r others = tt
append_held blocks lines stored score kind why.ArenaWrite r others = tt
append_held blocks lines stored score kind why.ArenaSync r others = tt
append_held blocks lines stored score kind why.Memory r others = tt

pub waiting_is : (pending : List Waiting) (i : ℕ) (w : Waiting) → i < length pending → (get_or pending i w).bytes.items ≡ get_or (waits pending) i []
waiting_is pending i w lt = sym (get_or-map (λ (w : Waiting). w.bytes.items) pending i w [] lt)

-- a line by another default
pub line_default : (lines : List ArenaLine) (place : ℕ) (d : ArenaLine) → place < length lines → get_or lines place d ≡ line_at lines place
line_default [] place d lt = absurd (omega (arith, lt))
line_default (l ∷ lines) zero d lt = refl
line_default (l ∷ lines) (suc place) d lt = line_default lines place d (omega (arith, lt))

-- two lists that a test found apart
pub same : (xs ys : List ℕ) (r : Bool) → r ≡ pointwise nat_eq xs ys → r ≡ true → xs ≡ ys
same xs ys r found equal = (slice_eq-Decides Decides-eqb xs ys r found).0 equal

pub differ : (xs ys zs : List ℕ) (r : Bool) → r ≡ pointwise nat_eq xs ys → r ≡ false → ys ≡ zs → xs ≢ zs
differ xs ys zs r is found ys_is same =
    let d = slice_eq-Decides Decides-eqb xs ys r is in
    let yes : r ≡ true = d.1 (same ∙ sym ys_is) in
    let bad : true ≡ false = sym yes ∙ found in
    cc

-- the score that a block hashes to
pub named_at : (lines : List ArenaLine) {score other : List ℕ} (kind : ℕ) → score ≡ other → IsNamed lines score kind → IsNamed lines other kind
named_at lines kind is named = subst (λ (s : List ℕ). IsNamed lines s kind) is named

pub held_at : (lines : List ArenaLine) (stored : List (List ℕ)) {score other bytes same : List ℕ} (kind : ℕ) → score ≡ other → bytes ≡ same → IsHeld lines stored score kind bytes → IsHeld lines stored other kind same
held_at lines stored {score} {other} {bytes} {same} kind is bytes_is held =
    subst (λ (s : List ℕ). IsHeld lines stored s kind same) is (subst (λ (b : List ℕ). IsHeld lines stored score kind b) bytes_is held)

pub refuses_at : (lines : List ArenaLine) (stored : List (List ℕ)) {score other : List ℕ} (kind : ℕ) (e : ArenaError) → score ≡ other → RefusesHeld lines stored score kind e → RefusesHeld lines stored other kind e
refuses_at lines stored kind e is refused = subst (λ (s : List ℕ). RefusesHeld lines stored s kind e) is refused

-- what refuses a look refuses a put
pub put_refused : (blocks : ℕ) (lines : List ArenaLine) (kind : ℕ) (bytes score : List ℕ) (e : ArenaError) → score ≡ sha1 bytes → IsScore (sha1 bytes) → LookRefuses lines score kind e → PutRefuses blocks lines kind bytes e
put_refused blocks lines kind bytes score (why.Damaged at) is spelled h = (spelled, subst (λ (s : List ℕ). LookRefuses lines s kind (why.Damaged at)) is h)
put_refused blocks lines kind bytes score why.ArenaRead is spelled h = (spelled, named_at lines kind is h)
put_refused blocks lines kind bytes score why.Memory is spelled h = (spelled, tt)
put_refused blocks lines kind bytes score (why.Collision one other) is spelled h = absurd h
put_refused blocks lines kind bytes score why.Absent is spelled h = absurd h
put_refused blocks lines kind bytes score why.ArenaFull is spelled h = absurd h
put_refused blocks lines kind bytes score why.BadScore is spelled h = absurd h
put_refused blocks lines kind bytes score why.ArenaWrite is spelled h = absurd h
put_refused blocks lines kind bytes score why.ArenaSync is spelled h = absurd h

-- ---- blocks in memory

pub one_place : (s : Shelf) {score : List ℕ} {kind one other : ℕ} → HasName s.index.lines.items score kind one → HasName s.index.lines.items score kind other → one ≡ other
one_place s {score} {kind} {one} {other} h o =
    let here : name_of (line_at s.index.lines.items one) ≡ (score, kind) = λ i. (h.score_is i, h.kind_is i) in
    let there : name_of (line_at s.index.lines.items other) ≡ (score, kind) = λ i. (o.score_is i, o.kind_is i) in
    let e : Some one ≡ Some other = sym (s.index.found one h.used) ∙ ap (get name_cmp s.index.places) (here ∙ sym there) ∙ s.index.found other o.used in
    cc

-- a place at hand is in memory
pub hand_is : (s : Shelf) {score : List ℕ} {kind place : ℕ} → IsAtHand s score kind → score ≢ sha1 [] → HasName s.index.lines.items score kind place → IsInMemory s place
hand_is s {score} {kind} {place} hand some named = ⊎_elim
    (λ empty. absurd (some empty))
    (λ (other, has, is). let same : other ≡ place = one_place s has named in subst (IsInMemory s) same is)
    hand

pub hand_at : (s : Shelf) {score other : List ℕ} (kind : ℕ) → score ≡ other → IsAtHand s score kind → IsAtHand s other kind
hand_at s kind is hand = subst (λ (x : List ℕ). IsAtHand s x kind) is hand

-- ---- what is held at a place

pub held_bytes : (s : Shelf) (stored : List (List ℕ)) {score : List ℕ} {kind place : ℕ} {bytes : List ℕ} → score ≢ sha1 [] → HasName s.index.lines.items score kind place → IsHeld s.index.lines.items stored score kind bytes → bytes ≡ stored_at stored place
held_bytes s stored some named held = ⊎_elim
    (λ (empty, is). absurd (some empty))
    (λ (other, at, has, is). is ∙ ap (stored_at stored) (one_place s has named))
    held

-- the block that was added last
pub name_last : (lines now : List ArenaLine) (kind : ℕ) (bytes score : List ℕ) → score ≡ sha1 bytes → now ≡ lines ++ line_for kind bytes ∷ [] → HasName now score kind (length lines)
name_last lines now kind bytes score hashed is =
    let here : line_at now (length lines) ≡ line_for kind bytes = ap (λ (ls : List ArenaLine). line_at ls (length lines)) is ∙ get_or_push lines (line_for kind bytes) no_line (length lines) refl in record {
      used = omega (arith, ap length is, length_push lines (line_for kind bytes));
      score_is = ap (λ (l : ArenaLine). l.score.0) here ∙ sym hashed;
      kind_is = ap (λ (l : ArenaLine). l.kind) here;
    }

pub held_last : (lines now : List ArenaLine) (stored : List (List ℕ)) (kind : ℕ) (bytes block score : List ℕ) → ¬ IsNamed lines score kind → score ≡ sha1 bytes → now ≡ lines ++ line_for kind bytes ∷ [] → length stored ≡ length lines → block ≡ bytes → IsHeld now (stored ++ bytes ∷ []) score kind block
held_last lines now stored kind bytes block score fresh hashed is count block_is =
    inr (λ empty. fresh (inl empty), length lines, name_last lines now kind bytes score hashed is, block_is ∙ sym (get_or_push stored bytes [] (length lines) count))
