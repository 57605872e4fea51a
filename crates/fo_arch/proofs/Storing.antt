-- One piece is stored.
use Rattle.std.proofs.Common.{◌≡◌, ⊎_elim, inl, inr, ℕ, ◌+◌, ◌<◌, List, [], ◌∷◌, ◌++◌, length, get_or, length-append, refl, sym, ◌∙◌, ap, subst, arith}
use Rattle.std.proofs.lemmas.Grind.{common_steps}
use Rattle.std.specs.Prelude.{Some, None}
use Rattle.std.specs.List.{AllByRecursion}
use Rattle.sha1.specs.Sha1.{sha1}
use Rattle.fo_disk.specs.Disk.{Content, DiskState, Since}
use Rattle.fo_disk.proofs.Moments.{joins, weaker}
use Rattle.fo_image.specs.declared.types.Score.{Score}
use Rattle.fo_image.specs.declared.types.Kind.{Kind}
use Rattle.fo_image.specs.declared.types.ArenaLine.{ArenaLine}
use Rattle.fo_image.specs.Format.{KindHolds}
use Rattle.fo_crash.specs.Images.{Image}
use Rattle.venti_store.specs.Held.{line_at, stored_at, no_line, HasName, IsNamed, IsHeld, Recovers}
use Rattle.venti_store.specs.Arena.{lines_of, Keeps, PutsLine, PutsBytes, line_for}
use Rattle.venti_store.specs.declared.shelf.Shelf.{Shelf}
use Rattle.fo_arch_hash.specs.Batch.{score_of}
use Rattle.fo_arch_hash.specs.declared.types.Piece.{Piece}
use Rattle.fo_arch_form.specs.declared.stored.Stored.{Stored}
use Rattle.fo_arch_form.specs.Stored.{found, Adds}
use Rattle.fo_arch_walk.specs.Pieces.{IsCutForm, IsPieceOf}
use Rattle.fo_arch_walk.specs.Spots.{arena_code}
use Rattle.fo_arch_tree.specs.Forms.{IsStoredAt, StoresForms}
use Rattle.fo_arch.specs.Forms.{AreNamed, StoresMore}
use Rattle.fo_arch.specs.Stores.{IsMore, Stores}
use Rattle.fo_arch.proofs.Growing.{more_none, more_one, more_joins, named_more, held_more, recovers_more, named_or_not}
use Rattle.fo_arch.proofs.Forming.{adds_more, cut_more, code_once, same_key}

-- ---- a put

last_is : {X : Type 0} (xs : List X) (x d : X) → get_or (xs ++ x ∷ []) (length xs) d ≡ x
last_is xs x d = grind (arith, common_steps)

longer : {X : Type 0} (xs : List X) (x : X) → length xs < length (xs ++ x ∷ [])
longer xs x = let e : length (xs ++ x ∷ []) ≡ length xs + 1 = length-append xs (x ∷ []) in omega (arith, e)

last_name : (lines : List ArenaLine) (kind : ℕ) (bytes : List ℕ) → HasName (lines ++ line_for kind bytes ∷ []) (sha1 bytes) kind (length lines)
last_name lines kind bytes =
    let is : line_at (lines ++ line_for kind bytes ∷ []) (length lines) ≡ line_for kind bytes = last_is lines (line_for kind bytes) no_line in record {
      used = longer lines (line_for kind bytes);
      score_is = ap (λ (l : ArenaLine). l.score.0) is;
      kind_is = ap (λ (l : ArenaLine). l.kind) is;
    }

pub put_more : (kind : ℕ) (bytes : List ℕ) (lines now : List ArenaLine) → PutsLine kind bytes lines now → IsMore lines now
put_more kind bytes lines now p = ⊎_elim (λ yes. more_none lines now (p.held yes)) (λ no. more_one lines now (line_for kind bytes) (p.new no)) (named_or_not lines (sha1 bytes) kind)

pub put_named : (kind : ℕ) (bytes : List ℕ) (lines now : List ArenaLine) → PutsLine kind bytes lines now → IsNamed now (sha1 bytes) kind
put_named kind bytes lines now p = ⊎_elim
    (λ yes. subst (λ (ls : List ArenaLine). IsNamed ls (sha1 bytes) kind) (sym (p.held yes)) yes)
    (λ no. subst (λ (ls : List ArenaLine). IsNamed ls (sha1 bytes) kind) (sym (p.new no)) (inr (length lines, last_name lines kind bytes)))
    (named_or_not lines (sha1 bytes) kind)

pub put_bytes_more : (kind : ℕ) (bytes : List ℕ) (lines : List ArenaLine) (stored held : List (List ℕ)) → PutsBytes kind bytes lines stored held → IsMore stored held
put_bytes_more kind bytes lines stored held p = ⊎_elim (λ yes. more_none stored held (p.held yes).0) (λ no. more_one stored held bytes (p.new no)) (named_or_not lines (sha1 bytes) kind)

-- what was put is held
pub put_held : (kind : ℕ) (bytes : List ℕ) (lines now : List ArenaLine) (stored held : List (List ℕ)) → length stored ≡ length lines → PutsLine kind bytes lines now → PutsBytes kind bytes lines stored held → IsHeld now held (sha1 bytes) kind bytes
put_held kind bytes lines now stored held count p q = ⊎_elim
    (λ yes. held_more (sha1 bytes) kind bytes (more_none lines now (p.held yes)) (more_none stored held (q.held yes).0) count (q.held yes).1)
    (λ no.
    let name : HasName now (sha1 bytes) kind (length lines) = subst (λ (ls : List ArenaLine). HasName ls (sha1 bytes) kind (length lines)) (sym (p.new no)) (last_name lines kind bytes) in
    let is : stored_at held (length lines) ≡ bytes = ap (λ (l : List (List ℕ)). stored_at l (length lines)) (q.new no) ∙ ap (λ (n : ℕ). stored_at (stored ++ bytes ∷ []) n) (sym count) ∙ last_is stored bytes [] in
    inr (λ empty. no (inl empty), length lines, name, sym is))
    (named_or_not lines (sha1 bytes) kind)

-- ---- forms

stored_more : {done now : Stored} {image : Image} {lines after : List ArenaLine} {stored held : List (List ℕ)} {at : ℕ} {kind : Kind} {score : Score} → StoresMore done now → IsMore lines after → IsMore stored held → length stored ≡ length lines → IsStoredAt done image lines stored at kind score → IsStoredAt now image after held at kind score
stored_more {image = image} {at = at} {kind = kind} {score = score} more p q count s = record {
  bytes = s.bytes;
  is = cut_more more kind (image at) s.bytes s.is;
  hash = s.hash;
  held = held_more score.0 (arena_code kind) s.bytes p q count s.held;
}

-- an arena that holds more holds the forms still
pub forms_grow : {done now : Stored} (image : Image) {lines after : List ArenaLine} {stored held : List (List ℕ)} → ((at kind : ℕ) → found now at kind ≡ found done at kind) → IsMore lines after → IsMore stored held → length stored ≡ length lines → StoresForms done image lines stored → StoresForms now image after held
forms_grow image same p q count f = record {
  each = λ at kind score holds is. stored_more (record { each = λ a k s there. same a k ∙ there }) p q count (f.each at kind score holds (sym (same at (arena_code kind)) ∙ is));
}

some_is : {x y : Score} → Some x ≡ Some y → x ≡ y
some_is e = cc

-- what is known of a piece that was put and noted
pub record Noted (done now : Stored) (p : Piece) (lines after : List ArenaLine) (stored held : List (List ℕ)) : Type 0 where
  pub fresh : found done p.at p.kind ≡ None
  pub adds : Adds p.at p.kind (score_of p) done now
  pub count : length stored ≡ length lines
  pub line : PutsLine p.kind p.bytes.items lines after
  pub bytes : PutsBytes p.kind p.bytes.items lines stored held

module _ {done now : Stored} {p : Piece} {lines after : List ArenaLine} {stored held : List (List ℕ)} (n : Noted done now p lines after stored held) where
  noted_more : StoresMore done now
  noted_more = adds_more n.fresh n.adds

  lines_more : IsMore lines after
  lines_more = put_more p.kind p.bytes.items lines after n.line

  bytes_more : IsMore stored held
  bytes_more = put_bytes_more p.kind p.bytes.items lines stored held n.bytes

  pub noted_forms : (image : Image) → IsPieceOf done image p → StoresForms done image lines stored → StoresForms now image after held
  noted_forms image is f = record { each = each }
    where
      this : (at : ℕ) (kind : Kind) (score : Score) → KindHolds kind → at ≡ p.at → arena_code kind ≡ p.kind → found now at (arena_code kind) ≡ Some score → IsStoredAt now image after held at kind score
      this at kind score holds at_is code_is there =
          let same_kind : is.kind ≡ kind = code_once is.kind kind is.holds holds (sym is.code_is ∙ sym code_is) in
          let same_score : score_of p ≡ score = some_is (sym n.adds.here ∙ ap (λ (a : ℕ). found now a p.kind) (sym at_is) ∙ ap (λ (k : ℕ). found now at k) (sym code_is) ∙ there) in
          let cut : IsCutForm now kind (image at) p.bytes.items =
          subst (λ (k : Kind). IsCutForm now k (image at) p.bytes.items) same_kind
          (subst (λ (a : ℕ). IsCutForm now is.kind (image a) p.bytes.items) (sym at_is) (cut_more noted_more is.kind (image p.at) p.bytes.items is.is)) in
          let held_is : IsHeld after held (sha1 p.bytes.items) p.kind p.bytes.items = put_held p.kind p.bytes.items lines after stored held n.count n.line n.bytes in record {
            bytes = p.bytes.items;
            is = cut;
            hash = ap (λ (s : Score). s.0) same_score;
            held = subst (λ (s : Score). IsHeld after held s.0 (arena_code kind) p.bytes.items) same_score
                (subst (λ (k : ℕ). IsHeld after held (sha1 p.bytes.items) k p.bytes.items) (sym code_is) held_is);
          }

      each : (at : ℕ) (kind : Kind) (score : Score) → KindHolds kind → found now at (arena_code kind) ≡ Some score → IsStoredAt now image after held at kind score
      each at kind score holds there = ⊎_elim
          (λ same. this at kind score holds same.0 same.1 there)
          (λ other. stored_more noted_more lines_more bytes_more n.count (f.each at kind score holds (sym (n.adds.others at (arena_code kind) other) ∙ there)))
          (same_key at (arena_code kind) p.at p.kind)

-- ---- names

pub named_same : {done now : Stored} {lines after : List ArenaLine} → ((at kind : ℕ) → found now at kind ≡ found done at kind) → IsMore lines after → AreNamed done lines → AreNamed now after
named_same same p named = record { each = λ at kind score is. named_more score.0 kind p (named.each at kind score (sym (same at kind) ∙ is)) }

pub named_adds : {done now : Stored} {lines after : List ArenaLine} (at kind : ℕ) (score : Score) → Adds at kind score done now → IsMore lines after → IsNamed after score.0 kind → AreNamed done lines → AreNamed now after
named_adds {done = done} {now = now} {after = after} at kind score adds p here named = record { each = each }
  where
    each : (a k : ℕ) (s : Score) → found now a k ≡ Some s → IsNamed after s.0 k
    each a k s is = ⊎_elim
        (λ same.
        let same_score : score ≡ s = some_is (sym adds.here ∙ ap (λ (x : ℕ). found now x kind) (sym same.0) ∙ ap (λ (x : ℕ). found now a x) (sym same.1) ∙ is) in
        subst (λ (x : Score). IsNamed after x.0 k) same_score (subst (λ (x : ℕ). IsNamed after score.0 x) (sym same.1) here))
        (λ other. named_more s.0 k p (named.each a k s (sym (adds.others a k other) ∙ is)))
        (same_key a k at kind)

-- ---- steps

-- a piece that was put and noted
pub stores_noted : {done now : Stored} {p : Piece} (old new : Shelf) (stored held : List (List ℕ)) (synced : ℕ) (before : List Content) (s : DiskState) → Noted done now p (lines_of old) (lines_of new) stored held → Keeps new held synced s → Since before s.moments (Recovers synced (lines_of old) stored)
    → Stores (p ∷ []) done now old new stored synced before s
stores_noted old new stored held synced before s n keeps since = record {
  held = held;
  more = bytes_more n;
  keeps = keeps;
  since = weaker since (λ vault r. recovers_more synced (lines_more n) (bytes_more n) n.count vault r);
  forms = λ image all f. noted_forms n image all.0 f;
}

-- a piece that was put, and not noted for want of memory
pub stores_put : {done now : Stored} (p : Piece) (old new : Shelf) (stored held : List (List ℕ)) (synced : ℕ) (before : List Content) (s : DiskState) → ((at kind : ℕ) → found now at kind ≡ found done at kind) → length stored ≡ length (lines_of old) → PutsLine p.kind p.bytes.items (lines_of old) (lines_of new)
    → PutsBytes p.kind p.bytes.items (lines_of old) stored held → Keeps new held synced s → Since before s.moments (Recovers synced (lines_of old) stored) → Stores (p ∷ []) done now old new stored synced before s
stores_put p old new stored held synced before s same count line bytes keeps since =
    let more = put_more p.kind p.bytes.items (lines_of old) (lines_of new) line in
    let longer = put_bytes_more p.kind p.bytes.items (lines_of old) stored held bytes in record {
      held = held;
      more = longer;
      keeps = keeps;
      since = weaker since (λ vault r. recovers_more synced more longer count vault r);
      forms = λ image all f. forms_grow image same more longer count f;
    }

-- nothing is put
pub stores_none : {done now : Stored} (pieces : List Piece) (old new : Shelf) (stored : List (List ℕ)) (synced : ℕ) (before : List Content) (s : DiskState) → ((at kind : ℕ) → found now at kind ≡ found done at kind) → length stored ≡ length (lines_of old) → lines_of new ≡ lines_of old → Keeps new stored synced s
    → Since before s.moments (Recovers synced (lines_of old) stored) → Stores pieces done now old new stored synced before s
stores_none pieces old new stored synced before s same count lines keeps since =
    let more = more_none (lines_of old) (lines_of new) lines in
    let longer = more_none stored stored refl in record {
      held = stored;
      more = longer;
      keeps = keeps;
      since = weaker since (λ vault r. recovers_more synced more longer count vault r);
      forms = λ image all f. forms_grow image same more longer count f;
    }

pub piece_of_more : {done now : Stored} (image : Image) (p : Piece) → StoresMore done now → IsPieceOf done image p → IsPieceOf now image p
piece_of_more image p more is = record { kind = is.kind; holds = is.holds; code_is = is.code_is; is = cut_more more is.kind (image p.at) p.bytes.items is.is }

-- pieces, and then one of them
pub stores_joins : {done mid now : Stored} {pieces : List Piece} {p : Piece} {old between new : Shelf} {stored : List (List ℕ)} {synced : ℕ} {before : List Content} {s t : DiskState} (first : Stores pieces done mid old between stored synced before s) → StoresMore done mid → ((image : Image) → AllByRecursion (IsPieceOf done image) pieces → IsPieceOf done image p)
    → IsMore (lines_of between) (lines_of new) → Stores (p ∷ []) mid now between new first.held synced s.moments t → Stores pieces done now old new stored synced before t
stores_joins {p = p} {synced = synced} first more among lines second = record {
  held = second.held;
  more = more_joins first.more second.more;
  keeps = second.keeps;
  since = joins (weaker first.since (λ vault r. recovers_more synced lines second.more first.keeps.count vault r)) second.since;
  forms = λ image all f. second.forms image (piece_of_more image p more (among image all), tt) (first.forms image all f);
}
