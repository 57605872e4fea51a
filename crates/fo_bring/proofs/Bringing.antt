-- A block is brought into memory.
use Rattle.std.proofs.Common.{◌≡◌, ◌↔◌, ◌⊎◌, inl, inr, ⊎_elim, ℕ, true, false, ◌-◌, ◌<◌, nat_eq, eqb-true, List, ◌∷◌, take, length, Option, Some, None, is_some, Contains, refl, sym, ap, ◌∙◌, subst, arith}
use Rattle.std.specs.Option.{option_map, option_map_or, MatchOption}
use Rattle.std.specs.Map.{lookup, lookup_entry, remove_entry}
use Rattle.std.specs.Ordering.{nat_cmp}
use Rattle.std.specs.FinMap.{FinMap, get}
use Rattle.std.proofs.lemmas.Bool.{cases_eq}
use Rattle.std.specs.Cmp.{nat_eq_equiv}
use Rattle.lru.specs.LruCache.{lru_cache}
use Rattle.lru.proofs.CallerLemmas.{lookup-put_entries, Contains-lookup_entry, Contains-remove_entry, Contains-take}
use Rattle.lru.proofs.Splits.{Contains-cons}
use Rattle.fo_buffers.specs.Reading.{Looked}
use Rattle.fo_disk.specs.Disk.{versions_of}
use Rattle.fo_disk.specs.Disk.{Content as Holds}
use Rattle.fo_image.specs.declared.types.Kind.{Kind}
use Rattle.fo_buffers.specs.declared.block.Buffer.{Buffer}
use Rattle.fo_buffers.specs.Held.{Held, held_at, buffer_of, put, unlisted, used, cut, block_in}
use Rattle.fo_bring.specs.Blocks.{Good, Gets}
use Rattle.fo_bring.specs.Holds.{Others, GoodIn, GetsIn, GetsGood, GetsClean, IsFound, Loaded, Brought, Seen, StaysClean}
use Rattle.fo_bring.proofs.Buffering.{put_same, put_other, cut_same, cut_other, lookup_other}

-- what is clean of a block
abbrev lookup_in : ℕ → Held → Option (List ℕ)
lookup_in q h = lookup (nat_eq q) h.clean

-- what is held after a reading
pub loaded_here : {disk : Holds} {at : ℕ} {old new : Held} (l : Loaded disk at old new) → held_at new at ≡ Some (buffer_of l.bytes false true)
loaded_here {disk} {at} {old} {new} l = ap (λ (h : Held). held_at h at) l.is ∙ put_same (unlisted old at) at (buffer_of l.bytes false true)

pub loaded_others : {disk : Holds} {at : ℕ} {old new : Held} → Loaded disk at old new → Others at old new
loaded_others {disk} {at} {old} {new} l = record {
  held = λ q ne. ap (λ (h : Held). held_at h q) l.is ∙ put_other (unlisted old at) at (buffer_of l.bytes false true) q ne;
  clean = λ q ne. ap (λ (h : Held). lookup_in q h) l.is ∙ lookup_other at q old.clean ne;
  room = let e = ap (λ (h : Held). h.room) l.is in omega (arith, e);
}

-- a block that was read and is forgotten again
pub gone_others : (at : ℕ) (old mid new : Held) → Others at old mid → new ≡ cut (unlisted mid at) at → Others at old new
gone_others at old mid new o is = record {
  held = λ q ne. ap (λ (h : Held). held_at h q) is ∙ cut_other (unlisted mid at) at q ne ∙ o.held q ne;
  clean = λ q ne. ap (λ (h : Held). lookup_in q h) is ∙ lookup_other at q mid.clean ne ∙ o.clean q ne;
  room = let e = ap (λ (h : Held). h.room) is in let r = o.room in omega (arith, e, r);
}

pub gone_here : (at : ℕ) (mid new : Held) → new ≡ cut (unlisted mid at) at → held_at new at ≡ None
gone_here at mid new is = ap (λ (h : Held). held_at h at) is ∙ cut_same (unlisted mid at) at

pub same_others : {at : ℕ} {old new : Held} → new ≡ old → Others at old new
same_others {at} {old} {new} is = record {
  held = λ q ne. ap (λ (h : Held). held_at h q) is;
  clean = λ q ne. ap (λ (h : Held). lookup_in q h) is;
  room = let e = ap (λ (h : Held). h.room) is in omega (arith, e);
}

pub kept_others : {at : ℕ} {old mid new : Held} → Others at old mid → new ≡ mid → Others at old new
kept_others {at} {old} {mid} {new} o is = subst (λ (h : Held). Others at old h) (sym is) o

pub brought : {first count : ℕ} {kind : Kind} {disk : Holds} {at : ℕ} {old mid new : Held} → Loaded disk at old mid → new ≡ mid → GoodIn first count kind (held_at mid at) → Brought first count kind disk at old new
brought {first} {count} {kind} {disk} {at} {old} {mid} {new} l same good = record {
  loaded = record { bytes = l.bytes; is = same ∙ l.is; found = l.found };
  good = subst (GoodIn first count kind) (loaded_here l) good;
}

-- what the bytes of a held block say of it
pub good_in : (first count : ℕ) (kind : Kind) (o : Option Buffer) (bytes : List ℕ) → Some bytes ≡ option_map block_in o → Good first count kind bytes ↔ GoodIn first count kind o
good_in first count kind (Some x) bytes e = let same : bytes ≡ x.block = cc in (λ g. subst (Good first count kind) same g, λ g. subst (Good first count kind) (sym same) g)
good_in first count kind None bytes e = absurd (cc)

pub none_in : (first count : ℕ) (kind : Kind) (o : Option Buffer) → None ≡ option_map block_in o → GoodIn first count kind o → ⊥
none_in first count kind (Some x) e g = cc
none_in first count kind None e g = g

-- a clean block is held again
pub loaded_clean : (disk : Holds) (at : ℕ) (old new : Held) (o : Option (List ℕ)) → lookup (nat_eq at) old.clean ≡ o → is_some o ≡ true → MatchOption o (new ≡ old) (λ bytes. new ≡ used (put (unlisted old at) at (buffer_of bytes false true))) → Loaded disk at old new
loaded_clean disk at old new (Some bytes) is t h = record {
  bytes = bytes;
  is = h;
  found = subst (λ (o : Option (List ℕ)). IsFound disk at o bytes) (sym is) refl;
}
loaded_clean disk at old new None is t h = absurd (cc)

pub not_clean : {A : Type 0} (B : List ℕ → Type 0) (o : Option (List ℕ)) → is_some o ≡ false → MatchOption o A B → A
not_clean B (Some bytes) e h = absurd (cc)
not_clean B None e h = h

-- a block is read, that was not clean
pub loaded_read : (disk : Holds) (at : ℕ) (old new : Held) (o : Option (List ℕ)) → lookup (nat_eq at) old.clean ≡ o → is_some o ≡ false → (bytes : List ℕ) → new ≡ used (put (unlisted old at) at (buffer_of bytes false true)) → (at < length disk → Contains (versions_of disk at) bytes) → Loaded disk at old new
loaded_read disk at old new (Some other) is t bytes e read = absurd (cc)
loaded_read disk at old new None is t bytes e read = record {
  bytes = bytes;
  is = e;
  found = subst (λ (o : Option (List ℕ)). IsFound disk at o bytes) (sym is) read;
}

-- a block that is clean already
pub seen_clean : (disk : Holds) (at : ℕ) (old new : Held) (o : Option (List ℕ)) → lookup (nat_eq at) old.clean ≡ o → is_some o ≡ true → new ≡ old → Seen disk at old new
seen_clean disk at old new (Some bytes) is t same = record {
  bytes = bytes;
  clean = ap (λ (h : Held). lookup_in at h) same ∙ is;
  held = ap (λ (h : Held). h.held) same;
  room = ap (λ (h : Held). h.room) same;
  found = subst (λ (o : Option (List ℕ)). IsFound disk at o bytes) (sym is) refl;
}
seen_clean disk at old new None is t same = absurd (cc)

-- a block that was read is clean then
pub seen_read : (disk : Holds) (at : ℕ) (old new : Held) (o : Option (List ℕ)) → lookup (nat_eq at) old.clean ≡ o → is_some o ≡ false → Looked disk at old new → Seen disk at old new
seen_read disk at old new (Some other) is t l = absurd (cc)
seen_read disk at old new None is t l = record {
  bytes = l.bytes;
  clean = ap (λ (h : Held). lookup_in at h) l.is ∙ lookup-put_entries nat_eq (lru_cache old.clean 1024) at l.bytes nat_eq_equiv;
  held = ap (λ (h : Held). h.held) l.is;
  room = ap (λ (h : Held). h.room) l.is;
  found = subst (λ (o : Option (List ℕ)). IsFound disk at o l.bytes) (sym is) l.found;
}

-- what is held stays where a clean block is forgotten
pub cut_held : (at : ℕ) (old mid new : Held) → mid.held ≡ old.held → held_at old at ≡ None → new ≡ cut (unlisted mid at) at → (q : ℕ) → held_at new q ≡ held_at old q
cut_held at old mid new same none is q = ⊎_elim
    (λ e. subst (λ n. held_at new n ≡ held_at old n) (sym e) (gone_here at mid new is ∙ sym none))
    (λ ne. ap (λ (h : Held). held_at h q) is ∙ cut_other (unlisted mid at) at q ne ∙ ap (λ (m : FinMap nat_cmp Buffer). get m q) same)
    (cases_eq q at)

pub cut_room : (at : ℕ) (mid new : Held) → new ≡ cut (unlisted mid at) at → new.room ≡ mid.room
cut_room at mid new is = ap (λ (h : Held). h.room) is

pub seen_held : (disk : Holds) (at : ℕ) (old mid new : Held) → Seen disk at old mid → new ≡ mid → (q : ℕ) → held_at new q ≡ held_at old q
seen_held disk at old mid new seen same q = ap (λ (h : Held). held_at h q) same ∙ ap (λ (m : FinMap nat_cmp Buffer). get m q) seen.held

-- what is clean is copied out
pub glanced : {first count : ℕ} {kind : Kind} {rank : ℕ} {disk : Holds} {at : ℕ} {old new : Held} {into : List ℕ} (s : Seen disk at old new) → GetsClean first count kind rank (lookup (nat_eq at) new.clean) into → GetsGood first count kind rank s.bytes into
glanced {first} {count} {kind} {rank} {disk} {at} {old} {new} {into} s gets = subst (λ (o : Option (List ℕ)). GetsClean first count kind rank o into) s.clean gets

-- what the bytes of a held block say of it
pub gets_in : (kind : Kind) (rank : ℕ) (o : Option Buffer) (bytes into : List ℕ) → Some bytes ≡ option_map block_in o → Gets kind rank bytes into → GetsIn kind rank o into
gets_in kind rank (Some x) bytes into e g = let same : bytes ≡ x.block = cc in subst (λ (b : List ℕ). Gets kind rank b into) same g
gets_in kind rank None bytes into e g = absurd (cc)

pub gets_clean : (first count : ℕ) (kind : Kind) (rank : ℕ) (o : Option (List ℕ)) (bytes into : List ℕ) → Some bytes ≡ o → GetsGood first count kind rank bytes into → GetsClean first count kind rank o into
gets_clean first count kind rank o bytes into e g = subst (λ (o : Option (List ℕ)). GetsClean first count kind rank o into) e g

-- ---- what is clean

pub clean_at_once : (disk : Holds) {old new : Held} → new ≡ old → StaysClean disk old new
clean_at_once disk {old} {new} is = record { each = λ q bytes c. inl (subst (λ (h : Held). Contains h.clean (q, bytes)) is c) }

pub clean_joins : {disk : Holds} {old mid new : Held} → StaysClean disk old mid → StaysClean disk mid new → StaysClean disk old new
clean_joins first second = record { each = λ q bytes c. ⊎_elim (λ m. first.each q bytes m) (λ v. inr v) (second.each q bytes c) }

-- one block is clean no more
pub clean_unlisted : (disk : Holds) (at : ℕ) {old new : Held} → new.clean ≡ remove_entry (nat_eq at) old.clean → StaysClean disk old new
clean_unlisted disk at {old} {new} is = record {
  each = λ q bytes c. inl (Contains-remove_entry (nat_eq at) old.clean (q, bytes) (subst (λ (es : List (ℕ × List ℕ)). Contains es (q, bytes)) is c));
}

pub clean_gone : (disk : Holds) (at : ℕ) (mid new : Held) → new ≡ cut (unlisted mid at) at → StaysClean disk mid new
clean_gone disk at mid new is = clean_unlisted disk at (ap (λ (h : Held). h.clean) is)

pub clean_loaded : {disk : Holds} {at : ℕ} {old new : Held} → Loaded disk at old new → StaysClean disk old new
clean_loaded {disk} {at} {old} {new} l = clean_unlisted disk at (ap (λ (h : Held). h.clean) l.is)

pub clean_read : {disk : Holds} {at : ℕ} {old new : Held} → Looked disk at old new → StaysClean disk old new
clean_read {disk} {at} {old} {new} l = record {
  each = λ q bytes c. by (lookup_entry (nat_eq at) old.clean) refl q bytes (subst (λ (h : Held). Contains h.clean (q, bytes)) l.is c);
}
  where
    is_now : (k q : ℕ) (bytes : List ℕ) → k ≡ at → ◌≡◌ {A = ℕ × List ℕ} (k, l.bytes) (q, bytes) → q < length disk → Contains (versions_of disk q) bytes
    is_now k q bytes same e lt =
        let key : q ≡ at = sym (ap (λ (x : ℕ × List ℕ). x.0) e) ∙ same in
        let value : l.bytes ≡ bytes = ap (λ (x : ℕ × List ℕ). x.1) e in
        subst (λ n. Contains (versions_of disk n) bytes) (sym key) (subst (Contains (versions_of disk at)) value (l.found (subst (λ n. n < length disk) key lt)))

    by : (o : Option (ℕ × List ℕ)) → lookup_entry (nat_eq at) old.clean ≡ o → (q : ℕ) (bytes : List ℕ) → Contains (option_map_or (λ e. (e.0, l.bytes) ∷ remove_entry (nat_eq at) old.clean) o ((at, l.bytes) ∷ take (1024 - 1) old.clean)) (q, bytes) → Contains old.clean (q, bytes) ⊎ (q < length disk → Contains (versions_of disk q) bytes)
    by (Some e) is q bytes c = ⊎_elim
        (λ here. inr (is_now e.0 q bytes (sym (eqb-true at e.0 (Contains-lookup_entry (nat_eq at) old.clean e is).1)) here))
        (λ rest. inl (Contains-remove_entry (nat_eq at) old.clean (q, bytes) rest))
        (Contains-cons (e.0, l.bytes) (remove_entry (nat_eq at) old.clean) (q, bytes) c)
    by None is q bytes c = ⊎_elim
        (λ here. inr (is_now at q bytes refl here))
        (λ rest. inl (Contains-take (1024 - 1) old.clean (q, bytes) rest))
        (Contains-cons (at, l.bytes) (take (1024 - 1) old.clean) (q, bytes) c)
