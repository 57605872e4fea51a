-- What stands where, in the bytes of each format.
use Rattle.std.proofs.Common.{◌≡◌, ℕ, ◌%◌, ◌<◌, ◌^◌, List, ◌++◌, length, get_or, take, drop, sym, subst, ◌∙◌, ap, arith}
use Rattle.std.proofs.lemmas.Nat.{from_be_bytes-to_be_bytes_2, from_be_bytes-to_be_bytes_4, from_be_bytes-to_be_bytes_8}
use Rattle.std.proofs.lemmas.List.{take_at, drop_at, drop-drop, get_or-drop, append_assoc}
use Rattle.std.specs.Int.{w16, from_be_bytes}
use Rattle.fo_image.specs.declared.types.Header.{Header}
use Rattle.fo_image.specs.declared.types.Label.{Label}
use Rattle.fo_image.specs.declared.types.Super.{Super}
use Rattle.fo_image.specs.declared.types.Entry.{Entry}
use Rattle.fo_image.specs.declared.types.ArenaHead.{ArenaHead}
use Rattle.fo_image.specs.declared.types.ArenaLine.{ArenaLine}
use Rattle.fo_image.specs.Field.{One, Two, Four, Eight, number, number_at, Spells}
use Rattle.fo_image.specs.Format.{state_code, kind_code, LabelHolds, label_fields, header_fields, HeaderHolds, super_fields, SuperHolds, has_code, last_bytes, entry_fields, EntryHolds, flag_bits, pointer_bytes, arena_head_fields, ArenaHeadHolds, arena_line_fields, ArenaLineHolds}

small : (n : ℕ) → n < 2 ^ 8 → n % 256 ≡ n
small n lt = omega arith

pub record LabelAt (bytes : List ℕ) (l : Label) : Type 0 where
  pub state : get_or bytes 0 0 ≡ state_code l.state
  pub kind : get_or bytes 1 0 ≡ kind_code l.kind
  pub epoch : number_at Four 2 bytes ≡ l.epoch
  pub closing : number_at Four 6 bytes ≡ l.closing
  pub tag : number_at Four 10 bytes ≡ l.tag

pub label_at : (bytes : List ℕ) (l : Label) → Spells 14 label_fields LabelHolds l bytes → LabelAt bytes l
unfolding number_at
label_at bytes l s = subst (λ b. LabelAt b l) (sym s.bytes_are) (record {
  state = small (state_code l.state) s.fit.0;
  kind = small (kind_code l.kind) s.fit.1.0;
  epoch = from_be_bytes-to_be_bytes_4 l.epoch s.fit.1.1.0;
  closing = from_be_bytes-to_be_bytes_4 l.closing s.fit.1.1.1.0;
  tag = from_be_bytes-to_be_bytes_4 l.tag s.fit.1.1.1.1.0;
})

pub header_at : (bytes : List ℕ) (h : Header) → Spells 8192 header_fields HeaderHolds h bytes → number_at Four 12 bytes ≡ h.blocks
unfolding number_at
header_at bytes h s = subst (λ b. number_at Four 12 b ≡ h.blocks) (sym s.bytes_are) (from_be_bytes-to_be_bytes_4 h.blocks s.fit.1.1.0)

pub record ArenaHeadAt (bytes : List ℕ) (h : ArenaHead) : Type 0 where
  pub blocks : number_at Four 8 bytes ≡ h.blocks
  pub used : number_at Four 12 bytes ≡ h.used

pub arena_head_at : (bytes : List ℕ) (h : ArenaHead) → Spells 8192 arena_head_fields ArenaHeadHolds h bytes → ArenaHeadAt bytes h
unfolding number_at
arena_head_at bytes h s = subst (λ b. ArenaHeadAt b h) (sym s.bytes_are) (record {
  blocks = from_be_bytes-to_be_bytes_4 h.blocks s.fit.1.0;
  used = from_be_bytes-to_be_bytes_4 h.used s.fit.1.1.0;
})

pub record SuperAt (bytes : List ℕ) (s : Super) : Type 0 where
  pub version : number_at Two 8 bytes ≡ s.version
  pub low : number_at Four 10 bytes ≡ s.low
  pub high : number_at Four 14 bytes ≡ s.high
  pub active : number_at Four 18 bytes ≡ s.active
  pub numbers : number_at Four 22 bytes ≡ s.numbers
  pub pending : number_at Four 26 bytes ≡ s.pending
  pub has : get_or bytes 30 0 ≡ has_code s.last
  pub last : take 20 (drop 31 bytes) ≡ last_bytes s.last

pub super_at : (bytes : List ℕ) (v : Super) → Spells 8192 super_fields SuperHolds v bytes → SuperAt bytes v
unfolding number_at
super_at bytes v s = subst (λ b. SuperAt b v) (sym s.bytes_are) (record {
  version = from_be_bytes-to_be_bytes_2 v.version s.fit.1.0;
  low = from_be_bytes-to_be_bytes_4 v.low s.fit.1.1.0;
  high = from_be_bytes-to_be_bytes_4 v.high s.fit.1.1.1.0;
  active = from_be_bytes-to_be_bytes_4 v.active s.fit.1.1.1.1.0;
  numbers = from_be_bytes-to_be_bytes_4 v.numbers s.fit.1.1.1.1.1.0;
  pending = from_be_bytes-to_be_bytes_4 v.pending s.fit.1.1.1.1.1.1.0;
  has = small (has_code v.last) s.fit.1.1.1.1.1.1.1.0;
  last = ap (take 20) (append_assoc (last_bytes v.last) _ _) ∙ take_at (last_bytes v.last) _ 20 s.fit.1.1.1.1.1.1.1.1.0;
})

pub record EntryAt (bytes : List ℕ) (e : Entry) : Type 0 where
  pub generation : number_at Four 0 bytes ≡ e.generation
  pub flags : get_or bytes 4 0 ≡ flag_bits e.active e.dir
  pub depth : get_or bytes 5 0 ≡ e.depth
  pub tag : number_at Four 8 bytes ≡ e.tag
  pub size : number_at Eight 12 bytes ≡ e.size
  pub top : take 20 (drop 20 bytes) ≡ pointer_bytes e.top

pub entry_at : (bytes : List ℕ) (e : Entry) → Spells 40 entry_fields EntryHolds e bytes → EntryAt bytes e
unfolding number_at
entry_at bytes e s = subst (λ b. EntryAt b e) (sym s.bytes_are) (record {
  generation = from_be_bytes-to_be_bytes_4 e.generation s.fit.0;
  flags = small (flag_bits e.active e.dir) s.fit.1.0;
  depth = small e.depth s.fit.1.1.0;
  tag = from_be_bytes-to_be_bytes_4 e.tag s.fit.1.1.1.1.0;
  size = from_be_bytes-to_be_bytes_8 e.size s.fit.1.1.1.1.1.0;
  top = ap (take 20) (append_assoc (pointer_bytes e.top) _ _) ∙ take_at (pointer_bytes e.top) _ 20 s.fit.1.1.1.1.1.1.0;
})

pub record LineAt (bytes : List ℕ) (l : ArenaLine) : Type 0 where
  pub score : take 20 (drop 0 bytes) ≡ l.score.0
  pub kind : get_or bytes 20 0 ≡ l.kind
  pub len : number_at Two 22 bytes ≡ l.len

line_parts : (bytes tail : List ℕ) (l : ArenaLine) → length l.score.0 ≡ 20 → l.kind < 2 ^ 8 → l.len < 2 ^ 16
    → bytes ≡ l.score.0 ++ (number One l.kind ++ (number One 0 ++ (number Two l.len ++ tail))) → LineAt bytes l
unfolding number_at
line_parts bytes tail l score_fits kind_fits len_fits e =
    let back : List ℕ = number One l.kind ++ (number One 0 ++ (number Two l.len ++ tail)) in
    let after : drop 20 bytes ≡ back = ap (drop 20) e ∙ drop_at l.score.0 back 20 score_fits in
    let later : drop 22 bytes ≡ drop 2 back = sym (drop-drop 2 20 bytes) ∙ ap (drop 2) after in
    record {
      score = ap (take 20) e ∙ take_at l.score.0 back 20 score_fits;
      kind = sym (get_or-drop 20 bytes 0 0) ∙ ap (λ xs. get_or xs 0 0) after ∙ small l.kind kind_fits;
      len = ap (λ xs. from_be_bytes w16 (take 2 xs)) later ∙ from_be_bytes-to_be_bytes_2 l.len len_fits;
    }

pub line_at : (bytes : List ℕ) (l : ArenaLine) → Spells 24 arena_line_fields ArenaLineHolds l bytes → LineAt bytes l
line_at bytes l s = line_parts bytes _ l s.fit.0 s.fit.1.0 s.fit.1.1.1.0 (s.bytes_are ∙ append_assoc l.score.0 _ _)
