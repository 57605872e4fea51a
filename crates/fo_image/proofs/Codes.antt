-- What the codes of states, kinds, flags and the last score say.
use Rattle.std.proofs.Common.{◌≡◌, ◌<◌, ◌^◌, Bool, true, false, Option, Some, None, refl, sym, subst, ap, arith}
use Rattle.fo_image.specs.declared.types.Score.{Score}
use Rattle.fo_image.specs.declared.types.State.{State}
use Rattle.fo_image.specs.declared.types.State.TheVariants.{Free, Live, Closed}
use Rattle.fo_image.specs.declared.types.Kind.{Kind}
use Rattle.fo_image.specs.declared.types.Kind.TheVariants.{Data, Dir, Root}
use Rattle.fo_image.specs.declared.types.Label.{Label}
use Rattle.fo_image.specs.declared.types.Entry.{Entry}
use Rattle.fo_image.specs.Format.{state_code, kind_code, KindHolds, StateHolds, LabelHolds, has_code, last_bytes, flag_bits, PointerHolds, ActiveHolds, EntryHolds}

pub state_fits : (s : State) → state_code s < 2 ^ 8
state_fits Free = omega arith
state_fits Live = omega arith
state_fits Closed = omega arith

pub kind_fits : (k : Kind) → KindHolds k → kind_code k < 2 ^ 8
kind_fits (Data level) h = omega arith
kind_fits (Dir level) h = omega arith
kind_fits Root h = omega arith

kind_in_state : (s : State) (l : Label) → StateHolds s l → KindHolds l.kind
kind_in_state Free l h = subst KindHolds (sym h.0) (omega arith)
kind_in_state Live l h = h.0
kind_in_state Closed l h = h.0

pub kind_holds : (l : Label) → LabelHolds l → KindHolds l.kind
kind_holds l h = kind_in_state l.state l h.state_holds

pub has_fits : (last : Option Score) → has_code last < 2 ^ 8
has_fits None = omega arith
has_fits (Some score) = omega arith

pub flags_fit : (active dir : Bool) → flag_bits active dir < 2 ^ 8
flags_fit true true = omega arith
flags_fit true false = omega arith
flags_fit false true = omega arith
flags_fit false false = omega arith

top_in : (active : Bool) (e : Entry) → ActiveHolds active e → PointerHolds e.top
top_in true e h = h.1
top_in false e h = subst PointerHolds (sym h.4) tt

pub top_holds : (e : Entry) → EntryHolds e → PointerHolds e.top
top_holds e h = top_in e.active e h.active_holds

pub none_from_code : (last : Option Score) → has_code last ≡ 0 → None ≡ last
none_from_code None e = refl
none_from_code (Some score) e = absurd (omega arith)

pub same_score : (a b : Score) → a.0 ≡ b.0 → a ≡ b
same_score a b e = rw e refl

pub some_from_code : (last : Option Score) (read : Score) → ¬ (has_code last ≡ 0) → read.0 ≡ last_bytes last → Some read ≡ last
some_from_code None read n e = absurd (n refl)
some_from_code (Some score) read n e = ap Some (same_score read score e)
