use Rattle.std.proofs.Common.{◌≡◌, ◌∙◌, ℕ, ◌-◌, ◌<◌, [], length, get_or, take, sym, ap, arith}
use Rattle.fo_image.specs.declared.types.ArenaLine.{ArenaLine}
use Rattle.venti_store.specs.Held.{line_at}
use Rattle.venti_store.specs.Kept.{waits, settled_count}
use Rattle.venti_store.specs.declared.waiting.Waiting.{Waiting}
use Rattle.venti_store.proofs.Keeping.{in_memory, first_is}
use Rattle.venti_store.proofs.Puts.{ok_weaker, read_waiting, read_settled, stored_told, waiting_is, line_default}
use Rattle.venti_store.proofs.arena.Arena.read_place.Goals as goal

pub returns-then-settled-place-clause-read : goal.returns-then-settled-place-clause-read
returns-then-settled-place-clause-read g c stored synced k =
    let s = c.args.self.now.shelf in
    let first = c.len.result - c.len-2.result in
    let count : settled_count s.index.lines.items (waits s.pending.items) ≡ first = first_is s first (omega arith) in
    let within : c.args.place - first < length s.pending.items = omega (arith, c.requires, s.few, c.if-settled-place.true) in
    ok_weaker c.copy_of.result _ _ (λ v is.
    is
    ∙ c.deref.ensures.value
    ∙ ap (λ (w : Waiting). w.bytes.items) c.index-waiting.ensures
    ∙ waiting_is s.pending.items (c.args.place - first) c.index-waiting.result.now within
    ∙ ap (λ (n : ℕ). get_or (waits s.pending.items) (c.args.place - n) []) (sym count)
    ∙ read_waiting c.args.place k (omega (arith, count, c.if-settled-place.true)))
    c.copy_of.ensures.copied

pub returns-clause-read : goal.returns-clause-read
returns-clause-read g c stored synced k =
    let s = c.args.self.now.shelf in
    let m = in_memory s in
    let first = c.len.result - c.len-2.result in
    let count : settled_count s.index.lines.items (waits s.pending.items) ≡ first = first_is s first (omega arith) in
    let len_is : c.index.result.now.len ≡ (line_at s.index.lines.items c.args.place).len = ap (λ (l : ArenaLine). l.len) (c.index.ensures ∙ line_default s.index.lines.items c.args.place c.index.result.now c.requires) in
    ok_weaker c.read_stored.result _ _ (λ v h.
    let read = h (stored_told c.args.place m k c.requires) in
    read.2
    ∙ ap (λ (n : ℕ). take n read.0) len_is
    ∙ read_settled c.args.place read.0 m k (omega (arith, count, c.if-settled-place.false)) read.1)
    c.read_stored.ensures.read
