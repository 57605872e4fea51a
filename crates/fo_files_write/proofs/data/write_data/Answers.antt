use Rattle.std.proofs.Common.{◌≡◌, ◌⊎◌, ◌+◌, ◌*◌, ◌%◌, ◌<◌, ◌≤◌, ◌∙◌, ℕ, length, inl, sym, subst, arith, []}
use Rattle.std.specs.Prelude.{◌==◌, true, false}
use Rattle.std.proofs.lemmas.Bool.Decides.{nat_tests}
use Rattle.fo_ports.specs.State.{State}
use Rattle.fo_ports.specs.declared.error.BlockError.{BlockError}
use Rattle.fo_ports.specs.declared.error.BlockError.TheVariants.{Damaged}
use Rattle.fo_ports.specs.Causes.{Caused}
use Rattle.fo_base.specs.Cause.{Rose}
use Rattle.fo_files_dir.proofs.Dirs.{pair_keeps}
use Rattle.fo_files_write.specs.Alters.{Alters, is_above, any_kind}
use Rattle.fo_files_write.specs.Data.{HasData, most_of}
use Rattle.fo_files_write.proofs.Steps.{alters_none}
use Rattle.fo_files_write.proofs.Ends.{data_at, long_with, stays_with, puts_since, err_since}
use Rattle.fo_files_write.proofs.data.write_data.Goals as goal
use Rattle.fo_dirties.proofs.Adding.{adds_idle, first_of}
use Rattle.fo_dirties.proofs.Putting.{dirties_at_once}

none_of : (n : ℕ) → (n == 0) ≡ true → 0 < n → ⊥
none_of n = grind (arith, nat_tests)

some_of : (n : ℕ) → (n == 0) ≡ false → 0 < n
some_of n = grind (arith, nat_tests)

rank_low : (rank high : ℕ) → rank + 8 ≡ high → high % 32 ≡ 8 → rank % 32 ≡ 0
rank_low rank high is ranked = omega (arith, is, ranked)

damaged_at : (s u : State) (at : ℕ) (why : BlockError) → s.is_block at → why ≡ Damaged at → Caused ⊥ (λ b. s.is_block b ⊎ (b ≡ 1)) (Rose s.faults u.faults) (Rose s.arena_faults u.arena_faults) why
damaged_at s u at why block is = subst (λ w. Caused ⊥ (λ b. s.is_block b ⊎ (b ≡ 1)) (Rose s.faults u.faults) (Rose s.arena_faults u.arena_faults) w) (sym is) (inl block)

pub returns-in-Err-clause-alters : goal.returns-in-Err-clause-alters
returns-in-Err-clause-alters g c =
    alters_none any_kind (g.B.Blocks.state c.args.on.now) c.args.file.at c.args.file.slot (32 + 2 * c.args.file.number)

pub returns-in-Err-clause-keeps : goal.returns-in-Err-clause-keeps
returns-in-Err-clause-keeps g c =
    g.met.B.Blocks.keeps_at_once c.args.on.now

pub returns-in-Err-clause-file : goal.returns-in-Err-clause-file
returns-in-Err-clause-file g c =
    c.requires.file

pub returns-then-is_empty-clause-alters : goal.returns-then-is_empty-clause-alters
returns-then-is_empty-clause-alters g c =
    alters_none any_kind (g.B.Blocks.state c.args.on.now) c.args.file.at c.args.file.slot (32 + 2 * c.args.file.number)

pub returns-then-is_empty-clause-keeps : goal.returns-then-is_empty-clause-keeps
returns-then-is_empty-clause-keeps g c =
    g.met.B.Blocks.keeps_at_once c.args.on.now

pub returns-then-is_empty-clause-file : goal.returns-then-is_empty-clause-file
returns-then-is_empty-clause-file g c =
    c.requires.file

pub returns-in-Err-clause-stays : goal.returns-in-Err-clause-stays
returns-in-Err-clause-stays g c =
    λ generation size has. has

pub returns-in-Err-clause-cause : goal.returns-in-Err-clause-cause
returns-in-Err-clause-cause g c =
    let s = g.B.Blocks.state c.args.on.now in damaged_at s s c.args.file.at c.in-Err.why c.requires.file.pair.is_one c.in-Err.ensures.damaged

pub returns-then-is_empty-clause-length : goal.returns-then-is_empty-clause-length
returns-then-is_empty-clause-length g c =
    let s = g.B.Blocks.state c.args.on.now in
    let f = c.args.file in
    let x = c.in-Ok.source.ways in
    let e = c.in-Ok.ensures in
    let has = data_at s f x.tree x.generation e.entry e.is.1 e.is.0 in
    (x.generation, x.tree.size, has, subst (λ z. HasData s f x.generation z) (sym c.len.ensures) has, λ none. c.len.ensures, λ more. absurd (none_of (length c.args.piece.now) (sym c.is_empty.ensures ∙ c.if-is_empty.true) more))

pub write_source-requires-clause-data : goal.write_source-requires-clause-data
write_source-requires-clause-data g c =
    let s = g.B.Blocks.state c.args.on.now in
    let f = c.args.file in
    let x = c.in-Ok.source.ways in
    let e = c.in-Ok.ensures in
    (e.is.1, rank_low x.tree.rank f.rank e.is.2 c.requires.file.ranked)

pub write_source-requires-clause-within : goal.write_source-requires-clause-within
write_source-requires-clause-within g c =
    let s = g.B.Blocks.state c.args.on.now in
    let f = c.args.file in
    let x = c.in-Ok.source.ways in
    let e = c.in-Ok.ensures in
    subst (λ z. c.args.offset + length c.args.piece.now ≤ z) (sym e.is.3) c.requires.within

pub returns-clause-length : goal.returns-clause-length
returns-clause-length g c =
    let s = g.B.Blocks.state c.args.on.now in
    let f = c.args.file in
    let x = c.in-Ok.source.ways in
    let e = c.in-Ok.ensures in
    let u = g.B.Blocks.state c.write_source.new.on in
    let z = c.write_source.new.source.ways in
    let k = c.write_source.ensures in
    let n = length c.args.piece.now in
    let all = g.met.B.Blocks.keeps_all c.args.on.now c.write_source.new.on k.keeps in
    let plain = k.same.0 ∙ e.is.1 in
    let tag = k.same.1 ∙ e.is.0 in
    long_with s u f x.tree z.tree x.generation z.generation n c.args.offset c.write_source.result e.entry e.is.1 e.is.0 k.entry plain tag k.same.2 (some_of n (sym c.is_empty.ensures ∙ c.if-is_empty.false)) k.size

pub returns-clause-stays : goal.returns-clause-stays
returns-clause-stays g c =
    let s = g.B.Blocks.state c.args.on.now in
    let f = c.args.file in
    let x = c.in-Ok.source.ways in
    let e = c.in-Ok.ensures in
    let u = g.B.Blocks.state c.write_source.new.on in
    let z = c.write_source.new.source.ways in
    let k = c.write_source.ensures in
    let n = length c.args.piece.now in
    let all = g.met.B.Blocks.keeps_all c.args.on.now c.write_source.new.on k.keeps in
    let plain = k.same.0 ∙ e.is.1 in
    let tag = k.same.1 ∙ e.is.0 in
    stays_with s u f x.tree z.tree x.generation z.generation c.write_source.result e.entry k.entry plain tag k.same.2 k.stays

pub returns-clause-file : goal.returns-clause-file
returns-clause-file g c =
    let s = g.B.Blocks.state c.args.on.now in
    let f = c.args.file in
    let x = c.in-Ok.source.ways in
    let e = c.in-Ok.ensures in
    let u = g.B.Blocks.state c.write_source.new.on in
    let z = c.write_source.new.source.ways in
    let k = c.write_source.ensures in
    let n = length c.args.piece.now in
    let all = g.met.B.Blocks.keeps_all c.args.on.now c.write_source.new.on k.keeps in
    let plain = k.same.0 ∙ e.is.1 in
    let tag = k.same.1 ∙ e.is.0 in
    let same = k.alters.others f.at (λ made. made.0 c.requires.file.pair.live) in
    record { pair = pair_keeps s u f.at f.slot all same.label same.is_pinned c.requires.file.pair; ranked = c.requires.file.ranked; most = c.requires.file.most }

pub returns-clause-alters : goal.returns-clause-alters
returns-clause-alters g c =
    let s = g.B.Blocks.state c.args.on.now in
    let f = c.args.file in
    let x = c.in-Ok.source.ways in
    let e = c.in-Ok.ensures in
    let u = g.B.Blocks.state c.write_source.new.on in
    let z = c.write_source.new.source.ways in
    let k = c.write_source.ensures in
    let n = length c.args.piece.now in
    let all = g.met.B.Blocks.keeps_all c.args.on.now c.write_source.new.on k.keeps in
    let plain = k.same.0 ∙ e.is.1 in
    let tag = k.same.1 ∙ e.is.0 in
    subst (λ t. Alters f.at f.slot t any_kind s u) e.is.0 k.alters

pub write_source-requires-clause-some : goal.write_source-requires-clause-some
write_source-requires-clause-some g c = some_of (length c.args.piece.now) (sym c.is_empty.ensures ∙ c.if-is_empty.false)

pub returns-then-is_empty-clause-puts : goal.returns-then-is_empty-clause-puts
returns-then-is_empty-clause-puts g c = λ more. absurd (none_of (length c.args.piece.now) (sym c.is_empty.ensures ∙ c.if-is_empty.true) more)

pub returns-clause-puts : goal.returns-clause-puts
returns-clause-puts g c =
    let s = g.B.Blocks.state c.args.on.now in
    let u = g.B.Blocks.state c.write_source.new.on in
    let f = c.args.file in
    let n = length c.args.piece.now in
    let k = c.write_source.ensures in
    let e = c.in-Ok.ensures in
    puts_since (λ b. g.B.Blocks.state b) s u f c.in-Ok.source.ways.tree.tag (32 + 2 * f.number) c.args.offset n c.write_source.result e.is.0 k.puts

pub returns-in-Err-clause-nothing : goal.returns-in-Err-clause-nothing
returns-in-Err-clause-nothing g c = alters_none is_above (g.B.Blocks.state c.args.on.now) c.args.file.at c.args.file.slot (32 + 2 * c.args.file.number)

pub returns-clause-nothing : goal.returns-clause-nothing
returns-clause-nothing g c = err_since (g.B.Blocks.state c.args.on.now) (g.B.Blocks.state c.write_source.new.on) c.args.file c.in-Ok.source.ways.tree.tag (32 + 2 * c.args.file.number) c.write_source.result c.in-Ok.ensures.is.0 c.write_source.ensures.nothing

pub returns-in-Err-clause-dirties : goal.returns-in-Err-clause-dirties
returns-in-Err-clause-dirties g c = adds_idle (2 * (most_of (length c.args.piece.now) + 4)) first_of (dirties_at_once (g.B.Blocks.state c.args.on.now) [])

pub returns-then-is_empty-clause-dirties : goal.returns-then-is_empty-clause-dirties
returns-then-is_empty-clause-dirties g c = adds_idle (2 * (most_of (length c.args.piece.now) + 4)) first_of (dirties_at_once (g.B.Blocks.state c.args.on.now) [])

pub returns-clause-dirties : goal.returns-clause-dirties
returns-clause-dirties g c = c.write_source.ensures.dirties
