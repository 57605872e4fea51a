-- The causes of the ends of a run, from those of a conversation, a script, an opening, an end or a tool.
use Rattle.std.proofs.Common.{◌≡◌, ℕ, ◌≤◌, ◌==◌, Bool, true, false, Some, None, refl, sym, ap, subst, ◌∙◌, arith}
use Rattle.std.specs.Prelude.{MatchOption}
use Rattle.std.specs.declared.option.Option.{Option}
use Rattle.std.proofs.lemmas.Bool.{cond_both}
use Rattle.fo_base.specs.Cause.{Rose}
use Rattle.fo_disk.specs.declared.disk.DiskFault.{DiskFault}
use Rattle.fo_world.specs.World.{Faults}
use Rattle.fo_world.specs.declared.error.FileError.{FileError}
use Rattle.fo_world.specs.declared.error.FileError.TheVariants as error
use Rattle.fo_check.specs.Answer.{Blames}
use Rattle.fo_check.specs.declared.error.CheckError.{CheckError}
use Rattle.fo_check.specs.declared.error.CheckError.TheVariants as check
use Rattle.fo_talk.specs.declared.end.LinkEnd.{LinkEnd}
use Rattle.fo_talk.specs.declared.end.LinkEnd.TheVariants as ends
use Rattle.fo_script.specs.declared.end.ScriptEnd.{ScriptEnd}
use Rattle.fo_script.specs.declared.end.ScriptEnd.TheVariants as script
use Rattle.fo_service.specs.of_events.Row.{IsTurnFault}
use Rattle.fo_tools.specs.Ends.{end_of_main, end_of_arena, end_of_check}
use Rattle.fo_tools.specs.Ending as tools
use Rattle.fo_tools.specs.declared.end.ToolEnd.{ToolEnd}
use Rattle.fo_tools.specs.declared.end.ToolEnd.TheVariants as tool
use Rattle.fo_top.specs.Ending.{why_of, script_why, tool_why, failed_why, finish_why, first_why}
use Rattle.fo_core.specs.Moment.{Moment, counts}
use Rattle.fo_core.specs.Ended.{Ends}
use Rattle.fo_top.specs.Served.{Pair, Works}
use Rattle.fo_top.specs.Tools.{Counts, HasCauses}
use Rattle.fo_top.specs.declared.why.Why.{Why}
use Rattle.fo_top.specs.declared.why.Why.TheVariants as why

-- ---- what ended the requests

-- requests don't end with a device's fault or for the words
abbrev pub is_of_requests : Why → Bool
is_of_requests why.Ended = true
is_of_requests (why.BadInput n) = true
is_of_requests why.Input = true
is_of_requests why.Output = true
is_of_requests why.Spent = true
is_of_requests why.Memory = true
is_of_requests _ = false

pub link_only : (link : LinkEnd) → is_of_requests (why_of link) ≡ true
link_only ends.End = refl
link_only (ends.BadMessage n) = refl
link_only ends.ReadFault = refl
link_only ends.WriteFault = refl
link_only ends.Memory = refl

pub link_input : (link : LinkEnd) → why_of link ≡ why.Input → link ≡ ends.ReadFault
link_input ends.End e = absurd cc
link_input (ends.BadMessage n) e = absurd cc
link_input ends.ReadFault e = refl
link_input ends.WriteFault e = absurd cc
link_input ends.Memory e = absurd cc

pub link_output : (link : LinkEnd) → why_of link ≡ why.Output → link ≡ ends.WriteFault
link_output ends.End e = absurd cc
link_output (ends.BadMessage n) e = absurd cc
link_output ends.ReadFault e = absurd cc
link_output ends.WriteFault e = refl
link_output ends.Memory e = absurd cc

pub script_only : (end : ScriptEnd) → is_of_requests (script_why end) ≡ true
script_only script.End = refl
script_only (script.BadLine n) = refl
script_only script.ReadFault = refl
script_only script.WriteFault = refl
script_only script.Spent = refl
script_only script.Memory = refl

pub script_input : (end : ScriptEnd) → script_why end ≡ why.Input → end ≡ script.ReadFault
script_input script.End e = absurd cc
script_input (script.BadLine n) e = absurd cc
script_input script.ReadFault e = refl
script_input script.WriteFault e = absurd cc
script_input script.Spent e = absurd cc
script_input script.Memory e = absurd cc

pub script_output : (end : ScriptEnd) → script_why end ≡ why.Output → end ≡ script.WriteFault
script_output script.End e = absurd cc
script_output (script.BadLine n) e = absurd cc
script_output script.ReadFault e = absurd cc
script_output script.WriteFault e = refl
script_output script.Spent e = absurd cc
script_output script.Memory e = absurd cc

-- ---- the last settling

-- a settling ends well, by a fault of the main device, or for want of memory
abbrev is_of_finish : Why → Bool
is_of_finish why.Ended = true
is_of_finish why.MainRead = true
is_of_finish why.MainWrite = true
is_of_finish why.Memory = true
is_of_finish _ = false

failed_only : (e : FileError) → is_of_finish (failed_why e) ≡ true
failed_only error.MainRead = refl
failed_only error.MainWrite = refl
failed_only error.MainSync = refl
failed_only _ = refl

finish_only : (failed : Option FileError) → is_of_finish (finish_why failed) ≡ true
finish_only None = refl
finish_only (Some e) = failed_only e

-- a fault of the main device, and nothing else
abbrev is_fault : Why → Bool
is_fault why.MainRead = true
is_fault why.MainWrite = true
is_fault _ = false

failed_rose : (before after : Faults) (e : FileError) → IsTurnFault before after e → is_fault (failed_why e) ≡ true → Rose before.main after.main
failed_rose before after error.MainRead f is = f
failed_rose before after error.MainWrite f is = f
failed_rose before after error.MainSync f is = f
failed_rose before after error.Memory f is = absurd cc
failed_rose before after _ f is = absurd f

finish_rose : (before after : Faults) (Done : Type 0) (failed : Option FileError) → MatchOption failed Done (IsTurnFault before after) → is_fault (finish_why failed) ≡ true → Rose before.main after.main
finish_rose before after Done None m is = absurd cc
finish_rose before after Done (Some e) m is = failed_rose before after e m is

-- ---- the first cause

-- an end that no settling has is that of the requests
first_is : (w how : Why) (failed : Option FileError) → is_of_finish w ≡ false → first_why how failed ≡ w → how ≡ w
first_is w why.Ended failed other e = let asked = finish_only failed in let same = ap is_of_finish e in absurd cc
first_is w _ failed other e = e

-- an end that no requests have is that of the settling
first_fault : (w how : Why) (failed : Option FileError) → is_of_requests how ≡ true → is_of_requests w ≡ false → first_why how failed ≡ w → finish_why failed ≡ w
first_fault w why.Ended failed asked other e = e
first_fault w _ failed asked other e = let same = ap is_of_requests e in absurd cc

-- and such an end is one of a settling
first_of_finish : (w how : Why) (failed : Option FileError) → is_of_requests how ≡ true → is_of_requests w ≡ false → is_of_finish w ≡ false → first_why how failed ≡ w → ⊥
first_of_finish w how failed asked other none e =
    let same = ap is_of_finish (first_fault w how failed asked other e) in let only = finish_only failed in absurd cc

rose_later : (a b c : ℕ) → a ≤ b → Rose b c → Rose a c
rose_later a b c le r = omega (arith, le, r)

-- Something was done with a system, and it ended.
module _ {M : Type 0} (moment : M → Moment) (does : M → M → Why → Type 0) (begun : Moment) (after : Pair) (end : Why) (w : Works moment does begun after end) (asked : is_of_requests w.how ≡ true) where
  pub worked_causes : (input input' out out' : ℕ) → input ≤ input' → out ≤ out' → (w.how ≡ why.Input → Rose input input') → (w.how ≡ why.Output → Rose out out')
      → HasCauses (record { input = input; out = out; main = (counts begun).main; arena = (counts begun).arena }) (record { input = input'; out = out'; main = after.faults.main; arena = after.faults.arena }) end
  worked_causes input input' out out' input_le out_le input_rose out_rose =
      let last = counts (moment w.last) in
      let f = w.finishes in
      let le = w.later in
      let gone = f.gives in
      record {
        input_later = input_le;
        out_later = out_le;
        main_later = let x = le.main in let y = gone.later in omega (arith, x, y);
        arena_later = let x = le.arena in let y = gone.arena_faults_is in omega (arith, x, y);
        input_rose = λ e. input_rose (first_is why.Input w.how f.failed refl (sym f.end_is ∙ e));
        output_rose = λ e. out_rose (first_is why.Output w.how f.failed refl (sym f.end_is ∙ e));
        main_read = λ e. rose_later (counts begun).main last.main after.faults.main le.main (finish_rose last after.faults (Ends (moment w.last) after.main) f.failed gone.ends (ap is_fault (first_fault why.MainRead w.how f.failed asked refl (sym f.end_is ∙ e))));
        main_write = λ e. rose_later (counts begun).main last.main after.faults.main le.main (finish_rose last after.faults (Ends (moment w.last) after.main) f.failed gone.ends (ap is_fault (first_fault why.MainWrite w.how f.failed asked refl (sym f.end_is ∙ e))));
        arena_read = λ e. absurd (first_of_finish why.ArenaRead w.how f.failed asked refl refl (sym f.end_is ∙ e));
        arena_write = λ e. absurd (first_of_finish why.ArenaWrite w.how f.failed asked refl refl (sym f.end_is ∙ e));
        size = λ e. absurd (first_of_finish why.Size w.how f.failed asked refl refl (sym f.end_is ∙ e));
      }

  pub worked_uses : end ≡ why.Usage → ⊥
  worked_uses e = let f = w.finishes in first_of_finish why.Usage w.how f.failed asked refl refl (sym f.end_is ∙ e)

  pub worked_sized : end ≡ why.Size → ⊥
  worked_sized e = let f = w.finishes in first_of_finish why.Size w.how f.failed asked refl refl (sym f.end_is ∙ e)

-- the causes since before that system was opened
pub opened_causes : (input input' out out' m0 m m' a0 a a' : ℕ) (end : Why) → m0 ≤ m → a0 ≤ a
    → HasCauses (record { input = input; out = out; main = m; arena = a }) (record { input = input'; out = out'; main = m'; arena = a' }) end → (end ≡ why.Size → ⊥)
    → HasCauses (record { input = input; out = out; main = m0; arena = a0 }) (record { input = input'; out = out'; main = m'; arena = a' }) end
opened_causes input input' out out' m0 m m' a0 a a' end main_le arena_le c sized = record {
  input_later = c.input_later;
  out_later = c.out_later;
  main_later = let more = c.main_later in omega (arith, main_le, more);
  arena_later = let more = c.arena_later in omega (arith, arena_le, more);
  input_rose = c.input_rose;
  output_rose = c.output_rose;
  main_read = λ e. rose_later m0 m m' main_le (c.main_read e);
  main_write = λ e. rose_later m0 m m' main_le (c.main_write e);
  arena_read = λ e. rose_later a0 a a' arena_le (c.arena_read e);
  arena_write = λ e. rose_later a0 a a' arena_le (c.arena_write e);
  size = λ e. absurd (sized e);
}

-- ---- an opening that was refused

-- what an opening that was refused ends with, beside faults of reads and a size
abbrev is_refusal : Why → Bool
is_refusal why.NotFossil = true
is_refusal (why.Unsound rule block) = true
is_refusal why.MainRead = true
is_refusal why.ArenaRead = true
is_refusal why.Size = true
is_refusal why.Memory = true
is_refusal why.NotArena = true
is_refusal why.NotBuilt = true
is_refusal _ = false

abbrev is_plain : Why → Bool
is_plain why.MainRead = false
is_plain why.ArenaRead = false
is_plain why.Size = false
is_plain _ = true

abbrev refused_why : CheckError → Why
refused_why e = tool_why (end_of_check e)

unsound_plain : (rule block : ℕ) → is_plain (refused_why (check.Unsound rule block)) ≡ true
unsound_plain rule block = cond_both (rule == 1) tool.NotFossil (tool.Unsound rule block) (λ (t : ToolEnd). is_plain (tool_why t) ≡ true) (λ is. refl) (λ is. refl)

refusal_only : (m m' a a' : ℕ) (e : CheckError) → Blames m m' a a' e → is_refusal (refused_why e) ≡ true
refusal_only m m' a a' check.Size b = refl
refusal_only m m' a a' check.NotArena b = refl
refusal_only m m' a a' check.NotBuilt b = refl
refusal_only m m' a a' (check.Unsound rule block) b = cond_both (rule == 1) tool.NotFossil (tool.Unsound rule block) (λ (t : ToolEnd). is_refusal (tool_why t) ≡ true) (λ is. refl) (λ is. refl)
refusal_only m m' a a' (check.Main fault) b = subst (λ (f : DiskFault). is_refusal (tool_why (end_of_main f)) ≡ true) (sym b.0) refl
refusal_only m m' a a' (check.Arena fault) b = subst (λ (f : DiskFault). is_refusal (tool_why (end_of_arena f)) ≡ true) (sym b.0) refl
refusal_only m m' a a' check.Memory b = refl

-- what the end of such an opening says of the counts of both devices
abbrev Blamed : ℕ → ℕ → ℕ → ℕ → Why → Type 0
Blamed m m' a a' w = (w ≡ why.MainRead → Rose m m') × (w ≡ why.ArenaRead → Rose a a') × (w ≡ why.Size → (m' ≡ m) × (a' ≡ a))

plain_blamed : (m m' a a' : ℕ) (w : Why) → is_plain w ≡ true → Blamed m m' a a' w
plain_blamed m m' a a' w plain = (λ e. let same = ap is_plain e in absurd cc, λ e. let same = ap is_plain e in absurd cc, λ e. let same = ap is_plain e in absurd cc)

blamed : (m m' a a' : ℕ) (e : CheckError) → Blames m m' a a' e → Blamed m m' a a' (refused_why e)
blamed m m' a a' check.Size b = (λ e. absurd cc, λ e. absurd cc, λ e. b)
blamed m m' a a' check.NotArena b = plain_blamed m m' a a' why.NotArena refl
blamed m m' a a' check.NotBuilt b = plain_blamed m m' a a' why.NotBuilt refl
blamed m m' a a' (check.Unsound rule block) b = plain_blamed m m' a a' (refused_why (check.Unsound rule block)) (unsound_plain rule block)
blamed m m' a a' (check.Main fault) b = subst (λ (f : DiskFault). Blamed m m' a a' (tool_why (end_of_main f))) (sym b.0) (λ e. b.1, λ e. absurd cc, λ e. absurd cc)
blamed m m' a a' (check.Arena fault) b = subst (λ (f : DiskFault). Blamed m m' a a' (tool_why (end_of_arena f))) (sym b.0) (λ e. absurd cc, λ e. b.1, λ e. absurd cc)
blamed m m' a a' check.Memory b = plain_blamed m m' a a' why.Memory refl

pub refused_causes : (input out m m' a a' : ℕ) (e : CheckError) (end : Why) → m ≤ m' → a ≤ a' → Blames m m' a a' e → end ≡ tool_why (end_of_check e)
    → HasCauses (record { input = input; out = out; main = m; arena = a }) (record { input = input; out = out; main = m'; arena = a' }) end
refused_causes input out m m' a a' e end main_le arena_le b is =
    let only = ap is_refusal is ∙ refusal_only m m' a a' e b in
    let says = blamed m m' a a' e b in
    record {
      input_later = omega arith;
      out_later = omega arith;
      main_later = main_le;
      arena_later = arena_le;
      input_rose = λ x. let same = ap is_refusal x in absurd cc;
      output_rose = λ x. let same = ap is_refusal x in absurd cc;
      main_read = λ x. says.0 (sym is ∙ x);
      main_write = λ x. let same = ap is_refusal x in absurd cc;
      arena_read = λ x. says.1 (sym is ∙ x);
      arena_write = λ x. let same = ap is_refusal x in absurd cc;
      size = λ x. says.2 (sym is ∙ x);
    }

pub refused_uses : (m m' a a' : ℕ) (e : CheckError) (end : Why) → Blames m m' a a' e → end ≡ tool_why (end_of_check e) → end ≡ why.Usage → ⊥
refused_uses m m' a a' e end b is x =
    let only = ap is_refusal is ∙ refusal_only m m' a a' e b in
    let same = ap is_refusal x in
    absurd cc

-- ---- a tool

abbrev tool_of : Why → ToolEnd
tool_of why.MainRead = tool.MainRead
tool_of why.MainWrite = tool.MainWrite
tool_of why.ArenaRead = tool.ArenaRead
tool_of why.ArenaWrite = tool.ArenaWrite
tool_of why.Output = tool.Output
tool_of why.NotFossil = tool.NotFossil
tool_of (why.Unsound rule block) = tool.Unsound rule block
tool_of why.Size = tool.Size
tool_of why.Memory = tool.Memory
tool_of why.NotArena = tool.NotArena
tool_of why.NotBuilt = tool.NotBuilt
tool_of _ = tool.Ended

tool_inverse : (how : ToolEnd) → tool_of (tool_why how) ≡ how
tool_inverse tool.Ended = refl
tool_inverse tool.NotFossil = refl
tool_inverse (tool.Unsound rule block) = refl
tool_inverse tool.MainRead = refl
tool_inverse tool.MainWrite = refl
tool_inverse tool.ArenaRead = refl
tool_inverse tool.ArenaWrite = refl
tool_inverse tool.Output = refl
tool_inverse tool.Size = refl
tool_inverse tool.Memory = refl
tool_inverse tool.NotArena = refl
tool_inverse tool.NotBuilt = refl

tool_is : (how : ToolEnd) (end w : Why) → end ≡ tool_why how → end ≡ w → how ≡ tool_of w
tool_is how end w is e = sym (tool_inverse how) ∙ ap tool_of (sym is ∙ e)

-- a tool doesn't end for the words or for its input
abbrev is_of_tool : Why → Bool
is_of_tool why.Usage = false
is_of_tool why.Input = false
is_of_tool (why.BadInput n) = false
is_of_tool _ = true

tool_only : (how : ToolEnd) → is_of_tool (tool_why how) ≡ true
tool_only tool.Ended = refl
tool_only tool.NotFossil = refl
tool_only (tool.Unsound rule block) = refl
tool_only tool.MainRead = refl
tool_only tool.MainWrite = refl
tool_only tool.ArenaRead = refl
tool_only tool.ArenaWrite = refl
tool_only tool.Output = refl
tool_only tool.Size = refl
tool_only tool.Memory = refl
tool_only tool.NotArena = refl
tool_only tool.NotBuilt = refl

tool_not : (how : ToolEnd) (end w : Why) → end ≡ tool_why how → end ≡ w → is_of_tool w ≡ true
tool_not how end w is e = ap is_of_tool (sym e ∙ is) ∙ tool_only how

-- the counts of a tool, which reads no input
abbrev pub with_input : tools.Counts → Counts
with_input c = record { input = 0; out = c.out; main = c.main; arena = c.arena }

pub tool_causes : (before now : tools.Counts) (how : ToolEnd) (end : Why) → end ≡ tool_why how → tools.HasCauses before now how → HasCauses (with_input before) (with_input now) end
tool_causes before now how end is c = record {
  input_later = omega arith;
  out_later = c.out_later;
  main_later = c.main_later;
  arena_later = c.arena_later;
  input_rose = λ e. let no = tool_not how end why.Input is e in absurd cc;
  output_rose = λ e. c.output (tool_is how end why.Output is e);
  main_read = λ e. c.main_read (tool_is how end why.MainRead is e);
  main_write = λ e. c.main_write (tool_is how end why.MainWrite is e);
  arena_read = λ e. c.arena_read (tool_is how end why.ArenaRead is e);
  arena_write = λ e. c.arena_write (tool_is how end why.ArenaWrite is e);
  size = λ e. c.size (tool_is how end why.Size is e);
}

pub tool_serves : (how : ToolEnd) (end : Why) → end ≡ tool_why how → end ≡ why.Usage → ⊥
tool_serves how end is e = let no = tool_not how end why.Usage is e in absurd cc
