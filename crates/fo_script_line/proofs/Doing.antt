-- What one line does.
use Rattle.std.proofs.Common.{◌≡◌, ◌<◌, ◌≤◌, ◌⊎◌, arith, inl, inr, ℕ, true, false, List, [], ◌∷◌, ◌++◌, length, Some, None, Ok, Err, refl, sym, ap, subst, ◌∙◌}
use Rattle.std.specs.declared.option.Option.{Option}
use Rattle.std.specs.Prelude.{Result, slice_set, if◌then◌else◌}
use Rattle.std.specs.List.{fold}
use Rattle.std.proofs.lemmas.List.{append-nil, set-set}
use Rattle.std.proofs.lemmas.List.Folds.{fold_stays}
use Rattle.nine_wire.specs.declared.message.Request.{Request}
use Rattle.nine_wire.specs.declared.message.Request.TheVariants as request
use Rattle.nine_wire.specs.declared.message.Reply.{Reply}
use Rattle.nine_wire.specs.Message.{request_message, ReplyFits}
use Rattle.nine_wire.specs.Stands.{Stands, IsFront, step_front}
use Rattle.nine_wire.specs.declared.message.BadMsg.TheVariants as bad
use Rattle.nine_wire.specs.declared.message.Step.{Step}
use Rattle.nine_wire.specs.declared.message.Step.TheVariants as step
use Rattle.nine_wire.proofs.Laws.{stands_size, part_none, bad_size_none, bad_body_none}
use Rattle.nine_wire.specs.Version.{largest_message}
use Rattle.fo_lines.specs.declared.line.Line.{Line}
use Rattle.fo_lines.specs.declared.line.Line.TheVariants as line
use Rattle.fo_lines.specs.Line.{Spells}
use Rattle.fo_events.specs.Row.{Goes, Entry}
use Rattle.fo_events.specs.declared.event.Event.{Event}
use Rattle.fo_events.specs.declared.event.Event.TheVariants as event
use Rattle.fo_events.specs.declared.event.Outcome.{Outcome}
use Rattle.fo_events.specs.declared.event.Outcome.TheVariants as outcome
use Rattle.fo_script_line.specs.declared.answer.Answer.{Answer}
use Rattle.fo_script_line.specs.declared.answer.Answer.TheVariants as answer
use Rattle.fo_script_line.specs.declared.line.Stop.{Stop}
use Rattle.fo_script_line.specs.declared.line.Stop.TheVariants as stop
use Rattle.fo_script_line.specs.declared.turns.Stage.{Stage}
use Rattle.fo_script_line.specs.declared.turns.Stage.TheVariants as stage
use Rattle.fo_script_line.specs.declared.turns.Next.{Next}
use Rattle.fo_script_line.specs.declared.turns.Next.TheVariants.{Turn, Says}
use Rattle.fo_script_line.specs.Says.{said, MaySay}
use Rattle.fo_script_line.specs.Sessions.{drops, LetsGo, Before, asked, Clears, Asks, is_version, agreed_size, limit_of, limits_with, limits_after}
use Rattle.fo_script_line.specs.Turns.{next_of, after}
use Rattle.fo_script_line.specs.Line.{Standing, MayTake, longest_line}
use Rattle.fo_script_line.specs.Answering.{Done, Takes, Sends, Turned, Put, Answered}
use Rattle.fo_script_line.proofs.Letting.{chain_then, chain_none, chain_one, drops_limits}

-- ---- requests

pub clears_none : {S : Type 0} (goes : Goes S) (session now : ℕ) (r : Request) (from : S) → is_version r ≡ false → Clears goes session now r from from
clears_none goes session now (request.Version msize version) from is = absurd cc
clears_none goes session now _ from is = record { before = []; cleared = refl; chain = chain_none goes from }

pub clears_all : {S : Type 0} (goes : Goes S) (session now : ℕ) (r : Request) (from to : S) → is_version r ≡ true → LetsGo goes session now from to → Clears goes session now r from to
clears_all goes session now (request.Version msize version) from to is l = record { before = drops session now l.replies; cleared = (l.replies, refl); chain = l.chain }
clears_all goes session now _ from to is l = absurd cc

pub asks_of : {S : Type 0} (goes : Goes S) (session now : ℕ) (r : Request) (reply : Reply) (from mid to : S)
    → Clears goes session now r from mid → goes mid (event.Asked session now r) (outcome.Replied reply) to → Asks goes session now r reply from to
asks_of goes session now r reply from mid to c went = record {
  before = c.before;
  cleared = c.cleared;
  chain = chain_then goes from mid to c.before (asked session now r reply ∷ []) c.chain (chain_one goes mid to (event.Asked session now r) (outcome.Replied reply) went);
}

limits_are : (session now : ℕ) (r : Request) (reply : Reply) (limits : List ℕ) (before : List Entry) → Before session now r before
    → limits_after limits (before ++ asked session now r reply ∷ []) ≡ (if is_version r then slice_set limits session (agreed_size reply) else limits)
limits_are session now (request.Version msize version) reply limits before cleared =
    ap (λ (es : List Entry). limits_after limits (es ++ asked session now (request.Version msize version) reply ∷ [])) cleared.1 ∙ drops_limits session now cleared.0 limits (asked session now (request.Version msize version) reply ∷ []) ∙ set-set limits session largest_message (agreed_size reply)
limits_are session now _ reply limits before cleared = rw cleared refl

pub sends_of : {S : Type 0} (goes : Goes S) (session tag : ℕ) (r : Request) (reply : Reply) (from to : Standing S)
    → Asks goes session from.now r reply from.state to.state → ReplyFits reply → to.now ≡ from.now → to.limits ≡ (if is_version r then slice_set from.limits session (agreed_size reply) else from.limits)
    → Sends goes session tag r from to (answer.Replied session tag reply)
sends_of goes session tag r reply from to a fits now limits = record {
  before = a.before;
  reply = reply;
  cleared = a.cleared;
  chain = a.chain;
  now = now;
  limits = limits ∙ sym (limits_are session from.now r reply from.limits a.before a.cleared);
  answer_is = refl;
  fits = fits;
}

pub done_message : {S : Type 0} (goes : Goes S) (session tag used : ℕ) (r : Request) (bytes : List ℕ) (from to : Standing S) (a : Answer)
    → Stands (limit_of from.limits session) bytes tag (request_message r) used → used ≡ length bytes → Sends goes session tag r from to a → Done goes from (line.Message session bytes) to a
done_message goes session tag used r bytes from to a stands whole s = record {
  entries = s.before ++ asked session from.now r s.reply ∷ [];
  does = record {
    makes = record {
      tag = tag;
      request = r;
      reply = s.reply;
      before = s.before;
      whole = subst (λ (n : ℕ). Stands (limit_of from.limits session) bytes tag (request_message r) n) whole stands;
      cleared = s.cleared;
      entries_are = refl;
      answer_is = s.answer_is;
    };
    chain = s.chain;
    now = s.now;
    limits = s.limits;
  };
  fits = subst MaySay (sym s.answer_is) s.fits;
}

-- what is sent is another number of bytes than the message at its front
pub refused_part : (limit tag used : ℕ) (r : Request) (bytes : List ℕ) → Stands limit bytes tag (request_message r) used → used < length bytes
    → (tag' : ℕ) × (r' : Request) × Stands limit bytes tag' (request_message r') (length bytes) → ⊥
refused_part limit tag used r bytes stands less may =
    let size = stands_size limit bytes tag (request_message r) used stands in
    let size' = stands_size limit bytes may.0 (request_message may.1) (length bytes) may.2 in
    let same : used ≡ length bytes = sym size.1 ∙ size'.1 in
    absurd (omega (arith, same, less))

-- no message stands at its front
pub refused_front : (limit : ℕ) (bytes : List ℕ) (front : Step) → IsFront request_message limit bytes (step_front front) → ((tag : ℕ) (r : Request) (used : ℕ) → front ≡ step.Msg tag r used → ⊥)
    → (tag' : ℕ) × (r' : Request) × Stands limit bytes tag' (request_message r') (length bytes) → ⊥
refused_front limit bytes step.More p none may = part_none limit bytes may.0 (request_message may.1) (length bytes) p may.2
refused_front limit bytes (step.Msg tag r used) p none may = none tag r used refl
refused_front limit bytes (step.Bad bad.Size) p none may =
    bad_size_none limit bytes [] may.0 (request_message may.1) (length bytes) p (subst (λ (b : List ℕ). Stands limit b may.0 (request_message may.1) (length bytes)) (sym (append-nil bytes)) may.2)
refused_front limit bytes (step.Bad bad.Body) p none may =
    bad_body_none request_message limit bytes [] may.0 may.1 (length bytes) p (subst (λ (b : List ℕ). Stands limit b may.0 (request_message may.1) (length bytes)) (sym (append-nil bytes)) may.2)

-- ---- lines without events

pub done_moment : {S : Type 0} (goes : Goes S) (seconds : ℕ) (from : Standing S) → Done goes from (line.Moment seconds) (record { now = seconds; limits = from.limits; state = from.state }) answer.Silent
done_moment goes seconds from = record { entries = []; does = record { makes = (refl, refl); chain = chain_none goes from.state; now = refl; limits = refl }; fits = tt }

pub done_console : {S : Type 0} (goes : Goes S) (text : List ℕ) (from : Standing S) → Done goes from (line.Console text) from answer.NotBuilt
done_console goes text from = record { entries = []; does = record { makes = (refl, refl); chain = chain_none goes from.state; now = refl; limits = refl }; fits = tt }

pub done_archive : {S : Type 0} (goes : Goes S) (from : Standing S) → Done goes from line.Archive from answer.NotBuilt
done_archive goes from = record { entries = []; does = record { makes = (refl, refl); chain = chain_none goes from.state; now = refl; limits = refl }; fits = tt }

pub done_archive_all : {S : Type 0} (goes : Goes S) (from : Standing S) → Done goes from line.ArchiveAll from answer.NotBuilt
done_archive_all goes from = record { entries = []; does = record { makes = (refl, refl); chain = chain_none goes from.state; now = refl; limits = refl }; fits = tt }

-- ---- fids that are let go

pub done_drops : {S : Type 0} (goes : Goes S) (session : ℕ) (from to : Standing S) → LetsGo goes session from.now from.state to.state → to.now ≡ from.now → to.limits ≡ slice_set from.limits session largest_message
    → Done goes from (line.Drops session) to (answer.Dropped session)
done_drops goes session from to l now limits =
    let es = drops session from.now l.replies in
    record {
      entries = es;
      does = record {
        makes = (l.replies, refl, refl);
        chain = l.chain;
        now = now;
        limits = limits ∙ sym (drops_limits session from.now l.replies from.limits []) ∙ ap (limits_after from.limits) (append-nil es);
      };
      fits = tt;
    }

-- ---- turns

nothing : (es : List Entry) → fold after None es ≡ None
nothing es = fold_stays after None (λ e. refl) es

-- a turn leaves the limits
turn_leaves : (s : Stage) (limits : List ℕ) (event : Event) (outcome : Outcome) → (next_of s event outcome ≡ None) ⊎ (limits_with limits event outcome ≡ limits)
turn_leaves stage.Flush limits (event.Asked session now r) outcome = inl refl
turn_leaves stage.Unlink limits (event.Asked session now r) outcome = inl refl
turn_leaves stage.Flushing limits (event.Asked session now r) outcome = inl refl
turn_leaves stage.Unlinking limits (event.Asked session now r) outcome = inl refl
turn_leaves stage.Flush limits (event.Drop session now) outcome = inl refl
turn_leaves stage.Unlink limits (event.Drop session now) outcome = inl refl
turn_leaves stage.Flushing limits (event.Drop session now) outcome = inl refl
turn_leaves stage.Unlinking limits (event.Drop session now) outcome = inl refl
turn_leaves s limits event.Flush outcome = inr refl
turn_leaves s limits event.Unlink outcome = inr refl

turns_leave : (o : Option Next) (limits : List ℕ) (es : List Entry) (x : Next) → fold after o es ≡ Some x → limits_after limits es ≡ limits
turns_leave o limits [] x h = refl
turns_leave None limits (e ∷ es) x h = absurd (let n = nothing es in cc)
turns_leave (Some (Says a)) limits (e ∷ es) x h = absurd (let n = nothing es in cc)
turns_leave (Some (Turn s)) limits (e ∷ es) x h =
    elim (turn_leaves s limits e.event e.outcome) [
      | inl none ↦ absurd (let n = nothing es in let m : fold after None es ≡ Some x = subst (λ (o : Option Next). fold after o es ≡ Some x) none h in cc)
      | inr same ↦ ap (λ (l : List ℕ). limits_after l es) same ∙ turns_leave (next_of s e.event e.outcome) limits es x h
    ]

-- where the server stands after turns
abbrev pub after_turns : {S : Type 0} → Standing S → S → Standing S
after_turns from state = record { now = from.now; limits = from.limits; state = state }

pub flush_takes : {S : Type 0} (goes : Goes S) (from : Standing S) (state : S) (result : Result Answer Stop) → Turned goes stage.Flush from.state state result → Takes goes from line.Flush (after_turns from state) result
flush_takes goes from state (Ok a) t =
    record { entries = t.0.0; does = record { makes = t.0.2; chain = t.0.1; now = refl; limits = sym (turns_leave (Some (Turn stage.Flush)) from.limits t.0.0 (Says a) t.0.2) }; fits = t.1 }
flush_takes goes from state (Err stop.Spent) t = record { first = stage.Flush; takes = refl; entries = t.0; unanswered = t.2; chain = t.1; now = refl }
flush_takes goes from state (Err stop.Bad) t = absurd t
flush_takes goes from state (Err stop.Memory) t = absurd t
flush_takes goes from state (Err stop.Output) t = absurd t

pub unlink_takes : {S : Type 0} (goes : Goes S) (from : Standing S) (state : S) (result : Result Answer Stop) → Turned goes stage.Unlink from.state state result → Takes goes from line.Unlink (after_turns from state) result
unlink_takes goes from state (Ok a) t =
    record { entries = t.0.0; does = record { makes = t.0.2; chain = t.0.1; now = refl; limits = sym (turns_leave (Some (Turn stage.Unlink)) from.limits t.0.0 (Says a) t.0.2) }; fits = t.1 }
unlink_takes goes from state (Err stop.Spent) t = record { first = stage.Unlink; takes = refl; entries = t.0; unanswered = t.2; chain = t.1; now = refl }
unlink_takes goes from state (Err stop.Bad) t = absurd t
unlink_takes goes from state (Err stop.Memory) t = absurd t
unlink_takes goes from state (Err stop.Output) t = absurd t

pub flush_all_takes : {S : Type 0} (goes : Goes S) (from : Standing S) (state : S) (result : Result Answer Stop) → Turned goes stage.Flushing from.state state result → Takes goes from line.FlushAll (after_turns from state) result
flush_all_takes goes from state (Ok a) t =
    record { entries = t.0.0; does = record { makes = t.0.2; chain = t.0.1; now = refl; limits = sym (turns_leave (Some (Turn stage.Flushing)) from.limits t.0.0 (Says a) t.0.2) }; fits = t.1 }
flush_all_takes goes from state (Err stop.Spent) t = record { first = stage.Flushing; takes = refl; entries = t.0; unanswered = t.2; chain = t.1; now = refl }
flush_all_takes goes from state (Err stop.Bad) t = absurd t
flush_all_takes goes from state (Err stop.Memory) t = absurd t
flush_all_takes goes from state (Err stop.Output) t = absurd t

-- ---- a line by its bytes

pub answered_stop : {S : Type 0} (goes : Goes S) (from to : Standing S) (text : List ℕ) (held : Option (List ℕ)) (l : Line) (s : Stop) → length text ≤ longest_line → Spells l text
    → ((other : Line) → Spells other text → other ≡ l) → Takes goes from l to (Err s) → Answered goes from text to held held (Err s)
answered_stop goes from to text held l stop.Bad short spells only t = record { stays = t.stays; silent = refl; none = λ le other other_spells may. t.none (subst (MayTake from.limits) (only other other_spells) may) }
answered_stop goes from to text held l stop.Memory short spells only t = (refl, inl t)
answered_stop goes from to text held l stop.Spent short spells only t = record { short = short; silent = refl; line = l; spells = spells; spent = t }
answered_stop goes from to text held l stop.Output short spells only t = absurd t

pub answered_said : {S : Type 0} (goes : Goes S) (from to : Standing S) (text : List ℕ) (held held' : Option (List ℕ)) (l : Line) (a : Answer) (result : Result (Unit {0}) Stop) → length text ≤ longest_line → Spells l text
    → Done goes from l to a → Put held held' (said a) result → Answered goes from text to held held' result
answered_said goes from to text held held' l a (Ok u) short spells d p = (record { short = short; line = l; spells = spells; entries = d.entries; answer = a; does = d.does }, p)
answered_said goes from to text held held' l a (Err stop.Output) short spells d p = (record { short = short; line = l; spells = spells; entries = d.entries; answer = a; does = d.does }, p.0, p.1)
answered_said goes from to text held held' l a (Err stop.Memory) short spells d p = (p, inr (record { short = short; line = l; spells = spells; entries = d.entries; answer = a; does = d.does }))
answered_said goes from to text held held' l a (Err stop.Bad) short spells d p = absurd p
answered_said goes from to text held held' l a (Err stop.Spent) short spells d p = absurd p
