-- What a service keeps from message to message, and what that comes to at each end.
use Rattle.std.proofs.Common.{inl, inr, ◌≡◌, ℕ, true, false, ◌+◌, ◌≤◌, List, [], ◌∷◌, ◌++◌, length, take, drop, Some, None, IfSome, refl, sym, ap, subst, ◌∙◌, append_assoc, arith}
use Rattle.std.specs.declared.option.Option.{Option}
use Rattle.std.proofs.lemmas.Grind.{flat_map-append}
use Rattle.std.proofs.lemmas.List.{append-nil, length-append, length-drop}
use Rattle.nine_wire.specs.Message.{request_message}
use Rattle.nine_wire.proofs.Laws.{stands_more}
use Rattle.fo_links.specs.Links.{LosesFront, GainsEnd, IsAtEnd}
use Rattle.fo_links.specs.Filling.{FilledSome}
use Rattle.fo_talk.specs.Conversation.{Goes, Position, Standing, Exchange, Answers, Talks, LetsAllGo, said, output, taken_by, only_looks, OnlyLook, NoMessage, IsBad}
use Rattle.fo_talk.specs.Answering.{Adds, PutsFront}
use Rattle.fo_talk.specs.Ending.{Ends, Unrested}
use Rattle.fo_talk.specs.Stopping.{Stopped, end_at}
use Rattle.fo_talk.specs.declared.end.LinkEnd.{LinkEnd}
use Rattle.fo_talk.specs.declared.end.LinkEnd.TheVariants as end
use Rattle.fo_talk.proofs.Talking.{talks_more, talks_then, output-then}

-- All that was received and what was said to it: the conversation on it stands here, and these bytes wait behind it.
pub record Going {S : Type 0} (goes : Goes S) (first now : Standing S) (left0 left held0 held : Option (List ℕ)) (waiting : List ℕ) (place : ℕ) : Type 0 where
  pub received : List ℕ
  pub exchanges : List Exchange
  pub input : LosesFront received left0 left
  pub told : GainsEnd (output exchanges) held0 held
  pub talks : Talks goes first received exchanges waiting now
  pub place_is : place + length waiting ≡ length received

loses_nothing : (left : Option (List ℕ)) → LosesFront [] left left
loses_nothing None = refl
loses_nothing (Some bytes) = refl

pub gains_nothing : (held : Option (List ℕ)) → GainsEnd [] held held
gains_nothing None = refl
gains_nothing (Some bytes) = ap (λ (x : List ℕ). Some x) (sym (append-nil bytes))

loses_more : (a b : List ℕ) (x y z : Option (List ℕ)) → LosesFront a x y → LosesFront b y z → LosesFront (a ++ b) x z
loses_more a b x y None p q = rw (p, q) refl
loses_more a b x y (Some rest) p q = rw (p, q) (ap (λ (x : List ℕ). Some x) (sym (append_assoc a b rest)))

gains_more : (a b : List ℕ) (x y z : Option (List ℕ)) → GainsEnd a x y → GainsEnd b y z → GainsEnd (a ++ b) x z
gains_more a b None y z p q = rw (q, p) refl
gains_more a b (Some front) y z p q = rw (q, p) (ap (λ (x : List ℕ). Some x) (append_assoc front a b))

pub going_starts : {S : Type 0} (goes : Goes S) (first : Standing S) (left held : Option (List ℕ)) → Going goes first first left left held held [] 0
unfolding Talks
going_starts goes first left held = record {
  received = [];
  exchanges = [];
  input = loses_nothing left;
  told = gains_nothing held;
  talks = (refl, refl);
  place_is = refl;
}

pub going_fills : {S : Type 0} (goes : Goes S) (first now : Standing S) (left0 left left' held0 held : Option (List ℕ)) (room room' : ℕ) (waiting waiting' : List ℕ) (place n : ℕ)
    → Going goes first now left0 left held0 held waiting place → FilledSome left left' room room' waiting waiting' n → Going goes first now left0 left' held0 held waiting' place
going_fills goes first now left0 left left' held0 held room room' waiting waiting' place n g f = record {
  received = g.received ++ f.came;
  exchanges = g.exchanges;
  input = loses_more g.received f.came left0 left left' g.input f.lost;
  told = g.told;
  talks = rw f.gained (talks_more goes first now g.received waiting f.came g.exchanges g.talks);
  place_is = rw f.gained (omega (arith, g.place_is, length-append waiting f.came, length-append g.received f.came));
}

pub going_answers : {S : Type 0} (goes : Goes S) (first now now' : Standing S) (left0 left held0 held held' : Option (List ℕ)) (waiting : List ℕ) (place : ℕ) (x : Exchange)
    → Going goes first now left0 left held0 held waiting place → Answers goes now waiting x true now' → GainsEnd (said x.entries) held held'
    → Going goes first now' left0 left held0 held' (drop x.used waiting) (place + x.used)
going_answers goes first now now' left0 left held0 held held' waiting place x g a gained = record {
  received = g.received;
  exchanges = g.exchanges ++ x ∷ [];
  input = g.input;
  told = rw (output-then g.exchanges x) (gains_more (output g.exchanges) (said x.entries) held0 held held' g.told gained);
  talks = talks_then goes first now now' g.received waiting g.exchanges x g.talks a;
  place_is = let within = a.stands.within in omega (arith, within, g.place_is, length-drop x.used waiting);
}

-- ---- replies that wait

-- The same, where these replies wait that aren't put yet.
pub record Owing {S : Type 0} (goes : Goes S) (first now : Standing S) (left0 left held0 held : Option (List ℕ)) (replies waiting : List ℕ) (place : ℕ) : Type 0 where
  pub received : List ℕ
  pub done : List Exchange
  pub late : List Exchange
  pub input : LosesFront received left0 left
  pub told : GainsEnd (output done) held0 held
  pub talks : Talks goes first received (done ++ late) waiting now
  pub place_is : place + length waiting ≡ length received
  pub replies_are : replies ≡ output late
  pub looks : OnlyLook late
  pub close : taken_by late + length waiting ≤ 131120

pub going_owes : {S : Type 0} (goes : Goes S) (first now : Standing S) (left0 left held0 held : Option (List ℕ)) (waiting : List ℕ) (place : ℕ)
    → Going goes first now left0 left held0 held waiting place → length waiting ≤ 131120 → Owing goes first now left0 left held0 held [] waiting place
going_owes goes first now left0 left held0 held waiting place g close = record {
  received = g.received;
  done = g.exchanges;
  late = [];
  input = g.input;
  told = g.told;
  talks = rw (append-nil g.exchanges) g.talks;
  place_is = g.place_is;
  replies_are = refl;
  looks = tt;
  close = omega (arith, close);
}

pub owing_starts : {S : Type 0} (goes : Goes S) (first : Standing S) (left held : Option (List ℕ)) (replies waiting : List ℕ) → replies ≡ [] → waiting ≡ [] → Owing goes first first left left held held replies waiting 0
owing_starts goes first left held replies waiting none empty = rw (none, empty) (going_owes goes first first left left held held [] 0 (going_starts goes first left held) (omega arith))

output_append : (xs ys : List Exchange) → output (xs ++ ys) ≡ output xs ++ output ys
output_append xs ys = flat_map-append (λ (x : Exchange). said x.entries) xs ys

taken_append : (xs ys : List Exchange) → taken_by (xs ++ ys) ≡ taken_by xs + taken_by ys
taken_append [] ys = omega arith
taken_append (x ∷ xs) ys = let ih = taken_append xs ys in omega (arith, ih)

look_more : (xs : List Exchange) (x : Exchange) → OnlyLook xs → only_looks x.request ≡ true → OnlyLook (xs ++ x ∷ [])
look_more [] x looks is = (is, tt)
look_more (y ∷ ys) x looks is = (looks.0, look_more ys x looks.1 is)

-- the replies that wait are put
pub owing_put : {S : Type 0} (goes : Goes S) (first now : Standing S) (left0 left held0 held held' : Option (List ℕ)) (replies waiting : List ℕ) (place : ℕ)
    → Owing goes first now left0 left held0 held replies waiting place → GainsEnd replies held held' → Going goes first now left0 left held0 held' waiting place
owing_put goes first now left0 left held0 held held' replies waiting place o gained = record {
  received = o.received;
  exchanges = o.done ++ o.late;
  input = o.input;
  told = rw (output_append o.done o.late) (gains_more (output o.done) (output o.late) held0 held held' o.told (rw o.replies_are at gained));
  talks = o.talks;
  place_is = o.place_is;
}

-- one more reply waits
owing_waits : {S : Type 0} (goes : Goes S) (first now now' : Standing S) (left0 left held0 held : Option (List ℕ)) (replies waiting : List ℕ) (place : ℕ) (x : Exchange)
    → Owing goes first now left0 left held0 held replies waiting place → Answers goes now waiting x true now' → only_looks x.request ≡ true
    → Owing goes first now' left0 left held0 held (replies ++ said x.entries) (drop x.used waiting) (place + x.used)
owing_waits goes first now now' left0 left held0 held replies waiting place x o a is =
    let within = a.stands.within in
    record {
      received = o.received;
      done = o.done;
      late = o.late ++ x ∷ [];
      input = o.input;
      told = o.told;
      talks = rw (← append_assoc o.done o.late (x ∷ [])) (talks_then goes first now now' o.received waiting (o.done ++ o.late) x o.talks a);
      place_is = omega (arith, within, o.place_is, length-drop x.used waiting);
      replies_are = ap (λ (b : List ℕ). b ++ said x.entries) o.replies_are ∙ sym (output-then o.late x);
      looks = look_more o.late x o.looks is;
      close = let taken = taken_append o.late (x ∷ []) in omega (arith, taken, within, o.close, length-drop x.used waiting);
    }

-- it is put with those that wait
owing_puts : {S : Type 0} (goes : Goes S) (first now now' : Standing S) (left0 left held0 held held' : Option (List ℕ)) (replies waiting : List ℕ) (place : ℕ) (x : Exchange)
    → Owing goes first now left0 left held0 held replies waiting place → Answers goes now waiting x true now' → GainsEnd (replies ++ said x.entries) held held'
    → Owing goes first now' left0 left held0 held' [] (drop x.used waiting) (place + x.used)
owing_puts goes first now now' left0 left held0 held held' replies waiting place x o a gained =
    let within = a.stands.within in
    let told : GainsEnd (output o.late ++ said x.entries) held held' = rw o.replies_are at gained in
    record {
      received = o.received;
      done = (o.done ++ o.late) ++ x ∷ [];
      late = [];
      input = o.input;
      told = rw (output-then (o.done ++ o.late) x, output_append o.done o.late, append_assoc (output o.done) (output o.late) (said x.entries)) (gains_more (output o.done) (output o.late ++ said x.entries) held0 held held' o.told told);
      talks = rw (append-nil ((o.done ++ o.late) ++ x ∷ [])) (talks_then goes first now now' o.received waiting (o.done ++ o.late) x o.talks a);
      place_is = omega (arith, within, o.place_is, length-drop x.used waiting);
      replies_are = refl;
      looks = tt;
      close = omega (arith, within, o.close, length-drop x.used waiting);
    }

-- it waits, or is put with those that do
pub owing_answers : {S : Type 0} (goes : Goes S) (first now now' : Standing S) (left0 left held0 held held' : Option (List ℕ)) (replies replies' waiting : List ℕ) (place : ℕ) (x : Exchange)
    → Owing goes first now left0 left held0 held replies waiting place → Answers goes now waiting x true now' → Adds (only_looks x.request) replies (said x.entries) replies' held held'
    → Owing goes first now' left0 left held0 held' replies' (drop x.used waiting) (place + x.used)
owing_answers goes first now now' left0 left held0 held held' replies replies' waiting place x o a adds = elim adds [
  | inl w ↦ rw (w.more, w.held_stays) (owing_waits goes first now now' left0 left held0 held replies waiting place x o a w.is)
  | inr p ↦ rw p.none (owing_puts goes first now now' left0 left held0 held held' replies waiting place x o a p.put)
]

-- ---- ends

-- the conversation on all that the source had
talks_all : {S : Type 0} (goes : Goes S) (first now : Standing S) (received all rest waiting : List ℕ) (xs : List Exchange) (place : ℕ)
    → LosesFront received (Some all) (Some rest) → Talks goes first received xs waiting now → place + length waiting ≡ length received
    → Talks goes first all xs (waiting ++ rest) now × (place + length (waiting ++ rest) ≡ length all)
talks_all goes first now received all rest waiting xs place h t place_is =
    let all-is : all ≡ received ++ rest = cc in (
      rw all-is (talks_more goes first now received waiting rest xs t),
      omega (arith, place_is, ap length all-is, length-append waiting rest, length-append received rest),
    )

all_talks : {S : Type 0} (goes : Goes S) (first now : Standing S) (all rest : List ℕ) (held0 held : Option (List ℕ)) (waiting : List ℕ) (place : ℕ)
    → (g : Going goes first now (Some all) (Some rest) held0 held waiting place) → Talks goes first all g.exchanges (waiting ++ rest) now × (place + length (waiting ++ rest) ≡ length all)
all_talks goes first now all rest held0 held waiting place g = talks_all goes first now g.received all rest waiting g.exchanges place g.input g.talks g.place_is

pub ends_early : {S : Type 0} (goes : Goes S) (first now : Standing S) (left0 left held0 held : Option (List ℕ)) (waiting : List ℕ) (place : ℕ)
    → Going goes first now left0 left held0 held waiting place → IfSome left0 (λ bytes. Stopped goes first bytes left held0 held now.position end.Memory)
ends_early goes first now None left held0 held waiting place g = tt
ends_early goes first now (Some all) None held0 held waiting place g = let h = g.input in absurd cc
ends_early goes first now (Some all) (Some rest) held0 held waiting place g =
    let t = all_talks goes first now all rest held0 held waiting place g in
    record { limit = now.limit; stops = record { before = now; talk = record { exchanges = g.exchanges; rest = waiting ++ rest; talks = t.0 }; next = inl refl; told = g.told } }

answers_more : {S : Type 0} (goes : Goes S) (now now' : Standing S) (waiting rest : List ℕ) (x : Exchange) → Answers goes now waiting x false now' → Answers goes now (waiting ++ rest) x false now'
answers_more goes now now' waiting rest x a = record { stands = stands_more now.limit waiting rest x.tag (request_message x.request) x.used a.stands; makes = a.makes; chain = a.chain; limit = a.limit }

-- a message was answered, and nothing was put
pub ends_unput : {S : Type 0} (goes : Goes S) (first now now' : Standing S) (left0 left held0 held : Option (List ℕ)) (waiting : List ℕ) (place : ℕ) (x : Exchange)
    → Going goes first now left0 left held0 held waiting place → Answers goes now waiting x false now' → IfSome left0 (λ bytes. Stopped goes first bytes left held0 held now'.position end.Memory)
ends_unput goes first now now' None left held0 held waiting place x g a = tt
ends_unput goes first now now' (Some all) None held0 held waiting place x g a = let h = g.input in absurd cc
ends_unput goes first now now' (Some all) (Some rest) held0 held waiting place x g a =
    let t = all_talks goes first now all rest held0 held waiting place g in
    record {
      limit = now'.limit;
      stops = record { before = now; talk = record { exchanges = g.exchanges; rest = waiting ++ rest; talks = t.0 }; next = inr (x, answers_more goes now now' waiting rest x a); told = g.told };
    }

unrested_more : {S : Type 0} (goes : Goes S) (now now' : Standing S) (waiting rest : List ℕ) (next : List Exchange) → Unrested goes now waiting next now' → Unrested goes now (waiting ++ rest) next now'
unrested_more goes now now' waiting rest [] u = u
unrested_more goes now now' waiting rest (x ∷ []) u = answers_more goes now now' waiting rest x u
unrested_more goes now now' waiting rest (x ∷ y ∷ ys) u = u

-- a front of the replies was put, of those that waited and of one more
pub ends_unsaid : {S : Type 0} (goes : Goes S) (first now now' : Standing S) (left0 left held0 held held' : Option (List ℕ)) (replies waiting : List ℕ) (place : ℕ) (next : List Exchange)
    → Owing goes first now left0 left held0 held replies waiting place → Unrested goes now waiting next now' → taken_by next ≤ length waiting → PutsFront (replies ++ output next) held held'
    → IfSome left0 (λ bytes. Stopped goes first bytes left held0 held' now'.position end.WriteFault)
ends_unsaid goes first now now' None left held0 held held' replies waiting place next o u within front = tt
ends_unsaid goes first now now' (Some all) None held0 held held' replies waiting place next o u within front = let h = o.input in absurd cc
ends_unsaid goes first now now' (Some all) (Some rest) held0 held held' replies waiting place next o u within front =
    let t = talks_all goes first now o.received all rest waiting (o.done ++ o.late) place o.input o.talks o.place_is in
    let all-is : replies ++ output next ≡ output (o.late ++ next) = ap (λ (b : List ℕ). b ++ output next) o.replies_are ∙ sym (output_append o.late next) in
    record {
      limit = now'.limit;
      stops = record {
        before = now;
        talk = record { exchanges = o.done ++ o.late; rest = waiting ++ rest; talks = t.0 };
        done = o.done;
        late = o.late;
        parts = refl;
        looks = o.looks;
        next = next;
        unrested = unrested_more goes now now' waiting rest next u;
        put = front.count;
        told = gains_more (output o.done) (take front.count (output (o.late ++ next))) held0 held held' o.told (rw all-is at front.put);
        close = let taken = taken_append o.late next in omega (arith, taken, within, o.close);
      };
    }

-- of the replies that waited
pub ends_late : {S : Type 0} (goes : Goes S) (first now : Standing S) (left0 left held0 held held' : Option (List ℕ)) (replies waiting : List ℕ) (place : ℕ)
    → Owing goes first now left0 left held0 held replies waiting place → PutsFront replies held held'
    → IfSome left0 (λ bytes. Stopped goes first bytes left held0 held' now.position end.WriteFault)
ends_late goes first now left0 left held0 held held' replies waiting place o front =
    ends_unsaid goes first now now left0 left held0 held held' replies waiting place [] o refl (omega arith) (record { count = front.count; put = rw (append-nil replies) front.put })

-- of those, and of the reply to a message that was answered
pub ends_unput_late : {S : Type 0} (goes : Goes S) (first now now' : Standing S) (left0 left held0 held held' : Option (List ℕ)) (replies waiting : List ℕ) (place : ℕ) (x : Exchange)
    → Owing goes first now left0 left held0 held replies waiting place → Answers goes now waiting x false now' → PutsFront (replies ++ said x.entries) held held'
    → IfSome left0 (λ bytes. Stopped goes first bytes left held0 held' now'.position end.WriteFault)
ends_unput_late goes first now now' left0 left held0 held held' replies waiting place x o a front =
    let within = a.stands.within in
    ends_unsaid goes first now now' left0 left held0 held held' replies waiting place (x ∷ []) o a (omega (arith, within)) (record { count = front.count; put = rw (append-nil (said x.entries)) front.put })

pub ends_unread : {S : Type 0} (goes : Goes S) (first now : Standing S) (left0 left held0 held : Option (List ℕ)) (waiting : List ℕ) (place : ℕ)
    → Going goes first now left0 left held0 held waiting place → NoMessage now.limit waiting → IfSome left0 (λ bytes. Stopped goes first bytes left held0 held now.position end.ReadFault)
ends_unread goes first now None left held0 held waiting place g none = tt
ends_unread goes first now (Some all) left held0 held waiting place g none =
    record { limit = now.limit; stops = record { taken = g.received; lost = g.input; talk = record { exchanges = g.exchanges; rest = waiting; talks = g.talks }; none = none; told = g.told } }

pub ends_bad : {S : Type 0} (goes : Goes S) (first now : Standing S) (left0 left held0 held : Option (List ℕ)) (waiting : List ℕ) (place : ℕ)
    → Going goes first now left0 left held0 held waiting place → ((more : List ℕ) → left ≡ Some more → IsBad now.limit (waiting ++ more))
    → IfSome left0 (λ bytes. Stopped goes first bytes left held0 held now.position (end.BadMessage place))
ends_bad goes first now None left held0 held waiting place g bad = tt
ends_bad goes first now (Some all) None held0 held waiting place g bad = let h = g.input in absurd cc
ends_bad goes first now (Some all) (Some rest) held0 held waiting place g bad =
    let t = all_talks goes first now all rest held0 held waiting place g in
    record { limit = now.limit; stops = record { talk = record { exchanges = g.exchanges; rest = waiting ++ rest; talks = t.0 }; bad = bad rest refl; place = t.1; taken = waiting; lost = refl; told = g.told } }

ends_whole : {S : Type 0} (goes : Goes S) (first now : Standing S) (left0 left held0 held : Option (List ℕ)) (place : ℕ)
    → Going goes first now left0 left held0 held [] place → IsAtEnd left → IfSome left0 (λ bytes. Stopped goes first bytes left held0 held now.position end.End)
ends_whole goes first now None left held0 held place g at_end = tt
ends_whole goes first now (Some all) None held0 held place g at_end = let h = g.input in absurd cc
ends_whole goes first now (Some all) (Some rest) held0 held place g at_end =
    let t = all_talks goes first now all rest held0 held [] place g in
    record { limit = now.limit; stops = record { talk = record { exchanges = g.exchanges; rest = rest; talks = t.0 }; whole = at_end; read = ap (λ (x : List ℕ). Some x) at_end; told = g.told } }

at_end_is : (left : Option (List ℕ)) (rest : List ℕ) → IsAtEnd left → left ≡ Some rest → rest ≡ []
at_end_is left rest at_end e = subst (λ (o : Option (List ℕ)). IsAtEnd o) e at_end

-- the input ended, and no message waits
pub ends_at : {S : Type 0} (goes : Goes S) (first now : Standing S) (left0 left held0 held : Option (List ℕ)) (waiting : List ℕ) (place : ℕ)
    → Going goes first now left0 left held0 held waiting place → NoMessage now.limit waiting → IsAtEnd left → IfSome left0 (λ bytes. Stopped goes first bytes left held0 held now.position (end_at waiting place))
ends_at goes first now left0 left held0 held [] place g none at_end = ends_whole goes first now left0 left held0 held place g at_end
ends_at goes first now left0 left held0 held (b ∷ bytes) place g none at_end =
    ends_bad goes first now left0 left held0 held (b ∷ bytes) place g
    (λ more e. let all : (b ∷ bytes) ++ more ≡ b ∷ bytes = ap (λ (r : List ℕ). (b ∷ bytes) ++ r) (at_end_is left more at_end e) ∙ append-nil (b ∷ bytes) in
    rw all (record { some = λ h. cc; none = none }))

-- and then all fids are let go
pub ends_of : {S : Type 0} (goes : Goes S) (first : Standing S) (left0 left held0 held : Option (List ℕ)) (from to : Position S) (how : LinkEnd)
    → IfSome left0 (λ bytes. Stopped goes first bytes left held0 held from how) → LetsAllGo goes from to → IfSome left0 (λ bytes. Ends goes first bytes left held0 held to how)
ends_of goes first None left held0 held from to how stopped gone = tt
ends_of goes first (Some all) left held0 held from to how stopped gone = record { last = record { limit = stopped.limit; position = from }; stops = stopped.stops; gone = gone }
